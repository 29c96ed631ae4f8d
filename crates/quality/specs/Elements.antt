-- The nine elements, by their number: "elements in the order T, D, P, W, C, V, R, X, M".
-- Assumes nothing.
use Rattle.std.specs.Prelude.{List, [], ℕ, get_or}
use Rattle.quality.specs.Cell.{Cell}

-- T
abbrev pub temperature : ℕ
temperature = 0

-- D
abbrev pub dew_point : ℕ
dew_point = 1

-- P
abbrev pub pressure : ℕ
pressure = 2

-- W
abbrev pub wind : ℕ
wind = 3

-- C
abbrev pub cloud : ℕ
cloud = 4

-- V
abbrev pub visibility : ℕ
visibility = 5

-- R
abbrev pub rain : ℕ
rain = 6

-- X
abbrev pub maximum : ℕ
maximum = 7

-- M
abbrev pub minimum : ℕ
minimum = 8

-- A sheet: a station's nine columns, raw or checked, in the elements' order. The column of element e
abbrev pub column : List (List Cell) → ℕ → List Cell
column s e = get_or s e []
