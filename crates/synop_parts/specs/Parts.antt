-- Which group is which: the parts of a report that are read, found by the places of the groups.
-- Assumes nothing.
use Rattle.std.specs.Prelude.{Bool, not, cond, ◌&&◌, List, [], ◌∷◌, ℕ, eqb, get_or, Option, Some, None, replicate, slice_set}
use Rattle.std.specs.Option.{option_or}
use Rattle.laws.specs.Table.{table}
use Rattle.synop_text.specs.Kinds.{on_five, characters_of}
use Rattle.synop_text.specs.declared.Characters.{Characters}
use Rattle.synop_text.specs.declared.Group.{Group}
use Rattle.synop_text.specs.Places.{next}
use Rattle.synop_text.specs.declared.order.Place.{Place}
use Rattle.synop_text.specs.declared.order.Place.TheVariants.{Start, Time, Station, Visibility, Wind, Gale, One, Later}
use Rattle.synop_parts.specs.declared.Part.{Part}
use Rattle.synop_parts.specs.declared.Part.TheVariants as which

-- ---- the parts
-- where a part stands among the parts that are kept
abbrev pub number : Part → ℕ
number which.Time = 0
number which.Station = 1
number which.Visibility = 2
number which.Wind = 3
number which.Gale = 4
number which.Temperature = 5
number which.DewPoint = 6
number which.Pressure = 7
number which.Rain = 8
number which.Maximum = 9
number which.Minimum = 10
number which.LaterRain = 11

-- how many they are
abbrev pub count : ℕ
count = 12

-- ---- the part that a group is
-- section 1, by its first digit
unfoldable pub of_one : ℕ → Option Part
of_one d =
    cond (eqb d 49) (Some which.Temperature)
    (cond (eqb d 50) (Some which.DewPoint)
    (cond (eqb d 52) (Some which.Pressure)
    (cond (eqb d 54) (Some which.Rain) None)))

-- section 3, by its first character
unfoldable pub of_three : ℕ → Option Part
of_three a = cond (eqb a 49) (Some which.Maximum) (cond (eqb a 50) (Some which.Minimum) (cond (eqb a 54) (Some which.LaterRain) None))

abbrev pub in_three : Group → Option Part
in_three g = on_five None (λ x. of_three x.a) g

-- a later section: of section 3 alone, and of that what stands in no 55 run
unfoldable pub of_later : ℕ → Bool → Group → Option Part
of_later n run g = cond (eqb n 3 && not run) (in_three g) None

-- by the place where it stands
abbrev pub part_of : Place → Group → Option Part
part_of Time g = Some which.Time
part_of Station g = Some which.Station
part_of Visibility g = Some which.Visibility
part_of (Wind strong) g = Some which.Wind
part_of Gale g = Some which.Gale
part_of (One d) g = of_one d
part_of (Later n run) g = of_later n run g
part_of _ g = None

-- ---- the group that a part is, by its characters
-- the group of a part, of the parts that are kept
abbrev pub part : List (Option Characters) → Part → Option Characters
part kept q = get_or kept (number q) None

-- before any group was read
abbrev pub none : List (Option Characters)
none = replicate count None

-- the parts with a group that is this part, unless one was kept before
abbrev pub keep : List (Option Characters) → Option Part → Option Characters → List (Option Characters)
keep kept None x = kept
keep kept (Some q) x = slice_set kept (number q) (option_or (part kept q) x)

-- the group, if the part that it is has the number k
abbrev pub only : ℕ → Option Part → Option Characters → Option Characters
only k None x = None
only k (Some q) x = cond (eqb (number q) k) x None

-- the first group after a place that is part k: "In section 3 the first 1, 2 and 6 group counts"
unfoldable pub first : ℕ → Place → List Group → Option Characters
first k p [] = None
first k p (g ∷ gs) = option_or (only k (part_of (next p g) g) (characters_of g)) (first k (next p g) gs)

-- the parts of a report
unfoldable pub parts : List Group → List (Option Characters)
parts gs = table count (λ k. first k Start gs)
