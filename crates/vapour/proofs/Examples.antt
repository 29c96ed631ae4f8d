-- Values of the definition, by computation: the two of document 01's proof table, the two ends, and just outside them.
-- Assumes nothing.
use mathlib.Core.Path.{◌≡◌, refl}
use Rattle.std.specs.Prelude.{None, Some}
use lib.IntN.{pos, neg_ℤ}
use Rattle.vapour.specs.Vapour.{term, sum_to, Z, entry, pressure}

pub at_0 : pressure (pos 0) ≡ Some 612
unfolding term sum_to Z entry pressure
at_0 = refl

pub at_100 : pressure (pos 100) ≡ Some 1229
unfolding term sum_to Z entry pressure
at_100 = refl

pub at_lowest : pressure (neg_ℤ (pos 500)) ≡ Some 6
unfolding term sum_to Z entry pressure
at_lowest = refl

pub at_highest : pressure (pos 500) ≡ Some 12419
unfolding term sum_to Z entry pressure
at_highest = refl

pub below_lowest : pressure (neg_ℤ (pos 501)) ≡ None
unfolding pressure
below_lowest = refl

pub above_highest : pressure (pos 501) ≡ None
unfolding pressure
above_highest = refl
