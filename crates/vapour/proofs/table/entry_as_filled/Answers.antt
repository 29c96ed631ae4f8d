-- `vapour::table::entry_as_filled` meets its contract: the lookup and every filled slice have the definition's entry at the index.
use mathlib.Core.Path.{◌≡◌, ◌∙◌, ap}
use mathlib.Core.List.{List}
use Rattle.std.specs.Prelude.{Option, None}
use Prim.Native.Nat.{ℕ}
use lib.ListN.{get_or}
use lib.IntN.{negsuc, ◌+ℤ◌, sub_ℕ}
use native.Mathlib.Omega.{arith}
use mir.Syntax.{w16}
use mir.Val.{to_z, of_z}
use Rattle.std.proofs.lemmas.Int.{ints}
use Rattle.vapour.proofs.FilledSlice.{entry_by_entry}
use Rattle.vapour.proofs.Lookup.{at_index}
use Rattle.vapour.proofs.table.entry_as_filled.Goals as goal

pub returns : goal.returns
returns c =
    let i = c.args.index in
    let e : to_z w16 (of_z w16 (negsuc 499 +ℤ to_z w16 i)) ≡ sub_ℕ i 500 = grind (arith, ints) in
    entry_by_entry i _ c.requires
    (ap (λ (xs : List (Option ℕ)). get_or xs 0 None) c.pressures.ensures ∙ rw e (at_index i c.requires))
