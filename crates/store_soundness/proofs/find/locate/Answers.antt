-- `store_soundness::find::locate` meets its contract: `find` is given a sound store, and where it finds nothing the answer is 6.
use mathlib.Core.Path.{◌∙◌, ap}
use Prim.Native.Nat.{ℕ}
use Rattle.std.specs.Prelude.{Option, ok_or}
use Rattle.refusals.specs.declared.Refusal.TheVariants.{UnknownStation}
use Rattle.laws.proofs.Bools.{via}
use Rattle.store_layout.proofs.Soundness.{sound_framed}
use Rattle.store_soundness.specs.Located.{located}
use Rattle.store_soundness.proofs.find.locate.Goals as goal

pub find-requires : goal.find-requires
find-requires c = sound_framed _ (via c.is_sound.ensures c.if-not-is_sound.false)

pub returns : goal.returns
unfolding located
returns c = rw (via c.is_sound.ensures c.if-not-is_sound.false) (c.ok_or.ensures.value ∙ ap (λ (o : Option ℕ). ok_or o UnknownStation) c.find.ensures)
