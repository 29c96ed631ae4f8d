-- A call on our bytes of a valid store; and every call leaves a sound store sound.
--     step_encoded, sound_step
-- Assumes nothing.
use mathlib.Core.Path.{◌≡◌, ◌∙◌, ap}
use mathlib.Core.Bool.{true}
use mathlib.Core.List.{List}
use Prim.Native.Nat.{ℕ}
use Rattle.store_layout.specs.Model.{Store}
use Rattle.store_layout.specs.Valid.{ValidStore}
use Rattle.store_layout.specs.Layout.{encode}
use Rattle.store_layout.specs.Framed.{Bytes}
use Rattle.store_layout.specs.Sound.{sound}
use Rattle.store_layout.specs.Form.{ours}
use Rattle.store_layout.proofs.Forms.{ours_lawful}
use Rattle.rules.specs.Calls.{Call, ask}
use Rattle.rules.specs.Step.{asked, step}
use Rattle.rules.proofs.Kept.{AllLawful}
use Rattle.rules.proofs.Forms.{step_sound, sound_left}

pub step_encoded : (c : Call) (m : Store) → ValidStore m → step c (encode m) ≡ asked (ask c) m (encode m)
step_encoded c m v =
    step_sound ours c (encode m) (ours_lawful.written m v).sound ∙ ap (λ (n : Store). asked (ask c) n (encode m)) (ours_lawful.same m v)

pub sound_step : AllLawful → (c : Call) (s : List ℕ) → Bytes s → sound s ≡ true → sound (step c s).store ≡ true
sound_step rules c s b e = (sound_left ours ours_lawful rules c s (record { bytes = b; sound = e })).sound
