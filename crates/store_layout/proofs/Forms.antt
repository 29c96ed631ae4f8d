-- Our form is lawful; and in lawful forms the bytes of a valid store correspond.
--     ours_lawful
--     corresponding_encoded
-- Assumes nothing.
use mathlib.Core.Path.{sym, ◌∙◌}
use Rattle.store_layout.specs.Model.{Store}
use Rattle.store_layout.specs.Valid.{ValidStore}
use Rattle.store_layout.specs.Form.{Form, ours, LawfulForm, Corresponding}
use Rattle.store_layout.proofs.Stores.{length_store, decode_encode}
use Rattle.store_layout.proofs.Soundness.{sound_valid, sound_encoded}
use Rattle.store_layout.proofs.ValidBytes.{bytes_encode, sound_encode}

pub ours_lawful : LawfulForm ours
ours_lawful =
    record {
      written = λ m v. record { bytes = bytes_encode m v; sound = sound_encode m v };
      long = λ m v. length_store m;
      same = decode_encode;
      valid = λ s h. sound_valid s h.bytes h.sound;
      whole = λ s h. sound_encoded s h.bytes h.sound;
    }

pub corresponding_encoded : {f g : Form} → LawfulForm f → LawfulForm g → (m : Store) → ValidStore m → Corresponding f g (f.encode m) (g.encode m)
corresponding_encoded p q m v = record { first = p.written m v; second = q.written m v; same = p.same m v ∙ sym (q.same m v) }
