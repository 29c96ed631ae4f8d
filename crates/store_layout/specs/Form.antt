-- The byte form of a store: which buffers hold one, how it is read of them and written, and how long it is. The rules know no more of
-- the bytes than this.
-- Assumes nothing.
use Rattle.std.specs.Prelude.{◌≡◌, Bool, true, List, ℕ, length}
use Rattle.store_layout.specs.Model.{Store}
use Rattle.store_layout.specs.Valid.{ValidStore}
use Rattle.store_layout.specs.Layout as layout
use Rattle.store_layout.specs.Framed.{Bytes}
use Rattle.store_layout.specs.Sound as soundness

pub record Form : Type 0 where
  -- the bytes of a store of n stations
  pub size : ℕ → ℕ
  pub sound : List ℕ → Bool
  pub decode : List ℕ → Store
  pub encode : Store → List ℕ

-- the form that the engine's stores have
abbrev pub ours : Form
ours = record { size = layout.store_length; sound = soundness.sound; decode = layout.decode; encode = layout.encode }

-- a sound buffer of a form
pub record SoundIn (form : Form) (s : List ℕ) : Type 0 where
  pub bytes : Bytes s
  pub sound : form.sound s ≡ true

-- what is asked of a form: its sound buffers are exactly the bytes of the valid stores
pub record LawfulForm (form : Form) : Type 0 where
  -- the bytes of a valid store are sound, are as many as the form says, and that store is read of them
  pub written : (m : Store) → ValidStore m → SoundIn form (form.encode m)
  pub long : (m : Store) → ValidStore m → length (form.encode m) ≡ form.size (length m.stations)
  pub same : (m : Store) → ValidStore m → form.decode (form.encode m) ≡ m
  -- a valid store is read of a sound buffer, which is its bytes
  pub valid : (s : List ℕ) → SoundIn form s → ValidStore (form.decode s)
  pub whole : (s : List ℕ) → SoundIn form s → form.encode (form.decode s) ≡ s

-- two buffers correspond: each is sound in its form, and the same store is read of both
pub record Corresponding (f g : Form) (s t : List ℕ) : Type 0 where
  pub first : SoundIn f s
  pub second : SoundIn g t
  pub same : f.decode s ≡ g.decode t

-- a law of any two lawful forms
abbrev pub AnyTwoForms : (Form → Form → Type 0) → Type 0
AnyTwoForms law = (f g : Form) → LawfulForm f → LawfulForm g → law f g
