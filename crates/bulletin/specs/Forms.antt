-- A bulletin in two byte forms of a store: what it answers and leaves does not depend on the form.
-- Assumes nothing.
use Rattle.std.specs.Prelude.{◌≡◌, false, List, ℕ}
use Rattle.store_layout.specs.Form.{Form, Corresponding}
use Rattle.bulletin.specs.Bulletin.{unchanged, result_in}

-- on corresponding buffers the same answer, and corresponding ones left, refused or not. On a buffer that is not sound a bulletin is refused
-- 9 and changes no byte
pub record SameBulletins (f g : Form) : Type 0 where
  pub answer : (text : List ℕ) (rank : ℕ) (s t : List ℕ) → Corresponding f g s t → (result_in f s text rank).answer ≡ (result_in g t text rank).answer
  pub store : (text : List ℕ) (rank : ℕ) (s t : List ℕ) → Corresponding f g s t
      → Corresponding f g (result_in f s text rank).store (result_in g t text rank).store
  pub unsound : (text : List ℕ) (rank : ℕ) (s : List ℕ) → f.sound s ≡ false → result_in f s text rank ≡ unchanged 9 s
  pub unsound_second : (text : List ℕ) (rank : ℕ) (t : List ℕ) → g.sound t ≡ false → result_in g t text rank ≡ unchanged 9 t
