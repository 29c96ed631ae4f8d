-- What a contract sees of a list of fixed room.
-- Assumes nothing.
use Rattle.std.specs.Prelude.{List, refl}
use Rattle.std.specs.Coded.{Coded, code_by, coded_list, coded×}

-- the values, in order, and what lies in the room behind them: no clause says anything of that, but a copy has both
pub record Few (T : Type 0) : Type 0 where
  pub items : List T
  pub spare : List T

abbrev pub few_code : {T : Type 0} → Coded T → Coded (Few T)
few_code {T} code =
    code_by (List T × List T) (coded× (coded_list code) (coded_list code)) (λ f. (f.items, f.spare)) (λ p. record { items = p.0; spare = p.1 }) (λ _. refl)
