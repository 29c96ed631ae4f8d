-- `dayline_day::filing::Progress::finish` meets its contract.
use mathlib.Core.Path.{refl, sym, ◌∙◌, ap}
use Rattle.dayline_day.specs.declared.filing.Progress.{Progress}
use Rattle.dayline_day.proofs.FiledPieces.{filed, anew}
use Rattle.dayline_day.proofs.filing.Progress.finish.Goals as goal
use Rattle.dayline_day.proofs.filing.Progress.finish.Goals.{then-is_err, else-is_err}

pub returns-clause-filed : goal.returns-clause-filed
returns-clause-filed c = λ run v.
    elim c.if-is_err.branch [
      | then-is_err w ↦
          filed _ _ run v c.args.self.now.refused c.deref.ensures.0 c.file.result c.file.ensures (sym w.if-is_err.true ∙ c.is_err.ensures.value)
          (ap (λ (p : Progress). p.refused) w.self-is ∙ w.saturating_add-self.ensures)
      | else-is_err w ↦
          filed _ _ run v c.args.self.now.refused c.deref.ensures.0 c.file.result c.file.ensures (sym w.if-is_err.false ∙ c.is_err.ensures.value)
          (ap (λ (p : Progress). p.refused) w.self-is)
    ]

pub returns-clause-anew : goal.returns-clause-anew
returns-clause-anew c = anew _ c.clear.ensures refl
