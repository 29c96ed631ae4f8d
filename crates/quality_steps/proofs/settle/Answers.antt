-- `quality_steps::settle` meets its contract: the four steps, one after the other.
use mathlib.Core.Path.{◌∙◌, sym, ap, subst}
use Rattle.quality.specs.Valid.{ValidSheet}
use Rattle.quality.specs.Settled.{internal, time, fill, settled}
use Rattle.quality.specs.Coded.{sheet}
use Rattle.quality.specs.Limits.{row_of, is_warm}
use Rattle.quality.proofs.Validity.{range_keeps, internal_keeps}
use Rattle.quality_steps.proofs.settle.Goals as goal

pub time_all-requires : goal.time_all-requires
time_all-requires c =
    let a = c.args in
    subst ValidSheet (sym (c.internal_all-consistent.ensures ∙ ap (internal a.dd) c.range_all-ranged.ensures))
    (internal_keeps a.dd _ (range_keeps (row_of a.climate) (is_warm a.season) (sheet a.raw) c.requires))

pub returns : goal.returns
unfolding settled
returns c =
    let a = c.args in
    c.fill_all.ensures ∙ ap fill (c.time_all.ensures ∙ ap time (c.internal_all-consistent.ensures ∙ ap (internal a.dd) c.range_all-ranged.ensures))
