-- `vapour::recurrence::entry_at` meets its contract: the entry from Z on either side of 0, which fits 16 bits as the largest entry does.
use native.Mathlib.Omega.{arith}
use Rattle.vapour.proofs.Index.{entry_below, entry_above}
use Rattle.vapour.proofs.Most.{index_most}
use Rattle.vapour.proofs.recurrence.entry_at.Goals as goal

pub overflow_cast-result : goal.overflow_cast-result
overflow_cast-result c =
    rw (entry_below c.args.index c.quotient.result c.sum-z.result c.quotient.ensures.0 c.sum-z.ensures.0 c.if-index-lt500.true)
    (omega (arith, index_most c.args.index c.requires))

pub returns-then-index-lt500 : goal.returns-then-index-lt500
returns-then-index-lt500 c =
    entry_below c.args.index c.quotient.result c.sum-z.result c.quotient.ensures.0 c.sum-z.ensures.0 c.if-index-lt500.true

pub overflow_cast-result-2 : goal.overflow_cast-result-2
overflow_cast-result-2 c =
    rw (entry_above c.args.index c.quotient.result c.sum-z.result c.quotient.ensures.0 c.sum-z.ensures.0 c.if-index-lt500.false)
    (omega (arith, index_most c.args.index c.requires))

pub returns : goal.returns
returns c =
    entry_above c.args.index c.quotient.result c.sum-z.result c.quotient.ensures.0 c.sum-z.ensures.0 c.if-index-lt500.false
