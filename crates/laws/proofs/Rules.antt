-- The set that closes a branch on numbers: each test's value from the fact that the branch tells, and the arm it picks.
-- Assumes nothing.
use borrow.Author.Tests.{le-leb, lt-leb, eq-eqb, ne_eqb, lt-ltb, le-ltb}
use Rattle.laws.proofs.Bools.{cond_true, cond_false}

pub ruleset tests = (le-leb, lt-leb, eq-eqb, ne_eqb, lt-ltb, le-ltb, cond_true, cond_false)
