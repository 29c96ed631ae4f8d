-- `bulletin::text::heading_of` meets its contract: a refusal that is not the rule's is refused without long search.
use borrow.Author.Rules.{rules}
use Rattle.bulletin.specs.Heading.{heading_of, time_of}
use Rattle.bulletin.proofs.text.heading_of.Goals as goal

pub returns-then-not-ranged : goal.returns-then-not-ranged
unfolding heading_of time_of
returns-then-not-ranged c = search rules
