-- `synop_values::figures::rain_duration` meets its contract: where the search fails, it fails soon.
use borrow.Author.Rules.{rules}
use Rattle.synop_values.specs.OneGroup as group
use Rattle.synop_values.specs.Indicators as indicators
use Rattle.synop_values.proofs.figures.rain_duration.Goals as goal

pub returns-then-is_none : goal.returns-then-is_none
unfolding group.rain_duration indicators.rain_duration group.rain
returns-then-is_none c = search rules
