-- `store_block::block::directions` meets its contract.
use mathlib.Core.Path.{◌∙◌, ap}
use mathlib.Core.List.{map}
use borrow.Author.Rules.{rules}
use Rattle.laws.proofs.Calls.{mapped}
use Rattle.store_layout.specs.Model.{unfiled}
use Rattle.store_block.specs.Coded.{dd_of}
use Rattle.store_block.proofs.block.directions.Goals as goal

pub returns : goal.returns
returns c =
    mapped _ _ (dd_of c.args.of) (λ x r q s. search rules) c.heads_of.result _ unfiled 0 9 (search rules) c.map.ensures.items ∙ ap (map (dd_of c.args.of)) c.heads_of.ensures
