-- `store_numbers::header::is_header` meets its contract: each word is what the rule reads in its place.
use mathlib.Core.Path.{refl}
use Rattle.store_layout.specs.Sound.{sound_header}
use Rattle.store_layout.specs.Layout.{decode}
use Rattle.store_numbers.proofs.header.is_header.Goals as goal

pub returns : goal.returns
unfolding sound_header decode
returns c =
    let d = c.date_of.ensures in
    rw (
      c.store_length-size.ensures,
      c.block_at-blocks.ensures,
      c.word_at-n.ensures,
      c.word_at.ensures,
      c.word_at-2.ensures,
      c.word_at-3.ensures,
      c.is_date.ensures,
      d.0,
      d.1,
      d.2,
      c.word_at-4.ensures,
    ) refl
