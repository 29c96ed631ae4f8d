-- `store_opening::open::is_openable` meets its contract. Each test that fails ends it; the last is the list's.
use Rattle.laws.proofs.Rules.{tests}
use Rattle.calendar.specs.Dates.{is_date}
use Rattle.store_layout.specs.Opening.{can_open, openable_in, openable}
use Rattle.store_opening.specs.Opened.{listed}
use mathlib.Core.Path.{◌≡◌, sym, ◌∙◌}
use mathlib.Core.Bool.{◌&&◌}
use Rattle.store_opening.proofs.Listed.{sized, unsized}
use borrow.Author.Rules.{rules}
use Rattle.store_opening.proofs.open.is_openable.Goals as goal

pub returns-then-n-lt1 : goal.returns-then-n-lt1
unfolding openable_in can_open
returns-then-n-lt1 c = search tests

pub returns-then-n-gt-MOST_STATIONS : goal.returns-then-n-gt-MOST_STATIONS
unfolding openable_in can_open
returns-then-n-gt-MOST_STATIONS c = search tests

pub returns-then-rows-n : goal.returns-then-rows-n
unfolding openable_in can_open
returns-then-rows-n c = search tests

pub returns-then-size-store_length : goal.returns-then-size-store_length
returns-then-size-store_length c = unsized _ _ _ _ _ _ (λ e. c.if-size-store_length.true (e ∙ sym c.store_length.ensures))

pub returns-then-not-is_date : goal.returns-then-not-is_date
returns-then-not-is_date c =
    let a = c.args in
    let s : openable a.size a.date.year a.date.month a.date.day a.stations.now a.rows.now ≡ (is_date a.date.year a.date.month a.date.day && listed a.stations.now a.rows.now) =
    sized _ _ _ _ _ _ (search rules) (search rules) (search rules) (search rules) in
    rw (s, ← c.is_date.ensures, c.if-not-is_date.true)

pub returns : goal.returns
returns c =
    let a = c.args in
    let s : openable a.size a.date.year a.date.month a.date.day a.stations.now a.rows.now ≡ (is_date a.date.year a.date.month a.date.day && listed a.stations.now a.rows.now) =
    sized _ _ _ _ _ _ (search rules) (search rules) (search rules) (search rules) in
    c.are_listed.ensures ∙ sym (rw (s, ← c.is_date.ensures, c.if-not-is_date.false))
