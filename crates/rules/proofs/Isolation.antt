-- Demand 3: a station's answers and records are those of its own calls alone.
--     holds_opened       an opened store holds each of its stations, as a new one
--     alone              each station of a store that opens can be opened alone
--     isolated           demand 3, from the law of the rules
-- Assumes nothing.
use mathlib.Core.Path.{◌≡◌, refl, sym, ◌∙◌, ap, ap₂}
use mathlib.Core.Bool.{true}
use mathlib.Core.List.{List, [], ◌∷◌, ◌++◌}
use Prim.Native.Nat.{ℕ, ◌≤◌}
use native.Mathlib.Omega.{arith}
use borrow.Author.Tests.{le-leb}
use lib.ListN.{length}
use Rattle.calendar.specs.Dates.{is_date}
use Rattle.store_layout.specs.Model.{Station, empty_block}
use Rattle.store_layout.specs.Layout.{store_length, encode_entry, encode_block}
use Rattle.store_layout.specs.Form.{ours}
use Rattle.store_layout.specs.Opening.{can_open, openable_in, fresh}
use Rattle.store_layout.proofs.Opened.{openable_parts, can_open_in_form, fresh_count, fresh_station, valid_fresh}
use Rattle.rules.specs.Calls.{Call}
use Rattle.rules.specs.Rules.{Date}
use Rattle.rules.specs.Reaction.{date_of}
use Rattle.rules.specs.Step.{step}
use Rattle.rules.specs.Runs.{naming}
use Rattle.rules.specs.Isolation.{Opens, Has, opened, Alike, Isolated}
use Rattle.rules.proofs.Compared.{naming_naming}
use Rattle.rules.proofs.Kept.{AllLawful}
use Rattle.rules.proofs.Holding.{HoldsStation, records_held, records_long}
use Rattle.rules.proofs.Own.{own_log, own_end, shows}

-- ---- opening
-- a station as opening leaves it
abbrev pub new_station : ℕ → ℕ → Station
new_station x row = record { number = x; row = row; settled = 0; block = empty_block }

module _ (year month day : ℕ) where
  abbrev pub date : Date
  date = record { year = year; month = month; day = day }

  date_fresh : (numbers rows : List ℕ) → date_of (fresh year month day numbers rows) ≡ date
  unfolding fresh
  date_fresh numbers rows = refl

  pub holds_opened : (x row : ℕ) (numbers rows : List ℕ) → Opens year month day numbers rows → Has numbers rows x row
      → HoldsStation date x (new_station x row) (opened year month day numbers rows)
  holds_opened x row numbers rows o h =
      record {
        model = fresh year month day numbers rows;
        valid = valid_fresh year month day numbers rows (can_open_in_form year month day numbers rows ours _ o.accepted);
        bytes = refl;
        date = date_fresh numbers rows;
        index = h.index;
        inside = rw (fresh_count year month day numbers rows) h.inside;
        station = fresh_station year month day numbers rows h.index h.inside ∙ ap₂ new_station h.number h.climate;
        named = refl;
      }

  opens_one : (x row : ℕ) → is_date year month day ≡ true → 1 ≤ x → x ≤ 99999 → row ≤ 1 → Opens year month day (x ∷ []) (row ∷ [])
  unfolding openable_in can_open
  opens_one x row e l u r = record { accepted = rw (e, le-leb 1 x l, le-leb x 99999 u, le-leb row 1 r) }

  pub alone : (x row : ℕ) (numbers rows : List ℕ) → Opens year month day numbers rows → Has numbers rows x row
      → Opens year month day (x ∷ []) (row ∷ [])
  alone x row numbers rows o h =
      let p = openable_parts year month day numbers rows (store_length (length numbers)) o.accepted in
      opens_one x row p.date (rw h.number at (p.least h.index h.inside)) (rw h.number at (p.most h.index h.inside))
      (rw h.climate at (p.row h.index h.inside))

-- ---- any two runs on stores that hold the same station on the same date, with the same calls naming it
module _ (lawful : AllLawful) where
  alike : {d : Date} {x : ℕ} {t : Station} {s s' : List ℕ} (cs cs' : List Call) → HoldsStation d x t s → HoldsStation d x t s' → naming x cs ≡ naming x cs'
      → Alike step x s s' cs cs'
  alike {d} {x} {t} {s} {s'} cs cs' h h' e =
      let p = shows lawful cs h in
      let q = shows lawful cs' h' in
      record {
        answers = p.answers ∙ ap (own_log d t) e ∙ sym q.answers;
        remains =
            records_held p.holds
            ∙ ap (λ (ds : List Call). encode_entry (own_end d t ds) ++ encode_block (own_end d t ds).block) e
            ∙ sym (records_held q.holds);
      }

  pub isolated : Isolated step
  isolated =
      record {
        alone = alone;
        alike = λ year month day x row numbersA rowsA numbersB rowsB calls_a calls_b oA hA oB hB e.
            let a = holds_opened year month day x row numbersA rowsA oA hA in
            let b = holds_opened year month day x row numbersB rowsB oB hB in
            let one = holds_opened year month day x row (x ∷ []) (row ∷ []) (alone year month day x row numbersA rowsA oA hA) itself in (
              alike calls_a (naming x calls_a) a one (sym (naming_naming x calls_a)),
              alike calls_b (naming x calls_a) b one (sym e ∙ sym (naming_naming x calls_a)),
              alike calls_a calls_b a b e,
              records_long (shows lawful calls_a a).holds,
            );
      }
    where
      itself : {x row : ℕ} → Has (x ∷ []) (row ∷ []) x row
      itself = record { index = 0; inside = omega arith; number = refl; climate = refl }
