-- What the statements on engines rule out: engines like ours but for one fault, each refuted by demand 3, and `spoiling` also by what is said
-- of refusals.
--     nosy          an answer looks at how many stations the store has
--     settling_all   a settle settles every station
--     spoiling      a refused call has written a byte
--     wiping        no call leaves a store: the runs agree, but the records are not there
-- Assumes nothing.
use mathlib.Core.Path.{◌≡◌, refl, sym, ◌∙◌, ap}
use mathlib.Core.Bool.{false, cond}
use mathlib.Core.List.{List, [], ◌∷◌}
use Prim.Native.Nat.{ℕ, zero, suc, ◌+◌, ◌<◌, ◌%◌}
use native.Mathlib.Omega.{arith}
use lib.Dec.{eqb, lit≤}
use lib.ListN.{length, get_or}
use Rattle.laws.specs.Table.{table}
use Rattle.calendar.specs.Dates.{is_date, days_in}
use Rattle.store_layout.specs.Model.{Store, station_at}
use Rattle.store_layout.specs.Layout.{encode, decode, encode_entry, entry_length, block_length}
use Rattle.store_layout.specs.Form.{ours}
use Rattle.store_layout.specs.Opening.{can_open, openable_in, fresh}
use Rattle.store_layout.specs.Updates.{with_copies, with_block, with_station}
use Rattle.store_layout.specs.Index.{index_in}
use Rattle.store_layout.specs.Valid.{ValidStore}
use Rattle.store_layout.proofs.Opened.{can_open_in_form, fresh_count, valid_fresh}
use Rattle.store_layout.proofs.Validity.{valid_marked}
use Rattle.store_layout.proofs.Stores.{decode_encode}
use Rattle.rules.specs.Calls as calls
use Rattle.rules.specs.Calls.{Call, file, settle, begin, cell, day, Answer, refused, accepted, on_refused}
use Rattle.rules.specs.Rules.{Date, copy_step, step_done, settled_station, day_of, rule}
use Rattle.rules.specs.Reaction.{date_of}
use Rattle.rules.specs.Step.{Outcome, unchanged, step}
use Rattle.rules.specs.Runs.{Engine, Logged, log, left, names, naming, naming_log, records}
use Rattle.rules.specs.Refusals.{RefusalsKeep}
use Rattle.rules.specs.Isolation.{Opens, Has, opened, Alike, Isolated}
use Rattle.rules.proofs.Kept.{kept_block, valid_kept}
use Rattle.rules.proofs.Steps.{step_encoded}
use Rattle.rules.proofs.Holding.{HoldsStation, answer_own, records_held}
use Rattle.rules.proofs.Settling.{kept_settled}
use Rattle.rules.proofs.Isolation.{new_station, date, holds_opened}

-- ---- a store of one station on 11 April 2024, and one of two
opens_one : Opens 2024 4 11 (40001 ∷ []) (0 ∷ [])
unfolding openable_in can_open is_date days_in
opens_one = record { accepted = refl }

opens_two : Opens 2024 4 11 (40001 ∷ 50000 ∷ []) (0 ∷ 1 ∷ [])
unfolding openable_in can_open is_date days_in
opens_two = record { accepted = refl }

has_one : Has (40001 ∷ []) (0 ∷ []) 40001 0
has_one = record { index = 0; inside = omega arith; number = refl; climate = refl }

has_two : Has (40001 ∷ 50000 ∷ []) (0 ∷ 1 ∷ []) 40001 0
has_two = record { index = 0; inside = omega arith; number = refl; climate = refl }

abbrev one : List ℕ
one = opened 2024 4 11 (40001 ∷ []) (0 ∷ [])

abbrev two : List ℕ
two = opened 2024 4 11 (40001 ∷ 50000 ∷ []) (0 ∷ 1 ∷ [])

holds_one : HoldsStation (date 2024 4 11) 40001 (new_station 40001 0) one
holds_one = holds_opened 2024 4 11 40001 0 (40001 ∷ []) (0 ∷ []) opens_one has_one

holds_two : HoldsStation (date 2024 4 11) 40001 (new_station 40001 0) two
holds_two = holds_opened 2024 4 11 40001 0 (40001 ∷ 50000 ∷ []) (0 ∷ 1 ∷ []) opens_two has_two

module _ {engine : Engine} (i : Isolated engine) (cs ds : List Call) (e : naming 40001 cs ≡ naming 40001 ds) where
  one_two : Alike engine 40001 one two cs ds
  one_two = (i.alike 2024 4 11 40001 0 (40001 ∷ []) (0 ∷ []) (40001 ∷ 50000 ∷ []) (0 ∷ 1 ∷ []) cs ds opens_one has_one opens_two has_two e).2

  two_two : Alike engine 40001 two two cs ds
  two_two =
      (i.alike 2024 4 11 40001 0 (40001 ∷ 50000 ∷ []) (0 ∷ 1 ∷ []) (40001 ∷ 50000 ∷ []) (0 ∷ 1 ∷ []) cs ds opens_two has_two opens_two has_two e).2

-- ---- as ours, but where a store has several stations each is told that it is not there
nosy : Engine
nosy c s = cond (eqb (length (decode s).stations) 1) (step c s) (unchanged (refused 6) s)

count : (numbers rows : List ℕ) → Opens 2024 4 11 numbers rows → length (decode (opened 2024 4 11 numbers rows)).stations ≡ length numbers
count numbers rows o =
    ap (λ (m : Store). length m.stations)
    (decode_encode (fresh 2024 4 11 numbers rows) (valid_fresh 2024 4 11 numbers rows (can_open_in_form 2024 4 11 numbers rows ours _ o.accepted)))
    ∙ fresh_count 2024 4 11 numbers rows

day_one : (nosy (day 40001) one).answer ≡ refused 11
unfolding nosy rule day_of
day_one = rw (count (40001 ∷ []) (0 ∷ []) opens_one) (answer_own holds_one (day 40001) refl)

day_two : (nosy (day 40001) two).answer ≡ refused 6
unfolding nosy
day_two = rw (count (40001 ∷ 50000 ∷ []) (0 ∷ 1 ∷ []) opens_two)

-- the first answer of a log
abbrev first : List Logged → Answer
first [] = accepted
first (l ∷ ls) = l.answer

nosy_refuted : Isolated nosy → ⊥
unfolding log naming_log naming
nosy_refuted i =
    let a : (nosy (day 40001) one).answer ≡ (nosy (day 40001) two).answer =
    ap first (one_two i (day 40001 ∷ []) (day 40001 ∷ []) refl).answers
    in
    let z : ◌≡◌ {A = ℕ} 11 6 = cc (day_one, day_two) in
    omega arith

-- ---- engines that settle, or mark, a station which the call does not name
abbrev both : Store
both = fresh 2024 4 11 (40001 ∷ 50000 ∷ []) (0 ∷ 1 ∷ [])

valid_both : ValidStore both
valid_both = valid_fresh 2024 4 11 (40001 ∷ 50000 ∷ []) (0 ∷ 1 ∷ []) (can_open_in_form 2024 4 11 _ _ ours _ opens_two.accepted)

decode_two : decode two ≡ both
decode_two = decode_encode both valid_both

-- a call that does not name 40001 sets its mark
record Marks (engine : Engine) : Type 0 where
  call : Call
  other : names 40001 call ≡ false
  leaves : Store
  valid : ValidStore leaves
  bytes : (engine call two).store ≡ encode leaves
  number : (station_at leaves.stations 0).number ≡ 40001
  mark : (station_at leaves.stations 0).settled ≡ 1

marks_refuted : (engine : Engine) → Marks engine → Isolated engine → ⊥
unfolding left naming encode_entry
marks_refuted engine m i =
    let r : records 40001 (engine m.call two).store ≡ records 40001 two = (two_two i (m.call ∷ []) [] (rw m.other)).remains in
    let e : (station_at m.leaves.stations 0).settled % 256 ≡ 0 = ap (λ (l : List ℕ). get_or l 7 0) (sym (records_held holds) ∙ r ∙ records_held holds_two) in
    omega (arith, m.mark)
  where
    holds : HoldsStation (date_of m.leaves) 40001 (station_at m.leaves.stations 0) (engine m.call two).store
    holds =
        record {
          model = m.leaves;
          valid = m.valid;
          bytes = m.bytes;
          date = refl;
          index = 0;
          inside = m.valid.some;
          station = refl;
          named = m.number;
        }

-- as ours, but a settle settles every station
up_to : ℕ → Store → Store
up_to zero m = m
up_to (suc n) m = with_station n (settled_station (date_of m) (station_at (up_to n m).stations n)) (up_to n m)

settling_all : Engine
settling_all (settle x) s = record { answer = accepted; store = encode (up_to (length (decode s).stations) (decode s)) }
settling_all (file text rank) s = step (file text rank) s
settling_all (begin x) s = step (begin x) s
settling_all (calls.step x) s = step (calls.step x) s
settling_all (cell x e k) s = step (cell x e k) s
settling_all (day x) s = step (day x) s

valid_settled : (i : ℕ) (d : Date) (m : Store) → ValidStore m → i < length m.stations
    → ValidStore (with_station i (settled_station d (station_at m.stations i)) m)
valid_settled i d m v l = valid_kept i _ m v (kept_settled d (station_at m.stations i) (v.each i l))

settling_all_marks : Marks settling_all
unfolding settling_all up_to fresh table with_station settled_station copy_step step_done with_copies with_block
settling_all_marks =
    record {
      call = settle 50000;
      other = refl;
      leaves = up_to 2 both;
      valid = valid_settled 1 (date_of both) _ (valid_settled 0 (date_of both) both valid_both (omega arith)) (omega arith);
      bytes = rw decode_two;
      number = refl;
      mark = refl;
    }

settling_all_refuted : Isolated settling_all → ⊥
settling_all_refuted = marks_refuted settling_all settling_all_marks

-- as ours, but a refused call has written the first station's mark
spoilt : Store → Store
spoilt m = with_station 0 (with_block (station_at m.stations 0).block 1 (station_at m.stations 0)) m

spoil_after : Answer → Outcome → List ℕ → Outcome
spoil_after a o s = on_refused (λ n. record { answer = refused n; store = encode (spoilt (decode s)) }) o a

spoiling : Engine
spoiling c s = spoil_after (step c s).answer (step c s) s

unknown : (step (settle 60000) two).answer ≡ refused 6
unfolding fresh table index_in
unknown = ap (λ (o : Outcome). o.answer) (step_encoded (settle 60000) both valid_both)

spoiling_marks : Marks spoiling
unfolding spoiling spoil_after spoilt fresh table with_station with_block
spoiling_marks =
    record {
      call = settle 60000;
      other = refl;
      leaves = spoilt both;
      valid =
          valid_kept 0 _ both valid_both
          (kept_block _ 1 (station_at both.stations 0) (valid_both.each 0 (omega arith)) (valid_marked 1 _ refl (valid_both.each 0 (omega arith)).block) (lit≤ tt));
      bytes = rw (unknown, decode_two);
      number = refl;
      mark = refl;
    }

spoiling_refuted : Isolated spoiling → ⊥
spoiling_refuted = marks_refuted spoiling spoiling_marks

spoiling_writes : RefusalsKeep spoiling → ⊥
unfolding spoiling spoil_after spoiling_marks fresh table
spoiling_writes k =
    let m = spoiling_marks in
    let r : (spoiling (settle 60000) two).store ≡ two = k.bytes (settle 60000) two 6 (rw unknown) in
    let e : m.leaves ≡ both = sym (decode_encode m.leaves m.valid) ∙ ap decode (sym m.bytes ∙ r) ∙ decode_two in
    let z : ◌≡◌ {A = ℕ} 1 0 = sym m.mark ∙ ap (λ (n : Store). (station_at n.stations 0).settled) e in
    omega arith

-- ---- as ours, but it leaves no store
wiping : Engine
wiping c s = record { answer = (step c s).answer; store = [] }

wiping_refuted : Isolated wiping → ⊥
unfolding wiping left naming records decode table index_in
wiping_refuted i =
    let l : ◌≡◌ {A = ℕ} 0 (entry_length + block_length) =
    (i.alike 2024 4 11 40001 0 (40001 ∷ []) (0 ∷ []) (40001 ∷ []) (0 ∷ []) (settle 40001 ∷ []) (settle 40001 ∷ []) opens_one has_one opens_one has_one refl).3
    in
    omega arith
