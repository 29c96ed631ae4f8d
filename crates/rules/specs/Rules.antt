-- What a request does to a station: a function of the date D, the request and the station alone. "An answer to S may depend on D, S's row, the
-- call itself and S's earlier calls, nothing else."
-- Assumes nothing.
use Rattle.std.specs.Prelude.{cond, ◌&&◌, ◌||◌, List, map, ℕ, suc, ◌+◌, leb, ltb, eqb, pos, Option, Some, None}
use Rattle.calendar.specs.Slots.{slot_of}
use Rattle.synop_values.specs.Value.{Value, missing, read, humidity}
use Rattle.daily.specs.Line.{day_line}
use Rattle.store_layout.specs.Model.{Block, Station, head_of}
use Rattle.quality.specs.declared.head.SlotHead.{SlotHead}
use Rattle.store_layout.specs.Updates.{with_slot, with_checked, with_copies, with_block}
use Rattle.store_layout.specs.Valid.{is_under_way}
use Rattle.quality.specs.Cell.{Cell, none, slot}
use Rattle.quality.specs.Elements.{column}
use Rattle.quality.specs.Limits.{warm}
use Rattle.quality.specs.Settled.{one_step}
use Rattle.quality.specs.declared.step.Step.{Step}
use Rattle.quality.specs.declared.step.Step.TheVariants.{Range, Internal, Time, Fill}
use Rattle.synop.specs.declared.contents.Indicators.{Indicators}
use Rattle.rules.specs.Dry.{filed_duration, filed_values}
use Rattle.rules.specs.Calls.{Answer, refused, accepted, a_cell, a_day, Request, take_nil, take, settling, beginning, stepping, give_cell, give_day}

-- the date D
pub record Date : Type 0 where
  pub year : ℕ
  pub month : ℕ
  pub day : ℕ

-- the station stays as it is, and this is the answer; or it becomes this one, and the call is accepted
pub data Effect : Type 0 where
  keeps : Answer → Effect
  makes : Station → Effect

-- a value of a report as a raw cell: state 1 read, or missing; S-2: a humidity "with the new state 4"
abbrev pub raw_cell : Value → Cell
raw_cell missing = none
raw_cell (read v) = record { state = 1; flag = 0; value = v }
raw_cell (humidity u) = record { state = 4; flag = 0; value = pos u }

-- what filing a report in slot k puts there, its head and its nine raw cells; S-5: the slot decides what the R of a dry station is; S-6: the
-- head keeps the copy of dd that it has, since reports "do not touch the settling"
abbrev pub filed_head : ℕ → ℕ → ℕ → Indicators → SlotHead
filed_head k rank copy h =
    record {
      filed = 1;
      ir = h.rain_indicator;
      tr = filed_duration k h;
      dd = h.wind_direction;
      rank = rank;
      copy = copy;
    }

abbrev pub filed_cells : ℕ → Indicators → List Value → List Cell
filed_cells k h values = map raw_cell (filed_values k h values)

-- the settled number after an accepted report, no NIL: it "clears settled"; S-6: "2 to 5 while range, internal, time or fill is due, 6 to 9 if
-- such a report came since"
abbrev pub reported : ℕ → ℕ
reported n = cond (is_under_way n) (cond (leb 6 n) n (n + 4)) 0

-- "Any other accepted report replaces the slot's head and raw cells and clears settled."
unfoldable pub filed : ℕ → ℕ → Indicators → List Value → Station → Station
filed k rank head values t =
    with_block (with_slot k (filed_head k rank (head_of t.block k).copy head) (filed_cells k head values) t.block) (reported t.settled) t

-- "slot filed already (not for NIL)" is 8. S-3: "A higher rank replaces the whole slot .. An equal rank is "filed already" as before"; 13 is
-- "a rank .. below the slot's", tested "just before 8"
unfoldable pub file_at : ℕ → ℕ → Indicators → List Value → Station → Effect
file_at k rank head values t =
    let old = head_of t.block k in
    cond (ltb rank old.rank) (keeps (refused 13))
    (cond (eqb old.filed 1 && eqb rank old.rank) (keeps (refused 8)) (makes (filed k rank head values t)))

-- "no such slot" is 7; "NIL is accepted and changes nothing"; S-3: "at any rank up to 24 and is not compared with the slot's"
abbrev pub nil_in : Option ℕ → ℕ → Station → Effect
nil_in None rank t = keeps (refused 7)
nil_in (Some k) rank t = keeps accepted

abbrev pub file_in : Option ℕ → ℕ → Indicators → List Value → Station → Effect
file_in None rank head values t = keeps (refused 7)
file_in (Some k) rank head values t = file_at k rank head values t

-- each slot's dd, and the copy of it that a settling under way reads
abbrev pub directions : Block → List ℕ
directions b = map (λ (h : SlotHead). h.dd) b.heads

abbrev pub copies : Block → List ℕ
copies b = map (λ (h : SlotHead). h.copy) b.heads

-- the station with another settled number; and with each copy as f gives it
abbrev pub with_mark : ℕ → Station → Station
with_mark n t = with_block t.block n t

abbrev pub with_copies_mark : (SlotHead → ℕ) → ℕ → Station → Station
with_copies_mark f n t = with_block (with_copies f t.block) n t

-- ---- settling
-- the station with its checked sheet changed by f, its settled number as it was: "Each reads only what the step before left"
abbrev pub with_step : (List (List Cell) → List (List Cell)) → Station → Station
with_step f t = with_block (with_checked (f t.block.checked) t.block) t.settled t

-- "Raw cells are copied to the checked cells, then four steps."
unfoldable pub copy_step : Station → Station
copy_step t = with_step (λ s. t.block.raw) t

-- one of the steps: "1. Range.", "2. Internal.", "3. Time", "4. Fill". dds is the dd of each slot that internal reads
unfoldable pub step_done : Step → Date → List ℕ → Station → Station
step_done step d dds t = with_step (one_step step t.row (warm d.month) dds) t

-- "Settled becomes 1."; S-6: the one-call settle "drops a settling under way", so that the copies of dd are 0
unfoldable pub settled_station : Date → Station → Station
settled_station d t = with_copies_mark (λ h. 0) 1 (done Fill (done Time (done Internal (done Range (copy_step t)))))
  where
    done : Step → Station → Station
    done step u = step_done step d (directions t.block) u

-- ---- S-6: settling in portions
-- "Begin copies S's raw cells to its checked cells and each slot's dd to the last head byte"; "2 .. while range .. is due"
unfoldable pub begun_station : Station → Station
begun_station t = with_copies_mark (λ h. h.dd) 2 (copy_step t)

-- the step that is due: "2 to 5 while range, internal, time or fill is due, 6 to 9 if such a report came since"
abbrev pub due : ℕ → Step
due n =
    cond (eqb n 2 || eqb n 6) Range (cond (eqb n 3 || eqb n 7) Internal (cond (eqb n 4 || eqb n 8) Time Fill))

-- the settled number after it: the next step is due, and after the fourth "S is settled exactly if no report for S but NIL was accepted since"
abbrev pub onward : Step → ℕ → ℕ
onward Range n = suc n
onward Internal n = suc n
onward Time n = suc n
onward Fill n = cond (eqb n 5) 1 0

-- the copies of dd after it: "0 again after fill"
abbrev pub cleared : Step → Block → Block
cleared Range b = b
cleared Internal b = b
cleared Time b = b
cleared Fill b = with_copies (λ h. 0) b

abbrev pub gone_on : Step → ℕ → Station → Station
gone_on step n t = with_block (cleared step t.block) (onward step n) t

-- "four step calls then do range, internal, time and fill, one each": what a step call does to the checked cells that are there, reading "the
-- last head byte" as dd
unfoldable pub portion : Date → Station → Station
portion d t = gone_on (due t.settled) t.settled (step_done (due t.settled) d (copies t.block) t)

-- "The cell call gives one checked cell by element (0 to 8) and slot"; "element or slot above 8" is 12, "not settled" is 11
unfoldable pub cell_of : ℕ → ℕ → Station → Answer
cell_of e k t =
    cond (leb e 8 && leb k 8) (cond (eqb t.settled 1) (a_cell (slot (column t.block.checked e) k)) (refused 11)) (refused 12)

unfoldable pub day_of : Station → Answer
day_of t = cond (eqb t.settled 1) (a_day (day_line t.block.heads t.block.checked)) (refused 11)

-- S-6: 14 is "a step with no settling under way"
unfoldable pub rule : Date → Request → Station → Effect
rule d (take_nil yy gg rank) t = nil_in (slot_of d.year d.month d.day yy gg) rank t
rule d (take yy gg rank head values) t = file_in (slot_of d.year d.month d.day yy gg) rank head values t
rule d settling t = makes (settled_station d t)
rule d beginning t = makes (begun_station t)
rule d stepping t = cond (is_under_way t.settled) (makes (portion d t)) (keeps (refused 14))
rule d (give_cell e k) t = keeps (cell_of e k t)
rule d give_day t = keeps (day_of t)
