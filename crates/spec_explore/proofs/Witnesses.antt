-- An event that may be made, after which a line holds, is a witness.
use Rattle.std.proofs.Common.{◌≡◌, ◌+◌, ◌%◌, ℕ, zero, suc, Bool, true, false, cond, List, [], ◌∷◌, ◌++◌, length, replicate, Option, Some, None, refl, sym, ◌∙◌, ap, subst, arith}
use Rattle.std.specs.Prelude.{nat_eq, slice_get, IsSomeAnd, IsTrue}
use Rattle.std.specs.List.{list_any}
use Rattle.std.proofs.lemmas.Bool.{le-ltb, ltb-false, or_left, or_right}
use Rattle.std.proofs.lemmas.List.{append_assoc}
use Rattle.spec_base.specs.declared.limits.TheConstants.{OWN_LANE}
use Rattle.spec_machine.specs.declared.event.Action.TheVariants.{ModeRun}
use Rattle.spec_machine.specs.declared.event.Event.{Event}
use Rattle.spec_machine.specs.declared.event.Event.TheVariants.{Cpu, Tick, Act}
use Rattle.spec_machine.specs.Events.{steps_of}
use Rattle.spec_text.specs.declared.script.Timed.{Timed}
use Rattle.spec_text.specs.Scripts.{Script}
use Rattle.spec_schedule.specs.Partial.{IsPartial}
use Rattle.spec_lanes.specs.Turns.{lane_of, next_of, ticks_of, done_by}
use Rattle.spec_lanes.specs.Laws.{with_one_more}
use Rattle.spec_lanes.proofs.Acting.{due_actions_serve}
use Rattle.spec_lanes.proofs.Appended.{steps_on, ticks_on, made_same}
use Rattle.spec_lanes.proofs.Serving.{opening_is_served}
use Rattle.spec_lanes.proofs.Stepping.{steps_serve}
use Rattle.spec_explore.specs.declared.question.Never.{Never}
use Rattle.spec_explore.specs.Questions.{holds, is_late, is_late_at, InWindow, IsNeverBefore, IsWitness}
use Rattle.spec_explore.specs.Witnesses.{WindowsGrow, StepsAreInTime, ActionsAreInTime, OpeningsAreInTime, FirstLinesHold, OpeningsWitness, ActionsWitness, StepsWitness, TicksWitness}

-- ---- windows

-- the beginnings of one event more
pub data Begins (before es : List Event) (e : Event) : Type 0 where
  Inner : (after : List Event) → es ≡ before ++ after → Begins before es e
  Whole : before ≡ es ++ e ∷ [] → Begins before es e

longer : (x y : Event) (before es : List Event) (e : Event) → y ≡ x → Begins before es e → Begins (x ∷ before) (y ∷ es) e
longer x y before es e same (Inner after h) = Inner after (ap (λ z. z ∷ es) same ∙ ap (λ (xs : List Event). x ∷ xs) h)
longer x y before es e same (Whole h) = Whole (ap (λ (xs : List Event). x ∷ xs) h ∙ ap (λ z. z ∷ (es ++ e ∷ [])) (sym same))

begins : (before after es : List Event) (e : Event) → es ++ e ∷ [] ≡ before ++ after → Begins before es e
begins [] after es e h = Inner es refl
begins (b ∷ []) after [] e h = let same : e ≡ b = cc h in Whole (ap (λ z. z ∷ []) (sym same))
begins (b ∷ c ∷ before) after [] e h = absurd (let n : [] ≡ c ∷ (before ++ after) = cc h in cc n)
begins (b ∷ before) after (x ∷ es) e h =
    let same : x ≡ b = cc h in
    let rest : es ++ e ∷ [] ≡ before ++ after = cc h in
    longer b x before es e same (begins before after es e rest)

pub windows_grow : WindowsGrow
windows_grow script within es e h late before after lane k = go (begins before after es e k)
  where
    go : Begins before es e → is_late within script before lane ≡ false
    go (Inner rest b) = h before rest lane b
    go (Whole b) = ap (λ (xs : List Event). is_late within script xs lane) b ∙ late lane

pub steps_are_in_time : StepsAreInTime
steps_are_in_time script None es lane = refl
steps_are_in_time script (Some most) es lane =
    let ticks : ticks_of (es ++ Cpu ∷ []) ≡ ticks_of es = ticks_on es (Cpu ∷ []) ∙ (let e : ticks_of es + 0 ≡ ticks_of es = omega arith in e) in
    let made : done_by lane (es ++ Cpu ∷ []) ≡ done_by lane es = ap (λ (ms : List _). length ms) (made_same lane es (Cpu ∷ []) refl) in
    ap (λ n. is_late_at most n (slice_get (lane_of script lane) (done_by lane (es ++ Cpu ∷ [])))) ticks
    ∙ ap (λ k. is_late_at most (ticks_of es) (slice_get (lane_of script lane) k)) made

pub actions_are_in_time : ActionsAreInTime
actions_are_in_time script most before after lane action t window next =
    ltb-false (t.at + most) (ticks_of before) (sym (ap (is_late_at most (ticks_of before)) next) ∙ window before (Act lane action ∷ after) lane refl)

-- before a tick nothing is late
pub not_yet : (script : Script) (within : Option ℕ) (es : List Event) (lane : ℕ) → ticks_of es ≡ 0 → is_late within script es lane ≡ false
not_yet script None es lane none = refl
not_yet script (Some most) es lane none = at (next_of script es lane)
  where
    at : (o : Option Timed) → is_late_at most (ticks_of es) o ≡ false
    at None = refl
    at (Some t) = le-ltb (t.at + most) (ticks_of es) (omega arith)

pub openings_are_in_time : OpeningsAreInTime
openings_are_in_time script within [] after lane h = not_yet script within [] lane refl
openings_are_in_time script within (b ∷ []) after lane h = not_yet script within (b ∷ []) lane (let same : Act OWN_LANE ModeRun ≡ b = cc h in subst (λ (x : Event). ticks_of (x ∷ []) ≡ 0) same refl)
openings_are_in_time script within (b ∷ c ∷ before) after lane h = absurd (let n : [] ≡ c ∷ (before ++ after) = cc h in cc n)

-- ---- lines

pub first_lines_hold : FirstLinesHold
first_lines_hold p q x line h = at q.lines line h.this
  where
    at : (ls : List Never) (n : ℕ) → IsSomeAnd (slice_get ls n) (λ l. IsTrue (holds p x l)) → list_any (holds p x) ls ≡ true
    at [] n t = absurd t
    at (l ∷ ls) zero t = or_left (holds p x l) (list_any (holds p x) ls) t
    at (l ∷ ls) (suc n) t = or_right (holds p x l) (list_any (holds p x) ls) (at ls n t)

-- ---- witnesses

pub openings_witness : OpeningsWitness
openings_witness p script q line valid proper first = record {
  moment = record { after = []; counts = replicate (length script.lanes) 0; partial = (opening_is_served p script valid proper).partial; window = openings_are_in_time script q.within };
  first = first;
  shortest = λ before e m lt. absurd (omega arith);
}

pub actions_witness : ActionsWitness
actions_witness p script q counts es lane a line h due window before first =
    let same : steps_of (es ++ Act lane a ∷ []) ≡ steps_of es = steps_on es (Act lane a ∷ []) ∙ (let e : steps_of es + 0 ≡ steps_of es = omega arith in e) in
    record {
      moment = record { after = []; counts = with_one_more counts lane; partial = (due_actions_serve p script counts es lane a h due).served.partial; window = window };
      first = first;
      shortest = subst (λ n. IsNeverBefore p script q n) (sym same) before;
    }

pub steps_witness : StepsWitness
steps_witness p script q counts es line h unspent window before first =
    go (nat_eq ((steps_of es + 1) % script.pace) 0) window (steps_serve p script counts es h unspent).partial
  where
    same : steps_of (es ++ Cpu ∷ []) ≡ steps_of es + 1
    same = steps_on es (Cpu ∷ [])

    go : (b : Bool) → InWindow q.within script (es ++ cond b (Cpu ∷ Tick ∷ []) (Cpu ∷ [])) → IsPartial p script counts (es ++ cond b (Cpu ∷ Tick ∷ []) (Cpu ∷ [])) → IsWitness p script q es Cpu line
    go true w k = record { moment = record { after = Tick ∷ []; counts = counts; partial = k; window = w }; first = first; shortest = subst (λ n. IsNeverBefore p script q n) (sym same) before }
    go false w k = record { moment = record { after = []; counts = counts; partial = k; window = w }; first = first; shortest = subst (λ n. IsNeverBefore p script q n) (sym same) before }

pub ticks_witness : TicksWitness
ticks_witness p script q counts es line h unspent two window before first =
    let whole = append_assoc es (Cpu ∷ []) (Tick ∷ []) in
    let partial : IsPartial p script counts (es ++ Cpu ∷ Tick ∷ []) =
    subst (λ (xs : List Event). IsPartial p script counts (es ++ xs)) two (steps_serve p script counts es h unspent).partial in
    let same : steps_of ((es ++ Cpu ∷ []) ++ Tick ∷ []) ≡ steps_of es + 1 = ap (λ (xs : List Event). steps_of xs) whole ∙ steps_on es (Cpu ∷ Tick ∷ []) in
    record {
      moment = record { after = []; counts = counts; partial = subst (λ (xs : List Event). IsPartial p script counts xs) (sym whole) partial; window = subst (λ (xs : List Event). InWindow q.within script xs) (sym whole) window };
      first = first;
      shortest = subst (λ n. IsNeverBefore p script q n) (sym same) before;
    }
