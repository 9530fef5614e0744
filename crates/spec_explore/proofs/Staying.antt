-- What is known of the first events of a journal; and a CPS that is open stays open to the next processor step.
use Rattle.std.proofs.Common.{◌≡◌, ℕ, zero, suc, ◌+◌, ◌-◌, ◌≤◌, inl, inr, Bool, true, false, not, List, [], ◌∷◌, ◌++◌, length, drop, Result, Ok, Err, refl, sym, ◌∙◌, ap, arith, length-append}
use Rattle.std.specs.List.{list_all}
use Rattle.std.proofs.lemmas.Bool.{and_cases, and_parts, false≢true, not-true}
use Rattle.std.proofs.lemmas.List.{drop-append-le}
use Rattle.std.proofs.lemmas.List.Folds.{list_all-append}
use Rattle.spec_tables.specs.declared.force.ForceFault.{ForceFault}
use Rattle.spec_tables.specs.Forces.{Forces, enable, remove_all}
use Rattle.spec_tables.specs.Tasks.{held}
use Rattle.spec_machine.specs.declared.event.Action.{Action}
use Rattle.spec_machine.specs.declared.event.Action.TheVariants.{WordIn, WordOut, Accept, Test, Untest, Assemble, Cancel, ForceInstall, ForceEnable, ForceDisable, ForceRemove, ModeRun, ModeProgram, Clear}
use Rattle.spec_machine.specs.declared.event.Event.{Event}
use Rattle.spec_machine.specs.declared.event.Event.TheVariants.{Tick, Act}
use Rattle.spec_machine.specs.declared.reply.EditFault.{EditFault}
use Rattle.spec_tables.specs.Connections.{io_word}
use Rattle.spec_machine.specs.Edits.{Edited, accept, on_accepted, test, untest, assemble, cancel}
use Rattle.spec_machine.specs.Actions.{install_on, force_replied, edit_replied, act}
use Rattle.spec_machine.specs.Events.{is_tick, steps_of}
use Rattle.spec_machine.specs.Machine.{TraceEntry, step, run_from, trace_from, run, trace}
use Rattle.spec_machine.specs.Project.{Project}
use Rattle.spec_machine.specs.State.{State, start}
use Rattle.spec_schedule.specs.Partial.{is_of_lane, is_held, is_held_after, is_held_over, is_paced, through_step}
use Rattle.spec_reach.proofs.Reached.{run_more}
use Rattle.spec_lanes.specs.Held.{is_holdable}
use Rattle.spec_lanes.specs.Turns.{would_be_held}
use Rattle.spec_lanes.proofs.Appended.{steps_on}
use Rattle.spec_lanes.proofs.Holding.{holds_words_and_modes}
use Rattle.spec_lanes.proofs.Places.{through_on, through_cpu}
use Rattle.spec_lanes.proofs.Ranges.{each_in, all_in}
use Rattle.spec_explore.proofs.Ends.{PacedEnd, AtStart, AfterAct, AfterStep, AfterTick, paced_end}

-- ---- the first events

trace_over : (s : State) (xs ys : List Event) → trace_from s (xs ++ ys) ≡ trace_from s xs ++ trace_from (run_from s xs) ys
trace_over s [] ys = refl
trace_over s (x ∷ xs) ys = ap (λ (es : List TraceEntry). (step s x).answer ∷ es) (trace_over (step s x).state xs ys)

-- none of these answers is Held
abbrev pub are_free : List TraceEntry → Bool
are_free xs = list_all (λ x. not (is_held x)) xs

pub answers_off : (p : Project) (es ds : List Event) → are_free (trace p (es ++ ds)) ≡ true → (are_free (trace p es) ≡ true) × (are_free (trace_from (run p es) ds) ≡ true)
answers_off p es ds h =
    and_parts (are_free (trace p es)) (are_free (trace_from (run p es) ds))
    (sym (ap (list_all (λ x. not (is_held x))) (trace_over (start p) es ds) ∙ list_all-append (λ x. not (is_held x)) (trace p es) (trace_from (run p es) ds)) ∙ h)

pub lanes_off : (lanes : ℕ) (es ds : List Event) → 1 ≤ length es → list_all (is_of_lane lanes) (drop 1 (es ++ ds)) ≡ true → (list_all (is_of_lane lanes) (drop 1 es) ≡ true) × (list_all (is_of_lane lanes) ds ≡ true)
lanes_off lanes es ds some h =
    and_parts (list_all (is_of_lane lanes) (drop 1 es)) (list_all (is_of_lane lanes) ds)
    (sym (ap (list_all (is_of_lane lanes)) (drop-append-le 1 es ds some) ∙ list_all-append (is_of_lane lanes) (drop 1 es) ds) ∙ h)

-- the steps beyond the script's among the first events found a CPS open, if those of all did
pub held_over_off : (p : Project) (steps : ℕ) (es : List Event) (d : Event) (ds : List Event) → is_tick d ≡ false → is_held_over p steps (es ++ d ∷ ds) ≡ true → is_held_over p steps es ≡ true
held_over_off p steps es d ds none h =
    all_in (λ k. is_held_after p (through_step k es)) steps (steps_of es - steps)
    (λ k ge lt.
    let all = steps_on es (d ∷ ds) in
    let up : k ≤ steps_of es = omega arith in
    ap (is_held_after p) (sym (through_on k es d ds none up))
    ∙ each_in (λ i. is_held_after p (through_step i (es ++ d ∷ ds))) steps (steps_of (es ++ d ∷ ds) - steps) h k ge (omega arith))

-- ---- an open CPS

edit_table : (s : State) (x : Result Edited EditFault) → (edit_replied s x).state.table ≡ s.table
edit_table s (Err f) = refl
edit_table s (Ok e) = refl

force_table : (s : State) (x : Result Forces ForceFault) → (force_replied s x).state.table ≡ s.table
force_table s (Err f) = refl
force_table s (Ok x) = refl

-- edits and forces leave the table
table_stays : (s : State) (lane : ℕ) (a : Action) → is_holdable a ≡ false → (act s lane a).state.table ≡ s.table
table_stays s lane (WordIn conn word v) h = absurd (false≢true (sym h))
table_stays s lane (WordOut conn word) h = absurd (false≢true (sym h))
table_stays s lane (Accept c) h = edit_table s (accept s.plan.tags s.plan.names s.books lane c)
table_stays s lane (Test n) h = edit_table s (on_accepted test s.books lane n)
table_stays s lane (Untest n) h = edit_table s (on_accepted untest s.books lane n)
table_stays s lane (Assemble n) h = edit_table s (on_accepted assemble s.books lane n)
table_stays s lane (Cancel n) h = edit_table s (on_accepted cancel s.books lane n)
table_stays s lane (ForceInstall conn word mask v) h = force_table s (install_on s.forces (io_word s.plan.conns conn word) mask v)
table_stays s lane ForceEnable h = force_table s (enable s.forces)
table_stays s lane ForceDisable h = refl
table_stays s lane ForceRemove h = force_table s (remove_all s.forces)
table_stays s lane ModeRun h = absurd (false≢true (sym h))
table_stays s lane ModeProgram h = absurd (false≢true (sym h))
table_stays s lane Clear h = absurd (false≢true (sym h))

-- an action that isn't answered Held leaves a CPS open
open_after : (p : Project) (es : List Event) (lane : ℕ) (a : Action) → would_be_held p es lane a ≡ false → is_held_after p es ≡ true → is_held_after p (es ++ Act lane a ∷ []) ≡ true
open_after p es lane a free h =
    let both = sym (holds_words_and_modes p es lane a) ∙ free in
    let other : is_holdable a ≡ false =
    elim (and_cases (is_holdable a) (is_held_after p es) both) [ inl kind ↦ kind | inr shut ↦ absurd (false≢true (sym shut ∙ h)) ] in
    ap (λ (s : State). held s.table) (run_more p es (Act lane a)) ∙ (ap held (table_stays (run p es) lane a other) ∙ h)

pub free_last : (p : Project) (es : List Event) (lane : ℕ) (a : Action) → are_free (trace_from (run p es) (Act lane a ∷ [])) ≡ true → would_be_held p es lane a ≡ false
free_last p es lane a h = not-true (would_be_held p es lane a) (and_parts (not (would_be_held p es lane a)) true h).0

-- One that was open when the last processor step and its tick had been done is open still.
by_end : (p : Project) (pace n : ℕ) (es : List Event) → PacedEnd pace es → length es ≤ n → are_free (trace p es) ≡ true → is_held_after p (through_step (steps_of es) es) ≡ true → is_held_after p es ≡ true
by_end p pace n es AtStart le free h = h
by_end p pace zero es (AfterAct ds lane a k) le free h = absurd (let l = length-append ds (Act lane a ∷ []) in omega arith)
by_end p pace (suc n) es (AfterAct ds lane a k) le free h =
    let answers = answers_off p ds (Act lane a ∷ []) free in
    let l = length-append ds (Act lane a ∷ []) in
    let steps : steps_of (ds ++ Act lane a ∷ []) ≡ steps_of ds = steps_on ds (Act lane a ∷ []) ∙ (let e : steps_of ds + 0 ≡ steps_of ds = omega arith in e) in
    let same : through_step (steps_of (ds ++ Act lane a ∷ [])) (ds ++ Act lane a ∷ []) ≡ through_step (steps_of ds) ds =
    ap (λ m. through_step m (ds ++ Act lane a ∷ [])) steps ∙ through_on (steps_of ds) ds (Act lane a) [] refl (let e : steps_of ds ≤ steps_of ds = omega arith in e) in
    open_after p ds lane a (free_last p ds lane a answers.1) (by_end p pace n ds (paced_end pace ds k) (omega arith) answers.0 (sym (ap (is_held_after p) same) ∙ h))
by_end p pace n es (AfterStep ds k none) le free h = sym (ap (is_held_after p) (through_cpu ds [] refl refl)) ∙ h
by_end p pace n es (AfterTick ds k due) le free h = sym (ap (is_held_after p) (through_cpu ds (Tick ∷ []) refl refl)) ∙ h

pub still_open : (p : Project) (pace n : ℕ) (es : List Event) → length es ≤ n → is_paced pace es ≡ true → are_free (trace p es) ≡ true → is_held_after p (through_step (steps_of es) es) ≡ true → is_held_after p es ≡ true
still_open p pace n es le paced free h = by_end p pace n es (paced_end pace es paced) le free h
