-- A run goes on with the next event of its journal.
use Rattle.std.proofs.Common.{◌≡◌, ℕ, zero, suc, ◌+◌, ◌<◌, ◌≤◌, List, [], ◌∷◌, ◌++◌, length, take, drop, map, Bool, true, false, cond, Option, Some, None, Result, Ok, refl, sym, ◌∙◌, ap, subst, append_assoc, append-nil, add-one, arith}
use Rattle.std.specs.Prelude.{flat_map}
use Rattle.std.specs.List.{position_from}
use Rattle.std.proofs.lemmas.List.{take-append-drop, length-map}
use Rattle.spec_base.specs.declared.limits.TheConstants.{MAX_EVENTS}
use Rattle.lgx_num.specs.Name.{same}
use Rattle.spec_machine.specs.declared.event.Event.{Event}
use Rattle.spec_machine.specs.Machine.{TraceEntry, OfStep, OfTick, OfAction, event_of, step, run_from, trace_from, run, trace}
use Rattle.spec_machine.specs.Project.{Project, ProgramText}
use Rattle.spec_machine.specs.State.{State, start}
use Rattle.spec_text.specs.declared.script.EventRun.{EventRun}
use Rattle.spec_text.specs.JournalText.{joined}
use Rattle.spec_project.specs.declared.fault.ProjectFault.{ProjectFault}
use Rattle.spec_project.specs.Projects.{project_of}
use Rattle.spec_schedule.specs.declared.trace.TraceEvent.{TraceEvent}
use Rattle.spec_schedule.specs.declared.trace.TraceEvent.TheVariants.{Act}
use Rattle.spec_schedule.specs.TraceView.{seen, view, verb_of, named, answer_of, program_number}
use Rattle.lgx_core.specs.ControllerView.{ControllerView}
use Rattle.lgx_core.specs.Represents.{StandsFor, HasEvent}
use Rattle.lgx_audit.specs.TraceText.{event_line, end_line}
use Rattle.cmd_trace.specs.Seen.{numbered, seen_by, Makes}
use Rattle.cmd_trace.specs.TraceLeft.{text_left, file_left, events_left, HasNext, IsUnderWay}
use Rattle.cmd_trace.specs.TracePlan.{trace_text}
use Rattle.cmd_trace.proofs.Places.{whole_runs, run_begins}

-- ---- lists

-- what follows of what is left of a list
record Seam {A : Type 0} (xs : List A) (n : ℕ) (y : A) (ys : List A) : Type 0 where
  pub there : n < length xs
  pub front : take (suc n) xs ≡ take n xs ++ y ∷ []
  pub back : drop (suc n) xs ≡ ys

seam : {A : Type 0} (xs : List A) (n : ℕ) (y : A) (ys : List A) → drop n xs ≡ y ∷ ys → Seam xs n y ys
seam [] zero y ys h = absurd (cc h)
seam [] (suc n) y ys h = absurd (cc h)
seam (x ∷ xs) zero y ys h = record { there = omega arith; front = ap (λ z. z ∷ []) (let e : x ≡ y = cc in e); back = (let e : xs ≡ ys = cc in e) }
seam (x ∷ xs) (suc n) y ys h = let s = seam xs n y ys h in record { there = (let t = s.there in omega arith); front = ap (λ zs. x ∷ zs) s.front; back = s.back }

at_end : {A : Type 0} (xs : List A) (n : ℕ) → drop n xs ≡ [] → length xs ≤ n
at_end [] n h = omega arith
at_end (x ∷ xs) zero h = absurd (cc h)
at_end (x ∷ xs) (suc n) h = (let r = at_end xs n h in omega arith)

none_left : {A : Type 0} (xs : List A) (n : ℕ) → length xs ≤ n → drop n xs ≡ []
none_left [] zero h = refl
none_left [] (suc n) h = refl
none_left (x ∷ xs) zero h = absurd (omega arith)
none_left (x ∷ xs) (suc n) h = none_left xs n (omega arith)

drop_mapped : {A B : Type 0} (f : A → B) (xs : List A) (y : A) (ys : List A) (n : ℕ) → n ≡ length xs → drop n (map f ((xs ++ y ∷ []) ++ ys)) ≡ f y ∷ drop (suc n) (map f ((xs ++ y ∷ []) ++ ys))
drop_mapped f [] y ys zero h = refl
drop_mapped f [] y ys (suc n) h = absurd (omega arith)
drop_mapped f (x ∷ xs) y ys zero h = absurd (omega arith)
drop_mapped f (x ∷ xs) y ys (suc n) h = drop_mapped f xs y ys n (omega arith)

length_take : {A : Type 0} (n : ℕ) (xs : List A) → n ≤ length xs → length (take n xs) ≡ n
length_take zero xs h = refl
length_take (suc n) [] h = absurd (omega arith)
length_take (suc n) (x ∷ xs) h = ap suc (length_take n xs (omega arith))

-- ---- traces

trace_on : (s : State) (xs ys : List Event) → trace_from s (xs ++ ys) ≡ trace_from s xs ++ trace_from (run_from s xs) ys
trace_on s [] ys = refl
trace_on s (x ∷ xs) ys = ap (λ es. (step s x).answer ∷ es) (trace_on (step s x).state xs ys)

pub trace_length : (s : State) (es : List Event) → length (trace_from s es) ≡ length es
trace_length s [] = refl
trace_length s (e ∷ es) = ap suc (trace_length (step s e).state es)

-- ---- what is seen

abbrev found_or : Bool → ℕ → Option ℕ → Option ℕ
found_or b i rest = cond b (Some i) rest

by_names : (ps : List ProgramText) (name : List ℕ) (i : ℕ) → position_from (λ n. same n name) i (map (λ q. q.name) ps) ≡ position_from (λ q. same q.name name) i ps
by_names [] name i = refl
by_names (p ∷ ps) name i = ap (found_or (same p.name name) i) (by_names ps name (i + 1))

numbered_by : (ps : List ProgramText) (o : Option (List ℕ)) → numbered (map (λ q. q.name) ps) o ≡ program_number ps o
numbered_by ps None = refl
numbered_by ps (Some name) = by_names ps name 0

seen_of : (p : Project) (names : List (List ℕ)) (x : TraceEntry) → names ≡ map (λ q. q.name) p.programs → seen_by names x ≡ seen p x
seen_of p names (OfStep m) is = refl
seen_of p names (OfTick r) is = refl
seen_of p names (OfAction lane a o) is = ap (λ n. Act lane (verb_of a) n (answer_of o.reply) o.released) (ap (λ ns. numbered ns (named a)) is ∙ numbered_by p.programs (named a))

-- ---- on the way

beyond : (runs : List EventRun) (run done : ℕ) → length runs ≤ run → events_left runs run done ≡ []
beyond [] run done h = refl
beyond (r ∷ rs) zero done h = absurd (omega arith)
beyond (r ∷ rs) (suc run) done h = beyond rs run done (omega arith)

file_text : (bytes : List ℕ) (p : Project) (journal : List Event) (made : ℕ) (ended : Bool) → project_of bytes ≡ Ok p → file_left (project_of bytes) journal made ended ≡ text_left p journal made ended
file_text bytes p journal made ended is = ap (λ (r : Result Project ProjectFault). file_left r journal made ended) is

module _ (bytes : List ℕ) (names : List (List ℕ)) (old : ControllerView) (journal : List Event) (run_now done_now : ℕ) (h : IsUnderWay bytes names old journal run_now done_now) where
  abbrev n : ℕ
  n = old.spent

  -- nothing is left but the line `end`
  pub ends : length (joined journal) ≤ run_now → file_left (project_of bytes) journal n false ≡ end_line
  ends l =
      let none = h.left ∙ beyond (joined journal) run_now done_now l in
      let all = at_end journal n none in
      let long = length-map (trace h.project journal) (seen h.project) in
      let same = trace_length (start h.project) journal in
      file_text bytes h.project journal n false h.is_project
      ∙ ap (λ (xs : List TraceEvent). flat_map event_line xs ++ end_line) (none_left (view h.project journal) n (omega arith))

  -- the line `end` is the last
  pub last_line : (line : List ℕ) → length (joined journal) ≤ run_now → line ≡ end_line → file_left (project_of bytes) journal n false ≡ line ++ file_left (project_of bytes) journal n true
  last_line line l is =
      ends l ∙ sym is ∙ sym (append-nil line) ∙ ap (λ t. line ++ t) (sym (file_text bytes h.project journal n true h.is_project))

  module _ (e : Event) (rest : List Event) (left : drop n journal ≡ e ∷ rest) where
    at : Seam journal n e rest
    at = seam journal n e rest left

    pub there : n < length journal
    there = at.there

    pub room : n < MAX_EVENTS
    room = (let t = at.there in let f = h.few in omega arith)

    module _ (new : ControllerView) (x : TraceEvent) (m : Makes old new names e x) (spent : new.spent ≡ n + 1) where
      abbrev p : Project
      p = h.project

      has : HasEvent p (take n journal) m.entry new
      has = m.goes_on p (take n journal) h.stands

      events : take n journal ++ event_of m.entry ∷ [] ≡ take (suc n) journal
      events = ap (λ y. take n journal ++ y ∷ []) m.is_event ∙ sym at.front

      later : new.spent ≡ suc n
      later = spent ∙ add-one n

      pub goes : (run' done' : ℕ) → rest ≡ events_left (joined journal) run' done' → HasNext (joined journal) run' done' → run' ≤ length (joined journal) → IsUnderWay bytes names new journal run' done'
      goes run' done' is next runs = record {
        project = p;
        is_project = h.is_project;
        names_are = h.names_are;
        stands = subst (λ (es : List Event). StandsFor p es new) (events ∙ ap (λ k. take k journal) (sym later)) has.stands;
        left = ap (λ k. drop k journal) later ∙ (at.back ∙ is);
        next = next;
        few = h.few;
        runs = runs;
      }

      whole : trace p journal ≡ (trace p (take n journal) ++ m.entry ∷ []) ++ trace_from (run p (take (suc n) journal)) (drop (suc n) journal)
      whole =
          ap (trace p) (sym (take-append-drop (suc n) journal))
          ∙ trace_on (start p) (take (suc n) journal) (drop (suc n) journal)
          ∙ ap (λ es. es ++ trace_from (run p (take (suc n) journal)) (drop (suc n) journal)) (ap (trace p) (sym events) ∙ has.answers)

      size : n ≡ length (trace p (take n journal))
      size = (let a = trace_length (start p) (take n journal) in let b = length_take n journal (let t = at.there in omega arith) in omega arith)

      next_seen : drop n (view p journal) ≡ x ∷ drop (suc n) (view p journal)
      next_seen =
          let T = trace_from (run p (take (suc n) journal)) (drop (suc n) journal) in
          ap (λ es. drop n (map (seen p) es)) whole
          ∙ drop_mapped (seen p) (trace p (take n journal)) m.entry T n size
          ∙ ap (λ es. seen p m.entry ∷ drop (suc n) (map (seen p) es)) (sym whole)
          ∙ ap (λ y. y ∷ drop (suc n) (view p journal)) (sym (m.is_seen ∙ seen_of p names m.entry h.names_are))

      pub told : file_left (project_of bytes) journal n false ≡ event_line x ++ file_left (project_of bytes) journal new.spent false
      told =
          file_text bytes p journal n false h.is_project
          ∙ ap (λ (xs : List TraceEvent). flat_map event_line xs ++ end_line) next_seen
          ∙ append_assoc (event_line x) (flat_map event_line (drop (suc n) (view p journal))) end_line
          ∙ ap (λ k. event_line x ++ text_left p journal k false) (sym later)
          ∙ ap (λ t. event_line x ++ t) (sym (file_text bytes p journal new.spent false h.is_project))

-- ---- at the start

pub under_way : (p : Project) (bytes : List ℕ) (names : List (List ℕ)) (controller : ControllerView) (journal : List Event) → project_of bytes ≡ Ok p → names ≡ map (λ q. q.name) p.programs → StandsFor p [] controller → length journal ≤ MAX_EVENTS → IsUnderWay bytes names controller journal 0 0
under_way p bytes names controller journal is names_are stands few = record {
  project = p;
  is_project = is;
  names_are = names_are;
  stands = subst (λ k. StandsFor p (take k journal) controller) (sym stands.counted) stands;
  left = ap (λ k. drop k journal) stands.counted ∙ sym (whole_runs journal);
  next = run_begins journal 0;
  few = few;
  runs = omega arith;
}

pub all_left : (p : Project) (bytes : List ℕ) (controller : ControllerView) (journal : List Event) → project_of bytes ≡ Ok p → StandsFor p [] controller → file_left (project_of bytes) journal controller.spent false ≡ trace_text p journal
all_left p bytes controller journal is stands = file_text bytes p journal controller.spent false is ∙ ap (λ k. text_left p journal k false) stands.counted
