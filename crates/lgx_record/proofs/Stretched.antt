-- A run that takes so many processor steps.
use Rattle.std.proofs.Common.{◌≡◌, ℕ, suc, ◌+◌, ◌-◌, ◌<◌, ◌≤◌, Bool, List, [], ◌∷◌, ◌++◌, length, map, take, get_or, replicate, refl, sym, ap, ◌∙◌, subst, arith}
use Rattle.std.specs.List.{AllByRecursion as Each}
use Rattle.lgx_image.specs.Grains.{SameInWatched}
use Rattle.spec_machine.specs.declared.answer.What.{What}
use Rattle.spec_machine.specs.declared.answer.What.TheVariants.{Idle, Began, Ran, Copied, Left}
use Rattle.spec_machine.specs.declared.answer.Moment.{Moment}
use Rattle.spec_machine.specs.declared.line.Line.{Line}
use Rattle.spec_machine.specs.declared.line.Line.TheVariants.{Fault as FaultLine}
use Rattle.spec_machine.specs.declared.event.Event.{Event}
use Rattle.spec_machine.specs.declared.event.Event.TheVariants.{Cpu}
use Rattle.spec_machine.specs.Project.{Project}
use Rattle.spec_machine.specs.State.{State}
use Rattle.spec_machine.specs.ProcessorStep.{processor_step}
use Rattle.spec_machine.specs.Machine.{run}
use Rattle.spec_machine.specs.Report.{Stamped, stamp, begin_lines, steps_of}
use Rattle.lgx_watch.specs.Kept.{KeptLines, with_lines}
use Rattle.lgx_watch.proofs.Pushes.{same_kept, with_lines-full}
use Rattle.lgx_steps.specs.declared.begins.Begins.{Begins}
use Rattle.lgx_steps.specs.declared.stretch.Stretch.{Stretch}
use Rattle.lgx_steps.specs.Stretches.{IsStretch, after_steps, moment_after, told_steps}
use Rattle.lgx_core.specs.ControllerView.{ControllerView}
use Rattle.lgx_core.specs.Represents.{RepresentsController}
use Rattle.lgx_core.specs.Gives.{StretchGives}
use Rattle.lgx_record.specs.declared.lines.Stamp.{Stamp}
use Rattle.lgx_record.specs.RunView.{RunView}
use Rattle.lgx_record.specs.Faults.{faults_in}
use Rattle.lgx_record.specs.Changes.{numbers_at, change_lines, AreInside, AreWatched}
use Rattle.lgx_record.specs.EventLines.{begins_lines, with_event_lines}
use Rattle.lgx_record.specs.IsRunOf.{IsRunOf, IsRun}
use Rattle.lgx_record.specs.Extends.{IsExtended}
use Rattle.std.proofs.lemmas.List.{take_more}
use Rattle.spec_base.specs.declared.limits.TheConstants.{MAX_REPORT_LINES}
use Rattle.lgx_record.proofs.Logs.{three-parts, with_lines-append}
use Rattle.lgx_record.proofs.Taking.{HasTaken, Takes, follows-more, are_inside}
use Rattle.lgx_record.proofs.Events.{Closes, changes-kept, kept-values}
use Rattle.lgx_record.proofs.StepLines.{step_lines, run-steps, last-step, more-steps, more-events, steps-join, lines-join, numbers-stay, told-lines, told-few, told-below, begins-more}

-- ---- the begins of a stretch

module _ (watched : List Bool) (b : Begins) (x : Stretch) (s : State) (h : IsStretch watched b x s) where
  pub few-begins : length b.steps.items ≤ x.steps - 1
  few-begins = subst (λ (xs : List ℕ). length xs ≤ x.steps - 1) (sym h.begins) (told-few (x.steps - 1) s)

  pub begins-below : Each (λ k. k < x.steps - 1) b.steps.items
  begins-below = subst (λ (xs : List ℕ). Each (λ k. k < x.steps - 1) xs) (sym h.begins) (told-below (x.steps - 1) s)

-- ---- a stretch of steps

module _ (old new : RunView) (c : ControllerView) (base start first second end : KeptLines) (from at : Stamp) (project : Project) (events : List Event) (r : IsRunOf old project events) (k : Closes old new c second end at) (same_watched : c.parts.image.watched ≡ old.controller.parts.image.watched) (b : Begins) (x : Stretch) (m : ℕ) (many : x.steps ≡ suc m) (g : StretchGives c b x (run project events)) where
  abbrev s : State
  s = run project events

  abbrev before : List Event
  before = events ++ replicate m Cpu

  lie : AreWatched old.places c.parts.image.watched
  lie = subst (AreWatched old.places) (sym same_watched) r.watched

  same : (i : ℕ) → i ≤ m → SameInWatched c.parts.image.watched s.image (after_steps i s).image
  same i below = g.is_stretch.images i (omega (arith, many))

  -- of the steps before the last the begins have lines
  begins : b.steps.items ≡ told_steps m s
  begins = g.is_stretch.begins ∙ ap (λ k. told_steps k s) (let one : x.steps - 1 ≡ m = omega (arith, many) in one)

  begin_lines_of : step_lines project events m ≡ begins_lines s.tick (steps_of events) b.began b.steps.items
  begin_lines_of =
      told-lines project events old.places c.parts.image.watched r.places lie b.began m (λ i below. g.is_stretch.began i (omega (arith, many))) same
      ∙ ap (begins_lines s.tick (steps_of events) b.began) (sym begins)

  -- what the run would be after these
  abbrev middle : RunView
  middle = record old { controller = record old.controller { spent = old.controller.spent + m }; steps = old.steps + m }

  has_taken : HasTaken middle project before
  has_taken = record {
    valid = r.controller.valid;
    counted = ap (λ n. n + m) r.controller.counted ∙ sym (more-events events m);
    names = r.names;
    steps = ap (λ n. n + m) r.steps ∙ sym (more-steps events m);
    places = r.places;
    values =
        r.values
        ∙ sym (numbers-stay c.parts.image.watched s.image (after_steps m s).image old.places (same m (omega arith)) lie)
        ∙ ap (λ (t : State). numbers_at t.image old.places) (sym (run-steps project events m));
    watched = r.watched;
  }

  -- the last one
  last : after_steps x.steps s ≡ (processor_step (run project before)).state
  last = ap (λ n. after_steps n s) many ∙ last-step m s ∙ ap (λ (t : State). (processor_step t).state) (sym (run-steps project events m))

  told : x.last ≡ (processor_step (run project before)).answer
  told =
      g.is_stretch.last
      ∙ ap (λ n. moment_after n s) (let one : x.steps - 1 ≡ m = omega (arith, many) in one)
      ∙ ap (λ (t : State). (processor_step t).answer) (sym (run-steps project events m))

  represents : RepresentsController c (processor_step (run project before)).state
  represents = subst (λ (t : State). RepresentsController c t) last g.represents

  pub stretch-taken : from.tick ≡ s.tick → from.step ≡ old.steps → start ≡ with_lines base (begins_lines from.tick from.step b.began b.steps.items) → c.spent ≡ old.controller.spent + x.steps → new.steps ≡ old.steps + x.steps → first ≡ with_event_lines start at (begin_lines x.last.what) → second ≡ with_event_lines first at (map FaultLine (faults_in x.last.fault)) → IsExtended new base end project events (replicate x.steps Cpu)
  stretch-taken tick_is step_is started spent steps begun faulted =
      let y = processor_step (run project before) in
      let begins = begun ∙ ap (λ (w : Moment). with_event_lines start at (begin_lines w.what)) told in
      let faults = faulted ∙ ap (λ (w : Moment). with_event_lines first at (map FaultLine (faults_in w.fault))) told in
      let takes : Takes middle new start end (run project before) Cpu at = record {
        represents = k.represents y.state represents;
        spent = k.spent ∙ spent ∙ omega (arith, many);
        names = k.names;
        places = k.places;
        steps = steps ∙ omega (arith, many);
        tick = k.tick y.state represents;
        step_is = k.step_is;
        log = three-parts start first second end at (begin_lines y.answer.what) (map FaultLine (faults_in y.answer.fault)) (change_lines 0 old.values new.values) begins faults (changes-kept second end at old.values new.values _ (k.compared y.state represents));
        values = kept-values old new c second end at k y.state represents;
        watched = k.watched ∙ same_watched;
        none_hit = k.none_hit;
      } in
      let one = follows-more middle new start end project before Cpu at has_taken takes in
      let all : m + 1 ≡ x.steps = omega (arith, many) in
      let lines : step_lines project events m ++ step_lines project before 1 ≡ step_lines project events x.steps =
      lines-join project events m 1 ∙ ap (step_lines project events) all in
      let starts : start ≡ with_lines base (step_lines project events m) =
      started
      ∙ ap (with_lines base)
      (ap (λ n. begins_lines n from.step b.began b.steps.items) tick_is
      ∙ ap (λ n. begins_lines s.tick n b.began b.steps.items) (step_is ∙ r.steps)
      ∙ sym begin_lines_of) in
      record {
        run = subst (λ (es : List Event). IsRunOf new project es) (steps-join events m 1 ∙ ap (λ n. events ++ replicate n Cpu) all) one.run;
        log =
            one.log
            ∙ ap (λ (k : KeptLines). with_lines k (step_lines project before 1)) starts
            ∙ sym (with_lines-append base (step_lines project events m) (step_lines project before 1))
            ∙ ap (with_lines base) lines;
      }

-- before the watched places are compared
pub stretch-inside : (v : RunView) (i : IsRun v) (n : ℕ) (c : ControllerView) → RepresentsController c (after_steps n (run i.project i.events)) → AreInside v.places c.parts.image.bytes
stretch-inside v i n c r =
    are_inside i.project i.run.controller.valid v.places (i.events ++ replicate n Cpu) c i.run.places (subst (λ (t : State). RepresentsController c t) (sym (run-steps i.project i.events n)) r)

-- ---- the lines of begins, one after another

-- the next of them is put into the log
pub begin-logged : (start log next : KeptLines) (tick n : ℕ) (began : What) (xs ys : List ℕ) (i : ℕ) → ys ≡ xs → i < length ys → log ≡ with_lines start (begins_lines tick n began (take i xs)) → next ≡ with_lines log (stamp tick (n + get_or ys i 0 + 1) (begin_lines began)) → next ≡ with_lines start (begins_lines tick n began (take (i + 1) xs))
begin-logged start log next tick n began xs ys i same below before put =
    let line = λ (zs : List ℕ). stamp tick (n + get_or zs i 0 + 1) (begin_lines began) in
    let within : i < length xs = subst (λ (zs : List ℕ). i < length zs) same below in
    put
    ∙ ap (λ (zs : List ℕ). with_lines log (line zs)) same
    ∙ ap (λ (k : KeptLines). with_lines k (line xs)) before
    ∙ sym (with_lines-append start (begins_lines tick n began (take i xs)) (line xs))
    ∙ ap (with_lines start) (sym (begins-more tick n began (take i xs) (get_or xs i 0)) ∙ ap (begins_lines tick n began) (sym (take_more xs i 0 within)))

-- begins for which there is no room are counted
begins-length : (tick n t p v : ℕ) (xs : List ℕ) → length (begins_lines tick n (Began t p v) xs) ≡ length xs
begins-length tick n t p v [] = refl
begins-length tick n t p v (x ∷ xs) = let rest = begins-length tick n t p v xs in omega arith

pub begins-lost : (log new : KeptLines) (tick n : ℕ) (began : What) (t p v : ℕ) (xs ys : List ℕ) → ys ≡ xs → began ≡ Began t p v → length log.lines ≡ MAX_REPORT_LINES → new ≡ record { lines = log.lines; lost = log.lost + length ys } → new ≡ with_lines log (begins_lines tick n began xs)
begins-lost log new tick n began t p v xs ys same is full put =
    let lines = begins_lines tick n (Began t p v) xs in
    put
    ∙ same_kept _ _ _ _ refl (ap (λ k. log.lost + k) (ap (λ (zs : List ℕ). length zs) same ∙ sym (begins-length tick n t p v xs)))
    ∙ sym (with_lines-full log lines (omega (arith, full)))
    ∙ ap (λ (w : What). with_lines log (begins_lines tick n w xs)) (sym is)

-- steps that begin no scan have no line
no-begins : (tick n : ℕ) (began : What) → begin_lines began ≡ [] → (xs : List ℕ) → begins_lines tick n began xs ≡ []
no-begins tick n began none [] = refl
no-begins tick n began none (x ∷ xs) = ap (λ (ls : List Line). stamp tick (n + x + 1) ls ++ begins_lines tick n began xs) none ∙ no-begins tick n began none xs

no-begin : (began : What) → ((t p v : ℕ) → began ≡ Began t p v → ⊥) → begin_lines began ≡ []
no-begin Idle not = refl
no-begin (Began t p v) not = absurd (not t p v refl)
no-begin (Ran t p) not = refl
no-begin (Copied t p) not = refl
no-begin (Left t p ended) not = refl

pub none-logged : (log : KeptLines) (tick n : ℕ) (began : What) (xs : List ℕ) → ((t p v : ℕ) → began ≡ Began t p v → ⊥) → log ≡ with_lines log (begins_lines tick n began xs)
none-logged log tick n began xs not = ap (λ (ls : List Stamped). with_lines log ls) (sym (no-begins tick n began (no-begin began not) xs))
