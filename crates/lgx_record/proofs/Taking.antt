-- A run that takes one more event.
use Rattle.std.proofs.Common.{◌≡◌, ℕ, ◌+◌, ◌*◌, ◌^◌, ◌<◌, ◌≤◌, Bool, true, false, cond, List, [], ◌∷◌, ◌++◌, length, map, drop, get_or, ℤ, pos, Some, slice_get, sym, ap, ◌∙◌, subst, arith, append-nil, length-append}
use Rattle.std.specs.Prelude.{if◌then◌else◌}
use Rattle.std.specs.List.{AllByRecursion as Each}
use Rattle.std.proofs.lemmas.List.{length-map, get_or-map}
use Rattle.std.proofs.lemmas.List.Sums.{sum_by-append, sum_by-cons, count_by-le-length}
use Rattle.std.proofs.lemmas.Option.{slice_get_within, get_or_from_slice_get}
use Rattle.spec_base.specs.declared.limits.TheConstants.{MAX_EVENTS}
use Rattle.spec_base.proofs.Lists.{each_get}
use Rattle.lgx_num.specs.declared.place.Place.{Place}
use Rattle.lgx_num.specs.Image.{number, InBounds}
use Rattle.lgx_image.specs.Grains.{ImageView, ChangesOnlyMarked, NoneIsHit}
use Rattle.lgx_image.specs.Laws.{AllWatched}
use Rattle.spec_tables.specs.declared.fault.Fault.{Fault}
use Rattle.spec_machine.specs.declared.line.Line.{Line}
use Rattle.spec_machine.specs.declared.line.Line.TheVariants.{Fault as FaultLine}
use Rattle.spec_machine.specs.declared.event.Event.{Event}
use Rattle.spec_machine.specs.Project.{Project, Watch}
use Rattle.spec_machine.specs.ValidProject.{IsValidProject, IsWatchable}
use Rattle.spec_machine.specs.State.{State}
use Rattle.spec_machine.specs.Machine.{step, run}
use Rattle.spec_machine.specs.Report.{is_step, steps_of, stamp, answer_lines, set_lines, event_lines}
use Rattle.spec_reach.proofs.Reached.{run_more}
use Rattle.spec_reach.proofs.Images.{images_keep_length}
use Rattle.spec_text.specs.ReportText.{names_of}
use Rattle.lgx_watch.specs.JournalLines.{lines_of_event}
use Rattle.lgx_watch.specs.Kept.{KeptLines, with_lines}
use Rattle.lgx_watch.proofs.Spanned.{unhit_watches_stay}
use Rattle.lgx_core.specs.ControllerView.{ControllerView}
use Rattle.lgx_core.specs.Represents.{RepresentsController}
use Rattle.lgx_record.specs.declared.lines.TheConstants.{MAX_EVENT_LINES}
use Rattle.lgx_record.specs.declared.lines.Stamp.{Stamp}
use Rattle.lgx_record.specs.RunView.{RunView}
use Rattle.lgx_record.specs.RecordingView.{RecordingView}
use Rattle.lgx_record.specs.Faults.{told_faults}
use Rattle.lgx_record.specs.Changes.{numbers_at, change_lines, AreInside, AreWatched, AreAsCompared}
use Rattle.lgx_record.specs.EventLines.{with_event_lines}
use Rattle.lgx_record.specs.IsRunOf.{IsRunOf, IsRun}
use Rattle.lgx_record.specs.Extends.{IsExtended}
use Rattle.lgx_record.specs.Records.{IsRecording}
use Rattle.lgx_record.proofs.FewLines.{new_faults, events_have_few_lines}
use Rattle.lgx_record.proofs.Changed.{set_lines-changes}

-- ---- before the event

-- a log has counted few lines
pub few_lost_by : (v : RecordingView) (n : ℕ) → IsRecording v → v.controller.spent + n ≤ MAX_EVENTS → v.log.lost + MAX_EVENT_LINES * n < 2 ^ 63
few_lost_by v n i l =
    let few = events_have_few_lines i.project i.events i.records.controller.valid in
    let lost = ap (λ (k : KeptLines). k.lost) i.records.log in
    let many = i.records.controller.counted in
    omega arith

-- the journal has room for so many
pub few_events_by : (v : RecordingView) (n : ℕ) → IsRecording v → v.controller.spent + n ≤ MAX_EVENTS → length v.journal.events + n ≤ MAX_EVENTS
few_events_by v n i l = let e = ap length i.records.journal in let many = i.records.controller.counted in omega arith

-- steps are at most the events
pub few_steps : (v : RunView) → IsRun v → v.steps ≤ v.controller.spent
few_steps v i = let most = count_by-le-length is_step i.events in let steps = i.run.steps in let many = i.run.controller.counted in omega arith

-- ---- after the event

watched_inside : (len : ℕ) (watches : List Watch) → Each (IsWatchable len) watches → Each (λ p. InBounds p len) (map (λ w. w.place) watches)
watched_inside len [] h = tt
watched_inside len (w ∷ ws) h = (h.0.inside, watched_inside len ws h.1)

module _ (project : Project) (valid : IsValidProject project) where
  -- the watched places lie in the image of each state
  pub are_inside : (places : List Place) (events : List Event) (c : ControllerView) → places ≡ map (λ w. w.place) project.watches → RepresentsController c (run project events) → AreInside places c.parts.image.bytes
  are_inside places events c is r =
      let many : length c.parts.image.bytes ≡ length project.image = ap length r.parts.image ∙ images_keep_length project events in
      record {
        small = (let a = ap length r.parts.image in let b = r.parts.sane.image in let d = r.parts.sane.plan.bytes in omega arith);
        inside = λ w p got. subst (λ n. InBounds p n) (sym many) (each_get (λ q. InBounds q (length project.image)) (map (λ w. w.place) project.watches) w p (watched_inside (length project.image) project.watches valid.watches) (subst (λ (ps : List Place). slice_get ps w ≡ Some p) is got));
      }

-- a place that lies in no word that is hit has the number last compared
pub as_compared : (v : RunView) (project : Project) (events : List Event) (now : ImageView) → IsRunOf v project events → ChangesOnlyMarked v.controller.parts.image now → AreAsCompared v.places v.values now
as_compared v project events now r changes = record {
  many = ap length r.values ∙ length-map v.places (number (run project events).image);
  same = λ w p got none. (
      let below = slice_get_within v.places w p got in
      let before = v.controller.parts.image.bytes in
      ap (λ (ns : List ℤ). get_or ns w (pos 0)) r.values
      ∙ get_or-map (number (run project events).image) v.places w p (pos 0) below
      ∙ ap (number (run project events).image) (get_or_from_slice_get v.places w p p got)
      ∙ ap (λ (image : List ℕ). number image p) (sym r.controller.represents.parts.image)
      ∙ sym (unhit_watches_stay v.controller.parts.image now p changes (subst (λ watched. AllWatched watched p) (sym changes.same_watched) (r.watched w p got)) none)
      );
}

-- before the watched places are compared
pub next_inside : (v : RunView) (i : IsRun v) (e : Event) (c : ControllerView) → RepresentsController c (step (run i.project i.events) e).state → AreInside v.places c.parts.image.bytes
next_inside v i e c r =
    are_inside i.project i.run.controller.valid v.places (i.events ++ e ∷ []) c i.run.places (subst (λ (y : State). RepresentsController c y) (sym (run_more i.project i.events e)) r)

pub next_compared : (v : RunView) (i : IsRun v) (now : ImageView) → ChangesOnlyMarked v.controller.parts.image now → AreAsCompared v.places v.values now
next_compared v i now changes = as_compared v i.project i.events now i.run changes

-- What is known of a run after these events, but for what its controller represents.
pub record HasTaken (v : RunView) (project : Project) (events : List Event) : Type 0 where
  pub valid : IsValidProject project
  pub counted : v.controller.spent ≡ length events
  pub names : v.names ≡ names_of project
  pub steps : v.steps ≡ steps_of events
  pub places : v.places ≡ map (λ w. w.place) project.watches
  pub values : v.values ≡ numbers_at (run project events).image v.places
  pub watched : AreWatched v.places v.controller.parts.image.watched

pub has-taken : (v : RunView) (project : Project) (events : List Event) → IsRunOf v project events → HasTaken v project events
has-taken v project events r = record {
  valid = r.controller.valid;
  counted = r.controller.counted;
  names = r.names;
  steps = r.steps;
  places = r.places;
  values = r.values;
  watched = r.watched;
}

-- the watched places are watched still
pub next_watched : (v : RunView) (i : IsRun v) (now : ImageView) → ChangesOnlyMarked v.controller.parts.image now → AreWatched v.places now.watched
next_watched v i now changes = subst (AreWatched v.places) (sym changes.same_watched) i.run.watched

-- what was done when an event of state s was taken
pub record Takes (old new : RunView) (before after : KeptLines) (s : State) (e : Event) (at : Stamp) : Type 0 where
  pub represents : RepresentsController new.controller (step s e).state
  pub spent : new.controller.spent ≡ old.controller.spent + 1
  pub names : new.names ≡ old.names
  pub places : new.places ≡ old.places
  pub steps : new.steps ≡ (if is_step e then old.steps + 1 else old.steps)
  pub tick : at.tick ≡ (step s e).state.tick
  pub step_is : at.step ≡ new.steps
  pub log : after ≡ with_event_lines before at (answer_lines (step s e).answer ++ (map FaultLine (told_faults (step s e).state (step s e).answer) ++ change_lines 0 old.values new.values))
  pub values : new.values ≡ numbers_at (step s e).state.image new.places
  pub watched : new.controller.parts.image.watched ≡ old.controller.parts.image.watched
  pub none_hit : NoneIsHit new.controller.parts.image

-- one more event is counted
pub counted : (events : List Event) (e : Event) (n : ℕ) → n ≡ steps_of events → (if is_step e then n + 1 else n) ≡ steps_of (events ++ e ∷ [])
counted events e n is =
    by_test (is_step e)
    ∙ ap (λ m. steps_of events + m) (sym (sum_by-cons (λ x. cond (is_step x) 1 0) e []))
    ∙ sym (sum_by-append (λ x. cond (is_step x) 1 0) events (e ∷ []))
  where
    by_test : (b : Bool) → cond b (n + 1) n ≡ steps_of events + (cond b 1 0 + 0)
    by_test true = omega arith
    by_test false = omega arith

pub follows-more : (old new : RunView) (start end : KeptLines) (project : Project) (events : List Event) (e : Event) (at : Stamp) → HasTaken old project events → Takes old new start end (run project events) e at → IsExtended new start end project events (e ∷ [])
follows-more old new start end project events e at r t =
    let s = run project events in
    let x = step s e in
    let watched = map (λ (w : Watch). w.place) project.watches in
    let places : new.places ≡ watched = t.places ∙ r.places in
    let steps : new.steps ≡ steps_of (events ++ e ∷ []) = t.steps ∙ counted events e old.steps r.steps in
    let before : old.values ≡ numbers_at s.image watched = r.values ∙ ap (numbers_at s.image) r.places in
    let now : new.values ≡ numbers_at x.state.image watched = t.values ∙ ap (numbers_at x.state.image) places in
    let sets : change_lines 0 old.values new.values ≡ set_lines 0 project.watches s.image x.state.image =
    ap (λ (vs : List ℤ). change_lines 0 vs new.values) before
    ∙ ap (λ (us : List ℤ). change_lines 0 (numbers_at s.image watched) us) now
    ∙ sym (set_lines-changes 0 project.watches s.image x.state.image) in
    let answer = answer_lines x.answer in
    let told = told_faults x.state x.answer in
    let lines = answer ++ (map FaultLine told ++ change_lines 0 old.values new.values) in
    let same_lines : lines ≡ event_lines project.watches s x.state x.answer =
    ap (λ (fs : List Fault). answer ++ (map FaultLine fs ++ change_lines 0 old.values new.values)) (sym (new_faults s e))
    ∙ ap (λ (cs : List Line). answer ++ (map FaultLine (drop (length s.faults) x.state.faults) ++ cs)) sets in
    let same_step : at.step ≡ (if is_step e then steps_of events + 1 else steps_of events) =
    t.step_is ∙ t.steps ∙ ap (λ n. if is_step e then n + 1 else n) r.steps in
    let stamped : stamp at.tick at.step lines ≡ lines_of_event project.watches s (steps_of events) e =
    ap (λ n. stamp n at.step lines) t.tick ∙ ap (λ n. stamp x.state.tick n lines) same_step ∙ ap (stamp x.state.tick (if is_step e then steps_of events + 1 else steps_of events)) same_lines in
    record {
      run = record {
        controller = record {
          valid = r.valid;
          counted = t.spent ∙ ap (λ n. n + 1) r.counted ∙ sym (length-append events (e ∷ []));
          represents = subst (λ (y : State). RepresentsController new.controller y) (sym (run_more project events e)) t.represents;
        };
        names = t.names ∙ r.names;
        steps = steps;
        places = places;
        values = t.values ∙ ap (λ (y : State). numbers_at y.image new.places) (sym (run_more project events e));
        watched = subst (λ (ps : List Place). AreWatched ps new.controller.parts.image.watched) (sym t.places) (subst (AreWatched old.places) (sym t.watched) r.watched);
        none_hit = t.none_hit;
      };
      log = t.log ∙ ap (with_lines start) (stamped ∙ sym (append-nil (lines_of_event project.watches s (steps_of events) e)));
    }
