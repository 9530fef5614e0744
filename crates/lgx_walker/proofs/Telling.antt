-- What is said of what was found.
use Rattle.std.proofs.Common.{◌≡◌, ℕ, ◌+◌, ◌≤◌, List, [], ◌∷◌, ◌++◌, length, replicate, Option, None, Some, refl, sym, ◌∙◌, ap, subst, arith}
use Rattle.std.specs.Prelude.{IsTrue}
use Rattle.std.proofs.Math.Nat.{div-le_self}
use Rattle.std.proofs.lemmas.List.{append_assoc}
use Rattle.spec_base.specs.declared.limits.TheConstants.{MAX_EVENTS, OWN_LANE}
use Rattle.spec_machine.specs.declared.event.Action.TheVariants.{ModeRun}
use Rattle.spec_machine.specs.declared.event.Event.{Event}
use Rattle.spec_machine.specs.declared.event.Event.TheVariants.{Cpu, Tick, Act}
use Rattle.spec_machine.specs.Events.{steps_of}
use Rattle.spec_machine.specs.Machine.{step, run}
use Rattle.spec_machine.specs.Project.{Project}
use Rattle.spec_machine.specs.ValidProject.{IsValidProject}
use Rattle.spec_text.specs.Scripts.{Script, is_script}
use Rattle.spec_lanes.specs.Turns.{most_steps, most_events}
use Rattle.spec_lanes.specs.Laws.{opening}
use Rattle.spec_lanes.proofs.Scripts.{proper_of}
use Rattle.spec_lanes.proofs.Serving.{few_events_serve}
use Rattle.spec_explore.specs.declared.question.Question.{Question}
use Rattle.spec_explore.specs.Questions.{IsNeverBefore}
use Rattle.spec_explore.proofs.Partials.{partial_journals_are_served}
use Rattle.spec_explore.proofs.Witnesses.{openings_witness}
use Rattle.lgx_explore.specs.declared.node.Next.{Next}
use Rattle.lgx_explore.specs.declared.found.Found.{Found}
use Rattle.lgx_explore.specs.declared.found.Found.TheVariants as found
use Rattle.lgx_explore.specs.Shown.{MayBeMade, AnAction, AStep, ATick}
use Rattle.lgx_explore.specs.Nodes.{IsOpened}
use Rattle.lgx_explore.specs.Found.{Tells}
use Rattle.lgx_walker.specs.declared.trail.Trail.{Trail}
use Rattle.lgx_walker.specs.declared.walker.Walker.{Walker}
use Rattle.lgx_walker.specs.Lines.{IsLineOf}
use Rattle.lgx_walker.specs.Told.{EndsShowing, IsFound, NeverHolds}
use Rattle.lgx_walker.specs.Trails.{trail_of, next_events, journal_of}
use Rattle.lgx_walker.specs.Walks.{Watches, Walks, walked}
use Rattle.lgx_walker.proofs.Walking.{placed_act}
use Rattle.lgx_walker.proofs.Windows.{CountsAre, counts_are}

-- ---- there are few events

few_events : (script : Script) → IsTrue (is_script script) → most_events script + 2 ≤ MAX_EVENTS
few_events script proper =
    let h = proper_of script proper in
    let a = h.actions in
    let b = h.steps in
    let c = div-le_self (most_steps script) script.pace in
    omega arith

pub few_found : (script : Script) (walker : Walker) (made : Next) (line : ℕ) (f : Found Walker) → f ≡ found.Shown walker made line → IsFound script f → length (journal_of script walker.trail.placed walker.trail.since) + 2 ≤ MAX_EVENTS
few_found script walker made line f is h =
    let tells : Tells walked h.project script h.question (found.Shown walker made line) = subst (Tells walked h.project script h.question) is h.tells in
    let journal = journal_of script walker.trail.placed walker.trail.since in
    let few = few_events_serve h.project script walker.trail.counts journal (partial_journals_are_served h.project script walker.trail.counts journal h.valid h.proper tells.partial) in
    let all = few_events script h.proper in
    omega arith

-- ---- a witness

ends_with : (p : Project) (script : Script) (q : Question) (t : Trail) (journal : List Event) (made : Next) (before : List Event) (e : Event) → CountsAre script t.counts journal → MayBeMade p script q journal made before e → journal ++ next_events script t made ≡ before ++ e ∷ []
ends_with p script q t journal _ _ _ are (AnAction lane action due window) = ap (λ (xs : List Event). journal ++ xs) (placed_act p script lane t.counts journal action are due)
ends_with p script q t journal _ _ _ are (AStep unspent window) = refl
ends_with p script q t journal _ _ _ are (ATick unspent two window) = sym (append_assoc journal (Cpu ∷ []) (Tick ∷ []))

pub told_shown : (p : Project) (script : Script) (q : Question) (walker : Walker) (made : Next) (line : ℕ) (f : Found Walker) (events : List Event) → f ≡ found.Shown walker made line → Tells walked p script q f → events ≡ journal_of script walker.trail.placed walker.trail.since ++ next_events script walker.trail made → EndsShowing p script q events line
told_shown p script q walker made line f events is told made_of =
    let tells : Tells walked p script q (found.Shown walker made line) = subst (Tells walked p script q) is told in
    let journal = journal_of script walker.trail.placed walker.trail.since in
    let s = tells.shown in
    record {
      before = s.before;
      event = s.event;
      is = made_of ∙ ends_with p script q walker.trail journal made s.before s.event (counts_are p script walker.trail.counts journal tells.partial) s.may;
      witness = s.witness;
    }

-- ---- the opening

pub opened : (p : Project) (script : Script) (q : Question) (walker : Walker) (o : Option ℕ) → o ≡ None → walker.trail ≡ trail_of (replicate (length script.lanes) 0) [] 0 0 → Watches walker.watcher p opening → IsLineOf p q (step (run p []) (Act OWN_LANE ModeRun)) o → IsOpened Walks walked script q p walker
opened p script q walker o none trail watches line = record {
  clear = (subst (IsLineOf p q (step (run p []) (Act OWN_LANE ModeRun))) none line, tt);
  stands_for = record {
    counts_are = ap (λ t. t.counts) trail;
    steps_are = ap (λ t. t.steps) trail;
    watches = watches;
  };
  kept = ap (λ t. (t.counts, journal_of script t.placed t.since)) trail;
}

pub opening_shown : (p : Project) (script : Script) (q : Question) (walker : Walker) (o : Option ℕ) (line : ℕ) (events : List Event) → IsValidProject p → IsTrue (is_script script) → o ≡ Some line → walker.trail ≡ trail_of (replicate (length script.lanes) 0) [] 0 0 → IsLineOf p q (step (run p []) (Act OWN_LANE ModeRun)) o → events ≡ journal_of script walker.trail.placed walker.trail.since → EndsShowing p script q events line
opening_shown p script q walker o line events valid proper some trail first made = record {
  before = [];
  event = Act OWN_LANE ModeRun;
  is = made ∙ ap (λ t. journal_of script t.placed t.since) trail;
  witness = openings_witness p script q line valid proper (subst (IsLineOf p q (step (run p []) (Act OWN_LANE ModeRun))) some first);
}

-- its journal has one event
pub opening_is_short : (script : Script) (t : Trail) → t ≡ trail_of (replicate (length script.lanes) 0) [] 0 0 → length (journal_of script t.placed t.since) + 2 ≤ MAX_EVENTS
opening_is_short script t trail = let one = ap (λ x. length (journal_of script x.placed x.since)) trail in omega arith

pub none_before : (p : Project) (script : Script) (q : Question) → IsNeverBefore p script q 0
none_before p script q before e m lt = absurd (omega arith)

pub never_holds : (p : Project) (script : Script) (q : Question) → ((k : ℕ) → IsNeverBefore p script q k) → NeverHolds p script q
never_holds p script q h = record {
  before = h;
  never = λ before after e complete window.
      h (steps_of (before ++ e ∷ []) + 1) before e (record { after = after; counts = _; partial = complete.partial; window = window }) (omega arith);
}
