-- An open controller: what its parts represent, and what a call on them gives of the whole.
use Rattle.std.proofs.Common.{◌≡◌, ℕ, ◌+◌, ◌<◌, ◌≤◌, [], refl, sym, ap, subst, arith}
use Rattle.spec_base.specs.declared.limits.TheConstants.{MAX_EVENTS}
use Rattle.spec_machine.specs.declared.answer.Moment.{Moment}
use Rattle.spec_machine.specs.declared.answer.TickReport.{TickReport}
use Rattle.spec_machine.specs.declared.answer.Outcome.{Outcome}
use Rattle.spec_machine.specs.declared.event.Action.{Action}
use Rattle.spec_machine.specs.Machine.{TraceEntry, OfStep, OfTick, OfAction, run}
use Rattle.spec_machine.specs.Project.{Project}
use Rattle.spec_machine.specs.State.{State, start, Answered}
use Rattle.spec_machine.specs.ValidProject.{IsValidProject}
use Rattle.spec_machine.specs.ProcessorStep.{processor_step}
use Rattle.spec_machine.specs.Ticks.{tick}
use Rattle.spec_machine.specs.Actions.{act}
use Rattle.lgx_image.specs.Grains.{ImageView, ChangesOnlyMarked}
use Rattle.lgx_image.proofs.Changes.{no_change_needs_marks}
use Rattle.lgx_steps.specs.declared.parts.ControllerParts.{ControllerParts}
use Rattle.lgx_steps.specs.PartsView.{view_of as parts_of}
use Rattle.lgx_steps.specs.Represents.{RepresentsState, IsLive, HasRoom, HasRoomFor}
use Rattle.lgx_steps.specs.Gives.{ViewGives}
use Rattle.lgx_steps.proofs.States.{later}
use Rattle.lgx_core.specs.ControllerView.{ControllerView, view_of}
use Rattle.lgx_core.specs.Represents.{RepresentsController, StandsFor, IsController, GoesOn}
use Rattle.lgx_core.specs.Gives.{Gives}
use Rattle.lgx_core.proofs.Runs.{goes-on}

-- ---- a new one

pub begins : (parts : ControllerParts) (p : Project) → IsValidProject p → RepresentsState 0 (parts_of parts) (start p) → StandsFor p [] (view_of parts 0)
begins parts p valid h = record { valid = valid; counted = refl; represents = record { room = omega arith; parts = h } }

pub begun : (parts : ControllerParts) (p : Project) → IsValidProject p → RepresentsState 0 (parts_of parts) (start p) → IsController (view_of parts 0)
begun parts p valid h = record { project = p; events = []; stands = begins parts p valid h }

-- ---- one that is opened

pub live : (parts : ControllerParts) (spent : ℕ) → IsController (view_of parts spent) → IsLive parts
live parts spent i = record { events = spent; state = run i.project i.events; room = i.stands.represents.room; represents = i.stands.represents.parts }

pub with-room : (parts : ControllerParts) (spent : ℕ) → IsController (view_of parts spent) → spent < MAX_EVENTS → HasRoom parts
with-room parts spent i l = record { events = spent; state = run i.project i.events; room = l; represents = i.stands.represents.parts }

pub with-room-for : (parts : ControllerParts) (spent count : ℕ) → IsController (view_of parts spent) → spent + count ≤ MAX_EVENTS → HasRoomFor count parts
with-room-for parts spent count i l = record { events = spent; state = run i.project i.events; room = l; represents = i.stands.represents.parts }

module _ (parts : ControllerParts) (spent : ℕ) (now : ControllerView) (e : view_of parts spent ≡ now) where
  pub opened : (s : State) → RepresentsController now s → RepresentsController (view_of parts spent) s
  opened s h = subst (λ (v : ControllerView). RepresentsController v s) (sym e) h

  pub room : now.spent < MAX_EVENTS → spent < MAX_EVENTS
  room l = subst (λ (v : ControllerView). v.spent < MAX_EVENTS) (sym e) l

  pub counted : spent + 1 ≡ now.spent + 1
  counted = ap (λ (v : ControllerView). v.spent + 1) e

  pub marked : (i : ImageView) → ChangesOnlyMarked parts.image i → ChangesOnlyMarked now.parts.image i
  marked i h = subst (λ (v : ControllerView). ChangesOnlyMarked v.parts.image i) e h

  pub going : (v : ControllerView) (entry : TraceEntry) → GoesOn (view_of parts spent) v entry → GoesOn now v entry
  going v entry h = subst (λ (u : ControllerView). GoesOn u v entry) e h

-- an image as before
pub unchanged : (old now : ImageView) → now ≡ old → ChangesOnlyMarked old now
unchanged old now e = subst (λ (i : ImageView). ChangesOnlyMarked old i) (sym e) (no_change_needs_marks old)

-- ---- the calls

module _ (old now : ControllerParts) (spent : ℕ) (l : spent < MAX_EVENTS) where
  pub step-gives : (m : Moment) → ((n : ℕ) (s : State) → RepresentsState n (parts_of old) s → ViewGives (n + 1) (parts_of now) m (processor_step s)) → (s : State) → RepresentsController (view_of old spent) s → Gives (view_of now (spent + 1)) m (processor_step s)
  step-gives m gives s h = let g = gives spent s h.parts in record { answers = g.answers; represents = record { room = omega arith; parts = g.represents } }

  pub step-goes : (m : Moment) → ((n : ℕ) (s : State) → RepresentsState n (parts_of old) s → ViewGives (n + 1) (parts_of now) m (processor_step s)) → GoesOn (view_of old spent) (view_of now (spent + 1)) (OfStep m)
  step-goes m gives = goes-on (view_of old spent) (view_of now (spent + 1)) (OfStep m) refl (λ s h. let g = step-gives m gives s h in record { answers = ap OfStep g.answers; represents = g.represents })

  pub tick-gives : (r : TickReport) → ((n : ℕ) (s : State) → RepresentsState n (parts_of old) s → ViewGives (n + 1) (parts_of now) r (tick s)) → (s : State) → RepresentsController (view_of old spent) s → Gives (view_of now (spent + 1)) r (tick s)
  tick-gives r gives s h = let g = gives spent s h.parts in record { answers = g.answers; represents = record { room = omega arith; parts = g.represents } }

  pub tick-goes : (r : TickReport) → ((n : ℕ) (s : State) → RepresentsState n (parts_of old) s → ViewGives (n + 1) (parts_of now) r (tick s)) → GoesOn (view_of old spent) (view_of now (spent + 1)) (OfTick r)
  tick-goes r gives = goes-on (view_of old spent) (view_of now (spent + 1)) (OfTick r) refl (λ s h. let g = tick-gives r gives s h in record { answers = ap OfTick g.answers; represents = g.represents })

  pub action-gives : (o : Outcome) (x : State → Answered Outcome) → ((n : ℕ) (s : State) → RepresentsState n (parts_of old) s → ViewGives (n + 1) (parts_of now) o (x s)) → (s : State) → RepresentsController (view_of old spent) s → Gives (view_of now (spent + 1)) o (x s)
  action-gives o x gives s h = let g = gives spent s h.parts in record { answers = g.answers; represents = record { room = omega arith; parts = g.represents } }

  pub action-goes : (o : Outcome) (lane : ℕ) (a : Action) → ((n : ℕ) (s : State) → RepresentsState n (parts_of old) s → ViewGives (n + 1) (parts_of now) o (act s lane a)) → GoesOn (view_of old spent) (view_of now (spent + 1)) (OfAction lane a o)
  action-goes o lane a gives = goes-on (view_of old spent) (view_of now (spent + 1)) (OfAction lane a o) refl (λ s h. let g = action-gives o (λ s. act s lane a) gives s h in record { answers = ap (OfAction lane a) g.answers; represents = g.represents })

-- an action that its parts don't count
pub one-later : (old now : ControllerParts) (o : Outcome) (x : State → Answered Outcome) → ((n : ℕ) (s : State) → RepresentsState n (parts_of old) s → ViewGives n (parts_of now) o (x s)) → (n : ℕ) (s : State) → RepresentsState n (parts_of old) s → ViewGives (n + 1) (parts_of now) o (x s)
one-later old now o x gives n s h = let g = gives n s h in record { answers = g.answers; represents = later n (parts_of now) (x s).state g.represents }
