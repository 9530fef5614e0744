-- A run goes on with a stretch of processor steps.
use Rattle.std.proofs.Common.{◌≡◌, ℕ, zero, suc, ◌+◌, ◌-◌, ◌<◌, ◌≤◌, List, [], ◌∷◌, ◌++◌, length, replicate, refl, sym, ap, ◌∙◌, subst, append_assoc, arith}
use Rattle.std.proofs.lemmas.List.{append-nil, length-append, length-replicate, replicate_more}
use Rattle.spec_base.specs.declared.limits.TheConstants.{MAX_EVENTS}
use Rattle.spec_machine.specs.declared.answer.Moment.{Moment}
use Rattle.spec_machine.specs.declared.event.Event.{Event}
use Rattle.spec_machine.specs.declared.event.Event.TheVariants.{Cpu}
use Rattle.spec_machine.specs.Machine.{OfStep, run, trace}
use Rattle.spec_machine.specs.Project.{Project}
use Rattle.spec_machine.specs.ProcessorStep.{processor_step}
use Rattle.spec_machine.specs.State.{State, start}
use Rattle.spec_reach.proofs.Reached.{run_more}
use Rattle.lgx_steps.specs.declared.parts.ControllerParts.{ControllerParts}
use Rattle.lgx_steps.specs.declared.begins.Begins.{Begins}
use Rattle.lgx_steps.specs.declared.stretch.Stretch.{Stretch}
use Rattle.lgx_steps.specs.PartsView.{view_of as parts_of}
use Rattle.lgx_steps.specs.Represents.{RepresentsState}
use Rattle.lgx_steps.specs.Stretches.{StretchGives as PartsStretch, after_steps, moment_after}
use Rattle.lgx_steps.proofs.PlainSteps.{one-more-step}
use Rattle.lgx_core.specs.ControllerView.{ControllerView, view_of}
use Rattle.lgx_core.specs.Represents.{RepresentsController, IsController, GoesOnBy}
use Rattle.lgx_core.specs.Gives.{StretchGives}
use Rattle.lgx_core.proofs.Runs.{trace-more}

-- ---- runs with so many processor steps more

module _ (p : Project) (events : List Event) where
  one-more : (k : ℕ) → events ++ replicate (suc k) Cpu ≡ (events ++ replicate k Cpu) ++ Cpu ∷ []
  one-more k =
      let next : k + 1 ≡ suc k = omega arith in
      let last : replicate k Cpu ++ Cpu ∷ [] ≡ replicate (suc k) Cpu = replicate_more k Cpu ∙ ap (λ n. replicate n Cpu) next in
      ap (λ xs. events ++ xs) (sym last) ∙ sym (append_assoc events (replicate k Cpu) (Cpu ∷ []))

  pub run-steps : (k : ℕ) → run p (events ++ replicate k Cpu) ≡ after_steps k (run p events)
  run-steps zero = ap (run p) (append-nil events)
  run-steps (suc k) =
      ap (run p) (one-more k)
      ∙ (run_more p (events ++ replicate k Cpu) Cpu
      ∙ (ap (λ (s : State). (processor_step s).state) (run-steps k)
      ∙ sym (one-more-step k (run p events))))

  pub trace-steps : (k : ℕ) → trace p (events ++ replicate (suc k) Cpu) ≡ trace p (events ++ replicate k Cpu) ++ OfStep (moment_after k (run p events)) ∷ []
  trace-steps k =
      ap (trace p) (one-more k)
      ∙ (trace-more (start p) (events ++ replicate k Cpu) Cpu
      ∙ ap (λ (s : State). trace p (events ++ replicate k Cpu) ++ OfStep (processor_step s).answer ∷ []) (run-steps k))

module _ (old now : ControllerView) (b : Begins) (x : Stretch) where
  -- whatever state was represented, so the runs go on
  pub goes-on-by : 0 < x.steps → now.spent ≡ old.spent + x.steps → ((s : State) → RepresentsController old s → StretchGives now b x s) → GoesOnBy old now x
  goes-on-by some counted gives p events h =
      let g : StretchGives now b x (run p events) = gives (run p events) h.represents in
      let longer : length (events ++ replicate x.steps Cpu) ≡ length events + x.steps = length-append events (replicate x.steps Cpu) ∙ ap (λ k. length events + k) (length-replicate x.steps Cpu) in
      let many : suc (x.steps - 1) ≡ x.steps = omega arith in
      record {
        stands = record {
          valid = h.valid;
          counted = counted ∙ (ap (λ k. k + x.steps) h.counted ∙ sym longer);
          represents = subst (λ (s : State). RepresentsController now s) (sym (run-steps p events x.steps)) g.represents;
        };
        answers =
            subst (λ n. trace p (events ++ replicate n Cpu) ≡ trace p (events ++ replicate (x.steps - 1) Cpu) ++ OfStep x.last ∷ []) many
            (trace-steps p events (x.steps - 1) ∙ ap (λ (m : Moment). trace p (events ++ replicate (x.steps - 1) Cpu) ++ OfStep m ∷ []) (sym g.is_stretch.last));
      }

module _ (old now : ControllerView) (x : Stretch) where
  -- it still stands for a run
  pub still-by : GoesOnBy old now x → IsController old → IsController now
  still-by goes i = record { project = i.project; events = i.events ++ replicate x.steps Cpu; stands = (goes i.project i.events i.stands).stands }

-- ---- from the parts to the whole

module _ (old now : ControllerParts) (spent : ℕ) (b : Begins) (x : Stretch) (l : spent + x.steps ≤ MAX_EVENTS) (gives : (n : ℕ) (s : State) → RepresentsState n (parts_of old) s → PartsStretch n (parts_of now) b x s) where
  pub stretch-gives : (s : State) → RepresentsController (view_of old spent) s → StretchGives (view_of now (spent + x.steps)) b x s
  stretch-gives s h = let g = gives spent s h.parts in record { represents = record { room = l; parts = g.represents }; is_stretch = g.is_stretch }

  pub stretch-goes : 0 < x.steps → GoesOnBy (view_of old spent) (view_of now (spent + x.steps)) x
  stretch-goes some = goes-on-by (view_of old spent) (view_of now (spent + x.steps)) b x some refl stretch-gives

-- one that is opened
module _ (parts : ControllerParts) (spent : ℕ) (now : ControllerView) (e : view_of parts spent ≡ now) where
  pub has-room : (n most : ℕ) → n ≤ most → now.spent + most ≤ MAX_EVENTS → spent + n ≤ MAX_EVENTS
  has-room n most fewer room = let same : spent ≡ now.spent = ap (λ (v : ControllerView). v.spent) e in omega arith

  pub counted-by : (n : ℕ) → spent + n ≡ now.spent + n
  counted-by n = ap (λ (v : ControllerView). v.spent + n) e

  pub going-by : (v : ControllerView) (x : Stretch) → GoesOnBy (view_of parts spent) v x → GoesOnBy now v x
  going-by v x h = subst (λ (u : ControllerView). GoesOnBy u v x) e h
