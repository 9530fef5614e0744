-- A law of the stages of every run, at a state that a journal leads to.
use Rattle.std.proofs.Common.{List, [], ◌∷◌, ◌++◌, subst}
use Rattle.std.specs.List.{AllByRecursion}
use Rattle.spec_machine.specs.declared.event.Event.{Event}
use Rattle.spec_machine.specs.Machine.{step, run_from}
use Rattle.spec_machine.specs.Project.{Project}
use Rattle.spec_machine.specs.State.{State, start}
use Rattle.spec_schedule.specs.Stages.{Stage, stages, stages_from}
use Rattle.spec_reach.proofs.Reached.{IsReached}

abbrev pub stage : State → Event → Stage
stage s e = record { before = s; entry = (step s e).answer; after = (step s e).state }

module _ (P : Stage → Type 0) where
  last_of : (s : State) (es : List Event) (e : Event) → AllByRecursion P (stages_from s (es ++ e ∷ [])) → P (stage (run_from s es) e)
  last_of s [] e h = h.0
  last_of s (x ∷ es) e h = last_of (step s x).state es e h.1

  pub at_stage : (p : Project) → ((journal : List Event) → AllByRecursion P (stages p journal)) → (s : State) (e : Event) → IsReached p s → P (stage s e)
  at_stage p all s e h = subst (λ (x : State). P (stage x e)) h.is (last_of (start p) h.journal e (all (h.journal ++ e ∷ [])))
