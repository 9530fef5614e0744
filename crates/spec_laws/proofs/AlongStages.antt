-- The stages of a run, each from a state that a journal leads to.
use Rattle.std.proofs.Common.{List, [], ◌∷◌}
use Rattle.std.specs.List.{AllByRecursion}
use Rattle.spec_machine.specs.declared.event.Event.{Event}
use Rattle.spec_machine.specs.Machine.{step}
use Rattle.spec_machine.specs.Project.{Project}
use Rattle.spec_machine.specs.State.{State, start}
use Rattle.spec_schedule.specs.Stages.{Stage, stages, stages_from}
use Rattle.spec_reach.proofs.Reached.{IsReached, reached_start, reached_next}

abbrev pub stage : State → Event → Stage
stage s e = record { before = s; entry = (step s e).answer; after = (step s e).state }

module _ (p : Project) (P : Stage → Type 0) (here : (s : State) (e : Event) → IsReached p s → P (stage s e)) where
  along : (s : State) (es : List Event) → IsReached p s → AllByRecursion P (stages_from s es)
  along s [] h = tt
  along s (e ∷ es) h = (here s e h, along (step s e).state es (reached_next p s e h))

  pub each_stage : (journal : List Event) → AllByRecursion P (stages p journal)
  each_stage journal = along (start p) journal (reached_start p)
