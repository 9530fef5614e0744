-- What a turn adds to the sums that the books count.
use Rattle.std.proofs.Common.{◌≡◌, ℕ, ◌+◌, ◌%◌, Bool, true, false, cond, [], ◌∷◌, Option, Some, None, refl, ◌∙◌, ap}
use Rattle.std.specs.Prelude.{sum, nat_eq, IsSomeAnd}
use Rattle.spec_machine.specs.declared.event.Action.{Action}
use Rattle.spec_machine.specs.declared.event.Event.TheVariants.{Cpu, Tick, Act}
use Rattle.spec_machine.specs.Events.{steps_of}
use Rattle.spec_machine.specs.Project.{Project}
use Rattle.spec_text.specs.Scripts.{Script}
use Rattle.spec_lanes.specs.Turns.{due_action, is_spent, paced_step}
use Rattle.spec_lanes.specs.Laws.{with_one_more}
use Rattle.spec_lanes.proofs.Acting.{due_actions_serve}
use Rattle.spec_lanes.proofs.Appended.{steps_on}
use Rattle.lgx_lanes.specs.declared.turn.Turn.{Turn}
use Rattle.lgx_lanes.specs.declared.turn.Turn.TheVariants.{Did, Helped, Done, Memory}
use Rattle.lgx_lanes.specs.Progress.{Progress, IsUnderWay}
use Rattle.lgx_lanes.specs.Serves.{Goes, Serves, Adds}
use Rattle.lgx_lanes.proofs.Numbers.{plus_none}

steps_in : (pace n : ℕ) → steps_of (paced_step pace n) ≡ 1
steps_in pace n = go (nat_eq (n % pace) 0)
  where
    go : (b : Bool) → steps_of (cond b (Cpu ∷ Tick ∷ []) (Cpu ∷ [])) ≡ 1
    go true = refl
    go false = refl

module _ (project : Project) (script : Script) (lane : ℕ) (old new : Progress) (f : IsUnderWay project script old) where
  by_action : (o : Option Action) → due_action project script old.events lane ≡ o → IsSomeAnd o (λ action. Goes old new (Act lane action ∷ []) (with_one_more old.counts lane)) → Adds project script old Did new
  by_action None due m = absurd m
  by_action (Some a) due m =
      let laws = due_actions_serve project script old.counts old.events lane a f due in
      let steps = steps_on old.events (Act lane a ∷ []) in (
        ap sum m.counts_are ∙ laws.one_more,
        ap steps_of m.events_are ∙ (steps ∙ plus_none (steps_of old.events)),
        λ spent. ap (is_spent project script) m.events_are ∙ laws.still_spent spent,
      )

  pub adds : (turn : Turn) → Serves project script lane old turn new → Adds project script old turn new
  adds Did s = by_action (due_action project script old.events lane) refl s
  adds Helped s =
      let events = paced_step script.pace (steps_of old.events + 1) in
      let steps = steps_on old.events events in
      let one = steps_in script.pace (steps_of old.events + 1) in
      (ap sum s.2.counts_are, ap steps_of s.2.events_are ∙ (steps ∙ ap (λ k. steps_of old.events + k) one), s.1)
  adds Done s = (s.2, s.1)
  adds Memory s = s.1
