-- What a turn of a lane does to a recorder.
use Rattle.std.specs.Prelude.{◌≡◌, ℕ, ◌+◌, List, [], ◌∷◌, ◌++◌, true, false, None, IsSomeAnd, IsTrue}
use Rattle.spec_machine.specs.declared.event.Event.{Event}
use Rattle.spec_machine.specs.declared.event.Event.TheVariants.{Act}
use Rattle.spec_machine.specs.Events.{is_accept, steps_of}
use Rattle.spec_machine.specs.Project.{Project}
use Rattle.spec_text.specs.Scripts.{Script}
use Rattle.spec_lanes.specs.Turns.{due_action, next_of, is_spent, paced_step}
use Rattle.spec_lanes.specs.Laws.{with_one_more}
use Rattle.lgx_lanes.specs.declared.turn.Turn.{Turn}
use Rattle.lgx_lanes.specs.Turns.{MatchTurn}
use Rattle.lgx_shared.specs.RecorderView.{RecorderView}
use Rattle.lgx_shared.specs.Follows.{journal_of}

-- these events were recorded, the lanes have these counts, and all else is as before
pub record Makes (old new : RecorderView) (events : List Event) (done : List ℕ) : Type 0 where
  pub journal : journal_of new ≡ journal_of old ++ events
  pub counts : new.counts ≡ done
  pub script : new.script ≡ old.script
  pub ran : new.ran ≡ old.ran

-- An action that is due is made, as the only event, unless it is an accept without memory, which leaves all as it was. With
-- none due a processor step is made, and its tick, until the steps are spent; then nothing is, and the lane has none left.
abbrev pub Serves : Project → Script → ℕ → RecorderView → Turn → RecorderView → Type 0
Serves project script lane old turn new =
    let due = due_action project script (journal_of old) lane in
    let spent = is_spent project script (journal_of old) in
    MatchTurn turn
    (IsSomeAnd due (λ action. Makes old new (Act lane action ∷ []) (with_one_more old.counts lane)))
    ((due ≡ None) × (spent ≡ false) × Makes old new (paced_step script.pace (steps_of (journal_of old) + 1)) old.counts)
    ((due ≡ None) × (spent ≡ true) × (next_of script (journal_of old) lane ≡ None) × (new ≡ old))
    (IsSomeAnd due (λ action. IsTrue (is_accept action)) × (new ≡ old))
