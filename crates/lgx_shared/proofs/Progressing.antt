-- What a turn does to a recorder, by how far the lanes are.
use Rattle.std.proofs.Common.{ℕ, List, [], ◌∷◌, Option, Some, None, ap}
use Rattle.std.specs.Prelude.{IsSomeAnd}
use Rattle.spec_machine.specs.declared.event.Action.{Action}
use Rattle.spec_machine.specs.declared.event.Event.{Event}
use Rattle.spec_machine.specs.declared.event.Event.TheVariants.{Act}
use Rattle.spec_machine.specs.Project.{Project}
use Rattle.spec_text.specs.Scripts.{Script}
use Rattle.spec_lanes.specs.Turns.{due_action}
use Rattle.spec_lanes.specs.Laws.{with_one_more}
use Rattle.lgx_lanes.specs.declared.turn.Turn.{Turn}
use Rattle.lgx_lanes.specs.declared.turn.Turn.TheVariants.{Did, Helped, Done, Memory}
use Rattle.lgx_lanes.specs.Serves.{Goes, Serves as LanesServe}
use Rattle.lgx_shared.specs.RecorderView.{RecorderView}
use Rattle.lgx_shared.specs.Follows.{journal_of, progress_of}
use Rattle.lgx_shared.specs.Serves.{Makes, Serves}

module _ (project : Project) (script : Script) (lane : ℕ) (v w : RecorderView) where
  of_events : (events : List Event) (counts : List ℕ) → Makes v w events counts → Goes (progress_of v) (progress_of w) events counts
  of_events events counts m = record { events_are = m.journal; counts_are = m.counts }

  of_action : (o : Option Action) → IsSomeAnd o (λ a. Makes v w (Act lane a ∷ []) (with_one_more v.counts lane)) → IsSomeAnd o (λ a. Goes (progress_of v) (progress_of w) (Act lane a ∷ []) (with_one_more v.counts lane))
  of_action None m = absurd m
  of_action (Some a) m = of_events (Act lane a ∷ []) (with_one_more v.counts lane) m

  pub progresses : (turn : Turn) → Serves project script lane v turn w → LanesServe project script lane (progress_of v) turn (progress_of w)
  progresses Did s = of_action (due_action project script (journal_of v) lane) s
  progresses Helped s = (s.0, s.1, of_events _ _ s.2)
  progresses Done s = (s.0, s.1, ap progress_of s.3)
  progresses Memory s = (s.0, ap progress_of s.1)
