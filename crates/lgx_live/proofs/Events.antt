-- The lines of one event, in an empty log.
use Rattle.std.proofs.Common.{◌≡◌, List, [], ◌∷◌, ap, ◌∙◌}
use Rattle.spec_machine.specs.declared.event.Event.{Event}
use Rattle.spec_machine.specs.Project.{Project}
use Rattle.spec_machine.specs.ValidProject.{IsValidProject}
use Rattle.lgx_watch.specs.Kept.{KeptLines, no_lines, with_lines}
use Rattle.lgx_record.specs.Extends.{more_lines}
use Rattle.lgx_record.proofs.FewLines.{keeps_an_event}
use Rattle.lgx_live.specs.Session.{lines_with}

pub event_kept : (project : Project) (events : List Event) (e : Event) (es : List Event) (old log : KeptLines) → IsValidProject project → old ≡ no_lines → es ≡ e ∷ [] → log ≡ with_lines old (more_lines project events es) → log ≡ record { lines = lines_with project events (e ∷ []); lost = 0 }
event_kept project events e es old log valid empty is added =
    added
    ∙ ap (λ (k : KeptLines). with_lines k (more_lines project events es)) empty
    ∙ ap (λ (xs : List Event). with_lines no_lines (more_lines project events xs)) is
    ∙ keeps_an_event project events e valid
