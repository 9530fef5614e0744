-- Nothing of its history was seen.
use Rattle.std.proofs.Common.{Some, ap}
use Rattle.lgx_history.specs.Histories.{history_view}
use Rattle.lgx_shared.proofs.recorder.Recorder.new.Goals as goal

pub returns-clause-history : goal.returns-clause-history
returns-clause-history c =
    let name = c.in_ok-history.history.name in
    (name, ap (λ es. Some (history_view name es)) c.in_ok-history.ensures)
