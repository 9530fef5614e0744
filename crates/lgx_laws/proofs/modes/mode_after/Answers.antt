use Rattle.std.proofs.Common.{ap, sym, ◌∙◌}
use Rattle.spec_schedule.specs.declared.trace.TraceEvent.{TraceEvent}
use Rattle.lgx_laws.specs.Modes.{mode_shown}
use Rattle.lgx_laws.proofs.modes.mode_after.Goals as goal

pub returns-in-Act : goal.returns-in-Act
returns-in-Act c =
    let a = c.in-Act in
    c.mode_by.ensures a.lane a.released a.program ∙ sym (ap (λ (e : TraceEvent). mode_shown e c.args.before) a.is)
