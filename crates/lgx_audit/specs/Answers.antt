-- How the answer of a call relates to what its definition says.
use Rattle.std.specs.Prelude.{ℕ, List, ◌++◌, Result, Ok, Err}
use Rattle.spec_schedule.specs.declared.trace.TraceEvent.{TraceEvent}
use Rattle.lgx_audit.specs.declared.error.TraceFault.{TraceFault}
use Rattle.lgx_audit.specs.declared.error.TraceError.{TraceError}
use Rattle.lgx_audit.specs.declared.error.TraceError.TheVariants as reading
use Rattle.lgx_audit.specs.declared.error.AuditError.{AuditError}
use Rattle.lgx_audit.specs.declared.error.AuditError.TheVariants as judging

-- of a line that is refused; running out of memory says nothing
abbrev pub IfLine : TraceError → (TraceFault → Type 0) → Type 0
IfLine (reading.Line fault) P = P fault
IfLine reading.Memory P = Unit {0}

-- of a breach, by its law and its event; running out of memory says nothing
abbrev pub IfBreach : AuditError → (ℕ → ℕ → Type 0) → Type 0
IfBreach (judging.Breach law at) P = P law at
IfBreach judging.Memory P = Unit {0}

-- what is read of the later lines, after the events of the earlier ones
abbrev pub after_events : List TraceEvent → Result (List TraceEvent) TraceFault → Result (List TraceEvent) TraceFault
after_events es (Err fault) = Err fault
after_events es (Ok more) = Ok (es ++ more)
