-- By recursion over the events.
use Rattle.spec_machine.proofs.TraceEvents.{traces_keep_events}
use Rattle.spec_machine.proofs.trace_laws.traces_keep_events.Goals as goal

pub returns : goal.returns
returns c = traces_keep_events
