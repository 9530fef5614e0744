use Rattle.std.proofs.Common.{◌≡◌, map, take}
use Rattle.cmd_trace.proofs.trace_lines.program_names.Given as goal

abbrev pub invariant-loop-program : goal.invariant-loop-program
invariant-loop-program l = l.names.items ≡ map (λ x. x.name) (take l.program-index l.programs)
