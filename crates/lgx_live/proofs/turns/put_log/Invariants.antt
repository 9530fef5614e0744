use Rattle.std.proofs.Common.{take}
use Rattle.std.specs.Prelude.{flat_map}
use Rattle.spec_text.specs.ReportText.{line_text}
use Rattle.lgx_live.specs.Console.{Says}
use Rattle.lgx_live.proofs.Saying.{done}
use Rattle.lgx_live.proofs.turns.put_log.Given as goal

abbrev pub invariant-loop-i : goal.invariant-loop-i
invariant-loop-i g l = Says (g.C.Console.seen l.initial.console) (g.C.Console.seen l.console) (flat_map (line_text l.names) (take l.i l.log.lines)) done
