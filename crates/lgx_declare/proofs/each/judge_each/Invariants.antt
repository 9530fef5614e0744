use Rattle.std.proofs.Common.{◌≡◌, drop}
use Rattle.spec_project.specs.Faults.{first_from, first_of}
use Rattle.lgx_declare.proofs.each.judge_each.Given as goal

abbrev pub invariant-loop-i : goal.invariant-loop-i
invariant-loop-i g l = first_from (g.J.Judge.fault l.judge) l.i (drop l.i l.things) ≡ first_of (g.J.Judge.fault l.judge) l.things
