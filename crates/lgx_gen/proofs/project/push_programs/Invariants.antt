use Rattle.std.proofs.Common.{◌≡◌, ◌*◌, ◌++◌}
use Rattle.lgx_gen.specs.Draws.{state_after}
use Rattle.lgx_gen.specs.ProjectText.{programs}
use Rattle.lgx_gen.proofs.project.push_programs.Given as goal

abbrev pub invariant-loop-number : goal.invariant-loop-number
invariant-loop-number l = record {
  text : l.text.items ≡ l.initial.text.items ++ programs l.initial.draws l.number;
  draws : l.draws ≡ state_after (4 * (32 * l.number)) l.initial.draws;
}
