use Rattle.std.proofs.Common.{◌≡◌, ◌*◌, ◌++◌}
use Rattle.lgx_gen.specs.Draws.{state_after}
use Rattle.lgx_gen.specs.ProjectText.{rung_lines}
use Rattle.lgx_gen.proofs.project.push_program.Given as goal

abbrev pub invariant-loop-rung : goal.invariant-loop-rung
invariant-loop-rung l = record {
  text : l.text.items ≡ l.initial.text.items ++ rung_lines l.initial.draws 0 l.rung;
  draws : l.draws ≡ state_after (4 * l.rung) l.initial.draws;
}
