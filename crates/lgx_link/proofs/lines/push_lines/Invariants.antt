use Rattle.std.proofs.Common.{◌≡◌, ◌++◌, drop}
use Rattle.std.specs.Prelude.{flat_map}
use Rattle.spec_text.specs.ReportText.{line_text}
use Rattle.lgx_link.proofs.lines.push_lines.Given as goal

abbrev pub invariant-loop-i : goal.invariant-loop-i
invariant-loop-i l =
    l.text.items ++ flat_map (λ s. l.letter ++ line_text l.names s) (drop l.i l.log.lines) ≡ l.initial.text.items ++ flat_map (λ s. l.letter ++ line_text l.names s) (drop l.from l.log.lines)
