use Rattle.std.proofs.Common.{◌≡◌, ◌++◌, drop}
use Rattle.lgx_chart.specs.Vcd.{changes_from}
use Rattle.lgx_chart.proofs.vcd.push_changes.Given as goal

abbrev pub invariant-loop-entry : goal.invariant-loop-entry
invariant-loop-entry l =
    l.text.items ++ changes_from l.view l.places l.last (drop l.entry-index l.entries) l.end ≡ l.initial.text.items ++ changes_from l.view l.places l.fn.begun l.entries l.end
