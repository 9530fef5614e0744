use Rattle.std.proofs.Common.{◌≡◌, ℕ, List}
use Rattle.spec_machine.specs.Project.{Project}
use Rattle.lgx_record.specs.IsRunOf.{IsRunOf}
use Rattle.lgx_live.specs.Session.{no_line_yet, after_all}
use Rattle.lgx_live.specs.Talks.{IsUnderWay, IsAt}
use Rattle.lgx_live.proofs.session.take_turns.Given as goal

abbrev pub invariant-loop : goal.invariant-loop
invariant-loop g l = record {
  count : l.pad.lines ≡ l.counter;
  all : (project : Project) → IsAt (IsRunOf l.initial.follow.run) l.initial.pad.events l.initial.pad.lines project no_line_yet
      → (lines : List (List ℕ)) × IsUnderWay project (g.C.Console.seen l.initial.console) (g.C.Console.seen l.console) lines × IsAt (IsRunOf l.follow.run) l.pad.events l.pad.lines project (after_all no_line_yet lines);
}
