-- Nothing was counted, and nothing was made.
use Rattle.std.proofs.Common.{sym, ◌∙◌}
use Rattle.lgx_lanes.proofs.InStep.{nothing_made}
use Rattle.lgx_lanes.proofs.Numbers.{none_above}
use Rattle.lgx_lanes.proofs.locked_run.LockedRun.new.Goals as goal

pub invariant_of-result : goal.invariant_of-result
invariant_of-result g c =
    let none = nothing_made g.I.Input.project g.I.Input.script (g.R.Recorded.progress c.args.recorder) c.requires.under_way c.requires.opened in (
      c.requires.history,
      record {
        acted = c.requires.books.0 ∙ sym none.0;
        stepped = c.requires.books.1 ∙ sym none.1;
        spent = λ some. absurd (none_above c.args.ends.total c.requires.books.2 some);
      },
    )
