use Rattle.std.proofs.Common.{◌≤◌, ◌+◌, length, subst, sym}
use Rattle.spec_base.specs.declared.limits.TheConstants.{MAX_FORKS}
use Rattle.lgx_rung.specs.Tree.{depth}
use Rattle.lgx_neutral.proofs.Fits.{closed_fits}
use Rattle.lgx_neutral.proofs.reader.Reader.close_fork.Goals as goal

pub close-requires : goal.close-requires
close-requires c =
    let fit : length c.args.self.now.forks + depth c.replace-last.result ≤ MAX_FORKS = subst (λ t. length c.args.self.now.forks + depth t ≤ MAX_FORKS) (sym c.replace-last.ensures.value) c.requires.fit in
    record { nested = closed_fits c.in-Some.fork c.pop.new.self c.args.self.now.forks c.replace-last.result c.in-Some.ensures.forks fit c.requires.forks_fit }
