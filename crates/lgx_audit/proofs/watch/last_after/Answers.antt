use Rattle.std.proofs.Common.{◌∙◌, sym}
use Rattle.lgx_audit.proofs.Watched.{candidate_within}
use Rattle.lgx_audit.proofs.watch.last_after.Goals as goal

pub stays_last-requires-clause-last : goal.stays_last-requires-clause-last
stays_last-requires-clause-last c u h = candidate_within _ c.args.e.now c.args.last c.requires.within c.requires.last u (sym c.candidate.ensures ∙ h)
