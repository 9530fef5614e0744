-- No action was made yet, and the shares are whole.
use Rattle.std.proofs.Common.{sym, ◌∙◌}
use Rattle.lgx_lanes.proofs.InStep.{nothing_made}
use Rattle.lgx_lanes.proofs.shared.Shared.share.Goals as goal

pub deal-requires-clause-none : goal.deal-requires-clause-none
deal-requires-clause-none g c = (nothing_made g.I.Input.project g.I.Input.script (g.R.Recorded.progress c.args.recorder) c.requires.under_way c.requires.opened).0

pub deal-requires-clause-parts : goal.deal-requires-clause-parts
deal-requires-clause-parts g c = (
  c.open-action_book.ensures.parts ∙ (sym c.requires.actions.1 ∙ c.requires.actions.2),
  c.open-step_book.ensures.parts ∙ (sym c.requires.steps.1 ∙ c.requires.steps.2),
  c.open-end_book.ensures.parts ∙ (sym c.requires.ends.1 ∙ c.requires.ends.2),
)

pub returns-clause-seen : goal.returns-clause-seen
returns-clause-seen g c = λ k d below. c.in_ok-passes.ensures.seen k d below ∙ c.requires.opened
