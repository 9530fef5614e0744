use Rattle.std.proofs.Common.{append_assoc}
use Rattle.lgx_gen.specs.JournalText.{edit}
use Rattle.lgx_gen.proofs.DrawsOn.{next_state_is, next_draw_is}
use Rattle.lgx_gen.proofs.journal.push_edit.Goals as goal

pub returns-clause-text : goal.returns-clause-text
unfolding edit
returns-clause-text c =
    let n = c.args.draws.now in
    let second = next_draw_is 1 c.below.new.self 100 n c.below.ensures.state c.below-2.ensures.drawn in
    rw (c.in_ok-extend_from_slice.ensures.items, c.in_ok-push_numbered-2.ensures, c.in_ok-push_numbered.ensures, second, c.below.ensures.drawn) (simp append_assoc)

pub returns-clause-draws : goal.returns-clause-draws
returns-clause-draws c = next_state_is 1 c.below.new.self c.args.draws.now c.below.ensures.state c.below-2.ensures.state
