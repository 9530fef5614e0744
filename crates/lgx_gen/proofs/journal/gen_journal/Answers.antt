use Rattle.std.proofs.Common.{◌≡◌, refl, arith}
use Rattle.lgx_gen.specs.JournalText.{journal}
use Rattle.lgx_gen.proofs.DrawsOn.{state_after-none}
use Rattle.lgx_gen.proofs.JournalOn.{rounds-start, rounds-push, rounds_drawn}
use Rattle.lgx_gen.proofs.journal.gen_journal.Goals as goal

pub loop-number-init : goal.loop-number-init
loop-number-init c = record {
  text = rounds-start c.extend_from_slice.new.self.items c.of-draws.result;
  draws = state_after-none c.of-draws.result;
}

pub loop-number-preserved : goal.loop-number-preserved
loop-number-preserved c =
    let n = c.of-draws.result in
    let start = c.extend_from_slice.new.self.items in
    let before = c.loop-number.invariant in
    let after = c.in_ok-push_round.ensures in
    let more = rounds-push start n c.loop-number.number before.draws in
    let text = before.text in
    let line = after.text in
    record {
      text = cc;
      draws = rounds_drawn n c.loop-number.number before.draws after.draws;
    }

pub returns : goal.returns
unfolding journal
returns c =
    let done : c.loop-number.number ≡ 2000 = omega arith in
    rw (c.in_ok-extend_from_slice-2.ensures.items, c.loop-number.invariant.text, done, c.in_ok-extend_from_slice.ensures.items, c.in_ok-text.ensures.items, c.of-draws.ensures) refl
