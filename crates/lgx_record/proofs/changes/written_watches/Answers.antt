use Rattle.std.proofs.Common.{◌≡◌, suc, ◌≤◌, subst, arith}
use Rattle.spec_base.specs.declared.limits.TheConstants.{MAX_IMAGE_BYTES}
use Rattle.lgx_record.proofs.Written.{IsJoined, join-goes-on, join-ends, join-ends-past}
use Rattle.lgx_record.proofs.changes.written_watches.Goals as goal

pub returns-in_default-checked_add : goal.returns-in_default-checked_add
returns-in_default-checked_add c =
    let image = c.args.controller.now.parts.image in
    let more = join-goes-on c.args.watches.now image c.loop-word.written c.of_word.result c.join.new.self c.loop-word.from c.in-Some.word c.loop-word.invariant c.in-Some.ensures c.of_word.ensures.members c.of_word.ensures.no_other c.join.ensures in
    let past : MAX_IMAGE_BYTES ≤ suc c.in-Some.word = omega (arith, c.in_default-checked_add.ensures) in
    join-ends-past c.args.watches.now image c.join.new.self (suc c.in-Some.word) c.requires.inside more past

pub returns : goal.returns
returns c = join-ends c.args.watches.now c.args.controller.now.parts.image c.loop-word.written c.loop-word.from c.loop-word.invariant c.in_default.ensures

pub loop-word-preserved : goal.loop-word-preserved
loop-word-preserved c =
    let image = c.args.controller.now.parts.image in
    let more = join-goes-on c.args.watches.now image c.loop-word.written c.of_word.result c.join.new.self c.loop-word.from c.in-Some.word c.loop-word.invariant c.in-Some.ensures c.of_word.ensures.members c.of_word.ensures.no_other c.join.ensures in
    let next : suc c.in-Some.word ≡ c.in-Some-checked_add.next = omega (arith, c.in-Some-checked_add.ensures) in
    subst (IsJoined c.args.watches.now image c.join.new.self) next more
