use mir.Val.{of_z, to_z}
use Rattle.std.proofs.Common.{◌≡◌, [], ◌∷◌, ◌++◌, List, length, get_or, take, take_all, ap, subst, arith}
use Rattle.std.specs.Prelude.{ℤ, pos}
use Rattle.std.specs.Int.{w32}
use Rattle.std.proofs.lemmas.Int.{ints, to_z-of_z}
use Rattle.std.proofs.lemmas.List.{length-take-le}
use Rattle.spec_machine.specs.declared.event.Event.{Event}
use Rattle.spec_base.specs.declared.limits.TheConstants.{OWN_LANE}
use Rattle.spec_machine.specs.declared.event.Event.TheVariants.{Act}
use Rattle.spec_machine.specs.declared.event.Action.TheVariants.{WordIn}
use Rattle.spec_link.specs.Links.{words_from}
use Rattle.lgx_record.specs.Records.{Records}
use Rattle.lgx_link.proofs.WordsCounted.{in_more, spent_after, words_counted}
use Rattle.lgx_link.proofs.events.words_in.Goals as goal

pub put_word-requires : goal.put_word-requires
put_word-requires c =
    let ws = c.args.words.now in
    let n = c.loop-word.word in
    let some = c.loop-word.invariant.some in
    let now = c.loop-word.invariant.records some.project some.events some.records in
    let spent = spent_after c.args.recording.now c.loop-word.recording some.project some.events (words_from c.args.input.now 0 (take n ws)) some.records now in
    let many = words_counted c.args.input.now 0 (take n ws) in
    let few = length-take-le n ws (omega arith) in
    omega arith

pub loop-word-preserved : goal.loop-word-preserved
loop-word-preserved c =
    let ws = c.args.words.now in
    let n = c.loop-word.word in
    let input = c.args.input.now in
    let v = get_or ws n (pos 0) in
    let same : to_z w32 (of_z w32 v) ≡ v = grind (arith, ints, to_z-of_z) in
    record {
      some = c.loop-word.invariant.some;
      records = λ project events h.
          let before = events ++ words_from input 0 (take n ws) in
          let P : List Event → Type 0 = λ es. Records c.put_word.new.recording project es in
          let made = subst (λ (x : ℤ). P (before ++ Act OWN_LANE (WordIn input n x) ∷ [])) same (c.in_ok-put_word.ensures project before (c.loop-word.invariant.records project events h)) in
          subst P (in_more events input ws n (pos 0) (omega arith)) made;
    }

pub returns-clause-records : goal.returns-clause-records
returns-clause-records c = λ project events h.
    let all = take_all c.loop-word.word c.args.words.now (omega arith) in
    let P : List ℤ → Type 0 = λ ws. Records c.loop-word.recording project (events ++ words_from c.args.input.now 0 ws) in
    subst P all (c.loop-word.invariant.records project events h)

pub returns-clause-spent : goal.returns-clause-spent
returns-clause-spent c =
    let ws = c.args.words.now in
    let n = c.loop-word.word in
    let some = c.loop-word.invariant.some in
    let now = c.loop-word.invariant.records some.project some.events some.records in
    let spent = spent_after c.args.recording.now c.loop-word.recording some.project some.events (words_from c.args.input.now 0 (take n ws)) some.records now in
    let many = words_counted c.args.input.now 0 (take n ws) in
    let all = ap length (take_all n ws (omega arith)) in
    omega arith
