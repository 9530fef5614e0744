use Rattle.std.proofs.Common.{◌≡◌, ℕ, [], ◌∷◌, ◌++◌, List, ap, sym, ◌∙◌, subst, append_assoc, arith}
use Rattle.std.proofs.lemmas.List.FromFn.{length-map-range_with_len}
use Rattle.spec_base.specs.declared.limits.TheConstants.{OWN_LANE}
use Rattle.spec_machine.specs.declared.event.Event.{Event}
use Rattle.spec_machine.specs.declared.event.Event.TheVariants.{Act}
use Rattle.spec_machine.specs.declared.event.Action.TheVariants.{WordOut}
use Rattle.spec_machine.specs.Machine.{run}
use Rattle.lgx_core.specs.ControllerView.{ControllerView}
use Rattle.lgx_core.specs.Represents.{RepresentsController}
use Rattle.lgx_record.specs.Records.{Records}
use Rattle.lgx_link.specs.Running.{outs}
use Rattle.lgx_link.proofs.WordsCounted.{outs_more, spent_after, told_more}
use Rattle.lgx_link.proofs.events.words_out.Goals as goal

pub apply-requires : goal.apply-requires
apply-requires c =
    let n = c.loop-word.word in
    let some = c.loop-word.invariant.some in
    let now = c.loop-word.invariant.records some.project some.events some.records in
    let spent = spent_after c.args.recording.now c.loop-word.recording some.project some.events (outs c.args.output.now n) some.records now in
    let many = length-map-range_with_len (λ (k : ℕ). Act OWN_LANE (WordOut c.args.output.now k)) 0 n in
    omega arith

pub loop-word-preserved : goal.loop-word-preserved
loop-word-preserved c =
    let n = c.loop-word.word in
    let output = c.args.output.now in
    let e : Event = Act OWN_LANE (WordOut output n) in
    record {
      some = c.loop-word.invariant.some;
      records = λ project events h.
          let P : List Event → Type 0 = λ es. Records c.apply.new.self project es in
          let Q : List ℕ → Type 0 = λ name. Records c.apply.new.self project ((events ++ outs output n) ++ Act OWN_LANE (WordOut name n) ∷ []) in
          let made = subst Q c.copied-conn.ensures (c.in_ok-apply.ensures.records project (events ++ outs output n) (c.loop-word.invariant.records project events h)) in
          subst P (append_assoc events (outs output n) (e ∷ []) ∙ ap (λ (es : List Event). events ++ es) (sym (outs_more output n))) made;
      words = λ project events h.
          let now = c.loop-word.invariant.records project events h in
          let stands = subst (λ (v : ControllerView). RepresentsController v (run project (events ++ outs output n))) (sym c.controller.ensures) now.controller.represents in
          told_more project events output n c.word_out-reply.result c.loop-word.words c.push_word.new.words (c.loop-word.invariant.words project events h) (c.word_out-reply.ensures (run project (events ++ outs output n)) stands) c.push_word.ensures.word;
      few = (let more = c.push_word.ensures.few in let before = c.loop-word.invariant.few in omega arith);
      range = c.push_word.ensures.range c.loop-word.invariant.range;
    }

pub returns-clause-records : goal.returns-clause-records
returns-clause-records c = λ project events h.
    let all : c.loop-word.word ≡ c.args.count = omega arith in
    let P : ℕ → Type 0 = λ n. Records c.loop-word.recording project (events ++ outs c.args.output.now n) in
    subst P all (c.loop-word.invariant.records project events h)

pub returns-clause-spent : goal.returns-clause-spent
returns-clause-spent c =
    let n = c.loop-word.word in
    let some = c.loop-word.invariant.some in
    let now = c.loop-word.invariant.records some.project some.events some.records in
    let spent = spent_after c.args.recording.now c.loop-word.recording some.project some.events (outs c.args.output.now n) some.records now in
    let many = length-map-range_with_len (λ (k : ℕ). Act OWN_LANE (WordOut c.args.output.now k)) 0 n in
    omega arith
