use Rattle.std.proofs.Common.{ℕ, List, get_or, pos, sym, ap, ◌∙◌, arith}
use Rattle.lgx_record.specs.Changes.{numbers_at}
use Rattle.lgx_record.proofs.Changed.{length-numbers, compared-nothing, not_written-anywhere}
use Rattle.lgx_record.proofs.changes.log_changes.Goals as goal

pub returns-then-not-is_hit-clause-compared : goal.returns-then-not-is_hit-clause-compared
returns-then-not-is_hit-clause-compared c = λ s h.
    let places = c.args.watches.now in
    let image = c.args.controller.now.parts.image in
    let few = c.requires.compared.many in
    compared-nothing c.args.log.now c.args.at c.args.values.now (numbers_at s.image places) (few ∙ sym (length-numbers s.image places))
    (λ k below. not_written-anywhere places c.args.values.now image c.requires.compared (c.is_hit.ensures.none c.if-not-is_hit.true) k (omega arith) ∙ ap (λ (bytes : List ℕ). get_or (numbers_at bytes places) k (pos 0)) h.parts.image)
