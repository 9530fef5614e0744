use Rattle.std.proofs.Common.{◌∙◌, sym, length, eqb-true}
use Rattle.spec_language.specs.declared.tag.Found.{Found}
use Rattle.spec_language.specs.Resolution.{in_form, operands}
use Rattle.lgx_tags.specs.Chains.{found_at}
use Rattle.lgx_tags.proofs.ReadingAnswers.{lies}
use Rattle.lgx_tags.proofs.SpelledForms.{spelled_alone}
use Rattle.lgx_tags.proofs.spelled.find_alone.Goals as goal

pub returns-clause-answer : goal.returns-clause-answer
returns-clause-answer g c =
    rw c.found.ensures (spelled_alone operands c.args.types.now (g.N.Names.named c.args.names.now) c.args.text.now c.split_hashed.result.0.now c.split_hashed.result.1.now (found_at c.in_ok-spot.spot) c.split_hashed.ensures.tokens (eqb-true (length c.split_hashed.result.1.now) 0 (sym c.is_empty.ensures ∙ c.if-not-is_empty.false)) c.in_ok-spot.ensures.name c.in_ok-spot.ensures.named)

pub returns-clause-lies : goal.returns-clause-lies
returns-clause-lies g c =
    rw c.found.ensures ((c.requires.lie c.split_hashed.result.0.now (found_at c.in_ok-spot.spot) c.in_ok-spot.ensures.named).0)
