-- Three words that are no test.
use Rattle.std.proofs.Common.{◌∷◌, List, ℕ, ◌∙◌, ap}
use Rattle.spec_text.specs.TextLines.{words}
use Rattle.lgx_question.proofs.ReadTests.{no_test_said}
use Rattle.lgx_question.proofs.tests.next_test.Goals as goal

pub returns-in_default-test_of-clause-none : goal.returns-in_default-test_of-clause-none
returns-in_default-test_of-clause-none c = λ e.
    let tag = c.in-Some.tag.now in
    let sign = c.in-Some-next_word.sign.now in
    let value = c.in-Some-next_word-2.value.now in
    let three = c.in-Some.ensures.some ∙ ap (λ (ws : List (List ℕ)). tag ∷ ws) (c.in-Some-next_word.ensures.some ∙ ap (λ (ws : List (List ℕ)). sign ∷ ws) c.in-Some-next_word-2.ensures.some) in
    no_test_said c.args.names.now (words c.args.text.now) tag sign value (words c.in-Some-next_word-2.after.now) three c.in_default-test_of.ensures
