-- A test more, and what follows it.
use Rattle.std.proofs.Common.{refl, ◌∙◌, ap}
use Rattle.std.specs.Prelude.{Some, codes}
use Rattle.spec_text.specs.TextLines.{words}
use Rattle.lgx_question.specs.Reading.{seen}
use Rattle.lgx_question.proofs.ReadTests.{ends_alone, goes_on, ends_program, word_differs, word_equals}
use Rattle.lgx_question.proofs.tests.never_of.Goals as goal

pub returns-in_default-next_word : goal.returns-in_default-next_word
returns-in_default-next_word c =
    ap Some c.found_never.ensures
    ∙ ends_alone c.args.names.now (words c.args.text.now) (words c.loop-test.rest.now) (seen c.loop-test.tests.items c.loop-test.missing) _ c.in-Some.test (words c.in-Some.after.now)
    c.loop-test.invariant c.in-Some.ensures.some (c.in_default-next_word.ensures.none refl) c.in_ok-missing.ensures

pub returns-then-ne : goal.returns-then-ne
returns-then-ne c =
    c.in_program.ensures
    ∙ ends_program c.args.names.now (words c.args.text.now) (words c.loop-test.rest.now) (seen c.loop-test.tests.items c.loop-test.missing) _ c.in-Some.test (words c.in-Some.after.now) c.in-Some-next_word.word.now (words c.in-Some-next_word.more.now)
    c.loop-test.invariant c.in-Some.ensures.some c.in-Some-next_word.ensures.some (word_differs c.in-Some-next_word.word.now (codes "and") c.as_slice.result.now c.ne.result c.ne.ensures c.as_slice.ensures c.if-ne.true) c.in_ok-missing.ensures

pub loop-test-preserved : goal.loop-test-preserved
loop-test-preserved c =
    goes_on c.args.names.now (words c.args.text.now) (words c.loop-test.rest.now) (seen c.loop-test.tests.items c.loop-test.missing) _ c.in-Some.test (words c.in-Some.after.now) c.in-Some-next_word.word.now (words c.in-Some-next_word.more.now)
    c.loop-test.invariant c.in-Some.ensures.some c.in-Some-next_word.ensures.some (word_equals c.in-Some-next_word.word.now (codes "and") c.as_slice.result.now c.ne.result c.ne.ensures c.as_slice.ensures c.if-ne.false) c.in_ok-missing.ensures
