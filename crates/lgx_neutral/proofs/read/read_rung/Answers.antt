use Rattle.std.proofs.Common.{rules, ap, sym, ◌∙◌, length, Err}
use Rattle.lgx_rung.specs.Tokens.{read_tokens, read_rung}
use Rattle.lgx_neutral.specs.Answer.{AnswersRung}
use Rattle.lgx_neutral.specs.Lexing.{left}
use Rattle.lgx_neutral.specs.Reading.{reading}
use Rattle.lgx_neutral.proofs.Answers.{caused, spelled, every_rung, every_fault, refused}
use Rattle.lgx_neutral.proofs.read.read_rung.Goals as goal

pub loop-next-preserved : goal.loop-next-preserved
loop-next-preserved c =
    let len = length c.args.text.now in
    record {
      reads =
          c.in_default-take.ensures.goes_on len c.in-Some.next.at
          ∙ ap (λ ts. read_tokens len ts (reading c.loop-next.reader)) (sym c.in-Some.ensures.tokens)
          ∙ c.loop-next.invariant.reads;
      fit = c.in_default-take.ensures.fit;
      held = c.in_default-take.ensures.held;
    }

pub returns-in-Err : goal.returns-in-Err
returns-in-Err c =
    let text = c.args.text.now in
    let len = length text in
    let answer : AnswersRung (read_rung text) (Err c.at.result) =
    refused _ (read_rung text) c.in-Some.next.at len (left c.take.new.lexer) (reading c.take.new.reader) c.in-Err.refusal c.at.result (c.in-Err.ensures.goes_on len c.in-Some.next.at) c.at.ensures
    (ap (λ ts. read_tokens len ts (reading c.loop-next.reader)) (sym c.in-Some.ensures.tokens) ∙ c.loop-next.invariant.reads) in
    record {
      answer = answer;
      rung = tt;
      fault = caused text (Err c.at.result) answer;
      every_rung = every_rung text (Err c.at.result) answer;
      every_fault = every_fault text (Err c.at.result) answer;
    }

pub returns : goal.returns
returns c =
    let text = c.args.text.now in
    let answer : AnswersRung (read_rung text) c.map_err.result = search rules in
    record {
      answer = answer;
      rung = spelled text c.map_err.result answer;
      fault = caused text c.map_err.result answer;
      every_rung = every_rung text c.map_err.result answer;
      every_fault = every_fault text c.map_err.result answer;
    }
