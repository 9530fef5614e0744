use Rattle.std.proofs.Common.{◌≡◌, ◌<◌, ◌∷◌, [], true, length, drop, get_or, ap, sym, ◌∙◌, arith}
use Rattle.lgx_rung.specs.Tokens.{in_run, tokens_from}
use Rattle.lgx_neutral.proofs.Runs.{run_ended, run_moves}
use Rattle.lgx_neutral.proofs.lexer.Lexer.next.Goals as goal

pub returns-then-in_run-clause-tokens : goal.returns-then-in_run-clause-tokens
returns-then-in_run-clause-tokens c =
    let text = c.args.self.now.text.now in
    let inside = c.args.self.now.inside in
    let at = c.after_blanks-at.result in
    let end = c.after_run-end.result in
    let begins : in_run inside (get_or text at 0) ≡ true = sym c.in_run.ensures ∙ c.if-in_run.true in
    let here : at < length text = omega arith in
    let some : at < end = run_moves text inside at end c.after_run-end.ensures.ahead here begins c.after_run-end.ensures.stops in
    c.after_blanks-at.ensures.tokens inside
    ∙ c.after_run-end.ensures.tokens
    ∙ run_ended text inside at end some c.after_run-end.ensures.within c.after_run-end.ensures.stops
    ∙ ap (λ t. record { at = at; token = t } ∷ tokens_from (drop end text) inside end []) (sym c.of_run-token.ensures.token)
