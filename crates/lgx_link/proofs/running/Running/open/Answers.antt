use Rattle.std.proofs.Common.{true, ap, ◌∙◌, Option}
use Rattle.std.specs.Prelude.{ℕ, unwrap_or}
use Rattle.spec_link.specs.LinkText.{connection}
use Rattle.lgx_link.proofs.Links.{opened_link, words_known}
use Rattle.lgx_link.proofs.running.Running.open.Goals as goal

pub returns : goal.returns
returns c =
    let known = words_known (connection c.args.a true c.args.script.now.output) c.unwrap_or-words.result (c.unwrap_or-words.ensures ∙ ap (λ (o : Option ℕ). unwrap_or o 0) c.connection_words.ensures) in
    opened_link _ c.args.a c.args.b c.args.script.now c.in_ok-a.ensures c.in_ok-b.ensures c.copied.ensures c.copied-2.ensures known c.new.ensures c.new-2.ensures c.new-3.ensures.items
