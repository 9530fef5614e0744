use Rattle.std.proofs.Common.{◌∷◌, [], ◌++◌, ap, ◌∙◌}
use Rattle.lgx_rung.specs.Text.{canon_tokens, list_tokens}
use Rattle.lgx_neutral.proofs.Writing.{rung_text}
use Rattle.lgx_neutral.proofs.write.write_rung.Goals as goal

pub returns : goal.returns
returns c =
    c.in_ok-push.ensures.items
    ∙ ap (λ x. x ++ 59 ∷ []) (c.in_ok-write_list.ensures ∙ ap (λ x. x ++ canon_tokens (list_tokens c.args.rung.now)) c.new-text.ensures.items)
    ∙ rung_text c.args.rung.now
