use Rattle.std.proofs.Common.{◌∷◌, [], ◌++◌, ap, ◌∙◌}
use Rattle.lgx_rung.specs.Mnemonics.{text_of}
use Rattle.lgx_rung.specs.Text.{canon_tokens, operands}
use Rattle.lgx_neutral.proofs.Writing.{instruction_text}
use Rattle.lgx_neutral.proofs.write.write_instruction.Goals as goal

pub returns : goal.returns
returns c =
    let old = c.args.text.now.items in
    let name = c.in_ok-extend_from_slice.ensures.items ∙ ap (λ x. old ++ x) c.text.ensures in
    let texts = c.in_ok-extend_from_slice-2.ensures.items ∙ ap (λ x. c.push.new.self.items ++ x) c.joined.ensures.canonical in
    c.in_ok-push-2.ensures.items
    ∙ ap (λ x. x ++ 41 ∷ []) (texts ∙ ap (λ x. x ++ canon_tokens (operands c.args.texts.now)) (c.in_ok-push.ensures.items ∙ ap (λ x. x ++ 40 ∷ []) name))
    ∙ instruction_text old (text_of c.args.op) c.args.texts.now
