use Rattle.std.proofs.Common.{◌≡◌, ◌<◌, [], ◌∷◌, ◌++◌, length, ap, sym, ◌∙◌, subst, IsTrue, arith}
use Rattle.std.specs.List.{list_all}
use Rattle.std.proofs.lemmas.Bool.Decides.{nat_tests}
use Rattle.lgx_rung.specs.Joined.{operands_in}
use Rattle.lgx_rung.specs.Tokens.{is_operand}
use Rattle.lgx_rung.proofs.Joined.{with_operand, with_some, with_none, operand_added, operands_kept}
use Rattle.lgx_rung.proofs.texts.Texts.push.Goals as goal
use Rattle.lgx_rung.proofs.texts.Texts.push.Goals.{then-not-is_empty, else-not-is_empty}

-- the bytes that are there in the end
added : (c : goal.In_ok-extend_from_slice) → c.extend_from_slice.new.self.items ≡ with_operand c.self.inside.joined.items c.args.text.now
added c =
    let text = c.args.text.now in
    let old = c.reserve.new.self.items in
    c.in_ok-extend_from_slice.ensures.ok
    ∙ elim c.if-not-is_empty.branch [
      | then-not-is_empty w ↦
          let some : 0 < length old = grind (arith, nat_tests) in
          ap (λ s. s.joined.items ++ text) w.self-inside-is ∙ ap (λ x. x ++ text) w.push_reserved.ensures.items ∙ with_some old text some
      | else-not-is_empty w ↦
          let none : length old ≡ 0 = grind (arith, nat_tests) in
          ap (λ s. s.joined.items ++ text) w.self-inside-is ∙ with_none old text none
    ]
    ∙ ap (λ x. with_operand x text) c.reserve.ensures.items

pub invariant_of-self-2 : goal.invariant_of-self-2
invariant_of-self-2 c =
    subst (λ x. IsTrue (list_all is_operand (operands_in x))) (sym (added c)) (operands_kept c.self.inside.joined.items c.args.text.now c.self.invariant c.requires)

pub returns-clause-added : goal.returns-clause-added
returns-clause-added c =
    ap operands_in (added c) ∙ operand_added c.self.inside.joined.items c.args.text.now c.requires ∙ ap (λ x. x ++ c.args.text.now ∷ []) c.self.view_is
