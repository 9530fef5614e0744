use Rattle.std.proofs.Common.{◌≡◌, ℕ, false, true, sym, ◌∙◌, ap}
use Rattle.lgx_num.specs.Name.{is_name}
use Rattle.spec_language.specs.OperandForm.{are_digits}
use Rattle.spec_language.specs.Resolution.{find_bit}
use Rattle.lgx_tags.proofs.TagNames.{not_true}
use Rattle.lgx_tags.proofs.Digits.{dotted_digits, dotted_none}
use Rattle.lgx_tags.proofs.subscript.find_dotted.Goals as goal

pub returns-in-None : goal.returns-in-None
returns-in-None c =
    let w = c.args.word.now in
    let no : is_name w ≡ false = sym (not_true (is_name w) c.in-None.ensures.found.1) in
    let digits : are_digits 10 w ≡ true = sym c.are_digits.ensures ∙ c.if-are_digits.true in
    c.find_bit.ensures ∙ ap (λ (n : ℕ). find_bit c.args.found n) c.capped_number.ensures ∙ sym (dotted_digits c.args.types.now c.args.found w no digits)

pub returns-in-None-2 : goal.returns-in-None-2
returns-in-None-2 c =
    let w = c.args.word.now in
    let no : is_name w ≡ false = sym (not_true (is_name w) c.in-None-2.ensures.found.1) in
    let digits : are_digits 10 w ≡ false = sym c.are_digits.ensures ∙ c.if-are_digits.false in
    sym (dotted_none c.args.types.now c.args.found w no digits)
