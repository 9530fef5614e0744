-- Whether a text is an operand form, by what may come next.
use Rattle.std.specs.Prelude.{ℕ, zero, suc, ◌+◌, Bool, true, false, ◌==◌, List, Option, Some, None, if◌then◌else◌}
use Rattle.lgx_num.specs.Name.{is_name}
use Rattle.spec_language.specs.OperandForm.{is_tag_name, are_digits, Token}
use Rattle.lgx_tags.specs.Parts.{OperandPart, dotted, element, opened, closed, over_parts}
use Rattle.lgx_tags.specs.declared.form.FormState.{FormState}

-- where a bracket is closed, one is open
abbrev pub closed_from : ℕ → Option FormState
closed_from zero = None
closed_from (suc depth) = Some (record { depth = depth; bit = false })

-- the state after one more part, or none where no form goes on so: after the number of a bit only a bracket may close
abbrev pub state_after : FormState → OperandPart → Option FormState
state_after s (dotted w) = if s.bit then None else if is_name w then Some s else if are_digits 10 w then Some (record s { bit = true }) else None
state_after s (element w) = if s.bit then None else Some s
state_after s (opened w) = if s.bit then None else if is_tag_name w then Some (record s { depth = s.depth + 1 }) else None
state_after s closed = closed_from s.depth

abbrev pub then_on : (FormState → Bool) → Option FormState → Bool
then_on next None = false
then_on next (Some s) = next s

abbrev pub form_step : OperandPart → (FormState → Bool) → FormState → Bool
form_step p next s = then_on next (state_after s p)

-- whether tokens go on to the end of a form
abbrev pub completes : List Token → FormState → Bool
completes ts s = over_parts form_step (λ s. s.depth == 0) (λ s. false) ts s
