-- The operands to which an instruction has an access.
use Rattle.std.specs.Prelude.{ℕ, Bool, ◌||◌, not, List, map}
use Rattle.lgx_num.specs.declared.place.Index.{Index}
use Rattle.lgx_rung.specs.declared.op.Op.{Op}
use Rattle.lgx_rung.specs.declared.operands.OperandKind.{OperandKind}
use Rattle.spec_uses.specs.Written.{is_written, reads_written}
use Rattle.lgx_xref.specs.declared.bits.Access.{Access}
use Rattle.lgx_xref.specs.declared.bits.Access.TheVariants.{Write, Read}

-- what is written, and what is read, by the kind of the operand
abbrev pub is_chosen : Access → Op → OperandKind → Bool
is_chosen Write op kind = is_written kind
is_chosen Read op kind = reads_written op || not (is_written kind)

-- the bits of variable subscripts
abbrev pub step_bits : List Index → List ℕ
step_bits steps = map (λ s. s.of.at) steps
