use Rattle.std.proofs.Common.{◌≡◌, ℕ, ◌<◌, Bool, true, false, refl, ap, ◌∙◌, arith}
use Rattle.lgx_num.specs.Name.{is_letter}
use Rattle.lgx_rung.specs.Tokens.{is_operand_byte, in_run}
use Rattle.lgx_neutral.specs.declared.bytes.TheConstants.{KINDS}
use Rattle.lgx_num.proofs.ByteTable.{agree_below, has_kind, from_table}
use Rattle.lgx_neutral.proofs.bytes.in_run.Goals as goal
use Rattle.lgx_neutral.proofs.bytes.in_run.Goals.{then-inside, else-inside}

-- the table has the bytes of each run
run_kind : (inside : Bool) (kind b : ℕ) → b < 256 → (inside ≡ true → kind ≡ 2) → (inside ≡ false → kind ≡ 1) → has_kind KINDS kind b ≡ in_run inside b
unfolding agree_below
run_kind true kind b lt within without = ap (λ k. has_kind KINDS k b) (within refl) ∙ from_table KINDS 2 is_operand_byte b lt refl
run_kind false kind b lt within without = ap (λ k. has_kind KINDS k b) (without refl) ∙ from_table KINDS 1 is_letter b lt refl

pub returns : goal.returns
returns c =
    run_kind c.args.inside c.if-inside.kind c.args.byte (omega arith)
    (λ e. elim c.if-inside.branch [ then-inside w ↦ w.kind-is | else-inside w ↦ cc ])
    (λ e. elim c.if-inside.branch [ then-inside w ↦ cc | else-inside w ↦ w.kind-is ])
