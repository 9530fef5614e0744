-- What acts is computed. It is no writer of the tag.
use Rattle.std.proofs.Common.{◌≡◌, ℕ, zero, suc, List, [], ◌∷◌, Option, Some, None, refl, sym, ◌∙◌, ap, inl, inr}
use Rattle.std.specs.Prelude.{slice_get}
use Rattle.lgx_rung.specs.declared.ins.Ins.{Ins}
use Rattle.lgx_rung.specs.declared.op.Op.{Op}
use Rattle.lgx_rung.specs.declared.op.Op.TheVariants.{Nop}
use Rattle.spec_uses.specs.Uses.{Site}
use Rattle.test_cases.proofs.change_cases.others_change_none.Goals as goal

-- the mnemonic at a site, if there is one
abbrev op_of : Option Site → Op
op_of (Some s) = s.ins.op
op_of None = Nop

none : (i : ℕ) (s : Site) → slice_get {X = Site} [] i ≡ Some s → ⊥
none i s h = cc h

-- the only site has another mnemonic than the instruction that acts
other : (x : Site) (i : ℕ) (s : Site) (a : Ins) → (x.ins.op ≡ a.op → ⊥) → slice_get (x ∷ []) i ≡ Some s → s.ins ≡ a → ⊥
other x zero s a differs at is = differs (ap op_of at ∙ ap (λ (j : Ins). j.op) is)
other x (suc i) s a differs at is = none i s at

pub returns-clause-begin : goal.returns-clause-begin
returns-clause-begin c = λ h. elim h [ inl put ↦ cc put | inr more ↦ elim more [ inl by_run ↦ by_run | inr writer ↦ writer ] ]

pub returns-clause-reader : goal.returns-clause-reader
returns-clause-reader c = λ h. elim h [ inl put ↦ cc put | inr more ↦ elim more [ inl by_run ↦ by_run | inr writer ↦ other _ writer.1 writer.0 _ (λ e. cc e) writer.2 writer.4 ] ]

pub returns-clause-other : goal.returns-clause-other
returns-clause-other c = λ h. elim h [ inl put ↦ cc put | inr more ↦ elim more [ inl by_run ↦ by_run | inr writer ↦ none writer.1 writer.0 writer.2 ] ]
