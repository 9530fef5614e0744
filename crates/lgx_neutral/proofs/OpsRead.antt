-- Letters that are an instruction's mnemonic name no other.
use Rattle.std.proofs.Common.{◌≡◌, ℕ, true, List, map, refl, subst, Some}
use Rattle.std.specs.Char.{to_ascii_lowercase}
use Rattle.std.specs.Prelude.{find, bytes_eq}
use Rattle.std.proofs.lemmas.Slice.Eq.{bytes_eq-Decides}
use Rattle.lgx_num.specs.Name.{same}
use Rattle.lgx_rung.specs.declared.op.Op.{Op}
use Rattle.lgx_rung.specs.declared.op.Op.TheVariants.{Xic}
use Rattle.lgx_rung.specs.Mnemonics.{op_of, text_of, mnemonics}

abbrev lower : List ℕ → List ℕ
lower = map to_ascii_lowercase

own_text : (op : Op) → op_of (text_of op) ≡ Some op
own_text Xic = refl
own_text _ = refl

pub named_op : (op : Op) (letters : List ℕ) → same (text_of op) letters ≡ true → op_of letters ≡ Some op
named_op op letters e =
    subst (λ (x : List ℕ). find (λ o. bytes_eq (lower (text_of o)) x) mnemonics ≡ Some op) ((bytes_eq-Decides (lower (text_of op)) (lower letters)).0 e) (own_text op)

pub spelled_op : (op : Op) (letters : List ℕ) → text_of op ≡ letters → op_of letters ≡ Some op
spelled_op op letters e = subst (λ (x : List ℕ). op_of x ≡ Some op) e (own_text op)
