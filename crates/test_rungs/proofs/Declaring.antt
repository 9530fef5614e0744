-- What declaring keeps of a table of tags.
use Rattle.std.proofs.Common.{◌≡◌, sym, subst, Result, Ok, Err}
use Rattle.std.specs.Prelude.{OnOk, OnErr}
use Rattle.lgx_tags.specs.declared.error.TagError.{TagError}

-- what holds of the table that an answer gives
pub by_answer : {A : Type 0} (P : A → Type 0) (r : Result (Unit {0}) TagError) (new ok old : A) → OnOk r (new ≡ ok) → OnErr r (new ≡ old) → P ok → P old → P new
by_answer P (Ok x) new ok old p q a b = subst P (sym p) a
by_answer P (Err e) new ok old p q a b = subst P (sym q) b
