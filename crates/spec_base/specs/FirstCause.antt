-- Words for definitions that answer a value or the first cause why there is none.
use Rattle.std.specs.Prelude.{Bool, true, false, List, [], ◌∷◌, Option, Some, None, Result, Ok, Err}
-- the value, or the cause where there is none
pub use Rattle.std.specs.Option.{ok_or as some_or}

infixl 10 ◌>>=◌
abbrev pub ◌>>=◌ : {A B E : Type 0} → Result A E → (A → Result B E) → Result B E
(Ok x) >>= f = f x
(Err e) >>= f = Err e

-- the cause, unless the test holds
abbrev pub unless : {E : Type 0} → Bool → E → Result Bool E
unless true e = Ok true
unless false e = Err e

-- the list of the value where the test holds, and else the empty list
abbrev pub where_true : {A : Type 0} → Bool → A → List A
where_true true x = x ∷ []
where_true false x = []

abbrev pub first : {A : Type 0} → List A → Option A
first [] = None
first (x ∷ xs) = Some x
