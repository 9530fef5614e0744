-- What an answered bind says of its parts.
use Rattle.std.specs.Prelude.{◌≡◌, Bool, true, false, Option, Some, None, Result, Ok, Err, refl}
use Rattle.spec_base.specs.FirstCause.{◌>>=◌, unless, some_or}

abbrev ok_of : {A : Type 0} (E : Type 0) → A → Result A E
ok_of E x = Ok x

abbrev err_of : {E : Type 0} (A : Type 0) → E → Result A E
err_of A e = Err e

pub err_not_ok : {A E T : Type 0} (e : E) (x : A) → err_of A e ≡ ok_of E x → T
err_not_ok e x p = absurd (cc p)

pub ok_inj : {A E : Type 0} (x y : A) → ok_of E x ≡ ok_of E y → x ≡ y
ok_inj x y p = cc p

pub bind_ok : {A B E : Type 0} (r : Result A E) (f : A → Result B E) (y : B) → (r >>= f) ≡ Ok y → (x : A) × (r ≡ Ok x) × (f x ≡ Ok y)
bind_ok (Ok x) f y p = (x, refl, p)
bind_ok (Err e) f y p = err_not_ok e y p

pub unless_ok : {E : Type 0} (b : Bool) (e : E) (y : Bool) → unless b e ≡ Ok y → b ≡ true
unless_ok true e y p = refl
unless_ok false e y p = err_not_ok e y p

pub some_or_ok : {A E : Type 0} (o : Option A) (e : E) (y : A) → some_or o e ≡ Ok y → o ≡ Some y
some_or_ok (Some x) e y p = cc (ok_inj x y p)
some_or_ok None e y p = err_not_ok e y p
