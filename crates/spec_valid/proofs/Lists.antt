-- Tests of the elements of a list, and how many of them are kept.
use Rattle.std.specs.Prelude.{◌≡◌, ℕ, ◌+◌, Bool, List, [], ◌∷◌, map, IsTrue, refl}
use Rattle.std.specs.List.{AllByRecursion as Each, enumerate_from, list_all}
use Rattle.std.proofs.lemmas.Bool.{and_from}

-- a test of each element is one of them all
pub all_pass : {A : Type 0} (P : A → Type 0) (test : A → Bool) (xs : List A) → ((x : A) → P x → IsTrue (test x))
    → Each P xs → IsTrue (list_all test xs)
all_pass P test [] f h = refl
all_pass P test (x ∷ xs) f h = and_from (test x) (list_all test xs) (f x h.0) (all_pass P test xs f h.1)

-- of what is made of the elements
pub all_made : {A B : Type 0} (P : A → Type 0) (make : A → B) (test : B → Bool) (xs : List A)
    → ((x : A) → P x → IsTrue (test (make x))) → Each P xs → IsTrue (list_all test (map make xs))
all_made P make test [] f h = refl
all_made P make test (x ∷ xs) f h = and_from (test (make x)) (list_all test (map make xs)) (f x h.0) (all_made P make test xs f h.1)

pub each_made : {A B : Type 0} (P : A → Type 0) (Q : B → Type 0) (make : A → B) (xs : List A)
    → ((x : A) → P x → Q (make x)) → Each P xs → Each Q (map make xs)
each_made P Q make [] f h = tt
each_made P Q make (x ∷ xs) f h = (f x h.0, each_made P Q make xs f h.1)

-- what is read of what is made of the elements
pub made_of : {A B C : Type 0} (make : A → B) (read : B → C) (known : A → C) → ((x : A) → read (make x) ≡ known x)
    → (xs : List A) → map read (map make xs) ≡ map known xs
made_of make read known h [] = refl
made_of make read known h (x ∷ xs) = cc (h x, made_of make read known h xs)

-- of elements with their numbers
pub each_numbered : {A : Type 0} (P : A → Type 0) (i : ℕ) (xs : List A) → Each P xs
    → Each (λ e. P e.1) (enumerate_from i xs)
each_numbered P i [] h = tt
each_numbered P i (x ∷ xs) h = (h.0, each_numbered P (i + 1) xs h.1)

pub each_both : {A : Type 0} (P Q : A → Type 0) (xs : List A) → Each P xs → Each Q xs → Each (λ x. P x × Q x) xs
each_both P Q [] h k = tt
each_both P Q (x ∷ xs) h k = ((h.0, k.0), each_both P Q xs h.1 k.1)
