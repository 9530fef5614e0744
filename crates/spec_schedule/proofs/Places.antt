-- Lists cut at places: what stands before, at and after an element with a property.
use Rattle.std.specs.Prelude.{◌≡◌, ℕ, Bool, true, false, cond, ◌||◌, List, [], ◌∷◌, ◌++◌, drop, take_while, filter_map, Option, Some, None, refl, nat_eq}
use Rattle.std.specs.List.{AllByRecursion as Each, cons_option, list_any, prefix_len}
use Rattle.std.proofs.Common.{ap, sym, subst, ◌∙◌, eqb-true, eq-eqb}
use Rattle.std.proofs.Math.Numerals.{one-add}
use Rattle.std.proofs.lemmas.Bool.{and_parts, or_left, or_right}
use Rattle.std.proofs.lemmas.List.{append_assoc}
use Rattle.std.proofs.lemmas.List.Elements.{filter_map-append}
use Rattle.std.proofs.lemmas.List.Sums.{take_while-cons}
use Rattle.spec_schedule.specs.Legal.{each_from}

-- ---- each element of a part

pub each_at : {A : Type 0} (test : A → List A → Bool) (before : List A) (x : A) (after : List A) → each_from test (before ++ x ∷ after) ≡ true → test x after ≡ true
each_at test [] x after h = (and_parts (test x after) (each_from test after) h).0
each_at test (b ∷ before) x after h = each_at test before x after (and_parts (test b (before ++ x ∷ after)) (each_from test (before ++ x ∷ after)) h).1

-- ---- elements that pass from the front on

-- what passes from the front on, and the rest
pub cut_while : {A : Type 0} (test : A → Bool) (xs : List A) → (rest : List A) × (xs ≡ take_while test xs ++ rest) × Each (λ x. test x ≡ true) (take_while test xs)
cut_while test [] = ([], refl, tt)
cut_while {A} test (x ∷ xs) =
    subst (λ (ys : List A). (rest : List A) × (x ∷ xs ≡ ys ++ rest) × Each (λ x. test x ≡ true) ys) (sym (take_while-cons test x xs)) (go (test x) refl (cut_while test xs))
  where
    go : (b : Bool) → test x ≡ b → ((rest : List A) × (xs ≡ take_while test xs ++ rest) × Each (λ x. test x ≡ true) (take_while test xs)) → (rest : List A) × (x ∷ xs ≡ cond b (x ∷ take_while test xs) [] ++ rest) × Each (λ x. test x ≡ true) (cond b (x ∷ take_while test xs) [])
    go true e known = (known.0, ap (λ ys. x ∷ ys) known.1, (e, known.2))
    go false e known = (x ∷ xs, refl, tt)

pub pass_while : {A : Type 0} (test : A → Bool) (xs ys : List A) → Each (λ x. test x ≡ true) xs → take_while test (xs ++ ys) ≡ xs ++ take_while test ys
pass_while test [] ys h = refl
pass_while test (x ∷ xs) ys h = take_while-cons test x (xs ++ ys) ∙ rw h.0 (ap (λ zs. x ∷ zs) (pass_while test xs ys h.1))

-- all but the elements from the front on that pass
pub drop_while : {A : Type 0} (test : A → Bool) (xs : List A) (y : A) (ys : List A) → Each (λ x. test x ≡ true) xs → test y ≡ false → drop (prefix_len test (xs ++ y ∷ ys)) (xs ++ y ∷ ys) ≡ y ∷ ys
drop_while test [] y ys h e = rw e refl
drop_while test (x ∷ xs) y ys h e = rw (h.0, one-add) (drop_while test xs y ys h.1 e)

-- a list with two of its elements
pub two_cut : {A : Type 0} (a : List A) (y : A) (b : List A) (z : A) (c r : List A) → (a ++ y ∷ (b ++ z ∷ c)) ++ r ≡ a ++ y ∷ (b ++ z ∷ (c ++ r))
two_cut a y b z c r = append_assoc a (y ∷ (b ++ z ∷ c)) r ∙ ap (λ xs. a ++ y ∷ xs) (append_assoc b (z ∷ c) r)

pub two_pass : {A : Type 0} (test : A → Bool) (a : List A) (y : A) (b : List A) (z : A) (r : List A) → Each (λ x. test x ≡ true) a → test y ≡ true → Each (λ x. test x ≡ true) b → test z ≡ true → take_while test (a ++ y ∷ (b ++ z ∷ r)) ≡ a ++ y ∷ (b ++ z ∷ take_while test r)
two_pass test a y b z r ha hy hb hz =
    pass_while test a (y ∷ (b ++ z ∷ r)) ha ∙ ap (λ xs. a ++ xs) (pass_while test (y ∷ []) (b ++ z ∷ r) (hy, tt) ∙ ap (λ xs. y ∷ xs) (pass_while test b (z ∷ r) hb ∙ ap (λ xs. b ++ xs) (pass_while test (z ∷ []) r (hz, tt))))

-- ---- what a function gives of the elements

pub kept_at : {A B : Type 0} (f : A → Option B) (a : List A) (y : A) (u : B) (r : List A) → f y ≡ Some u → filter_map f (a ++ y ∷ r) ≡ filter_map f a ++ u ∷ filter_map f r
kept_at f a y u r e = filter_map-append f a (y ∷ r) ∙ rw e refl

pub filter_cut : {A B : Type 0} (f : A → Option B) (zs : List A) (us : List B) (u : B) (r : List B) → filter_map f zs ≡ us ++ u ∷ r → (m : List A) × (y : A) × (n : List A) × (zs ≡ m ++ y ∷ n) × (f y ≡ Some u) × (filter_map f n ≡ r)
filter_cut f [] [] u r h = absurd (cc h)
filter_cut f [] (v ∷ us) u r h = absurd (cc h)
filter_cut {A} {B} f (z ∷ zs) us u r h = go (f z) refl us h (λ vs k. filter_cut f zs vs u r k)
  where
    go : (o : Option B) → f z ≡ o → (vs : List B) → cons_option o (filter_map f zs) ≡ vs ++ u ∷ r → ((ws : List B) → filter_map f zs ≡ ws ++ u ∷ r → (m : List A) × (y : A) × (n : List A) × (zs ≡ m ++ y ∷ n) × (f y ≡ Some u) × (filter_map f n ≡ r)) → (m : List A) × (y : A) × (n : List A) × (z ∷ zs ≡ m ++ y ∷ n) × (f y ≡ Some u) × (filter_map f n ≡ r)
    go None e vs k known = let s = known vs k in (z ∷ s.0, s.1, s.2, ap (λ xs. z ∷ xs) s.3, s.4, s.5)
    go (Some v) e [] k known = ([], z, zs, refl, cc (e, k), cc k)
    go (Some v) e (w ∷ vs) k known = let s = known vs (cc k) in (z ∷ s.0, s.1, s.2, ap (λ xs. z ∷ xs) s.3, s.4, s.5)

-- ---- numbers among numbers

abbrev pub is_number : ℕ → ℕ → Bool
is_number t u = nat_eq u t

pub number_cut : (t : ℕ) (us : List ℕ) → list_any (is_number t) us ≡ true → (b : List ℕ) × (c : List ℕ) × (us ≡ b ++ t ∷ c)
number_cut t [] h = absurd (cc h)
number_cut t (u ∷ us) h = go (nat_eq u t) refl h (number_cut t us)
  where
    go : (b : Bool) → nat_eq u t ≡ b → (b || list_any (is_number t) us) ≡ true → (list_any (is_number t) us ≡ true → (b : List ℕ) × (c : List ℕ) × (us ≡ b ++ t ∷ c)) → (b : List ℕ) × (c : List ℕ) × (u ∷ us ≡ b ++ t ∷ c)
    go true e k known = ([], us, ap (λ v. v ∷ us) (eqb-true u t e))
    go false e k known = let s = known k in (u ∷ s.0, s.1, ap (λ vs. u ∷ vs) s.2)

pub number_there : (t : ℕ) (b c : List ℕ) → list_any (is_number t) (b ++ t ∷ c) ≡ true
number_there t [] c = or_left (nat_eq t t) _ (eq-eqb t t refl)
number_there t (u ∷ b) c = or_right (nat_eq u t) _ (number_there t b c)
