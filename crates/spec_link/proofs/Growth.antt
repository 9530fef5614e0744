-- Lists that go on.
use Rattle.std.proofs.Common.{◌≡◌, ℕ, zero, suc, List, [], ◌∷◌, ◌++◌, length, take, drop, refl, sym, ◌∙◌, ap, append_assoc, append-nil}

-- the new list begins with the old one
abbrev pub Goes : {A : Type 0} → List A → List A → Type 0
Goes old new = (more : List _) × (new ≡ old ++ more)

pub goes_not : {A : Type 0} (xs : List A) → Goes xs xs
goes_not xs = ([], sym (append-nil xs))

pub goes_by : {A : Type 0} (xs more : List A) → Goes xs (xs ++ more)
goes_by xs more = (more, refl)

pub goes_on : {A : Type 0} (xs ys zs : List A) → Goes xs ys → Goes ys zs → Goes xs zs
goes_on xs ys zs a b = (a.0 ++ b.0, b.1 ∙ (ap (λ j. j ++ b.0) a.1 ∙ append_assoc xs a.0 b.0))

-- ---- the first of a list that goes on

first_goes : {A : Type 0} (n : ℕ) (xs more : List A) → Goes (take n xs) (take n (xs ++ more))
first_goes zero xs more = ([], refl)
first_goes (suc n) [] more = (take (suc n) more, refl)
first_goes (suc n) (x ∷ xs) more = let rest = first_goes n xs more in (rest.0, ap (λ ys. x ∷ ys) rest.1)

pub takes_go : {A : Type 0} (n : ℕ) (xs ys : List A) → Goes xs ys → Goes (take n xs) (take n ys)
takes_go n xs ys g = let f = first_goes n xs g.0 in (f.0, ap (λ zs. take n zs) g.1 ∙ f.1)

-- ---- what is new

drop_old : {A : Type 0} (xs more : List A) → drop (length xs) (xs ++ more) ≡ more
drop_old [] more = refl
drop_old (x ∷ xs) more = drop_old xs more

pub nothing_new : {A : Type 0} (xs : List A) → drop (length xs) xs ≡ []
nothing_new [] = refl
nothing_new (x ∷ xs) = nothing_new xs

drop_goes : {A : Type 0} (xs ys : List A) (g : Goes xs ys) → drop (length xs) ys ≡ g.0
drop_goes xs ys g = ap (λ zs. drop (length xs) zs) g.1 ∙ drop_old xs g.0

-- what is new in two pieces
pub new_joined : {A : Type 0} (xs ys zs : List A) → Goes xs ys → Goes ys zs → drop (length xs) ys ++ drop (length ys) zs ≡ drop (length xs) zs
unfolding goes_on
new_joined xs ys zs a b =
    ap (λ l. l ++ drop (length ys) zs) (drop_goes xs ys a)
    ∙ (ap (λ l. a.0 ++ l) (drop_goes ys zs b)
    ∙ sym (drop_goes xs zs (goes_on xs ys zs a b)))
