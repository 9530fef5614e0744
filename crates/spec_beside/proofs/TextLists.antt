-- What holds of each instruction of a program's text, by routines, by sites, and in one list.
use Rattle.std.specs.Prelude.{filter, flat_map, slice_get}
use Rattle.std.specs.List.{AllByRecursion as Each, enumerate_from, list_any}
use Rattle.std.proofs.Common.{◌≡◌, ℕ, zero, suc, ◌+◌, Bool, true, false, cond, List, [], ◌∷◌, ◌++◌, map, ◌||◌, Some, refl, ap, subst, arith}
use Rattle.std.proofs.lemmas.Option.{same_Some}
use Rattle.spec_base.proofs.Lists.{each_append, each_parts}
use Rattle.lgx_rung.specs.declared.ins.Ins.{Ins}
use Rattle.lgx_rung.specs.Tree.{Tree, instructions}
use Rattle.spec_machine.specs.Project.{ProgramText, RoutineText}
use Rattle.spec_reach.specs.Positions.{RungsHave, TreeHas}
use Rattle.spec_uses.specs.Uses.{Site, program_instructions, site, sites_of_program, sites_of_routine, sites_of_rung}

-- ---- lists in general

pub each_both : {A : Type 0} (P Q R : A → Type 0) (xs : List A) → ((x : A) → P x → Q x → R x) → Each P xs → Each Q xs → Each R xs
each_both P Q R [] f p q = tt
each_both P Q R (x ∷ xs) f p q = (f x p.0 q.0, each_both P Q R xs f p.1 q.1)

-- each element has a number
pub each_numbered : {A : Type 0} (xs : List A) → Each (λ x. (n : ℕ) × (slice_get xs n ≡ Some x)) xs
each_numbered [] = tt
each_numbered {A} (x ∷ xs) = ((0, refl), later xs (each_numbered xs))
  where
    later : (ys : List A) → Each (λ y. (n : ℕ) × (slice_get xs n ≡ Some y)) ys → Each (λ y. (n : ℕ) × (slice_get (x ∷ xs) n ≡ Some y)) ys
    later [] h = tt
    later (y ∷ ys) h = ((suc h.0.0, h.0.1), later ys h.1)

-- what holds of those that pass a test
pub each_passed : {A : Type 0} (P : A → Type 0) (test : A → Bool) (xs : List A) → Each P (filter test xs) → Each (λ x. test x ≡ true → P x) xs
each_passed P test [] h = tt
each_passed {A} P test (x ∷ xs) h = go (test x) refl h (each_passed P test xs)
  where
    go : (b : Bool) → test x ≡ b → Each P (cond b (x ∷ filter test xs) (filter test xs)) → (Each P (filter test xs) → Each (λ x. test x ≡ true → P x) xs) → Each (λ x. test x ≡ true → P x) (x ∷ xs)
    go true e k others = ((λ _. k.0), others k.1)
    go false e k others = ((λ is. absurd (cc (e, is))), others k)

-- of lists one after the other
pub each_flat_of : {A B : Type 0} (P : A → Type 0) (Q : B → Type 0) (f : A → List B) (xs : List A) → ((x : A) → P x → Each Q (f x)) → Each P xs → Each Q (flat_map f xs)
each_flat_of P Q f [] g h = tt
each_flat_of P Q f (x ∷ xs) g h = each_append Q (f x) (flat_map f xs) (g x h.0) (each_flat_of P Q f xs g h.1)

pub each_of_flat : {A B : Type 0} (P : A → Type 0) (Q : B → Type 0) (f : A → List B) (xs : List A) → ((x : A) → Each Q (f x) → P x) → Each Q (flat_map f xs) → Each P xs
each_of_flat P Q f [] g h = tt
each_of_flat P Q f (x ∷ xs) g h = let k = each_parts Q (f x) (flat_map f xs) h in (g x k.0, each_of_flat P Q f xs g k.1)

-- an element passes a test in none of them
pub none_of_both : {A : Type 0} (test : A → Bool) (xs ys : List A) → list_any test (xs ++ ys) ≡ false → (list_any test xs ≡ false) × (list_any test ys ≡ false)
none_of_both test [] ys h = (refl, h)
none_of_both test (x ∷ xs) ys h = go (test x) h (none_of_both test xs ys)
  where
    go : (b : Bool) → (b || list_any test (xs ++ ys)) ≡ false → (list_any test (xs ++ ys) ≡ false → (list_any test xs ≡ false) × (list_any test ys ≡ false)) → ((b || list_any test xs) ≡ false) × (list_any test ys ≡ false)
    go true e rest = absurd (cc e)
    go false e rest = rest e

pub none_of_flat : {A B : Type 0} (test : B → Bool) (f : A → List B) (xs : List A) → list_any test (flat_map f xs) ≡ false → Each (λ x. list_any test (f x) ≡ false) xs
none_of_flat test f [] h = tt
none_of_flat test f (x ∷ xs) h = let k = none_of_both test (f x) (flat_map f xs) h in (k.0, none_of_flat test f xs k.1)

-- ---- with their numbers

-- of each element and its number, from n on
abbrev pub EachFrom : {A : Type 0} → (ℕ → A → Type 0) → ℕ → List A → Type 0
EachFrom P n [] = Unit {0}
EachFrom P n (x ∷ xs) = P n x × EachFrom P (n + 1) xs

pub all_plain : {A : Type 0} (P : A → Type 0) (xs : List A) (n : ℕ) → EachFrom (λ n x. P x) n xs → Each P xs
all_plain P [] n h = tt
all_plain P (x ∷ xs) n h = (h.0, all_plain P xs (n + 1) h.1)

pub numbered : {A : Type 0} (P : A → Type 0) (Q : ℕ × A → Type 0) (xs : List A) (n : ℕ) → ((n : ℕ) (x : A) → P x → Q (n, x)) → Each P xs → Each Q (enumerate_from n xs)
numbered P Q [] n f h = tt
numbered P Q (x ∷ xs) n f h = (f n x h.0, numbered P Q xs (n + 1) f h.1)

pub of_numbered : {A : Type 0} (P : ℕ → A → Type 0) (Q : ℕ × A → Type 0) (xs : List A) (n : ℕ) → ((n : ℕ) (x : A) → Q (n, x) → P n x) → Each Q (enumerate_from n xs) → EachFrom P n xs
of_numbered P Q [] n f h = tt
of_numbered P Q (x ∷ xs) n f h = (f n x h.0, of_numbered P Q xs (n + 1) f h.1)

numbered_from : {A : Type 0} (P : ℕ × A → Type 0) (xs : List A) (n i : ℕ) (x : A) → Each P (enumerate_from n xs) → slice_get xs i ≡ Some x → P (n + i, x)
numbered_from P [] n i x h e = absurd (cc e)
numbered_from P (y ∷ ys) n zero x h e = subst P (ap (λ z. (n + 0, z)) (same_Some y x e)) (subst (λ (m : ℕ). P (m, y)) (let z : n ≡ n + 0 = omega arith in z) h.0)
numbered_from P (y ∷ ys) n (suc i) x h e = subst (λ (m : ℕ). P (m, x)) (let z : n + 1 + i ≡ n + suc i = omega arith in z) (numbered_from P ys (n + 1) i x h.1 e)

pub numbered_at : {A : Type 0} (P : ℕ × A → Type 0) (xs : List A) (i : ℕ) (x : A) → Each P (enumerate_from 0 xs) → slice_get xs i ≡ Some x → P (i, x)
numbered_at P xs i x h e = subst (λ (m : ℕ). P (m, x)) (let z : 0 + i ≡ i = omega arith in z) (numbered_from P xs 0 i x h e)

each_mapped : {A B : Type 0} (P : A → Type 0) (Q : B → Type 0) (f : A → B) (xs : List A) → ((x : A) → P x → Q (f x)) → Each P xs → Each Q (map f xs)
each_mapped P Q f [] g h = tt
each_mapped P Q f (x ∷ xs) g h = (g x h.0, each_mapped P Q f xs g h.1)

each_of_mapped : {A B : Type 0} (P : A → Type 0) (Q : B → Type 0) (f : A → B) (xs : List A) → ((x : A) → Q (f x) → P x) → Each Q (map f xs) → Each P xs
each_of_mapped P Q f [] g h = tt
each_of_mapped P Q f (x ∷ xs) g h = (g x h.0, each_of_mapped P Q f xs g h.1)

-- ---- a program's text

-- each instruction of each routine
abbrev pub TextHas : (Ins → Type 0) → ProgramText → Type 0
TextHas P program = Each (λ (r : RoutineText). RungsHave P r.checked) program.routines

pub instructions_have : (P : Ins → Type 0) (program : ProgramText) → TextHas P program → Each P (program_instructions program)
instructions_have P program h =
    each_flat_of (λ (r : RoutineText). RungsHave P r.checked) P _ program.routines (λ r k. each_flat_of (TreeHas P) P instructions r.checked (λ t m. m) k) h

pub text_has : (P : Ins → Type 0) (program : ProgramText) → Each P (program_instructions program) → TextHas P program
text_has P program h =
    each_of_flat (λ (r : RoutineText). RungsHave P r.checked) P _ program.routines (λ r k. each_of_flat (TreeHas P) P instructions r.checked (λ t m. m) k) h

module _ (P : Ins → Type 0) (g : ℕ) where
  abbrev SiteHas : Site → Type 0
  SiteHas s = P s.ins

  rung_sites : (r u : ℕ) (t : Tree Ins) → TreeHas P t → Each SiteHas (sites_of_rung g r (u, t))
  rung_sites r u t h = each_mapped (λ x. P x.1) SiteHas (site g r u) (enumerate_from 0 (instructions t)) (λ x k. k) (numbered P (λ x. P x.1) (instructions t) 0 (λ n i k. k) h)

  routine_sites : (r : ℕ) (routine : RoutineText) → RungsHave P routine.checked → Each SiteHas (sites_of_routine g (r, routine))
  routine_sites r routine h =
      each_flat_of (λ x. TreeHas P x.1) SiteHas (sites_of_rung g r) (enumerate_from 0 routine.checked) (λ x k. rung_sites r x.0 x.1 k) (numbered (TreeHas P) (λ x. TreeHas P x.1) routine.checked 0 (λ n t k. k) h)

  pub sites_have : (program : ProgramText) → TextHas P program → Each SiteHas (sites_of_program (g, program))
  sites_have program h =
      each_flat_of (λ x. RungsHave P x.1.checked) SiteHas (sites_of_routine g) (enumerate_from 0 program.routines) (λ x k. routine_sites x.0 x.1 k) (numbered (λ (r : RoutineText). RungsHave P r.checked) (λ x. RungsHave P x.1.checked) program.routines 0 (λ n r k. k) h)

-- what holds of each site, and so of each instruction of routine r
module _ (Q : Site → Type 0) (P : ℕ → Ins → Type 0) (g : ℕ) (give : (r u n : ℕ) (i : Ins) → Q (site g r u (n, i)) → P r i) where
  of_rung : (r u : ℕ) (t : Tree Ins) → Each Q (sites_of_rung g r (u, t)) → TreeHas (P r) t
  of_rung r u t h = all_plain (P r) (instructions t) 0 (of_numbered (λ n i. P r i) (λ x. P r x.1) (instructions t) 0 (λ n i k. k) (each_of_mapped (λ x. P r x.1) Q (site g r u) (enumerate_from 0 (instructions t)) (λ x k. give r u x.0 x.1 k) h))

  of_routine : (r : ℕ) (routine : RoutineText) → Each Q (sites_of_routine g (r, routine)) → RungsHave (P r) routine.checked
  of_routine r routine h = all_plain (TreeHas (P r)) routine.checked 0 (of_numbered (λ n t. TreeHas (P r) t) (λ x. TreeHas (P r) x.1) routine.checked 0 (λ n t k. k) (each_of_flat (λ x. TreeHas (P r) x.1) Q (sites_of_rung g r) (enumerate_from 0 routine.checked) (λ x k. of_rung r x.0 x.1 k) h))

  pub of_sites : (program : ProgramText) → Each Q (sites_of_program (g, program)) → EachFrom (λ r routine. RungsHave (P r) routine.checked) 0 program.routines
  of_sites program h = of_numbered (λ r routine. RungsHave (P r) routine.checked) (λ x. RungsHave (P x.0) x.1.checked) program.routines 0 (λ r routine k. k) (each_of_flat (λ x. RungsHave (P x.0) x.1.checked) Q (sites_of_routine g) (enumerate_from 0 program.routines) (λ x k. of_routine x.0 x.1 k) h)
