-- Where the entry of a name begins, by its number among the entries.
use Rattle.std.specs.Prelude.{◌≡◌, ℕ, zero, suc, ◌+◌, ◌-◌, ◌%◌, ◌<◌, ◌≤◌, Bool, true, false, cond, ◌==◌, nat_lt, List, [], ◌∷◌, ◌++◌, flat_map, find, Option, Some, None, option_map, refl}
use Rattle.std.specs.List.{AllByRecursion as Each, range_with_len}
use Rattle.std.specs.Option.{option_or}
use Rattle.std.proofs.Common.{sym, ap, ◌∙◌, arith, eqb-true, eq-eqb, ltb-true, ltb-false, append_assoc}
use Rattle.std.proofs.lemmas.List.Folds.{find-append}
use Rattle.lgx_num.specs.Name.{same}
use Rattle.spec_language.specs.declared.types.TypeDecl.{TypeDecl}
use Rattle.spec_language.specs.declared.tag.Scope.{Scope}
use Rattle.spec_language.specs.declared.tag.Scope.TheVariants.{Controller, Program}
use Rattle.spec_language.specs.Layout.{round_up}
use Rattle.spec_language.specs.Declarations.{Entry, Declarations, same_scope, is_named, in_scope, entry_size, laid_from, end_of, entry_of}
use Rattle.spec_base.proofs.Lists.{each_append, each_map}
use Rattle.lgx_tags.specs.Scopes.{IsScopeOf}
pub use Rattle.lgx_tags.specs.Starts.{begin_in, programs_from, laid_before, start_of}
use Rattle.lgx_tags.proofs.Spans.{padded_size, padded_total, words, next_at, ordered, end_is}
use Rattle.std.proofs.lemmas.Bool.{ne_eqb}
use Rattle.std.proofs.lemmas.Grind.{flat_map-append}
use Rattle.spec_base.proofs.Options.{or_none}

-- the first entry of a name, with its number
abbrev pub next : ℕ × Entry → ℕ × Entry
next x = (suc x.0, x.1)

abbrev pub seek : Scope → List ℕ → List Entry → Option (ℕ × Entry)
seek s name [] = None
seek s name (e ∷ es) = cond (is_named s name e) (Some (0, e)) (option_map next (seek s name es))

abbrev pub begun : List TypeDecl → Scope → ℕ → List Entry → ℕ × Entry → ℕ × Entry
begun types s at es x = (begin_in types s at es x.0, x.1)

pub find_laid : (types : List TypeDecl) (s : Scope) (name : List ℕ) (at : ℕ) (es : List Entry) → at % 4 ≡ 0 → find (λ x. is_named s name x.1) (laid_from types at (in_scope es s)) ≡ option_map (begun types s at es) (seek s name es)
find_laid types s name at [] p = refl
find_laid types s name at (e ∷ es) p = go (same_scope e.scope s) (same e.name name) refl refl (find_laid types s name at es p) (λ q. find_laid types s name (at + padded_size types e) es q)
  where
    step : (b : Bool) (o : Option (ℕ × Entry)) → same_scope e.scope s ≡ b → option_map (begun types s at (e ∷ es)) (option_map next o) ≡ option_map (begun types s (cond b (at + padded_size types e) at) es) o
    step b None q = refl
    step b (Some x) q = rw q refl

    go : (b c : Bool) → same_scope e.scope s ≡ b → same e.name name ≡ c → find (λ x. is_named s name x.1) (laid_from types at (in_scope es s)) ≡ option_map (begun types s at es) (seek s name es) → ((at + padded_size types e) % 4 ≡ 0 → find (λ x. is_named s name x.1) (laid_from types (at + padded_size types e) (in_scope es s)) ≡ option_map (begun types s (at + padded_size types e) es) (seek s name es)) → find (λ x. is_named s name x.1) (laid_from types at (in_scope (e ∷ es) s)) ≡ option_map (begun types s at (e ∷ es)) (seek s name (e ∷ es))
    go false c q r same other = rw q (same ∙ sym (step false (seek s name es) q))
    go true true q r same other = rw (q, r, q) refl
    go true false q r same other = rw (q, r, q, next_at at (entry_size types e) p) (other (omega arith) ∙ sym (step true (seek s name es) q))

-- ---- scopes one after the other

pub laid_append : (types : List TypeDecl) (at : ℕ) (xs ys : List Entry) → laid_from types at (xs ++ ys) ≡ laid_from types at xs ++ laid_from types (end_of types at xs) ys
laid_append types at [] ys = refl
laid_append types at (x ∷ xs) ys = ap (λ (l : List (ℕ × Entry)). (at, x) ∷ l) (laid_append types (round_up 4 (at + entry_size types x)) xs ys)

abbrev pub IsOutOf : Scope → Entry → Type 0
IsOutOf s e = same_scope e.scope s ≡ false

pub none_out : (types : List TypeDecl) (s : Scope) (name : List ℕ) (at : ℕ) (es : List Entry) → Each (IsOutOf s) es → find (λ x. is_named s name x.1) (laid_from types at es) ≡ None
none_out types s name at [] h = refl
none_out types s name at (e ∷ es) h = let q : same_scope e.scope s ≡ false = h.0 in rw q (none_out types s name (round_up 4 (at + entry_size types e)) es h.1)

pub range_append : (a m k : ℕ) → range_with_len a (m + k) ≡ range_with_len a m ++ range_with_len (a + m) k
range_append a zero k = rw (zero_on k, on_zero a) refl
  where
    zero_on : (k : ℕ) → zero + k ≡ k
    zero_on k = omega arith

    on_zero : (a : ℕ) → a + zero ≡ a
    on_zero a = omega arith
range_append a (suc m) k = rw (suc_on m k) (ap (λ (l : List ℕ). a ∷ l) (range_append (a + 1) m k ∙ ap (λ (b : ℕ). range_with_len (a + 1) m ++ range_with_len b k) (one_on a m)))
  where
    suc_on : (m k : ℕ) → suc m + k ≡ suc (m + k)
    suc_on m k = omega arith

    one_on : (a m : ℕ) → a + 1 + m ≡ a + suc m
    one_on a m = omega arith

-- what is laid after a scope
abbrev pub laid_after : List Entry → Scope → ℕ → List Entry
laid_after es Controller programs = programs_from es 0 programs
laid_after es (Program p) programs = programs_from es (p + 1) (programs - (p + 1))

pub parted : (es : List Entry) (s : Scope) (programs : ℕ) → IsScopeOf programs s → ordered es programs ≡ laid_before es s ++ (in_scope es s ++ laid_after es s programs)
parted es Controller programs h = refl
parted es (Program p) programs h =
    let n : programs ≡ p + suc (programs - (p + 1)) = omega arith in
    let ranges : range_with_len 0 programs ≡ range_with_len 0 p ++ range_with_len (0 + p) (suc (programs - (p + 1))) = ap (range_with_len 0) n ∙ range_append 0 p (suc (programs - (p + 1))) in
    let zero_on : 0 + p ≡ p = omega arith in
    let flat : programs_from es 0 programs ≡ programs_from es 0 p ++ (in_scope es (Program p) ++ laid_after es (Program p) programs) = ap (flat_map (λ p. in_scope es (Program p))) (ranges ∙ ap (λ (b : ℕ). range_with_len 0 p ++ range_with_len b (suc (programs - (p + 1)))) zero_on) ∙ flat_map-append (λ p. in_scope es (Program p)) (range_with_len 0 p) (p ∷ range_with_len (p + 1) (programs - (p + 1))) in
    ap (λ (l : List Entry). in_scope es Controller ++ l) flat ∙ sym (append_assoc (in_scope es Controller) (programs_from es 0 p) (in_scope es (Program p) ++ laid_after es (Program p) programs))

-- ---- entries of other scopes

eq_sym : (a b : ℕ) → (a == b) ≡ false → (b == a) ≡ false
eq_sym a b p = go (b == a) refl
  where
    go : (t : Bool) → (b == a) ≡ t → t ≡ false
    go true q = absurd (cc (sym (eq-eqb a b (sym (eqb-true b a q))), p))
    go false q = refl

-- entries of one scope aren't of another
pub filtered : (es : List Entry) (s : Scope) → Each (λ e. same_scope e.scope s ≡ true) (in_scope es s)
filtered [] s = tt
filtered (e ∷ es) s = go (same_scope e.scope s) refl (filtered es s)
  where
    go : (b : Bool) → same_scope e.scope s ≡ b → Each (λ e. same_scope e.scope s ≡ true) (in_scope es s) → Each (λ e. same_scope e.scope s ≡ true) (cond b (e ∷ in_scope es s) (in_scope es s))
    go true q h = (q, h)
    go false q h = h

other_scope : (own s t : Scope) → same_scope s t ≡ false → same_scope own s ≡ true → same_scope own t ≡ false
other_scope Controller Controller Controller p q = absurd (cc p)
other_scope Controller Controller (Program t) p q = refl
other_scope Controller (Program s) t p q = absurd (cc q)
other_scope (Program o) Controller t p q = absurd (cc q)
other_scope (Program o) (Program s) Controller p q = refl
other_scope (Program o) (Program s) (Program t) p q = let e : o ≡ s = eqb-true o s q in rw e p

pub others_out : (es : List Entry) (s t : Scope) → same_scope s t ≡ false → Each (IsOutOf t) (in_scope es s)
others_out es s t p = each_map (λ e. same_scope e.scope s ≡ true) (IsOutOf t) (in_scope es s) (λ e q. other_scope e.scope s t p q) (filtered es s)

pub programs_out : (es : List Entry) (t : Scope) (ps : List ℕ) → Each (λ p. same_scope (Program p) t ≡ false) ps → Each (IsOutOf t) (flat_map (λ p. in_scope es (Program p)) ps)
programs_out es t [] h = tt
programs_out es t (p ∷ ps) h = each_append (IsOutOf t) (in_scope es (Program p)) (flat_map (λ p. in_scope es (Program p)) ps) (others_out es (Program p) t h.0) (programs_out es t ps h.1)

pub range_out : (q a n : ℕ) → ((i : ℕ) → a ≤ i → i < a + n → i ≡ q → ⊥) → Each (λ p. same_scope (Program p) (Program q) ≡ false) (range_with_len a n)
range_out q a zero h = tt
range_out q a (suc n) h = (ne_eqb a q (h a (omega arith) (omega arith)), range_out q (a + 1) n (λ i l m. h i (omega arith) (omega arith)))

controllers_out : (a n : ℕ) → Each (λ p. same_scope (Program p) Controller ≡ false) (range_with_len a n)
controllers_out a zero = tt
controllers_out a (suc n) = (refl, controllers_out (a + 1) n)

pub before_out : (es : List Entry) (s : Scope) → Each (IsOutOf s) (laid_before es s)
before_out es Controller = tt
before_out es (Program p) = each_append (IsOutOf (Program p)) (in_scope es Controller) (programs_from es 0 p) (others_out es Controller (Program p) refl) (programs_out es (Program p) (range_with_len 0 p) (range_out p 0 p (λ i l m e. omega arith)))

pub after_out : (es : List Entry) (s : Scope) (programs : ℕ) → Each (IsOutOf s) (laid_after es s programs)
after_out es Controller programs = programs_out es Controller (range_with_len 0 programs) (controllers_out 0 programs)
after_out es (Program p) programs = programs_out es (Program p) (range_with_len (p + 1) (programs - (p + 1))) (range_out p (p + 1) (programs - (p + 1)) (λ i l m e. omega arith))

-- ---- where an entry begins

pub entry_is : (d : Declarations) (s : Scope) (name : List ℕ) → IsScopeOf d.programs s → entry_of d s name ≡ option_map (λ x. (start_of d s x.0, x.1)) (seek s name d.entries)
entry_is d s name h =
    let t : ℕ × Entry → Bool = λ x. is_named s name x.1 in
    let xs : List Entry = laid_before d.entries s in
    let ys : List Entry = in_scope d.entries s in
    let zs : List Entry = laid_after d.entries s d.programs in
    let at : ℕ = end_of d.types 0 xs in
    let first : at ≡ padded_total d.types xs = omega (arith, end_is d.types 0 xs refl) in
    let split : entry_of d s name ≡ option_or (find t (laid_from d.types 0 xs)) (option_or (find t (laid_from d.types at ys)) (find t (laid_from d.types (end_of d.types at ys) zs))) = ap (λ (l : List Entry). find t (laid_from d.types 0 l)) (parted d.entries s d.programs h) ∙ ap (find t) (laid_append d.types 0 xs (ys ++ zs) ∙ ap (λ (l : List (ℕ × Entry)). laid_from d.types 0 xs ++ l) (laid_append d.types at ys zs)) ∙ find-append t (laid_from d.types 0 xs) (laid_from d.types at ys ++ laid_from d.types (end_of d.types at ys) zs) ∙ ap (option_or (find t (laid_from d.types 0 xs))) (find-append t (laid_from d.types at ys) (laid_from d.types (end_of d.types at ys) zs)) in
    let none_before : find t (laid_from d.types 0 xs) ≡ None = none_out d.types s name 0 xs (before_out d.entries s) in
    let none_after : find t (laid_from d.types (end_of d.types at ys) zs) ≡ None = none_out d.types s name (end_of d.types at ys) zs (after_out d.entries s d.programs) in
    let here : find t (laid_from d.types at ys) ≡ option_map (begun d.types s at d.entries) (seek s name d.entries) = find_laid d.types s name at d.entries (ap (λ (n : ℕ). n % 4) first ∙ words d.types xs) in
    split ∙ ap (λ (o : Option (ℕ × Entry)). option_or o (option_or (find t (laid_from d.types at ys)) (find t (laid_from d.types (end_of d.types at ys) zs)))) none_before ∙ ap (option_or (find t (laid_from d.types at ys))) none_after ∙ or_none (find t (laid_from d.types at ys)) ∙ here ∙ ap (λ (n : ℕ). option_map (begun d.types s n d.entries) (seek s name d.entries)) first

-- a program that the table doesn't have has no entries
pub no_entry : (d : Declarations) (p : ℕ) (name : List ℕ) → d.programs ≤ p → entry_of d (Program p) name ≡ None
no_entry d p name h = none_out d.types (Program p) name 0 (ordered d.entries d.programs) (each_append (IsOutOf (Program p)) (in_scope d.entries Controller) (programs_from d.entries 0 d.programs) (others_out d.entries Controller (Program p) refl) (programs_out d.entries (Program p) (range_with_len 0 d.programs) (range_out p 0 d.programs (λ i l m e. omega arith))))

pub none_sought : (es : List Entry) (programs p : ℕ) (name : List ℕ) → Each (λ e. IsScopeOf programs e.scope) es → programs ≤ p → seek (Program p) name es ≡ None
none_sought [] programs p name h l = refl
none_sought (e ∷ es) programs p name h l = let q : same_scope e.scope (Program p) ≡ false = out e.scope h.0 in rw q (ap (option_map next) (none_sought es programs p name h.1 l))
  where
    out : (s : Scope) → IsScopeOf programs s → same_scope s (Program p) ≡ false
    out Controller h = refl
    out (Program q) h = ne_eqb q p (λ e. omega arith)

-- the entry of a name is the first that is named so
pub entry_found : (d : Declarations) (s : Scope) (name : List ℕ) → Each (λ e. IsScopeOf d.programs e.scope) d.entries → entry_of d s name ≡ option_map (λ x. (start_of d s x.0, x.1)) (seek s name d.entries)
entry_found d Controller name h = entry_is d Controller name tt
entry_found d (Program p) name h = go (nat_lt p d.programs) refl
  where
    go : (b : Bool) → nat_lt p d.programs ≡ b → entry_of d (Program p) name ≡ option_map (λ x. (start_of d (Program p) x.0, x.1)) (seek (Program p) name d.entries)
    go true q = entry_is d (Program p) name (ltb-true p d.programs q)
    go false q = no_entry d p name (ltb-false p d.programs q) ∙ sym (ap (option_map (λ x. (start_of d (Program p) x.0, x.1))) (none_sought d.entries d.programs p name h (ltb-false p d.programs q)))
