-- A name is found among the keys where it is found among the entries.
use Rattle.std.specs.Prelude.{◌≡◌, ℕ, ◌+◌, ◌<◌, ◌≤◌, Bool, true, false, cond, ◌&&◌, ◌==◌, nat_eq, List, [], ◌∷◌, ◌++◌, length, map, take, drop, replicate, position, Option, Some, None, refl}
use Rattle.std.specs.Char.{to_ascii_lowercase}
use Rattle.std.specs.Cmp.Lexicographic.{pointwise}
use Rattle.std.specs.List.{AllByRecursion as Each, position_from}
use Rattle.std.proofs.Common.{sym, ap, ◌∙◌, arith, eqb-true, eq-eqb}
use Rattle.std.proofs.lemmas.Bool.{and_right as false_right, or_parts}
use Rattle.std.proofs.lemmas.Iterator.Adapters.{position_from-zero}
use Rattle.std.proofs.lemmas.List.{length-map, map-append}
use Rattle.std.proofs.lemmas.Slice.Eq.{bytes_eq-Decides}
use Rattle.std.proofs.Math.Seq.{take-append_seam}
use Rattle.lgx_num.specs.Name.{same}
use Rattle.spec_language.specs.declared.types.TypeDecl.{TypeDecl}
use Rattle.spec_language.specs.declared.tag.Scope.{Scope}
use Rattle.spec_language.specs.declared.tag.Scope.TheVariants.{Controller, Program}
use Rattle.spec_language.specs.Declarations.{Entry, same_scope, is_named}
use Rattle.spec_language.proofs.FoundBounds.{and_left, and_right}
use Rattle.lgx_tags.specs.Keys.{lowered, key_of}
use Rattle.std.specs.Option.{option_or}
use Rattle.lgx_tags.specs.Chains.{seen_number}
use Rattle.lgx_tags.specs.Scopes.{is_own}
use Rattle.lgx_tags.specs.Tables.{IsAdmitted, keys_of, has_own}
use Rattle.lgx_tags.specs.declared.key.Key.{Key}
use Rattle.lgx_tags.specs.contracts.key.KeyPartialEq.TheImpl.{eq-value}
use Rattle.std.specs.Cmp.Derive.{both_true}
use Rattle.spec_base.proofs.Lists.{same_truth}
use Rattle.spec_base.specs.declared.limits.TheConstants.{MAX_TAG_NAME_BYTES}

-- ---- keys

abbrev pub same_key : Key → Key → Bool
same_key k l = eq-value.it k l

abbrev lower : List ℕ → List ℕ
lower = map to_ascii_lowercase

-- the names that two keys are of
keyed_name : (zeros a b : List ℕ) → length a ≡ length b → lower (a ++ drop (length a) zeros) ≡ lower (b ++ drop (length b) zeros) → lower b ≡ lower a
keyed_name zeros a b p q =
    let front : (xs : List ℕ) → take (length (lower xs)) (lower (xs ++ drop (length xs) zeros)) ≡ lower xs = λ xs. ap (take (length (lower xs))) (map-append to_ascii_lowercase xs (drop (length xs) zeros)) ∙ take-append_seam (lower xs) (lower (drop (length xs) zeros)) in
    let long : length (lower a) ≡ length (lower b) = length-map a to_ascii_lowercase ∙ p ∙ sym (length-map b to_ascii_lowercase) in
    sym (sym (front a) ∙ ap (λ (n : ℕ). take n (lower (a ++ drop (length a) zeros))) long ∙ ap (take (length (lower b))) q ∙ front b)

name_keyed : (zeros a b : List ℕ) → lower b ≡ lower a → lower (a ++ drop (length a) zeros) ≡ lower (b ++ drop (length b) zeros)
name_keyed zeros a b p =
    let long : length a ≡ length b = sym (length-map a to_ascii_lowercase) ∙ ap length (sym p) ∙ length-map b to_ascii_lowercase in
    map-append to_ascii_lowercase a (drop (length a) zeros) ∙ ap (λ (xs : List ℕ). xs ++ lower (drop (length a) zeros)) (sym p) ∙ ap (λ (n : ℕ). lower b ++ lower (drop n zeros)) long ∙ sym (map-append to_ascii_lowercase b (drop (length b) zeros))

-- a test of lengths and bytes
abbrev of_names : List ℕ → List ℕ → Bool
of_names a b = (length a == length b) && pointwise nat_eq (lowered a) (lowered b)

named_alike : (a b : List ℕ) → of_names a b ≡ same b a
named_alike a b = same_truth (of_names a b) (same b a) (λ p. (bytes_eq-Decides (lower b) (lower a)).1 (keyed_name (replicate MAX_TAG_NAME_BYTES 0) a b (eqb-true (length a) (length b) (and_left (length a == length b) _ p)) ((bytes_eq-Decides (lowered a) (lowered b)).0 (and_right (length a == length b) _ p)))) (λ p. let e : lower b ≡ lower a = (bytes_eq-Decides (lower b) (lower a)).0 p in let long : length a ≡ length b = sym (length-map a to_ascii_lowercase) ∙ ap length (sym e) ∙ length-map b to_ascii_lowercase in both_true (eq-eqb (length a) (length b) long) ((bytes_eq-Decides (lowered a) (lowered b)).1 (name_keyed (replicate MAX_TAG_NAME_BYTES 0) a b e)))

eq_turned : (p q : ℕ) → nat_eq p q ≡ (q == p)
eq_turned p q = same_truth (nat_eq p q) (q == p) (λ h. eq-eqb q p (sym (eqb-true p q h))) (λ h. eq-eqb p q (sym (eqb-true q p h)))

pub key_named : (s t : Scope) (a b : List ℕ) → same_key (key_of s a) (key_of t b) ≡ (same_scope t s && same b a)
key_named Controller Controller a b = named_alike a b
key_named Controller (Program q) a b = refl
key_named (Program p) Controller a b = refl
key_named (Program p) (Program q) a b = ap (λ (c : Bool). c && of_names a b) (eq_turned p q) ∙ ap (λ (c : Bool). (q == p) && c) (named_alike a b)

-- ---- where a name is found

pub position_keyed : (s : Scope) (name : List ℕ) (es : List Entry) (i : ℕ) → position_from (same_key (key_of s name)) i (keys_of es) ≡ position_from (is_named s name) i es
position_keyed s name [] i = refl
position_keyed s name (e ∷ es) i = rw key_named (ap (cond (is_named s name e) (Some i)) (position_keyed s name es (i + 1)))

pub key_position : (s : Scope) (name : List ℕ) (es : List Entry) → position (same_key (key_of s name)) (keys_of es) ≡ position (is_named s name) es
key_position s name es = position_from-zero (same_key (key_of s name)) (keys_of es) ∙ position_keyed s name es 0 ∙ sym (position_from-zero (is_named s name) es)

-- names that are longer than tag names may be aren't found
same_length : (a b : List ℕ) → same a b ≡ true → length a ≡ length b
same_length a b p = sym (length-map a to_ascii_lowercase) ∙ ap length ((bytes_eq-Decides (lower a) (lower b)).0 p) ∙ length-map b to_ascii_lowercase

not_named : (s : Scope) (name : List ℕ) (e : Entry) → length e.name ≤ MAX_TAG_NAME_BYTES → MAX_TAG_NAME_BYTES < length name → is_named s name e ≡ false
not_named s name e p q = false_right (same_scope e.scope s) (same e.name name) (go (same e.name name) refl)
  where
    go : (b : Bool) → same e.name name ≡ b → b ≡ false
    go true h = absurd (omega (arith, same_length e.name name h))
    go false h = refl

long_from : (types : List TypeDecl) (programs : ℕ) (s : Scope) (name : List ℕ) (es : List Entry) (i : ℕ) → Each (IsAdmitted types programs) es → MAX_TAG_NAME_BYTES < length name → position_from (is_named s name) i es ≡ None
long_from types programs s name [] i h q = refl
long_from types programs s name (e ∷ es) i h q = rw (not_named s name e h.0.short q) (long_from types programs s name es (i + 1) h.1 q)

pub long_nowhere : (types : List TypeDecl) (programs : ℕ) (s : Scope) (name : List ℕ) (es : List Entry) → Each (IsAdmitted types programs) es → MAX_TAG_NAME_BYTES < length name → position (is_named s name) es ≡ None
long_nowhere types programs s name es h q = position_from-zero (is_named s name) es ∙ long_from types programs s name es 0 h q

-- ---- programs without entries of their own

not_own : (p : ℕ) (name : List ℕ) (s : Scope) (b : Bool) → is_own s ≡ false → (same_scope s (Program p) && b) ≡ false
not_own p name Controller b h = refl
not_own p name (Program q) b h = absurd (cc h)

none_own_from : (p : ℕ) (name : List ℕ) (es : List Entry) (i : ℕ) → has_own es ≡ false → position_from (is_named (Program p) name) i es ≡ None
none_own_from p name [] i h = refl
none_own_from p name (e ∷ es) i h =
    let parts = or_parts (is_own e.scope) (has_own es) h in
    rw (not_own p name e.scope (same e.name name) parts.0) (none_own_from p name es (i + 1) parts.1)

-- where no program has an entry of its own, the controller's alone are seen
pub seen_alone : (s : Scope) (name : List ℕ) (es : List Entry) → has_own es ≡ false → seen_number es s name ≡ position (is_named Controller name) es
seen_alone Controller name es h = refl
seen_alone (Program p) name es h = ap (λ (o : Option ℕ). option_or o (position (is_named Controller name) es)) (position_from-zero (is_named (Program p) name) es ∙ none_own_from p name es 0 h)

-- an entry of the scope's own is seen
pub own_seen : (s : Scope) (name : List ℕ) (es : List Entry) (i : ℕ) → position (is_named s name) es ≡ Some i → seen_number es s name ≡ Some i
own_seen Controller name es i h = h
own_seen (Program p) name es i h = ap (λ (o : Option ℕ). option_or o (position (is_named Controller name) es)) h
