-- How many bytes entries take in the image: as many as each of them takes, in whatever order they are laid.
use Rattle.std.specs.Prelude.{◌≡◌, ◌≢◌, ℕ, zero, suc, ◌+◌, ◌%◌, ◌<◌, ◌≤◌, Bool, true, false, cond, ◌==◌, List, [], ◌∷◌, ◌++◌, flat_map, refl}
use Rattle.std.specs.List.{AllByRecursion as Each, range_with_len}
use Rattle.std.proofs.Common.{sym, ◌∙◌, arith, eqb-true, eq-eqb}
use Rattle.spec_language.specs.declared.types.TypeDecl.{TypeDecl}
use Rattle.spec_language.specs.declared.tag.Scope.{Scope}
use Rattle.spec_language.specs.declared.tag.Scope.TheVariants.{Controller, Program}
use Rattle.spec_language.specs.Layout.{round_up}
use Rattle.spec_language.specs.Declarations.{Entry, same_scope, in_scope, entry_size, end_of}
use Rattle.lgx_tags.specs.Scopes.{IsScopeOf}
pub use Rattle.lgx_tags.specs.Starts.{padded_size, padded_total}
use Rattle.std.proofs.lemmas.Bool.{true≢false}

pub next_at : (at n : ℕ) → at % 4 ≡ 0 → round_up 4 (at + n) ≡ at + round_up 4 n
next_at at n p = omega arith

pub whole_words : (n : ℕ) → round_up 4 n % 4 ≡ 0
whole_words n = omega arith

pub words_on : (at n : ℕ) → at % 4 ≡ 0 → (at + round_up 4 n) % 4 ≡ 0
words_on at n p = omega arith

pub end_is : (types : List TypeDecl) (at : ℕ) (es : List Entry) → at % 4 ≡ 0 → end_of types at es ≡ at + padded_total types es
end_is types at [] p = omega arith
end_is types at (e ∷ es) p = omega (arith, next_at at (entry_size types e) p, end_is types (round_up 4 (at + entry_size types e)) es (whole_words (at + entry_size types e)))

pub total_append : (types : List TypeDecl) (xs ys : List Entry) → padded_total types (xs ++ ys) ≡ padded_total types xs + padded_total types ys
total_append types [] ys = omega arith
total_append types (x ∷ xs) ys = omega (arith, total_append types xs ys)

pub words : (types : List TypeDecl) (es : List Entry) → padded_total types es % 4 ≡ 0
words types [] = refl
words types (e ∷ es) = omega (arith, words types es)

-- ---- in whatever order

-- the entries of a list in the order of the layout
abbrev pub ordered : List Entry → ℕ → List Entry
ordered es programs = in_scope es Controller ++ flat_map (λ p. in_scope es (Program p)) (range_with_len 0 programs)

-- what an entry of a scope and of so many bytes takes in a scope
abbrev pub share : ℕ → Scope → Scope → ℕ
share n own s = cond (same_scope own s) n 0

abbrev pub shares : ℕ → Scope → List ℕ → ℕ
shares n own [] = 0
shares n own (p ∷ ps) = share n own (Program p) + shares n own ps

total_cons : (types : List TypeDecl) (e : Entry) (es : List Entry) (s : Scope) → padded_total types (in_scope (e ∷ es) s) ≡ share (padded_size types e) e.scope s + padded_total types (in_scope es s)
total_cons types e es s = go (same_scope e.scope s)
  where
    go : (b : Bool) → padded_total types (cond b (e ∷ in_scope es s) (in_scope es s)) ≡ cond b (padded_size types e) 0 + padded_total types (in_scope es s)
    go true = refl
    go false = omega arith

total_flat : (types : List TypeDecl) (e : Entry) (es : List Entry) (ps : List ℕ) → padded_total types (flat_map (λ p. in_scope (e ∷ es) (Program p)) ps) ≡ shares (padded_size types e) e.scope ps + padded_total types (flat_map (λ p. in_scope es (Program p)) ps)
total_flat types e es [] = omega arith
total_flat types e es (p ∷ ps) = omega (arith, total_append types (in_scope (e ∷ es) (Program p)) (flat_map (λ p. in_scope (e ∷ es) (Program p)) ps), total_append types (in_scope es (Program p)) (flat_map (λ p. in_scope es (Program p)) ps), total_cons types e es (Program p), total_flat types e es ps)

none_of_controller : (n : ℕ) (ps : List ℕ) → shares n Controller ps ≡ 0
none_of_controller n [] = refl
none_of_controller n (p ∷ ps) = omega (arith, none_of_controller n ps)

none_past : (n q a k : ℕ) → q < a → shares n (Program q) (range_with_len a k) ≡ 0
none_past n q a zero h = refl
none_past n q a (suc k) h = go (q == a) refl (none_past n q (a + 1) k (omega arith))
  where
    go : (b : Bool) → (q == a) ≡ b → shares n (Program q) (range_with_len (a + 1) k) ≡ 0 → cond b n 0 + shares n (Program q) (range_with_len (a + 1) k) ≡ 0
    go true e r = absurd (omega (arith, eqb-true q a e))
    go false e r = omega arith

one_in : (n q a k : ℕ) → a ≤ q → q < a + k → shares n (Program q) (range_with_len a k) ≡ n
one_in n q a zero h l = absurd (omega arith)
one_in n q a (suc k) h l = go (q == a) refl (λ h l. one_in n q (a + 1) k h l)
  where
    go : (b : Bool) → (q == a) ≡ b → (a + 1 ≤ q → q < a + 1 + k → shares n (Program q) (range_with_len (a + 1) k) ≡ n) → cond b n 0 + shares n (Program q) (range_with_len (a + 1) k) ≡ n
    go true e known = omega (arith, none_past n q (a + 1) k (omega (arith, eqb-true q a e)))
    go false e known = let other : q ≢ a = λ r. true≢false (sym (eq-eqb q a r) ∙ e) in omega (arith, known (omega arith) (omega arith))

-- an entry has its part in one scope
one_share : (n : ℕ) (own : Scope) (programs : ℕ) → IsScopeOf programs own → share n own Controller + shares n own (range_with_len 0 programs) ≡ n
one_share n Controller programs h = omega (arith, none_of_controller n (range_with_len 0 programs))
one_share n (Program q) programs h = omega (arith, one_in n q 0 programs (omega arith) (omega arith))

pub total_ordered : (types : List TypeDecl) (es : List Entry) (programs : ℕ) → Each (λ e. IsScopeOf programs e.scope) es → padded_total types (ordered es programs) ≡ padded_total types es
total_ordered types [] programs h = go (range_with_len 0 programs)
  where
    go : (ps : List ℕ) → padded_total types (flat_map (λ p. in_scope [] (Program p)) ps) ≡ 0
    go [] = refl
    go (p ∷ ps) = go ps
total_ordered types (e ∷ es) programs h =
    omega (arith, total_append types (in_scope (e ∷ es) Controller) (flat_map (λ p. in_scope (e ∷ es) (Program p)) (range_with_len 0 programs)), total_append types (in_scope es Controller) (flat_map (λ p. in_scope es (Program p)) (range_with_len 0 programs)), total_cons types e es Controller, total_flat types e es (range_with_len 0 programs), one_share (padded_size types e) e.scope programs h.0, total_ordered types es programs h.1)

-- no entries take no bytes
pub none_laid : (types : List TypeDecl) (programs : ℕ) → end_of types 0 (ordered [] programs) ≡ 0
none_laid types programs = omega (arith, end_is types 0 (ordered [] programs) refl, total_ordered types [] programs tt)
