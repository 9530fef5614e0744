-- Texts that are seen from a program.
use Rattle.std.proofs.Common.{◌≡◌, ℕ, suc, ◌+◌, Bool, true, false, ◌&&◌, ◌||◌, ◌==◌, nat_eq, List, [], ◌∷◌, ◌++◌, length, drop, take, Some, None, Err, refl, ap, sym, subst, ◌∙◌, arith}
use Rattle.std.specs.Cmp.Lexicographic.{pointwise}
use Rattle.std.specs.List.{list_any, position_or_len, before_first, after_first}
use Rattle.spec_base.proofs.Lists.{pointwise_sym}
use Rattle.spec_base.specs.Pieces.{has_byte}
use Rattle.lgx_num.specs.Name.{is_name}
use Rattle.spec_language.specs.declared.tag.Scope.TheVariants.{Controller, Program}
use Rattle.spec_language.specs.declared.tag.TagCode.TheVariants.{G3}
use Rattle.spec_language.specs.Resolution.{found_fixed}
use Rattle.spec_project.specs.declared.described.Described.{Described}
use Rattle.spec_project.specs.Places.{found_in, has_scope, is_prefixed, prefix, scope_name}
use Rattle.spec_project.specs.Schedules.{program_named}
use Rattle.spec_project.specs.Tags.{declarations}
use Rattle.lgx_places.specs.Naming.{IsScopedAs}

-- ---- the first dot

abbrev is_dot : ℕ → Bool
is_dot c = c == 46

impossible : false ≡ true → ⊥
impossible e = cc

one_more : (n : ℕ) → 1 + n ≡ suc n
one_more n = omega arith

two_more : (n : ℕ) → 1 + n + 1 ≡ suc (n + 1)
two_more n = omega arith

-- a dot with no dot before it is the first
first_dot : (name rest : List ℕ) → has_byte 46 name ≡ false → (before_first is_dot (name ++ 46 ∷ rest) ≡ name) × (after_first is_dot (name ++ 46 ∷ rest) ≡ rest) × (list_any is_dot (name ++ 46 ∷ rest) ≡ true)
first_dot [] rest none = (refl, refl, refl)
first_dot (c ∷ name) rest none = go (is_dot c) refl none (λ h. first_dot name rest h)
  where
    go : (b : Bool) → is_dot c ≡ b → (b || has_byte 46 name) ≡ false
        → (has_byte 46 name ≡ false → (before_first is_dot (name ++ 46 ∷ rest) ≡ name) × (after_first is_dot (name ++ 46 ∷ rest) ≡ rest) × (list_any is_dot (name ++ 46 ∷ rest) ≡ true))
        → (before_first is_dot (c ∷ name ++ 46 ∷ rest) ≡ c ∷ name) × (after_first is_dot (c ∷ name ++ 46 ∷ rest) ≡ rest) × (list_any is_dot (c ∷ name ++ 46 ∷ rest) ≡ true)
    go true e h after = absurd (impossible (sym h))
    go false e h after =
        let r = after h in
        let n = position_or_len is_dot (name ++ 46 ∷ rest) in
        rw e (
          subst (λ (k : ℕ). take k (c ∷ name ++ 46 ∷ rest) ≡ c ∷ name) (sym (one_more n)) (ap (λ (cs : List ℕ). c ∷ cs) r.0),
          subst (λ (k : ℕ). drop k (c ∷ name ++ 46 ∷ rest) ≡ rest) (sym (two_more n)) r.1,
          r.2,
        )

-- ---- the prefix

begins : (text : List ℕ) (b : Bool) → pointwise nat_eq (take (length prefix) text) prefix ≡ b → pointwise nat_eq prefix (take (length prefix) text) ≡ b
begins text b e = pointwise_sym prefix (take (length prefix) text) ∙ e

-- the prefix and then a name with a dot behind it
prefixed : (text after name rest : List ℕ) → pointwise nat_eq (take (length prefix) text) prefix ≡ true → after ≡ drop (length prefix) text → after ≡ name ++ 46 ∷ rest → has_byte 46 name ≡ false → is_prefixed text ≡ true
prefixed text after name rest begun is parts none =
    ap (λ b. b && list_any is_dot (drop (length prefix) text)) (begins text true begun) ∙ ap (list_any is_dot) (sym is ∙ parts) ∙ (first_dot name rest none).2

named_as : (text after name rest : List ℕ) → after ≡ drop (length prefix) text → after ≡ name ++ 46 ∷ rest → has_byte 46 name ≡ false → scope_name text ≡ name
named_as text after name rest is parts none = ap (before_first is_dot) (sym is ∙ parts) ∙ (first_dot name rest none).0

-- whether it is a name decides
scoped_if : (text after name rest : List ℕ) (b : Bool) → pointwise nat_eq (take (length prefix) text) prefix ≡ true → after ≡ drop (length prefix) text → after ≡ name ++ 46 ∷ rest → has_byte 46 name ≡ false → is_name name ≡ b → has_scope text ≡ b
scoped_if text after name rest b begun is parts none e =
    ap (λ (d : Bool). d && is_name (scope_name text)) (prefixed text after name rest begun is parts none)
    ∙ (ap is_name (named_as text after name rest is parts none) ∙ e)

pub scoped_as : (text after name rest : List ℕ) → pointwise nat_eq (take (length prefix) text) prefix ≡ true → after ≡ drop (length prefix) text → after ≡ name ++ 46 ∷ rest → has_byte 46 name ≡ false → is_name name ≡ true → IsScopedAs text name rest
scoped_as text after name rest begun is parts none named = record {
  scoped = scoped_if text after name rest true begun is parts none named;
  named = named_as text after name rest is parts none;
  after = ap (after_first is_dot) (sym is ∙ parts) ∙ (first_dot name rest none).1;
}

pub no_name : (text after name rest : List ℕ) → pointwise nat_eq (take (length prefix) text) prefix ≡ true → after ≡ drop (length prefix) text → after ≡ name ++ 46 ∷ rest → has_byte 46 name ≡ false → is_name name ≡ false → has_scope text ≡ false
no_name text after name rest begun is parts none other = scoped_if text after name rest false begun is parts none other

pub not_begun : (text : List ℕ) → pointwise nat_eq (take (length prefix) text) prefix ≡ false → has_scope text ≡ false
not_begun text other = ap (λ b. (b && list_any is_dot (drop (length prefix) text)) && is_name (scope_name text)) (begins text false other)

pub no_dot : (text after : List ℕ) → pointwise nat_eq (take (length prefix) text) prefix ≡ true → after ≡ drop (length prefix) text → has_byte 46 after ≡ false → has_scope text ≡ false
no_dot text after begun is none =
    ap (λ (b : Bool). b && is_name (scope_name text))
    (ap (λ b. b && list_any is_dot (drop (length prefix) text)) (begins text true begun) ∙ ap (list_any is_dot) (sym is) ∙ none)

-- ---- what a text names

pub found_from : (p : Described) (text name rest : List ℕ) (n : ℕ) → IsScopedAs text name rest → program_named p name ≡ Some n → found_in p text ≡ found_fixed (declarations p) (Program n) rest
found_from p text name rest n s is = rw (s.scoped, s.named, is) (ap (found_fixed (declarations p) (Program n)) s.after)

pub found_nowhere : (p : Described) (text name rest : List ℕ) → IsScopedAs text name rest → program_named p name ≡ None → found_in p text ≡ Err G3
found_nowhere p text name rest s is = rw (s.scoped, s.named, is) refl

pub found_plain : (p : Described) (text : List ℕ) → has_scope text ≡ false → found_in p text ≡ found_fixed (declarations p) Controller text
found_plain p text none = rw none refl
