-- Where a chain may go on longer, what was found stays, and only what ran out may change.
use Rattle.std.specs.Prelude.{◌≡◌, ℕ, zero, suc, ◌+◌, List, Option, Some, None, Result, Err, refl}
use Rattle.std.proofs.Common.{sym, ap, ◌∙◌, arith, inl, inr, subst}
use Rattle.spec_language.specs.declared.types.TypeDecl.{TypeDecl}
use Rattle.spec_language.specs.declared.tag.Scope.{Scope}
use Rattle.spec_language.specs.declared.tag.TagCode.{TagCode}
use Rattle.spec_language.specs.declared.tag.TagCode.TheVariants.{G3, G5, G6, G10}
use Rattle.spec_language.specs.declared.tag.Found.{Found}
use Rattle.spec_base.specs.FirstCause.{◌>>=◌, unless, some_or}
use Rattle.spec_language.specs.OperandForm.{Form, tag, member, element, indexed, bit, form}
use Rattle.spec_language.specs.Declarations.{Meaning, Entry, Declarations}
use Rattle.spec_language.specs.Declarations.{tag as is_tag, alias as is_alias}
use Rattle.spec_language.specs.Resolution.{is_array, find_member, find_element, find_bit, find_indexed, numbers_alone, resolved, seen_from, meant, in_form, named_within}
pub use Rattle.lgx_tags.specs.Chains.{Answer, Below, target_in}

abbrev pub BelowAll : (List ℕ → Answer) → (List ℕ → Answer) → Type 0
BelowAll f g = (name : List ℕ) → Below (f name) (g name)

pub below_trans : {A : Type 0} (a b c : Result A TagCode) → Below a b → Below b c → Below a c
below_trans a b c (inl p) q = inl p
below_trans a b c (inr p) (inl q) = inl (p ∙ q)
below_trans a b c (inr p) (inr q) = inr (p ∙ q)

pub below_same : {A : Type 0} (a b : Result A TagCode) → Below a b → Below b a → a ≡ b
below_same a b (inr p) q = p
below_same a b (inl p) (inl q) = p ∙ sym q
below_same a b (inl p) (inr q) = sym q

bind_below : (a b : Answer) (f : Found → Answer) → Below a b → Below (a >>= f) (b >>= f)
bind_below a b f (inl p) = inl (ap (λ (r : Answer). r >>= f) p)
bind_below a b f (inr p) = inr (ap (λ (r : Answer). r >>= f) p)

pub resolved_below : (types : List TypeDecl) (f g : List ℕ → Answer) → BelowAll f g → (form : Form) → Below (resolved numbers_alone types f form) (resolved numbers_alone types g form)
resolved_below types f g h (tag name) = h name
resolved_below types f g h (member form name) = bind_below (resolved numbers_alone types f form) (resolved numbers_alone types g form) (λ x. find_member types x name) (resolved_below types f g h form)
resolved_below types f g h (element form n) = bind_below (resolved numbers_alone types f form) (resolved numbers_alone types g form) (λ x. find_element types x n) (resolved_below types f g h form)
resolved_below types f g h (bit form n) = bind_below (resolved numbers_alone types f form) (resolved numbers_alone types g form) (λ x. find_bit x n) (resolved_below types f g h form)
resolved_below types f g h (indexed form inner) = bind_below (resolved numbers_alone types f form) (resolved numbers_alone types g form) (λ x. unless (is_array x.of) G5 >>= λ _. find_indexed types x (Err G6)) (resolved_below types f g h form)

pub form_below : (types : List TypeDecl) (f g : List ℕ → Answer) (text : List ℕ) → BelowAll f g → Below (in_form numbers_alone types f text) (in_form numbers_alone types g text)
form_below types f g text h = go (form text)
  where
    go : (o : Option Form) → Below (some_or o G10 >>= resolved numbers_alone types f) (some_or o G10 >>= resolved numbers_alone types g)
    go None = inr refl
    go (Some form) = resolved_below types f g h form

-- ---- what a chain of at most so many aliases gives

pub named_unfolds : (n : ℕ) (d : Declarations) (s : Scope) (name : List ℕ) → named_within n d s name ≡ (some_or (seen_from d s name) G3 >>= meant d.types (target_in n d))
named_unfolds zero d s name = refl
named_unfolds (suc n) d s name = refl

pub meant_below : (types : List TypeDecl) (f g : Scope → List ℕ → Answer) (at : ℕ) (s : Scope) (name : List ℕ) (m : Meaning) → ((s : Scope) (text : List ℕ) → Below (f s text) (g s text)) → Below (meant types f (at, record { scope = s; name = name; meaning = m })) (meant types g (at, record { scope = s; name = name; meaning = m }))
meant_below types f g at s name (is_tag of) h = inr refl
meant_below types f g at s name (is_alias text) h = h s text

pub named_below : (n m : ℕ) (d : Declarations) → ((s : Scope) (text : List ℕ) → Below (target_in n d s text) (target_in m d s text)) → (s : Scope) (name : List ℕ) → Below (named_within n d s name) (named_within m d s name)
named_below n m d h s name = subst (λ (a : Answer). Below a (named_within m d s name)) (sym (named_unfolds n d s name)) (subst (λ (b : Answer). Below (some_or (seen_from d s name) G3 >>= meant d.types (target_in n d)) b) (sym (named_unfolds m d s name)) (go (seen_from d s name)))
  where
    go : (o : Option (ℕ × Entry)) → Below (some_or o G3 >>= meant d.types (target_in n d)) (some_or o G3 >>= meant d.types (target_in m d))
    go None = inr refl
    go (Some x) = meant_below d.types (target_in n d) (target_in m d) x.0 x.1.scope x.1.name x.1.meaning h

-- a longer chain finds no less
pub target_grows : (n : ℕ) (d : Declarations) (s : Scope) (text : List ℕ) → Below (target_in n d s text) (target_in (suc n) d s text)
target_grows zero d s text = inl refl
target_grows (suc n) d s text = form_below d.types (named_within n d s) (named_within (suc n) d s) text (named_below n (suc n) d (λ s text. target_grows n d s text) s)

pub target_below : (n k : ℕ) (d : Declarations) (s : Scope) (text : List ℕ) → Below (target_in n d s text) (target_in (n + k) d s text)
target_below n zero d s text = inr (ap (λ (m : ℕ). target_in m d s text) zero_on)
  where
    zero_on : n ≡ n + 0
    zero_on = omega arith
target_below n (suc k) d s text =
    let on : suc (n + k) ≡ n + suc k = omega arith in
    subst (λ (m : ℕ). Below (target_in n d s text) (target_in m d s text)) on (below_trans (target_in n d s text) (target_in (n + k) d s text) (target_in (suc (n + k)) d s text) (target_below n k d s text) (target_grows (n + k) d s text))
