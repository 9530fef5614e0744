-- What is known of aliases when no chain can be walked any further is what the definition gives.
use Rattle.std.specs.Prelude.{◌≡◌, ℕ, suc, ◌+◌, ◌-◌, ◌≤◌, Bool, true, false, cond, List, [], ◌∷◌, slice_get, Option, Some, None, option_map, Ok, Err, refl}
use Rattle.std.specs.Option.{option_or}
use Rattle.std.specs.List.{position_from}
use Rattle.std.proofs.Common.{sym, ap, ◌∙◌, arith, inr, subst, eqb-true}
use Rattle.std.proofs.lemmas.Iterator.Adapters.{position_from-zero}
use Rattle.spec_language.specs.declared.tag.Scope.{Scope}
use Rattle.spec_language.specs.declared.tag.Scope.TheVariants.{Controller, Program}
use Rattle.spec_language.specs.declared.tag.TagCode.TheVariants.{G3, G7}
use Rattle.spec_language.specs.declared.tag.TagCode.TheVariants as code
use Rattle.spec_base.specs.FirstCause.{◌>>=◌, some_or}
use Rattle.spec_language.specs.Declarations.{Entry, Declarations, same_scope, is_named, entry_of}
use Rattle.spec_language.specs.Resolution.{seen_from, meant, named_within}
use Rattle.spec_language.proofs.FoundBounds.{and_left}
use Rattle.lgx_tags.specs.Chains.{Answer, Resolved, number_in, seen_number, answer, answer_at, answer_of, named_by, target_in, value_in, Below, is_g7, is_open}
use Rattle.lgx_tags.specs.Starts.{start_of}
use Rattle.lgx_tags.proofs.Starts.{next, seek, entry_found}
use Rattle.lgx_tags.proofs.Declares.{AreInScopes}
use Rattle.lgx_tags.proofs.Monotone.{BelowAll, named_unfolds, meant_below, target_below}
use Rattle.std.proofs.lemmas.Option.{same_Some}

-- ---- the entry that a name is seen as

seek_get : (s : Scope) (name : List ℕ) (es : List Entry) (x : ℕ × Entry) → seek s name es ≡ Some x → slice_get es x.0 ≡ Some x.1
seek_get s name [] x p = absurd (cc p)
seek_get s name (e ∷ es) x p = go (is_named s name e) (seek s name es) (λ y q. seek_get s name es y q) p
  where
    go : (b : Bool) (o : Option (ℕ × Entry)) → ((y : ℕ × Entry) → o ≡ Some y → slice_get es y.0 ≡ Some y.1) → cond b (Some (0, e)) (option_map next o) ≡ Some x → slice_get (e ∷ es) x.0 ≡ Some x.1
    go true o known q = subst (λ (x : ℕ × Entry). slice_get (e ∷ es) x.0 ≡ Some x.1) (same_Some (0, e) x q) refl
    go false None known q = absurd (cc q)
    go false (Some y) known q = subst (λ (x : ℕ × Entry). slice_get (e ∷ es) x.0 ≡ Some x.1) (same_Some (next y) x q) (known y refl)

pub scope_same : (s t : Scope) → same_scope s t ≡ true → s ≡ t
scope_same Controller Controller p = refl
scope_same Controller (Program q) p = absurd (cc p)
scope_same (Program p) Controller h = absurd (cc h)
scope_same (Program p) (Program q) h = ap Program (eqb-true p q h)

seek_scope : (s : Scope) (name : List ℕ) (es : List Entry) (x : ℕ × Entry) → seek s name es ≡ Some x → x.1.scope ≡ s
seek_scope s name [] x p = absurd (cc p)
seek_scope s name (e ∷ es) x p = go (is_named s name e) refl (seek s name es) (λ y q. seek_scope s name es y q) p
  where
    go : (b : Bool) → is_named s name e ≡ b → (o : Option (ℕ × Entry)) → ((y : ℕ × Entry) → o ≡ Some y → y.1.scope ≡ s) → cond b (Some (0, e)) (option_map next o) ≡ Some x → x.1.scope ≡ s
    go true r o known q = subst (λ (x : ℕ × Entry). x.1.scope ≡ s) (same_Some (0, e) x q) (scope_same e.scope s (and_left (same_scope e.scope s) _ r))
    go false r None known q = absurd (cc q)
    go false r (Some y) known q = subst (λ (x : ℕ × Entry). x.1.scope ≡ s) (same_Some (next y) x q) (known y refl)

seek_from : (s : Scope) (name : List ℕ) (es : List Entry) (i : ℕ) → position_from (is_named s name) i es ≡ option_map (λ x. i + x.0) (seek s name es)
seek_from s name [] i = refl
seek_from s name (e ∷ es) i = go (is_named s name e) (seek s name es) (seek_from s name es (i + 1))
  where
    at : i ≡ i + 0
    at = omega arith

    go : (b : Bool) (o : Option (ℕ × Entry)) → position_from (is_named s name) (i + 1) es ≡ option_map (λ x. i + 1 + x.0) o → cond b (Some i) (position_from (is_named s name) (i + 1) es) ≡ option_map (λ x. i + x.0) (cond b (Some (0, e)) (option_map next o))
    go true o p = ap Some at
    go false None p = p
    go false (Some y) p = p ∙ ap Some (on y.0)
      where
        on : (k : ℕ) → i + 1 + k ≡ i + suc k
        on k = omega arith

number_sought : (s : Scope) (name : List ℕ) (es : List Entry) → number_in es s name ≡ option_map (λ x. x.0) (seek s name es)
number_sought s name es = position_from-zero (is_named s name) es ∙ seek_from s name es 0 ∙ go (seek s name es)
  where
    at : (k : ℕ) → 0 + k ≡ k
    at k = omega arith

    go : (o : Option (ℕ × Entry)) → option_map (λ x. 0 + x.0) o ≡ option_map (λ x. x.0) o
    go None = refl
    go (Some y) = ap Some (at y.0)

-- the entry with its number
abbrev pub sought : List Entry → Scope → List ℕ → Option (ℕ × Entry)
sought es Controller name = seek Controller name es
sought es (Program p) name = option_or (seek (Program p) name es) (seek Controller name es)

pub sought_get : (es : List Entry) (s : Scope) (name : List ℕ) (x : ℕ × Entry) → sought es s name ≡ Some x → slice_get es x.0 ≡ Some x.1
sought_get es Controller name x p = seek_get Controller name es x p
sought_get es (Program q) name x p = go (seek (Program q) name es) refl p
  where
    go : (o : Option (ℕ × Entry)) → seek (Program q) name es ≡ o → option_or o (seek Controller name es) ≡ Some x → slice_get es x.0 ≡ Some x.1
    go None r t = seek_get Controller name es x t
    go (Some y) r t = seek_get (Program q) name es x (r ∙ t)

pub number_seen : (es : List Entry) (s : Scope) (name : List ℕ) → seen_number es s name ≡ option_map (λ x. x.0) (sought es s name)
number_seen es Controller name = number_sought Controller name es
number_seen es (Program p) name = rw (number_sought, number_sought) (go (seek (Program p) name es))
  where
    go : (o : Option (ℕ × Entry)) → option_or (option_map (λ x. x.0) o) (option_map (λ x. x.0) (seek Controller name es)) ≡ option_map (λ x. x.0) (option_or o (seek Controller name es))
    go None = refl
    go (Some y) = refl

abbrev begun_at : Declarations → ℕ × Entry → ℕ × Entry
begun_at d x = (start_of d x.1.scope x.0, x.1)

own_scope : (d : Declarations) (s : Scope) (name : List ℕ) → AreInScopes d.programs d.entries → entry_of d s name ≡ option_map (begun_at d) (seek s name d.entries)
own_scope d s name h = entry_found d s name h ∙ go (seek s name d.entries) refl
  where
    go : (o : Option (ℕ × Entry)) → seek s name d.entries ≡ o → option_map (λ x. (start_of d s x.0, x.1)) o ≡ option_map (begun_at d) o
    go None r = refl
    go (Some y) r = ap (λ (t : Scope). Some (start_of d t y.0, y.1)) (sym (seek_scope s name d.entries y r))

pub seen_is : (d : Declarations) (s : Scope) (name : List ℕ) → AreInScopes d.programs d.entries → seen_from d s name ≡ option_map (begun_at d) (sought d.entries s name)
seen_is d Controller name h = own_scope d Controller name h
seen_is d (Program p) name h = ap (λ (o : Option (ℕ × Entry)). option_or o (entry_of d Controller name)) (own_scope d (Program p) name h) ∙ ap (option_or (option_map (begun_at d) (seek (Program p) name d.entries))) (own_scope d Controller name h) ∙ go (seek (Program p) name d.entries)
  where
    go : (o : Option (ℕ × Entry)) → option_or (option_map (begun_at d) o) (option_map (begun_at d) (seek Controller name d.entries)) ≡ option_map (begun_at d) (option_or o (seek Controller name d.entries))
    go None = refl
    go (Some y) = refl

-- ---- what names stand for

abbrev pub Values : Type 0
Values = ℕ → Entry → Answer

abbrev pub of_sought : Values → Option (ℕ × Entry) → Answer
of_sought v None = Err G3
of_sought v (Some x) = v x.0 x.1

pub named_value : (n : ℕ) (d : Declarations) (s : Scope) (name : List ℕ) → AreInScopes d.programs d.entries → named_within n d s name ≡ of_sought (value_in n d) (sought d.entries s name)
named_value n d s name h = named_unfolds n d s name ∙ ap (λ (o : Option (ℕ × Entry)). some_or o G3 >>= meant d.types (target_in n d)) (seen_is d s name h) ∙ go (sought d.entries s name)
  where
    go : (o : Option (ℕ × Entry)) → (some_or (option_map (begun_at d) o) G3 >>= meant d.types (target_in n d)) ≡ of_sought (value_in n d) o
    go None = refl
    go (Some x) = refl

pub known_value : (es : List Entry) (known : List Resolved) (s : Scope) (name : List ℕ) → named_by es known s name ≡ of_sought (λ i e. answer_at known i) (sought es s name)
known_value es known s name = ap (answer_of known) (number_seen es s name) ∙ go (sought es s name)
  where
    go : (o : Option (ℕ × Entry)) → answer_of known (option_map (λ x. x.0) o) ≡ of_sought (λ i e. answer_at known i) o
    go None = refl
    go (Some x) = refl

abbrev pub EachBelow : List Entry → Values → Values → Type 0
EachBelow es v w = (i : ℕ) (e : Entry) → slice_get es i ≡ Some e → Below (v i e) (w i e)

sought_below : (es : List Entry) (v w : Values) (s : Scope) (name : List ℕ) → EachBelow es v w → Below (of_sought v (sought es s name)) (of_sought w (sought es s name))
sought_below es v w s name h = go (sought es s name) refl
  where
    go : (o : Option (ℕ × Entry)) → sought es s name ≡ o → Below (of_sought v o) (of_sought w o)
    go None r = inr refl
    go (Some x) r = h x.0 x.1 (sought_get es s name x r)

-- what is known of names is no more than a chain of so many gives, where that is so of the entries
pub known_below : (n : ℕ) (d : Declarations) (known : List Resolved) → AreInScopes d.programs d.entries → EachBelow d.entries (λ i e. answer_at known i) (value_in n d) → (s : Scope) → BelowAll (named_by d.entries known s) (named_within n d s)
known_below n d known h b s name = subst (λ (a : Answer). Below a (named_within n d s name)) (sym (known_value d.entries known s name)) (subst (λ (a : Answer). Below (of_sought (λ i e. answer_at known i) (sought d.entries s name)) a) (sym (named_value n d s name h)) (sought_below d.entries (λ i e. answer_at known i) (value_in n d) s name b))

pub named_known : (n : ℕ) (d : Declarations) (known : List Resolved) → AreInScopes d.programs d.entries → EachBelow d.entries (value_in n d) (λ i e. answer_at known i) → (s : Scope) → BelowAll (named_within n d s) (named_by d.entries known s)
named_known n d known h b s name = subst (λ (a : Answer). Below a (named_by d.entries known s name)) (sym (named_value n d s name h)) (subst (λ (a : Answer). Below (of_sought (value_in n d) (sought d.entries s name)) a) (sym (known_value d.entries known s name)) (sought_below d.entries (value_in n d) (λ i e. answer_at known i) s name b))

-- ---- chains that may be longer

abbrev whole : Entry → Entry
whole e = record { scope = e.scope; name = e.name; meaning = e.meaning }

pub value_grows : (n k : ℕ) (d : Declarations) (i : ℕ) (e : Entry) → Below (value_in n d i e) (value_in (n + k) d i e)
value_grows n k d i e = meant_below d.types (target_in n d) (target_in (n + k) d) (start_of d e.scope i) e.scope e.name e.meaning (λ s text. target_below n k d s text)

pub value_up : (n m : ℕ) (d : Declarations) (i : ℕ) (e : Entry) → n ≤ m → Below (value_in n d i e) (value_in m d i e)
value_up n m d i e h = let on : n + (m - n) ≡ m = omega arith in subst (λ (m : ℕ). Below (value_in n d i e) (value_in m d i e)) on (value_grows n (m - n) d i e)

-- ---- when all chains are walked

pub g7_closed : (k : Resolved) → answer k ≡ Err G7 → is_open k ≡ true
g7_closed (Ok s) p = absurd (cc p)
g7_closed (Err given) p = let q : given ≡ G7 = cc p in ap is_g7 q

pub open_g7 : (k : Resolved) → is_open k ≡ true → answer k ≡ Err G7
open_g7 (Ok s) p = absurd (cc p)
open_g7 (Err G7) p = refl
open_g7 (Err code.G1) p = absurd (cc p)
open_g7 (Err code.G2) p = absurd (cc p)
open_g7 (Err G3) p = absurd (cc p)
open_g7 (Err code.G4) p = absurd (cc p)
open_g7 (Err code.G5) p = absurd (cc p)
open_g7 (Err code.G6) p = absurd (cc p)
open_g7 (Err code.G8) p = absurd (cc p)
open_g7 (Err code.G9) p = absurd (cc p)
open_g7 (Err code.G10) p = absurd (cc p)
