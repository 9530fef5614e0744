-- Walking the chains: each alias that is found makes one fewer that isn't known, and when none is found any more, what is
-- known is what the definition gives.
use Rattle.std.specs.Prelude.{◌≡◌, ℕ, zero, suc, ◌+◌, ◌-◌, ◌<◌, ◌≤◌, Bool, true, false, cond, ◌==◌, nat_le, List, length, slice_get, slice_set, slice_index_or, Some, Ok, Err, refl}
use Rattle.std.proofs.Common.{sym, ap, ◌∙◌, arith, inl, inr, subst, eqb-true, eq-eqb, leb-true, leb-false, length-set, get_or-set_same, get_or-set_other}
use Rattle.std.proofs.lemmas.List.{set-get_or}
use Rattle.std.proofs.lemmas.List.Sums.{sum_by-set}
use Rattle.std.proofs.lemmas.Option.{slice_get_within}
use Rattle.spec_language.specs.declared.types.DataType.{DataType}
use Rattle.spec_language.specs.declared.tag.Scope.{Scope}
use Rattle.spec_language.specs.declared.tag.TagCode.TheVariants.{G7}
use Rattle.spec_language.specs.declared.tag.TagCode.TheVariants as code
use Rattle.spec_language.specs.Declarations.{Meaning, Entry, Declarations}
use Rattle.spec_language.specs.Declarations.{tag as is_tag, alias as is_alias}
use Rattle.spec_language.specs.Resolution.{numbers_alone, tag_found, in_form, named_within, named, found_fixed, aliases}
use Rattle.lgx_tags.specs.Chains.{Answer, Resolved, answer, answer_at, named_by, target_in, value_in, Below, is_open, open_in, PartlyResolved, IsStuck, AllResolved, ResolvesEntry}
use Rattle.lgx_tags.specs.Starts.{start_of}
use Rattle.lgx_tags.proofs.Declares.{AreInScopes}
use Rattle.lgx_tags.proofs.Monotone.{below_trans, below_same, form_below}
use Rattle.lgx_tags.proofs.Chains.{EachBelow, known_below, named_known, value_up, g7_closed, open_g7}
use Rattle.std.proofs.lemmas.Option.{same_Some}

value_tag : (n : ℕ) (d : Declarations) (i : ℕ) (e : Entry) (of : DataType) → e.meaning ≡ is_tag of → value_in n d i e ≡ Ok (tag_found d.types (start_of d e.scope i) of)
value_tag n d i e of p = rw p refl

value_alias : (n : ℕ) (d : Declarations) (i : ℕ) (e : Entry) (t : List ℕ) → e.meaning ≡ is_alias t → value_in n d i e ≡ target_in n d e.scope t
value_alias n d i e t p = rw p refl

-- ---- when none is found any more

-- an alias that isn't known ran out however many may follow one another
still_open : (m : ℕ) (d : Declarations) (known : List Resolved) (i : ℕ) (e : Entry) (t : List ℕ) → AreInScopes d.programs d.entries → AllResolved d known → slice_get d.entries i ≡ Some e → e.meaning ≡ is_alias t → EachBelow d.entries (value_in m d) (λ i e. answer_at known i) → is_open (slice_index_or known i (Err G7)) ≡ true → value_in (suc m) d i e ≡ Err G7
still_open m d known i e t h w g p before o =
    let b : Below (in_form numbers_alone d.types (named_within m d e.scope) t) (in_form numbers_alone d.types (named_by d.entries known e.scope) t) = form_below d.types (named_within m d e.scope) (named_by d.entries known e.scope) t (named_known m d known h before e.scope) in
    let f : Below (in_form numbers_alone d.types (named_within m d e.scope) t) (Err G7) = subst (λ (a : Answer). Below (in_form numbers_alone d.types (named_within m d e.scope) t) a) (w.stuck i e t g p o) b in
    value_alias (suc m) d i e t p ∙ same f
  where
    same : {a : Answer} → Below a (Err G7) → a ≡ Err G7
    same (inl p) = p
    same (inr p) = p

-- what is known stays, however many may follow one another
known_stays : (n m : ℕ) (d : Declarations) (i : ℕ) (e : Entry) (k : Resolved) → is_open k ≡ false → Below (answer k) (value_in n d i e) → Below (value_in m d i e) (answer k)
known_stays n m d i e k o (inl q) = absurd (cc (g7_closed k q, o))
known_stays n m d i e k o (inr q) = by_length (nat_le m n) refl
  where
    later : Below (value_in n d i e) (value_in m d i e) → Below (value_in m d i e) (answer k)
    later (inl r) = absurd (cc (g7_closed k (q ∙ r), o))
    later (inr r) = inr (sym (q ∙ r))

    by_length : (b : Bool) → nat_le m n ≡ b → Below (value_in m d i e) (answer k)
    by_length true r = subst (λ (a : Answer). Below (value_in m d i e) a) (sym q) (value_up m n d i e (leb-true m n r))
    by_length false r = later (value_up n m d i e (omega (arith, leb-false m n r)))

resolved_up : (m : ℕ) (d : Declarations) (known : List Resolved) → AreInScopes d.programs d.entries → AllResolved d known → EachBelow d.entries (value_in m d) (λ i e. answer_at known i)
resolved_up zero d known h w i e g = go e.meaning refl
  where
    go : (m : Meaning) → e.meaning ≡ m → Below (value_in zero d i e) (answer_at known i)
    go (is_tag of) p = inr (value_tag zero d i e of p ∙ sym (w.partly.tags i e of g p))
    go (is_alias t) p = inl (value_alias zero d i e t p)
resolved_up (suc m) d known h w i e g = go e.meaning refl (resolved_up m d known h w)
  where
    k : Resolved
    k = slice_index_or known i (Err G7)

    by_test : (t : List ℕ) → e.meaning ≡ is_alias t → EachBelow d.entries (value_in m d) (λ i e. answer_at known i) → (b : Bool) → is_open k ≡ b → Below (value_in (suc m) d i e) (answer k)
    by_test t p before true o = inl (still_open m d known i e t h w g p before o)
    by_test t p before false o = known_stays (length (aliases d) - open_in known) (suc m) d i e k o (w.partly.below i e g)

    go : (x : Meaning) → e.meaning ≡ x → EachBelow d.entries (value_in m d) (λ i e. answer_at known i) → Below (value_in (suc m) d i e) (answer_at known i)
    go (is_tag of) p before = inr (value_tag (suc m) d i e of p ∙ sym (w.partly.tags i e of g p))
    go (is_alias t) p before = by_test t p before (is_open k) refl

known_up : (m : ℕ) (d : Declarations) (known : List Resolved) → PartlyResolved d known → length (aliases d) ≤ m → EachBelow d.entries (λ i e. answer_at known i) (value_in m d)
known_up m d known w l i e g = below_trans (answer_at known i) (value_in (length (aliases d) - open_in known) d i e) (value_in m d i e) (w.below i e g) (value_up (length (aliases d) - open_in known) m d i e (omega arith))

pub resolved_value : (m : ℕ) (d : Declarations) (known : List Resolved) → AreInScopes d.programs d.entries → AllResolved d known → length (aliases d) ≤ m → (i : ℕ) (e : Entry) → slice_get d.entries i ≡ Some e → value_in m d i e ≡ answer_at known i
resolved_value m d known h w l i e g = below_same (value_in m d i e) (answer_at known i) (resolved_up m d known h w i e g) (known_up m d known w.partly l i e g)

-- each name stands for what is known of it
pub resolved_named : (d : Declarations) (known : List Resolved) → AreInScopes d.programs d.entries → AllResolved d known → (s : Scope) (name : List ℕ) → named d s name ≡ named_by d.entries known s name
resolved_named d known h w s name =
    let n : ℕ = length (aliases d) in
    below_same (named_within n d s name) (named_by d.entries known s name) (named_known n d known h (resolved_up n d known h w) s name) (known_below n d known h (known_up n d known w.partly (omega arith)) s name)

-- and each alias for what its target names
pub resolved_alias : (d : Declarations) (known : List Resolved) → AreInScopes d.programs d.entries → AllResolved d known → (i : ℕ) (e : Entry) (t : List ℕ) → slice_get d.entries i ≡ Some e → e.meaning ≡ is_alias t → found_fixed d e.scope t ≡ answer_at known i
resolved_alias d known h w i e t g p =
    let n : ℕ = length (aliases d) in
    sym (value_alias (suc n) d i e t p) ∙ resolved_value (suc n) d known h w (omega arith) i e g

-- ---- one alias

open_is : (k : Resolved) → is_open k ≡ true → k ≡ Err G7
open_is (Ok s) p = absurd (cc p)
open_is (Err G7) p = refl
open_is (Err code.G1) p = absurd (cc p)
open_is (Err code.G2) p = absurd (cc p)
open_is (Err code.G3) p = absurd (cc p)
open_is (Err code.G4) p = absurd (cc p)
open_is (Err code.G5) p = absurd (cc p)
open_is (Err code.G6) p = absurd (cc p)
open_is (Err code.G8) p = absurd (cc p)
open_is (Err code.G9) p = absurd (cc p)
open_is (Err code.G10) p = absurd (cc p)

one_less : (known : List Resolved) (i : ℕ) (r : Resolved) → i < length known → is_open (slice_index_or known i (Err G7)) ≡ true → is_open r ≡ false → open_in (slice_set known i r) + 1 ≡ open_in known
one_less known i r h p q =
    let f : Resolved → ℕ = λ k. cond (is_open k) 1 0 in
    let was : f (slice_index_or known i (Err G7)) ≡ 1 = ap (λ (b : Bool). cond b 1 0) p in
    let is : f r ≡ 0 = ap (λ (b : Bool). cond b 1 0) q in
    let sums : open_in (slice_set known i r) + f (slice_index_or known i (Err G7)) ≡ open_in known + f r = sum_by-set f known i r (Err G7) h in
    omega (arith, sums, was, is)

set_here : (known : List Resolved) (i : ℕ) (r : Resolved) (j : ℕ) → i < length known → j ≡ i → answer_at (slice_set known i r) j ≡ answer r
set_here known i r j l s = ap answer (ap (λ (k : ℕ). slice_index_or (slice_set known i r) k (Err G7)) s ∙ get_or-set_same known i r (Err G7) l)

set_there : (known : List Resolved) (i : ℕ) (r : Resolved) (j : ℕ) → (j == i) ≡ false → answer_at (slice_set known i r) j ≡ answer_at known j
set_there known i r j s = ap answer (get_or-set_other known i j r (Err G7) (λ q. absurd (cc (eq-eqb j i q, s))))

-- what is found of an alias that wasn't known
found_more : (d : Declarations) (known : List Resolved) (i : ℕ) (e : Entry) (t : List ℕ) (r : Resolved) → AreInScopes d.programs d.entries → PartlyResolved d known → slice_get d.entries i ≡ Some e → e.meaning ≡ is_alias t → is_open (slice_index_or known i (Err G7)) ≡ true → answer r ≡ in_form numbers_alone d.types (named_by d.entries known e.scope) t → is_open r ≡ false → ResolvesEntry d i known (slice_set known i r)
found_more d known i e t r h w g p o a c =
    let within : i < length known = omega (arith, w.long, slice_get_within d.entries i e g) in
    let less : open_in (slice_set known i r) + 1 ≡ open_in known = one_less known i r within o c in
    record { partly = record { long = length-set known i r ∙ w.long; few = omega (arith, w.few); below = λ j x q. below within less j x q (j == i) refl; tags = λ j x of q s. tags j x of q s (j == i) refl }; fewer = omega arith; stuck = λ s. absurd (omega arith) }
  where
    n : ℕ
    n = length (aliases d) - open_in known

    found : Below (in_form numbers_alone d.types (named_by d.entries known e.scope) t) (target_in (suc n) d e.scope t)
    found = form_below d.types (named_by d.entries known e.scope) (named_within n d e.scope) t (known_below n d known h w.below e.scope)

    below : i < length known → open_in (slice_set known i r) + 1 ≡ open_in known → (j : ℕ) (x : Entry) → slice_get d.entries j ≡ Some x → (b : Bool) → (j == i) ≡ b → Below (answer_at (slice_set known i r) j) (value_in (length (aliases d) - open_in (slice_set known i r)) d j x)
    below l less j x q true s =
        let at : j ≡ i = eqb-true j i s in
        let same : e ≡ x = same_Some e x (sym g ∙ ap (slice_get d.entries) (sym at) ∙ q) in
        let fuel : suc n ≡ length (aliases d) - open_in (slice_set known i r) = omega (arith, w.few) in
        subst (λ (m : ℕ). Below (answer_at (slice_set known i r) j) (value_in m d j x)) fuel (subst (λ (x : Entry). Below (answer_at (slice_set known i r) j) (value_in (suc n) d j x)) same (subst (λ (a : Answer). Below a (value_in (suc n) d j e)) (sym (set_here known i r j l at ∙ a)) (subst (λ (b : Answer). Below (in_form numbers_alone d.types (named_by d.entries known e.scope) t) b) (sym (value_alias (suc n) d j e t p)) found)))
    below l less j x q false s =
        let up : n ≤ length (aliases d) - open_in (slice_set known i r) = omega (arith, w.few) in
        subst (λ (a : Answer). Below a (value_in (length (aliases d) - open_in (slice_set known i r)) d j x)) (sym (set_there known i r j s)) (below_trans (answer_at known j) (value_in n d j x) (value_in (length (aliases d) - open_in (slice_set known i r)) d j x) (w.below j x q) (value_up n (length (aliases d) - open_in (slice_set known i r)) d j x up))

    tags : (j : ℕ) (x : Entry) (of : DataType) → slice_get d.entries j ≡ Some x → x.meaning ≡ is_tag of → (b : Bool) → (j == i) ≡ b → answer_at (slice_set known i r) j ≡ Ok (tag_found d.types (start_of d x.scope j) of)
    tags j x of q m true s = let same : e ≡ x = same_Some e x (sym g ∙ ap (slice_get d.entries) (sym (eqb-true j i s)) ∙ q) in absurd (not_alias t of (sym p ∙ ap (λ (e : Entry). e.meaning) same ∙ m))
      where
        not_alias : (t : List ℕ) (of : DataType) → is_alias t ≡ is_tag of → ⊥
        not_alias t of r = cc r
    tags j x of q m false s = set_there known i r j s ∙ w.tags j x of q m

-- nothing was found of it
found_none : (d : Declarations) (known : List Resolved) (i : ℕ) (e : Entry) (t : List ℕ) (r : Resolved) → PartlyResolved d known → slice_get d.entries i ≡ Some e → e.meaning ≡ is_alias t → is_open (slice_index_or known i (Err G7)) ≡ true → answer r ≡ in_form numbers_alone d.types (named_by d.entries known e.scope) t → is_open r ≡ true → ResolvesEntry d i known (slice_set known i r)
found_none d known i e t r w g p o a c =
    let same : slice_set known i r ≡ known = ap (slice_set known i) (open_is r c ∙ sym (open_is (slice_index_or known i (Err G7)) o)) ∙ set-get_or known i (Err G7) in
    subst (λ (new : List Resolved). ResolvesEntry d i known new) (sym same) (record { partly = w; fewer = omega arith; stuck = λ _. (refl, stuck) })
  where
    stuck : IsStuck d known i
    stuck x u q m n =
        let same : e ≡ x = same_Some e x (sym g ∙ q) in
        let text : t ≡ u = alias_inj t u (sym p ∙ ap (λ (e : Entry). e.meaning) same ∙ m) in
        subst (λ (x : Entry). in_form numbers_alone d.types (named_by d.entries known x.scope) u ≡ Err G7) same (subst (λ (u : List ℕ). in_form numbers_alone d.types (named_by d.entries known e.scope) u ≡ Err G7) text (sym a ∙ open_g7 r c))
      where
        alias_inj : (t u : List ℕ) → is_alias t ≡ is_alias u → t ≡ u
        alias_inj t u r = cc r

pub resolves : (d : Declarations) (known : List Resolved) (i : ℕ) (e : Entry) (t : List ℕ) (r : Resolved) → AreInScopes d.programs d.entries → PartlyResolved d known → slice_get d.entries i ≡ Some e → e.meaning ≡ is_alias t → is_open (slice_index_or known i (Err G7)) ≡ true → answer r ≡ in_form numbers_alone d.types (named_by d.entries known e.scope) t → ResolvesEntry d i known (slice_set known i r)
resolves d known i e t r h w g p o a = go (is_open r) refl
  where
    go : (b : Bool) → is_open r ≡ b → ResolvesEntry d i known (slice_set known i r)
    go true c = found_none d known i e t r w g p o a c
    go false c = found_more d known i e t r h w g p o a c

-- an entry that is known already, or a tag
pub known_already : (d : Declarations) (known : List Resolved) (i : ℕ) → PartlyResolved d known → ((e : Entry) (t : List ℕ) → slice_get d.entries i ≡ Some e → e.meaning ≡ is_alias t → is_open (slice_index_or known i (Err G7)) ≡ true → ⊥) → ResolvesEntry d i known known
known_already d known i w none = record { partly = w; fewer = omega arith; stuck = λ _. (refl, λ e t g p o. absurd (none e t g p o)) }
