-- What is known when the tags are placed: each tag, and of no alias where its chain ends.
use Rattle.std.specs.Prelude.{◌≡◌, ℕ, zero, suc, ◌+◌, ◌-◌, ◌*◌, ◌<◌, ◌≤◌, Bool, true, false, cond, ◌||◌, ◌==◌, List, [], ◌∷◌, length, map, flat_map, fold, replicate, slice_get, slice_set, Option, Some, option_map, Ok, Err, refl}
use Rattle.std.specs.List.{AllByRecursion as Each, range_with_len, list_any, filter_map}
use Rattle.std.proofs.Common.{sym, ap, ◌∙◌, arith, inl, inr, eqb-true, eq-eqb, get_or, length-set, get_or-set_same, get_or-set_other}
use Rattle.std.proofs.lemmas.List.{length-replicate}
use Rattle.std.proofs.lemmas.List.Sums.{sum_by-cons}
use Rattle.std.proofs.lemmas.List.Folds.{list_any-append}
use Rattle.std.proofs.lemmas.Option.{slice_get_within}
use Rattle.spec_language.specs.declared.types.DataType.{DataType}
use Rattle.spec_language.specs.declared.types.TypeDecl.{TypeDecl}
use Rattle.spec_language.specs.declared.tag.Scope.{Scope}
use Rattle.spec_language.specs.declared.tag.Scope.TheVariants.{Controller, Program}
use Rattle.spec_language.specs.declared.tag.TagCode.TheVariants.{G7}
use Rattle.spec_language.specs.Layout.{round_up, size_of}
use Rattle.spec_language.specs.Declarations.{Meaning, tag, alias, Entry, Declarations, same_scope}
use Rattle.spec_language.specs.Resolution.{target_of, aliases}
use Rattle.spec_base.proofs.Lists.{each_get}
use Rattle.lgx_tags.specs.Scopes.{IsScopeOf}
use Rattle.lgx_tags.specs.Layouts.{numbered, tags_in, order_of, place_tags, placed_tags, place_of, with_tag, known_from}
use Rattle.lgx_tags.specs.Starts.{start_of}
use Rattle.lgx_tags.specs.Chains.{Resolved, is_target, answer, answer_at, is_open, open_in, value_in, Below, PartlyResolved}
use Rattle.lgx_tags.specs.declared.layout.NumberedTag.{NumberedTag}
use Rattle.lgx_tags.specs.declared.layout.PlacedTag.{PlacedTag}
use Rattle.lgx_tags.proofs.Declares.{AreInScopes}
use Rattle.lgx_tags.proofs.Segments.{LaidIs, laid_tags}
use Rattle.std.proofs.lemmas.Option.{same_Some}
use Rattle.std.proofs.lemmas.Bool.{or_left, or_right}

abbrev the_g7 : Resolved
the_g7 = Err G7

-- ---- each tag is laid

any_placed : (types : List TypeDecl) (i at : ℕ) (ts : List NumberedTag) → list_any (λ (l : PlacedTag). l.entry == i) (place_tags types at ts) ≡ list_any (λ (t : NumberedTag). t.entry == i) ts
any_placed types i at [] = refl
any_placed types i at (t ∷ ts) = ap (λ (b : Bool). (t.entry == i) || b) (any_placed types i (round_up 4 (at + size_of types t.of)) ts)

same_self : (s : Scope) → same_scope s s ≡ true
same_self Controller = refl
same_self (Program p) = eq-eqb p p refl

abbrev is_number : ℕ → NumberedTag → Bool
is_number i t = t.entry == i

any_in : (s : Scope) (n i : ℕ) (es : List Entry) (e : Entry) (of : DataType) → slice_get es i ≡ Some e → e.meaning ≡ tag of → e.scope ≡ s → list_any (is_number (n + i)) (tags_in s n es) ≡ true
any_in s n i [] e of g p q = absurd (cc g)
any_in s n zero (x ∷ es) e of g p q =
    let same : x ≡ e = same_Some x e g in
    let own : same_scope x.scope s ≡ true = ap (λ (t : Entry). same_scope t.scope s) same ∙ ap (λ (t : Scope). same_scope t s) q ∙ same_self s in
    let m : x.meaning ≡ tag of = ap (λ (t : Entry). t.meaning) same ∙ p in
    let at : (n == n + 0) ≡ true = eq-eqb n (n + 0) (omega arith) in
    rw (own, m) (or_left (n == n + 0) (list_any (is_number (n + 0)) (tags_in s (suc n) es)) at)
any_in s n (suc i) (x ∷ es) e of g p q =
    let on : suc n + i ≡ n + suc i = omega arith in
    list_any-append (is_number (n + suc i)) (cond (same_scope x.scope s) (numbered n x.meaning) []) (tags_in s (suc n) es) ∙ or_right (list_any (is_number (n + suc i)) (cond (same_scope x.scope s) (numbered n x.meaning) [])) (list_any (is_number (n + suc i)) (tags_in s (suc n) es)) (ap (λ (k : ℕ). list_any (is_number k) (tags_in s (suc n) es)) (sym on) ∙ any_in s (suc n) i es e of g p q)

any_program : (es : List Entry) (i q a k : ℕ) → a ≤ q → q < a + k → list_any (is_number i) (tags_in (Program q) 0 es) ≡ true → list_any (is_number i) (flat_map (λ s. tags_in s 0 es) (map Program (range_with_len a k))) ≡ true
any_program es i q a zero l h p = absurd (omega arith)
any_program es i q a (suc k) l h p = list_any-append (is_number i) (tags_in (Program a) 0 es) (flat_map (λ s. tags_in s 0 es) (map Program (range_with_len (a + 1) k))) ∙ go (q == a) refl (λ l h. any_program es i q (a + 1) k l h p)
  where
    rest : List NumberedTag
    rest = flat_map (λ s. tags_in s 0 es) (map Program (range_with_len (a + 1) k))

    go : (b : Bool) → (q == a) ≡ b → (a + 1 ≤ q → q < a + 1 + k → list_any (is_number i) rest ≡ true) → (list_any (is_number i) (tags_in (Program a) 0 es) || list_any (is_number i) rest) ≡ true
    go true e known = or_left (list_any (is_number i) (tags_in (Program a) 0 es)) (list_any (is_number i) rest) (ap (λ (r : ℕ). list_any (is_number i) (tags_in (Program r) 0 es)) (sym (eqb-true q a e)) ∙ p)
    go false e known = or_right (list_any (is_number i) (tags_in (Program a) 0 es)) (list_any (is_number i) rest) (known (more (λ r. absurd (cc (eq-eqb q a r, e)))) (omega arith))
      where
        more : (q ≡ a → ⊥) → a + 1 ≤ q
        more n = omega arith

pub each_laid : (d : Declarations) (i : ℕ) (e : Entry) (of : DataType) → IsScopeOf d.programs e.scope → slice_get d.entries i ≡ Some e → e.meaning ≡ tag of → list_any (λ (l : PlacedTag). l.entry == i) (placed_tags d) ≡ true
each_laid d i e of h g p = any_placed d.types i 0 (order_of d) ∙ go e.scope h refl
  where
    zero_on : 0 + i ≡ i
    zero_on = omega arith

    here : (s : Scope) → e.scope ≡ s → list_any (is_number i) (tags_in s 0 d.entries) ≡ true
    here s q = ap (λ (k : ℕ). list_any (is_number k) (tags_in s 0 d.entries)) (sym zero_on) ∙ any_in s 0 i d.entries e of g p q

    others : List NumberedTag
    others = flat_map (λ s. tags_in s 0 d.entries) (map Program (range_with_len 0 d.programs))

    go : (s : Scope) → IsScopeOf d.programs s → e.scope ≡ s → list_any (is_number i) (order_of d) ≡ true
    go Controller l q = list_any-append (is_number i) (tags_in Controller 0 d.entries) others ∙ or_left (list_any (is_number i) (tags_in Controller 0 d.entries)) (list_any (is_number i) others) (here Controller q)
    go (Program r) l q = list_any-append (is_number i) (tags_in Controller 0 d.entries) others ∙ or_right (list_any (is_number i) (tags_in Controller 0 d.entries)) (list_any (is_number i) others) (any_program d.entries i r 0 d.programs (omega arith) (omega arith) (here (Program r) q))

-- ---- what is known

abbrev pub place_for : Declarations → ℕ → Entry → DataType → Resolved
place_for d i e of = Ok (record { at = 8 * start_of d e.scope i; of = of; stop = start_of d e.scope i + size_of d.types of })

tag_inj : (a b : DataType) → tag a ≡ tag b → a ≡ b
tag_inj a b p = cc p

not_alias : (t : List ℕ) (of : DataType) → alias t ≡ tag of → ⊥
not_alias t of r = cc r

laid_place : (d : Declarations) (l : PlacedTag) (i : ℕ) (e : Entry) (of : DataType) → LaidIs d l → l.entry ≡ i → slice_get d.entries i ≡ Some e → e.meaning ≡ tag of → Ok (place_of l) ≡ place_for d i e of
laid_place d l i e of is at g p =
    let same : is.entry ≡ e = same_Some is.entry e (sym is.there ∙ ap (slice_get d.entries) at ∙ g) in
    let type : l.of ≡ of = tag_inj l.of of (sym is.type_is ∙ ap (λ (e : Entry). e.meaning) same ∙ p) in
    let begin : l.start ≡ start_of d e.scope i = is.start_is ∙ ap (λ (x : Entry). start_of d x.scope l.entry) same ∙ ap (start_of d e.scope) at in
    let stop : l.end ≡ start_of d e.scope i + size_of d.types of = is.end_is ∙ ap (λ (b : ℕ). b + size_of d.types l.of) begin ∙ ap (λ (t : DataType). start_of d e.scope i + size_of d.types t) type in
    rw (begin, type, stop) refl

pub known_length : (known : List Resolved) (ls : List PlacedTag) → length (fold with_tag known ls) ≡ length known
known_length known [] = refl
known_length known (l ∷ ls) = known_length (with_tag known l) ls ∙ length-set known l.entry (Ok (place_of l))

keeps : (d : Declarations) (known : List Resolved) (ls : List PlacedTag) (i : ℕ) (e : Entry) (of : DataType) → Each (LaidIs d) ls → i < length known → slice_get d.entries i ≡ Some e → e.meaning ≡ tag of → get_or known i (Err G7) ≡ place_for d i e of → get_or (fold with_tag known ls) i (Err G7) ≡ place_for d i e of
keeps d known [] i e of h w g p k = k
keeps d known (l ∷ ls) i e of h w g p k = keeps d (with_tag known l) ls i e of h.1 (omega (arith, length-set known l.entry (Ok (place_of l)))) g p (go (i == l.entry) refl)
  where
    go : (b : Bool) → (i == l.entry) ≡ b → get_or (with_tag known l) i (Err G7) ≡ place_for d i e of
    go true q = let at : i ≡ l.entry = eqb-true i l.entry q in ap (λ (j : ℕ). get_or (slice_set known j (Ok (place_of l))) i (Err G7)) (sym at) ∙ get_or-set_same known i (Ok (place_of l)) (Err G7) w ∙ laid_place d l i e of h.0 (sym at) g p
    go false q = get_or-set_other known l.entry i (Ok (place_of l)) (Err G7) (λ r. absurd (cc (eq-eqb i l.entry r, q))) ∙ k

reaches : (d : Declarations) (known : List Resolved) (ls : List PlacedTag) (i : ℕ) (e : Entry) (of : DataType) → Each (LaidIs d) ls → i < length known → slice_get d.entries i ≡ Some e → e.meaning ≡ tag of → list_any (λ (l : PlacedTag). l.entry == i) ls ≡ true → get_or (fold with_tag known ls) i (Err G7) ≡ place_for d i e of
reaches d known [] i e of h w g p k = absurd (cc k)
reaches d known (l ∷ ls) i e of h w g p k = go (l.entry == i) refl k (λ k. reaches d (with_tag known l) ls i e of h.1 (omega (arith, length-set known l.entry (Ok (place_of l)))) g p k)
  where
    go : (b : Bool) → (l.entry == i) ≡ b → (b || list_any (λ (l : PlacedTag). l.entry == i) ls) ≡ true → (list_any (λ (l : PlacedTag). l.entry == i) ls ≡ true → get_or (fold with_tag (with_tag known l) ls) i (Err G7) ≡ place_for d i e of) → get_or (fold with_tag (with_tag known l) ls) i (Err G7) ≡ place_for d i e of
    go false q r others = others r
    go true q r others =
        let at : l.entry ≡ i = eqb-true l.entry i q in
        keeps d (with_tag known l) ls i e of h.1 (omega (arith, length-set known l.entry (Ok (place_of l)))) g p (ap (λ (j : ℕ). get_or (slice_set known j (Ok (place_of l))) i (Err G7)) at ∙ get_or-set_same known i (Ok (place_of l)) (Err G7) w ∙ laid_place d l i e of h.0 at g p)

stays : (d : Declarations) (known : List Resolved) (ls : List PlacedTag) (i : ℕ) (e : Entry) (t : List ℕ) → Each (LaidIs d) ls → slice_get d.entries i ≡ Some e → e.meaning ≡ alias t → get_or known i (Err G7) ≡ Err G7 → get_or (fold with_tag known ls) i (Err G7) ≡ Err G7
stays d known [] i e t h g p k = k
stays d known (l ∷ ls) i e t h g p k = stays d (with_tag known l) ls i e t h.1 g p (go (i == l.entry) refl)
  where
    go : (b : Bool) → (i == l.entry) ≡ b → get_or (with_tag known l) i (Err G7) ≡ Err G7
    go true q = absurd (not_alias t l.of (sym p ∙ ap (λ (e : Entry). e.meaning) (same_Some e h.0.entry (sym g ∙ ap (slice_get d.entries) (eqb-true i l.entry q) ∙ h.0.there)) ∙ h.0.type_is))
    go false q = get_or-set_other known l.entry i (Ok (place_of l)) (Err G7) (λ r. absurd (cc (eq-eqb i l.entry r, q))) ∙ k

g7_anywhere : (n i : ℕ) → get_or (replicate n (the_g7)) i the_g7 ≡ the_g7
g7_anywhere zero i = refl
g7_anywhere (suc n) zero = refl
g7_anywhere (suc n) (suc i) = g7_anywhere n i

-- ---- how many aliases aren't known

abbrev with_scope : Entry → Option (Scope × List ℕ)
with_scope e = option_map (λ target. (e.scope, target)) (target_of e.meaning)

count_open : (known : List Resolved) (es : List Entry) → length known ≡ length es → ((i : ℕ) (e : Entry) → slice_get es i ≡ Some e → is_open (get_or known i the_g7) ≡ is_target e.meaning) → open_in known ≡ length (filter_map with_scope es)
count_open [] [] p h = refl
count_open [] (e ∷ es) p h = absurd (omega arith)
count_open (k ∷ ks) [] p h = absurd (omega arith)
count_open (k ∷ ks) (e ∷ es) p h = sum_by-cons (λ x. cond (is_open x) 1 0) k ks ∙ ap (λ (b : Bool). cond b 1 0 + open_in ks) (h 0 e refl) ∙ go e.meaning (count_open ks es (omega arith) (λ i e q. h (suc i) e q))
  where
    go : (m : Meaning) → open_in ks ≡ length (filter_map with_scope es) → cond (is_target m) 1 0 + open_in ks ≡ length (filter_map with_scope (record { scope = e.scope; name = e.name; meaning = m } ∷ es))
    go (tag of) q = omega arith
    go (alias t) q = omega arith

-- when the tags are placed all is known but the aliases
pub laid_partly : (d : Declarations) → AreInScopes d.programs d.entries → PartlyResolved d (known_from (length d.entries) (placed_tags d))
laid_partly d h = record { long = long; few = omega (arith, count); below = λ i e g. below i e g e.meaning refl; tags = λ i e of g p. ap answer (there i e of g p) }
  where
    blank : List Resolved
    blank = replicate (length d.entries) the_g7

    known : List Resolved
    known = known_from (length d.entries) (placed_tags d)

    long : length known ≡ length d.entries
    long = known_length blank (placed_tags d) ∙ length-replicate (length d.entries) the_g7

    there : (i : ℕ) (e : Entry) (of : DataType) → slice_get d.entries i ≡ Some e → e.meaning ≡ tag of → get_or known i the_g7 ≡ place_for d i e of
    there i e of g p = reaches d blank (placed_tags d) i e of (laid_tags d) (omega (arith, length-replicate (length d.entries) the_g7, slice_get_within d.entries i e g)) g p (each_laid d i e of (each_get (λ e. IsScopeOf d.programs e.scope) d.entries i e h g) g p)

    nowhere : (i : ℕ) (e : Entry) (t : List ℕ) → slice_get d.entries i ≡ Some e → e.meaning ≡ alias t → get_or known i the_g7 ≡ the_g7
    nowhere i e t g p = stays d blank (placed_tags d) i e t (laid_tags d) g p (g7_anywhere (length d.entries) i)

    opened : (i : ℕ) (e : Entry) → slice_get d.entries i ≡ Some e → (m : Meaning) → e.meaning ≡ m → is_open (get_or known i the_g7) ≡ is_target m
    opened i e g (tag of) p = ap is_open (there i e of g p)
    opened i e g (alias t) p = ap is_open (nowhere i e t g p)

    count : open_in known ≡ length (aliases d)
    count = count_open known d.entries long (λ i e g. opened i e g e.meaning refl)

    below : (i : ℕ) (e : Entry) → slice_get d.entries i ≡ Some e → (m : Meaning) → e.meaning ≡ m → Below (answer_at known i) (value_in (length (aliases d) - open_in known) d i e)
    below i e g (tag of) p = inr (ap answer (there i e of g p) ∙ sym (rw p refl))
    below i e g (alias t) p = inl (ap answer (nowhere i e t g p))
