-- A connection of a valid project has a tag.
use Rattle.std.proofs.Common.{◌≡◌, ℕ, zero, suc, ◌+◌, ◌*◌, ◌<◌, inl, inr, Bool, true, false, List, [], ◌∷◌, length, map, filter, refl, sym, subst, arith, eqb-true}
use Rattle.std.specs.Prelude.{Option, Some, None, ◌==◌, ◌&&◌, nat_lt, if◌then◌else◌, slice_index_or}
use Rattle.std.specs.List.{list_all, list_any}
use Rattle.std.proofs.lemmas.Bool.{and_parts, or_cases, ltb-true, false≢true}
use Rattle.std.proofs.lemmas.Option.{same_Some}
use Rattle.lgx_num.specs.Name.{same}
use Rattle.spec_language.specs.declared.types.TypeDecl.{TypeDecl}
use Rattle.spec_language.specs.declared.tag.Scope.TheVariants.{Controller}
use Rattle.spec_language.specs.Declarations.{Meaning, Entry, tag, alias, entry_size, size_for, laid, same_scope}
use Rattle.spec_tables.specs.declared.conn.ConnDef.{ConnDef}
use Rattle.spec_tables.specs.Connections.{no_conn, conn_named}
use Rattle.spec_tables.proofs.StateLists.{found}
use Rattle.spec_machine.specs.Project.{Project}
use Rattle.spec_machine.specs.ValidProject.{IsValidProject, is_tag_of, is_of_one_tag}
use Rattle.spec_language.specs.TagSpans.{is_tag, is_laid_tag, span_of}
use Rattle.spec_language.specs.declared.span.TagSpan.{TagSpan}
use Rattle.spec_uses.specs.Uses.{no_span}
use Rattle.spec_link.specs.LinkText.{in_direction, conn_at}
use Rattle.spec_link.specs.Consumed.{ConnectionsHaveTags}

-- a place of the list with such bytes
record HasSpan (spans : List TagSpan) (c : ConnDef) : Type 0 where
  pub place : ℕ
  pub within : place < length spans
  pub from : (slice_index_or spans place no_span).start ≡ c.byte
  pub upto : (slice_index_or spans place no_span).end ≡ c.byte + 4 * c.words

-- ---- among the tags as they are laid

module _ (types : List TypeDecl) (c : ConnDef) (some : 0 < c.words) where
  abbrev spans : List (ℕ × Entry) → List TagSpan
  spans xs = map (span_of types) (filter is_laid_tag xs)

  -- what has bytes is a tag and no alias
  with_bytes : (m : Meaning) → size_for types m ≡ 4 * c.words → is_tag m ≡ true
  with_bytes (tag of) e = refl
  with_bytes (alias target) e = absurd (omega arith)

  first : (x : ℕ × Entry) (xs : List (ℕ × Entry)) → is_tag_of types c x ≡ true → HasSpan (spans (x ∷ xs)) c
  first x xs is =
      let q = and_parts (same_scope x.1.scope Controller && x.0 == c.byte) (entry_size types x.1 == 4 * c.words) is in
      let r = and_parts (same_scope x.1.scope Controller) (x.0 == c.byte) q.0 in
      let at = eqb-true x.0 c.byte r.1 in
      let size = eqb-true (entry_size types x.1) (4 * c.words) q.1 in
      let kept : is_laid_tag x ≡ true = with_bytes x.1.meaning size in
      subst (λ (b : Bool). HasSpan (map (span_of types) (if b then x ∷ filter is_laid_tag xs else filter is_laid_tag xs)) c) (sym kept)
      (record { place = 0; within = omega arith; from = at; upto = omega arith })

  later : (x : ℕ × Entry) (xs : List (ℕ × Entry)) (b : Bool) → HasSpan (spans xs) c → HasSpan (map (span_of types) (if b then x ∷ filter is_laid_tag xs else filter is_laid_tag xs)) c
  later x xs true h = record { place = suc h.place; within = (let w = h.within in omega arith); from = h.from; upto = h.upto }
  later x xs false h = h

  has_span : (xs : List (ℕ × Entry)) → list_any (is_tag_of types c) xs ≡ true → HasSpan (spans xs) c
  has_span [] h = absurd (false≢true h)
  has_span (x ∷ xs) h =
      elim (or_cases (is_tag_of types c x) (list_any (is_tag_of types c) xs) h) [ inl is ↦ first x xs is | inr rest ↦ later x xs (is_laid_tag x) (has_span xs rest) ]

-- ---- of a connection

by_direction : (output : Bool) (d c : ConnDef) → in_direction output d ≡ Some c → d ≡ c
by_direction true d c h = go d.output h
  where
    go : (b : Bool) → (if b then Some d else None) ≡ Some c → d ≡ c
    go true e = same_Some _ _ e
    go false e = absurd (cc e)
by_direction false d c h = go d.output h
  where
    go : (b : Bool) → (if b then None else Some d) ≡ Some c → d ≡ c
    go true e = absurd (cc e)
    go false e = same_Some _ _ e

-- a test that all pass is passed at each place
passes_at : {A : Type 0} (test : A → Bool) (xs : List A) (n : ℕ) (d : A) → list_all test xs ≡ true → n < length xs → test (slice_index_or xs n d) ≡ true
passes_at test [] n d h l = absurd (omega arith)
passes_at test (x ∷ xs) zero d h l = (and_parts (test x) (list_all test xs) h).0
passes_at test (x ∷ xs) (suc n) d h l = passes_at test xs n d (and_parts (test x) (list_all test xs) h).1 (omega arith)

-- it is one of the project's
conn_is_of_one_tag : (p : Project) (output : Bool) (name : List ℕ) (c : ConnDef) → IsValidProject p → (o : Option ℕ) → conn_named p.conns name ≡ o → conn_at p.conns output o ≡ Some c → is_of_one_tag p.tags c ≡ true
conn_is_of_one_tag p output name c valid None named h = absurd (cc h)
conn_is_of_one_tag p output name c valid (Some n) named h =
    let there = (found (λ (d : ConnDef). same d.name name) no_conn p.conns n named).0 in
    subst (λ (d : ConnDef). is_of_one_tag p.tags d ≡ true) (by_direction output (slice_index_or p.conns n no_conn) c h) (passes_at (is_of_one_tag p.tags) p.conns n no_conn valid.connections there)

pub connections_have_tags : ConnectionsHaveTags
connections_have_tags p output name c valid h =
    let one = and_parts (nat_lt 0 c.words) (list_any (is_tag_of p.tags.types c) (laid p.tags)) (conn_is_of_one_tag p output name c valid (conn_named p.conns name) refl h) in
    let t = has_span p.tags.types c (ltb-true 0 c.words one.0) (laid p.tags) one.1 in
    (t.place, record { tag = t.within; from = t.from; upto = t.upto })
