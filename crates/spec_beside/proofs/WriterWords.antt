-- A word in writes bytes of its connection's tag alone.
use Rattle.std.proofs.Common.{◌≡◌, ◌≢◌, ℕ, zero, suc, ◌+◌, ◌*◌, ◌<◌, ◌≤◌, inl, inr, Bool, true, false, cond, List, [], ◌∷◌, length, map, ℤ, Option, Some, None, refl, sym, ◌∙◌, ap, arith, eq-eqb, eqb-true}
use Rattle.std.specs.Prelude.{Ok, Err, ◌==◌, ◌&&◌, if◌then◌else◌, filter, nat_lt, slice_index, slice_index_or}
use Rattle.std.specs.Int.{w32}
use Rattle.std.specs.List.{list_any, list_all}
use Rattle.std.proofs.lemmas.Bool.{and_parts, or_cases, cases_lt, ltb-true, false≢true}
use Rattle.lgx_num.specs.Image.{write_signed}
use Rattle.lgx_num.specs.Name.{same}
use Rattle.lgx_num.specs.Number.{signed_bytes}
use Rattle.lgx_num.proofs.Images.{splice_before, splice_behind}
use Rattle.spec_language.specs.declared.span.TagSpan.{TagSpan}
use Rattle.spec_language.specs.TagSpans.{is_tag, is_laid_tag, span_of}
use Rattle.spec_language.specs.declared.tag.Scope.TheVariants.{Controller}
use Rattle.spec_language.specs.declared.types.TypeDecl.{TypeDecl}
use Rattle.spec_language.specs.Declarations.{Meaning, tag, alias, Entry, same_scope, size_for, entry_size, laid}
use Rattle.spec_tables.specs.declared.conn.ConnDef.{ConnDef}
use Rattle.spec_tables.specs.declared.conn.ConnFault.TheVariants.{N2}
use Rattle.spec_tables.specs.declared.conn.Slot.{Slot}
use Rattle.spec_tables.specs.Connections.{no_conn, conn_named, slot_of, in_direction, slot_in, slot}
use Rattle.spec_tables.proofs.StateLists.{found}
use Rattle.spec_machine.specs.Project.{Project}
use Rattle.spec_machine.specs.ValidProject.{IsValidProject, is_tag_of, is_of_one_tag}
use Rattle.spec_uses.specs.Uses.{no_span, span_at}
use Rattle.spec_uses.specs.Changes.{IsByteOf, is_conn_of}
use Rattle.spec_beside.proofs.TagsApart.{bytes_are_of_one_tag}

-- ---- the tag of a connection

-- what is no tag has no bytes
untagged_size : (types : List TypeDecl) (m : Meaning) → is_tag m ≡ false → size_for types m ≡ 0
untagged_size types (tag of) e = absurd (false≢true (sym e))
untagged_size types (alias target) e = refl

module _ (types : List TypeDecl) (c : ConnDef) (some : 0 < c.words) where
  abbrev spans : List (ℕ × Entry) → List TagSpan
  spans xs = map (span_of types) (filter is_laid_tag xs)

  -- one of these tags has just the connection's bytes
  pub record HasTag (tags : List TagSpan) : Type 0 where
    pub tag : ℕ
    pub within : tag < length tags
    pub start : (slice_index_or tags tag no_span).start ≡ c.byte
    pub end : (slice_index_or tags tag no_span).end ≡ c.byte + 4 * c.words

  first_tag : (t : Bool) (x : ℕ × Entry) (xs : List (ℕ × Entry)) → is_tag x.1.meaning ≡ t → is_tag_of types c x ≡ true → HasTag (map (span_of types) (cond t (x ∷ filter is_laid_tag xs) (filter is_laid_tag xs)))
  first_tag t x xs is h =
      let q = and_parts (same_scope x.1.scope Controller && x.0 == c.byte) (entry_size types x.1 == 4 * c.words) h in
      let at = eqb-true x.0 c.byte (and_parts (same_scope x.1.scope Controller) (x.0 == c.byte) q.0).1 in
      let size = eqb-true (entry_size types x.1) (4 * c.words) q.1 in
      go t is at size
    where
      go : (t : Bool) → is_tag x.1.meaning ≡ t → x.0 ≡ c.byte → entry_size types x.1 ≡ 4 * c.words → HasTag (map (span_of types) (cond t (x ∷ filter is_laid_tag xs) (filter is_laid_tag xs)))
      go true is at size = record { tag = 0; within = omega arith; start = at; end = omega arith }
      go false is at size = let none = untagged_size types x.1.meaning is in absurd (omega arith)

  later_tag : (t : Bool) (x : ℕ × Entry) (xs : List (ℕ × Entry)) → HasTag (spans xs) → HasTag (map (span_of types) (cond t (x ∷ filter is_laid_tag xs) (filter is_laid_tag xs)))
  later_tag true x xs h = record { tag = suc h.tag; within = (let l = h.within in omega arith); start = h.start; end = h.end }
  later_tag false x xs h = h

  has_tag : (xs : List (ℕ × Entry)) → list_any (is_tag_of types c) xs ≡ true → HasTag (spans xs)
  has_tag [] h = absurd (false≢true h)
  has_tag (x ∷ xs) h =
      elim (or_cases (is_tag_of types c x) (list_any (is_tag_of types c) xs) h) [
        | inl a ↦ first_tag (is_tag x.1.meaning) x xs refl a
        | inr r ↦ later_tag (is_tag x.1.meaning) x xs (has_tag xs r)
      ]

-- ---- a word

-- the word of a slot: its connection, and where it lies
pub record IsWordOf (p : Project) (name : List ℕ) (x : Slot) : Type 0 where
  pub number : ℕ
  pub named : conn_named p.conns name ≡ Some number
  pub within : number < length p.conns
  pub from : (slice_index_or p.conns number no_conn).byte ≤ x.byte
  pub upto : x.byte + 4 ≤ (slice_index_or p.conns number no_conn).byte + 4 * (slice_index_or p.conns number no_conn).words

by_direction : (a b : Bool) (x k : Slot) → in_direction a b x ≡ Ok k → x ≡ k
by_direction true true x k e = cc e
by_direction false false x k e = cc e
by_direction true false x k e = absurd (cc e)
by_direction false true x k e = absurd (cc e)

module _ (p : Project) (name : List ℕ) (word : ℕ) (output : Bool) (x : Slot) where
  by_range : (n : ℕ) (b : Bool) → conn_named p.conns name ≡ Some n → nat_lt word (slice_index_or p.conns n no_conn).words ≡ b → (if b then in_direction output (slice_index_or p.conns n no_conn).output (slot_of p.conns n (slice_index_or p.conns n no_conn) word) else Err N2) ≡ Ok x → IsWordOf p name x
  by_range n true named l e =
      let c = slice_index_or p.conns n no_conn in
      let at : c.byte + 4 * word ≡ x.byte = ap (λ (y : Slot). y.byte) (by_direction output c.output (slot_of p.conns n c word) x e) in
      let w : word < c.words = ltb-true word c.words l in
      record { number = n; named = named; within = (found (λ (d : ConnDef). same d.name name) no_conn p.conns n named).0; from = omega arith; upto = omega arith }
  by_range n false named l e = absurd (cc e)

  by_name : (o : Option ℕ) → conn_named p.conns name ≡ o → slot_in p.conns o word output ≡ Ok x → IsWordOf p name x
  by_name None named e = absurd (cc e)
  by_name (Some n) named e = by_range n (nat_lt word (slice_index_or p.conns n no_conn).words) named refl e

pub word_of : (p : Project) (name : List ℕ) (word : ℕ) (output : Bool) (x : Slot) → slot p.conns name word output ≡ Ok x → IsWordOf p name x
word_of p name word output x e = by_name p name word output x (conn_named p.conns name) refl e

all_at : {A : Type 0} (test : A → Bool) (xs : List A) (n : ℕ) (d : A) → list_all test xs ≡ true → n < length xs → test (slice_index_or xs n d) ≡ true
all_at test [] n d h l = absurd (omega arith)
all_at test (x ∷ xs) zero d h l = (and_parts (test x) (list_all test xs) h).0
all_at test (x ∷ xs) (suc n) d h l = all_at test xs n d (and_parts (test x) (list_all test xs) h).1 (omega arith)

-- a byte that a write of a word changes is one of its four
written_word : (image : List ℕ) (at b : ℕ) (v : ℤ) → slice_index (write_signed w32 image at v) b ≢ slice_index image b → (at ≤ b) × (b < at + 4)
written_word image at b v changed =
    elim (cases_lt b at) [
      | inl before ↦ absurd (changed (splice_before image at (signed_bytes w32 v) b before))
      | inr from ↦ elim (cases_lt b (at + 4)) [ inl upto ↦ (from, upto) | inr after ↦ absurd (changed (splice_behind image at (signed_bytes w32 v) b after)) ]
    ]

-- so the connection's words are bytes of the tag in which a changed byte lies
pub word_is_of : (p : Project) (name : List ℕ) (k b : ℕ) (x : Slot) (image : List ℕ) (v : ℤ) → IsValidProject p → IsByteOf p k b → IsWordOf p name x → slice_index (write_signed w32 image x.byte v) b ≢ slice_index image b → is_conn_of p k (conn_named p.conns name) ≡ true
word_is_of p name k b x image v valid byte word changed =
    let c = slice_index_or p.conns word.number no_conn in
    let at = written_word image x.byte b v changed in
    let from = word.from in
    let upto = word.upto in
    let f = at.0 in
    let u = at.1 in
    let one = and_parts (nat_lt 0 c.words) (list_any (is_tag_of p.tags.types c) (laid p.tags)) (all_at (is_of_one_tag p.tags) p.conns word.number no_conn valid.connections word.within) in
    let its = has_tag p.tags.types c (ltb-true 0 c.words one.0) (laid p.tags) one.1 in
    let start = its.start in
    let end = its.end in
    let same = bytes_are_of_one_tag p its.tag k b (record { tag = its.within; from = omega arith; upto = omega arith }) byte in
    ap (is_conn_of p k) word.named ∙ eq-eqb c.byte (span_at p.tags k).start (sym start ∙ ap (λ (j : ℕ). (span_at p.tags j).start) same)
