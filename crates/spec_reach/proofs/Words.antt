-- A connection's words are the bytes of a tag, which lies in the image.
use Rattle.std.proofs.Common.{◌≡◌, ℕ, zero, suc, ◌+◌, ◌*◌, ◌<◌, ◌≤◌, inl, inr, Bool, true, false, List, [], ◌∷◌, length, take, Option, Some, None, refl, subst, arith, eqb-true}
use Rattle.std.specs.Prelude.{Ok, Err, ◌==◌, ◌&&◌, not, nat_lt, nat_eq, if◌then◌else◌, slice_index_or}
use Rattle.std.specs.List.{AllByRecursion as Each, list_any, list_all}
use Rattle.std.proofs.lemmas.Bool.{and_parts, or_cases, ltb-true, false≢true}
use Rattle.std.proofs.lemmas.List.Sums.{sum_by_more_le}
use Rattle.lgx_num.specs.Name.{same}
use Rattle.spec_language.specs.declared.tag.Scope.TheVariants.{Controller}
use Rattle.spec_language.specs.Declarations.{entry_size, laid, in_order, bytes, same_scope}
use Rattle.spec_language.proofs.TagsFit.{LaidWell, laid_well, ordered_sound}
use Rattle.spec_tables.specs.declared.conn.ConnDef.{ConnDef}
use Rattle.spec_tables.specs.declared.conn.ConnFault.TheVariants.{N2}
use Rattle.spec_tables.specs.declared.conn.Slot.{Slot}
use Rattle.spec_tables.specs.Connections.{no_conn, conn_named, words_of, slot_of, in_direction, slot_in}
use Rattle.spec_tables.proofs.StateLists.{found}
use Rattle.spec_machine.specs.Project.{Project}
use Rattle.spec_machine.specs.ValidProject.{IsValidProject, is_tag_of, is_of_one_tag, has_known_trigger, is_event_task}
use Rattle.spec_reach.specs.Words.{IsSlotOf, SlotsAreInImage}

-- an element of a list of which each has a property, and one passes a test
any_each : {A : Type 0} (P : A → Type 0) (test : A → Bool) (xs : List A) → Each P xs → list_any test xs ≡ true → (x : A) × P x × (test x ≡ true)
any_each P test [] h e = absurd (false≢true e)
any_each P test (x ∷ xs) h e = elim (or_cases (test x) (list_any test xs) e) [ inl a ↦ (x, h.0, a) | inr b ↦ any_each P test xs h.1 b ]

all_at : {A : Type 0} (test : A → Bool) (xs : List A) (n : ℕ) (d : A) → list_all test xs ≡ true → n < length xs → test (slice_index_or xs n d) ≡ true
all_at test [] n d h l = absurd (omega arith)
all_at test (x ∷ xs) zero d h l = (and_parts (test x) (list_all test xs) h).0
all_at test (x ∷ xs) (suc n) d h l = all_at test xs n d (and_parts (test x) (list_all test xs) h).1 (omega arith)

module _ (p : Project) (valid : IsValidProject p) where
  -- the words of a connection lie in the image
  conn_lies : (c : ConnDef) → is_of_one_tag p.tags c ≡ true → c.byte + 4 * c.words ≤ length p.image
  conn_lies c h =
      let a = and_parts (nat_lt 0 c.words) (list_any (is_tag_of p.tags.types c) (laid p.tags)) h in
      let x = any_each (LaidWell p.tags.types (bytes p.tags)) (is_tag_of p.tags.types c) (laid p.tags) (laid_well p.tags.types 0 (in_order p.tags) (ordered_sound p.tags valid.tags.sound)) a.1 in
      let e = x.0.1 in
      let q = and_parts (same_scope e.scope Controller && x.0.0 == c.byte) (entry_size p.tags.types e == 4 * c.words) x.2 in
      let r = and_parts (same_scope e.scope Controller) (x.0.0 == c.byte) q.0 in
      let at = eqb-true x.0.0 c.byte r.1 in
      let size = eqb-true (entry_size p.tags.types e) (4 * c.words) q.1 in
      let lies = x.1.0 in
      let image = valid.tags.image in
      omega arith

  -- its trigger is a task
  conn_trigger : (c : ConnDef) (o : Option ℕ) → c.trigger ≡ o → has_known_trigger p.tasks c ≡ true → (t : ℕ) → o ≡ Some t → t < length p.tasks
  conn_trigger c None e h t k = absurd (cc k)
  conn_trigger c (Some u) e h t k =
      let f : has_known_trigger p.tasks (record c { trigger = Some u }) ≡ true = subst (λ (o : Option ℕ). has_known_trigger p.tasks (record c { trigger = o }) ≡ true) e h in
      let q = and_parts (not c.output) (is_event_task p.tasks u) f in
      let r = and_parts (nat_lt u (length p.tasks)) _ q.1 in
      let same : u ≡ t = cc k in
      subst (λ n. n < length p.tasks) same (ltb-true u (length p.tasks) r.0)

  at_word : (n word : ℕ) (output : Bool) (k : Slot) → n < length p.conns → word < (slice_index_or p.conns n no_conn).words → slot_of p.conns n (slice_index_or p.conns n no_conn) word ≡ k → IsSlotOf p k
  at_word n word output k there within is =
      let c = slice_index_or p.conns n no_conn in
      let lies = conn_lies c (all_at (is_of_one_tag p.tags) p.conns n no_conn valid.connections there) in
      let more : words_of (take n p.conns) + c.words ≤ words_of p.conns = sum_by_more_le (λ (d : ConnDef). d.words) p.conns n no_conn there in
      subst (IsSlotOf p) is (record {
        bytes = omega arith;
        number = omega arith;
        trigger = λ t e. by_trigger (not c.output && nat_eq (word + 1) c.words) t e;
      })
    where
      by_trigger : (b : Bool) (t : ℕ) → (if b then (slice_index_or p.conns n no_conn).trigger else None) ≡ Some t → t < length p.tasks
      by_trigger true t e = conn_trigger (slice_index_or p.conns n no_conn) (slice_index_or p.conns n no_conn).trigger refl (all_at (has_known_trigger p.tasks) p.conns n no_conn valid.triggers there) t e
      by_trigger false t e = absurd (cc e)

  by_direction : (a b : Bool) (x k : Slot) → in_direction a b x ≡ Ok k → x ≡ k
  by_direction true true x k e = cc e
  by_direction false false x k e = cc e
  by_direction true false x k e = absurd (cc e)
  by_direction false true x k e = absurd (cc e)

  by_name : (o : Option ℕ) (name : List ℕ) (word : ℕ) (output : Bool) (k : Slot) → conn_named p.conns name ≡ o → slot_in p.conns o word output ≡ Ok k → IsSlotOf p k
  by_name None name word output k named e = absurd (cc e)
  by_name (Some n) name word output k named e = go (nat_lt word (slice_index_or p.conns n no_conn).words) refl e
    where
      c : ConnDef
      c = slice_index_or p.conns n no_conn

      there : n < length p.conns
      there = (found (λ (d : ConnDef). same d.name name) no_conn p.conns n named).0

      go : (b : Bool) → nat_lt word c.words ≡ b → (if b then in_direction output c.output (slot_of p.conns n c word) else Err N2) ≡ Ok k → IsSlotOf p k
      go true l e = at_word n word output k there (ltb-true word c.words l) (by_direction output c.output (slot_of p.conns n c word) k e)
      go false l e = absurd (cc e)

pub slots_are_in_image : SlotsAreInImage
slots_are_in_image p name word output k valid e = by_name p valid (conn_named p.conns name) name word output k refl e
