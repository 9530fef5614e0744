-- What a text names lies in one tag.
use Rattle.std.specs.Prelude.{◌≡◌, ℕ, zero, suc, ◌+◌, ◌<◌, ◌≤◌, Bool, true, false, cond, not, nat_lt, List, [], ◌∷◌, length, map, filter, find, slice_index_or, Option, Some, None, Result, Ok, Err, refl}
use Rattle.std.specs.Option.{option_or}
use Rattle.std.proofs.Common.{sym, subst, arith, ap, ◌∙◌}
use Rattle.spec_base.specs.declared.limits.TheConstants.{MAX_SUBSCRIPTS}
use Rattle.spec_base.specs.FirstCause.{unless, some_or}
use Rattle.spec_base.proofs.Binds.{bind_ok, ok_inj, err_not_ok, some_or_ok}
use Rattle.spec_language.specs.declared.types.TypeDecl.{TypeDecl}
use Rattle.spec_language.specs.declared.tag.Scope.{Scope}
use Rattle.spec_language.specs.declared.tag.Scope.TheVariants.{Controller, Program}
use Rattle.spec_language.specs.declared.tag.TagCode.{TagCode}
use Rattle.spec_language.specs.declared.tag.TagCode.TheVariants.{G3, G4, G5, G6, G7, G9, G10}
use Rattle.spec_language.specs.declared.tag.Found.{Found}
use Rattle.spec_language.specs.Layout.{member as member_of}
use Rattle.spec_language.specs.OperandForm.{Form, tag, member, element, indexed, bit, form as form_in}
use Rattle.spec_language.specs.Declarations.{Meaning, Entry, Declarations, is_named, laid, entry_of, tag as is_tag, alias as is_alias}
use Rattle.spec_language.specs.Resolution.{is_array, integer_bits, is_integer, find_member, find_element, find_bit, may_index, find_indexed, Subscripts, operands, numbers_alone, subscript_by, resolved, seen_from, tag_found, meant, in_form, named_within, named, aliases}
use Rattle.spec_language.specs.declared.span.TagSpan.{TagSpan}
use Rattle.spec_language.specs.TagSpans.{is_laid_tag, span_of, spans_of}
use Rattle.spec_uses.specs.Uses.{no_span, span_at}
use Rattle.spec_beside.specs.InTags.{IsInTag, FoundInTag}

-- ---- the tag itself

-- what is found first, if it is kept, stands among all that are kept
kept_at : {A : Type 0} (test keep : A → Bool) (f : A → TagSpan) (xs : List A) (x : A) → find test xs ≡ Some x → keep x ≡ true → (k : ℕ) × (k < length (map f (filter keep xs))) × (slice_index_or (map f (filter keep xs)) k no_span ≡ f x)
kept_at test keep f [] x h e = absurd (cc h)
kept_at {A} test keep f (y ∷ ys) x h e = go (test y) h (kept_at test keep f ys x)
  where
    later : (b : Bool) → ((k : ℕ) × (k < length (map f (filter keep ys))) × (slice_index_or (map f (filter keep ys)) k no_span ≡ f x)) → (k : ℕ) × (k < length (map f (cond b (y ∷ filter keep ys) (filter keep ys)))) × (slice_index_or (map f (cond b (y ∷ filter keep ys) (filter keep ys))) k no_span ≡ f x)
    later false r = r
    later true r = (suc r.0, (let l = r.1 in omega arith), r.2)

    here : (b : Bool) → b ≡ true → y ≡ x → (k : ℕ) × (k < length (map f (cond b (y ∷ filter keep ys) (filter keep ys)))) × (slice_index_or (map f (cond b (y ∷ filter keep ys) (filter keep ys))) k no_span ≡ f x)
    here false q same = absurd (cc q)
    here true q same = (0, omega arith, ap f same)

    go : (b : Bool) → cond b (Some y) (find test ys) ≡ Some x → (find test ys ≡ Some x → keep x ≡ true → (k : ℕ) × (k < length (map f (filter keep ys))) × (slice_index_or (map f (filter keep ys)) k no_span ≡ f x)) → (k : ℕ) × (k < length (map f (filter keep (y ∷ ys)))) × (slice_index_or (map f (filter keep (y ∷ ys))) k no_span ≡ f x)
    go true q rest = let same : y ≡ x = cc q in here (keep y) (ap keep same ∙ e) same
    go false q rest = later (keep y) (rest q e)

-- an entry of the layout that is a tag
pub record IsLaid (d : Declarations) (x : ℕ × Entry) : Type 0 where
  pub named : is_laid_tag x ≡ true → (k : ℕ) × (k < length (spans_of d)) × (span_at d k ≡ span_of d.types x)

entry_laid : (d : Declarations) (scope : Scope) (name : List ℕ) (x : ℕ × Entry) → entry_of d scope name ≡ Some x → IsLaid d x
entry_laid d scope name x p = record { named = λ e. kept_at (λ e. is_named scope name e.1) is_laid_tag (span_of d.types) (laid d) x p e }

seen_laid : (d : Declarations) (scope : Scope) (name : List ℕ) (x : ℕ × Entry) → seen_from d scope name ≡ Some x → IsLaid d x
seen_laid d Controller name x p = entry_laid d Controller name x p
seen_laid d (Program q) name x p = go (entry_of d (Program q) name) refl p
  where
    go : (o : Option (ℕ × Entry)) → entry_of d (Program q) name ≡ o → option_or o (entry_of d Controller name) ≡ Some x → IsLaid d x
    go None r t = entry_laid d Controller name x t
    go (Some y) r t = entry_laid d (Program q) name x (cc (r, t))

-- ---- steps of resolution: the end stays, and the beginning only grows

module _ (d : Declarations) where
  grown : (g f : Found) → g.at ≤ f.at → f.stop ≡ g.stop → IsInTag d g → IsInTag d f
  grown g f more same h = record { tag = h.tag; within = h.within; from = (let a = h.from in omega arith); stop = same ∙ h.stop }

  member_in : (types : List TypeDecl) (g f : Found) (name : List ℕ) → IsInTag d g → find_member types g name ≡ Ok f → IsInTag d f
  member_in types g f name h p =
      let a = bind_ok (unless (not (is_array g.of)) G4) _ f p in
      let b = bind_ok (some_or (member_of types g.of.base name) G4) _ f a.2 in
      let made : Found = record g { at = g.at + b.0.at; of = b.0.of } in
      subst (IsInTag d) (ok_inj made f b.2) (grown g made (omega arith) refl h)

  element_in : (types : List TypeDecl) (g f : Found) (n : ℕ) → IsInTag d g → find_element types g n ≡ Ok f → IsInTag d f
  element_in types g f n h p =
      let a = bind_ok (unless (is_array g.of) G5) _ f p in
      let b = bind_ok (unless (nat_lt n g.of.dim) G5) _ f a.2 in
      subst (IsInTag d) (ok_inj _ f b.2) (grown g _ (omega arith) refl h)

  bit_in : (g f : Found) (n : ℕ) → IsInTag d g → find_bit g n ≡ Ok f → IsInTag d f
  bit_in g f n h p =
      let a = bind_ok (unless (is_integer g.of) G5) _ f p in
      let b = bind_ok (unless (nat_lt n (integer_bits g.of.base)) G5) _ f a.2 in
      subst (IsInTag d) (ok_inj _ f b.2) (grown g _ (omega arith) refl h)

  indexed_in : (types : List TypeDecl) (g f : Found) (subscript : Result Found TagCode) → IsInTag d g → find_indexed types g subscript ≡ Ok f → IsInTag d f
  indexed_in types g f subscript h p =
      let a = bind_ok subscript _ f p in
      let b = bind_ok (unless (may_index a.0) G6) _ f a.2 in
      let c = bind_ok (unless (nat_lt (length g.steps) MAX_SUBSCRIPTS) G9) _ f b.2 in
      subst (IsInTag d) (ok_inj _ f c.2) (grown g _ (omega arith) refl h)

  pub resolved_in : (s : Subscripts) (types : List TypeDecl) (names : List ℕ → Result Found TagCode) → ((name : List ℕ) (f : Found) → names name ≡ Ok f → IsInTag d f) → (form : Form) (f : Found) → resolved s types names form ≡ Ok f → IsInTag d f
  resolved_in s types names known (tag name) f p = known name f p
  resolved_in s types names known (member form name) f p =
      let a = bind_ok (resolved s types names form) _ f p in
      member_in types a.0 f name (resolved_in s types names known form a.0 a.1) a.2
  resolved_in s types names known (element form n) f p =
      let a = bind_ok (resolved s types names form) _ f p in
      element_in types a.0 f n (resolved_in s types names known form a.0 a.1) a.2
  resolved_in s types names known (bit form n) f p =
      let a = bind_ok (resolved s types names form) _ f p in
      bit_in a.0 f n (resolved_in s types names known form a.0 a.1) a.2
  resolved_in s types names known (indexed form inner) f p =
      let a = bind_ok (resolved s types names form) _ f p in
      let b = bind_ok (unless (is_array a.0.of) G5) _ f a.2 in
      indexed_in types a.0 f (subscript_by s (resolved s types names inner)) (resolved_in s types names known form a.0 a.1) b.2

  text_in : (s : Subscripts) (types : List TypeDecl) (names : List ℕ → Result Found TagCode) → ((name : List ℕ) (f : Found) → names name ≡ Ok f → IsInTag d f) → (text : List ℕ) (f : Found) → in_form s types names text ≡ Ok f → IsInTag d f
  text_in s types names known text f p =
      let a = bind_ok (some_or (form_in text) G10) _ f p in
      resolved_in s types names known a.0 f a.2

  meant_in : (target_found : Scope → List ℕ → Result Found TagCode) → ((scope : Scope) (text : List ℕ) (f : Found) → target_found scope text ≡ Ok f → IsInTag d f) → (at : ℕ) (scope : Scope) (name : List ℕ) (m : Meaning) (f : Found) → IsLaid d (at, record { scope = scope; name = name; meaning = m }) → meant d.types target_found (at, record { scope = scope; name = name; meaning = m }) ≡ Ok f → IsInTag d f
  meant_in target_found known at scope name (is_tag of) f w p =
      let k = w.named refl in
      subst (IsInTag d) (ok_inj (tag_found d.types at of) f p)
      (record { tag = k.0; within = k.1; from = (let e = ap (λ (s : TagSpan). s.start) k.2 in omega arith); stop = sym (ap (λ (s : TagSpan). s.end) k.2) })
  meant_in target_found known at scope name (is_alias target) f w p = known scope target f p

  pub named_in : (chain : ℕ) (scope : Scope) (name : List ℕ) (f : Found) → named_within chain d scope name ≡ Ok f → IsInTag d f
  named_in zero scope name f p =
      let a = bind_ok (some_or (seen_from d scope name) G3) _ f p in
      let x : ℕ × Entry = a.0 in
      meant_in (λ _ _. Err G7) (λ _ _ f q. err_not_ok G7 f q) x.0 x.1.scope x.1.name x.1.meaning f (seen_laid d scope name x (some_or_ok _ _ _ a.1)) a.2
  named_in (suc chain) scope name f p =
      let a = bind_ok (some_or (seen_from d scope name) G3) _ f p in
      let x : ℕ × Entry = a.0 in
      meant_in (λ scope target. in_form numbers_alone d.types (named_within chain d scope) target)
      (λ scope text f q. text_in numbers_alone d.types (named_within chain d scope) (λ name f r. named_in chain scope name f r) text f q)
      x.0 x.1.scope x.1.name x.1.meaning f (seen_laid d scope name x (some_or_ok _ _ _ a.1)) a.2

pub found_in_tag : FoundInTag
found_in_tag d scope text f p = text_in d operands d.types (named d scope) (λ name f q. named_in d (length (aliases d)) scope name f q) text f p
