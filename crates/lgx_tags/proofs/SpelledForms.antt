-- A text of which all is found is an operand form, where its tags' names are.
use Rattle.std.specs.Prelude.{◌≡◌, ℕ, zero, suc, ◌+◌, Bool, true, false, ◌==◌, nat_lt, List, [], ◌∷◌, length, Option, Some, None, IfSome, Result, Ok, Err, if◌then◌else◌, refl}
use Rattle.std.specs.Option.{is_some}
use Rattle.std.proofs.Common.{sym, ap, ◌∙◌, subst, arith, add-one}
use Rattle.lgx_num.specs.Name.{is_name}
use Rattle.spec_base.specs.FirstCause.{◌>>=◌, unless}
use Rattle.spec_base.proofs.Binds.{bind_ok, ok_inj, err_not_ok, unless_ok}
use Rattle.spec_language.specs.declared.types.Base.TheVariants.{Bool as OneBit}
use Rattle.spec_language.specs.declared.types.DataType.{DataType}
use Rattle.spec_language.specs.declared.types.TypeDecl.{TypeDecl}
use Rattle.spec_language.specs.declared.tag.TagCode.{TagCode}
use Rattle.spec_language.specs.declared.tag.TagCode.TheVariants.{G5, G6, G10}
use Rattle.spec_language.specs.declared.tag.Found.{Found}
use Rattle.spec_language.specs.Layout.{single}
use Rattle.spec_language.specs.OperandForm.{are_digits, digits_number, is_tag_name, form, Token, tokens}
use Rattle.spec_language.specs.Resolution.{Subscripts, is_array, is_integer, integer_bits, find_member, find_element, find_bit, find_indexed, in_form}
use Rattle.lgx_tags.specs.Parts.{OperandPart, begins_marked, first_part, with_word}
use Rattle.lgx_tags.specs.Parts as part
use Rattle.lgx_tags.specs.FormStates.{closed_from, state_after, then_on, completes}
use Rattle.lgx_tags.specs.SpelledNames.{HasTagName}
use Rattle.lgx_tags.specs.TextReading.{Reading, find_dotted, may_open, close_at, open_at, step, end_at, found_after}
use Rattle.lgx_tags.specs.declared.form.FormState.{FormState}
use Rattle.lgx_tags.proofs.FormStates.{on_part, form_named}
use Rattle.lgx_tags.proofs.ReadingAnswers.{begun}

-- as many arrays as brackets are open; after the number of a bit a bit is found
pub record Matches (k : Reading) (s : FormState) : Type 0 where
  pub depth : s.depth ≡ length k.arrays
  pub bit : s.bit ≡ true → k.found.of ≡ single OneBit

-- ---- a bit has no members, elements or bits

no_member : {T : Type 0} (types : List TypeDecl) (f g : Found) (w : List ℕ) → f.of ≡ single OneBit → find_member types f w ≡ Ok g → T
no_member types f g w p e = absurd (cc (subst (λ (t : DataType). find_member types (record f { of = t }) w ≡ Ok g) p e))

no_element : {T : Type 0} (types : List TypeDecl) (f g : Found) (n : ℕ) → f.of ≡ single OneBit → find_element types f n ≡ Ok g → T
no_element types f g n p e = absurd (cc (subst (λ (t : DataType). find_element types (record f { of = t }) n ≡ Ok g) p e))

no_bit : {T : Type 0} (f g : Found) (n : ℕ) → f.of ≡ single OneBit → find_bit f n ≡ Ok g → T
no_bit f g n p e = absurd (cc (subst (λ (t : DataType). find_bit (record f { of = t }) n ≡ Ok g) p e))

no_array : {T : Type 0} (t : DataType) → t ≡ single OneBit → is_array t ≡ true → T
no_array t p e = absurd (cc (subst (λ (t : DataType). is_array t ≡ true) p e))

bit_found : (f g : Found) (n : ℕ) → find_bit f n ≡ Ok g → g.of ≡ single OneBit
bit_found f g n e =
    let a = bind_ok (unless (is_integer f.of) G5) _ g e in
    let b = bind_ok (unless (nat_lt n (integer_bits f.of.base)) G5) _ g a.2 in
    let made : Found = record f { at = f.at + n; of = single OneBit } in
    ap (λ (x : Found). x.of) (sym (ok_inj made g b.2))

-- ---- one more part

-- the state of a form that goes on so
abbrev Goes : FormState → OperandPart → Reading → Type 0
Goes s p j = (t : FormState) × (state_after s p ≡ Some t) × Matches j t

after_dotted : (types : List TypeDecl) (w : List ℕ) (k : Reading) (f : Found) (s : FormState) → Matches k s → find_dotted types k.found w ≡ Ok f → Goes s (part.dotted w) (record k { found = f })
after_dotted types w k f s m e = go s.bit refl (is_name w) (are_digits 10 w) e
  where
    go : (b : Bool) → s.bit ≡ b → (a d : Bool) → (if a then find_member types k.found w else if d then find_bit k.found (digits_number 10 w) else Err G10) ≡ Ok f → (t : FormState) × ((if b then None else if a then Some s else if d then Some (record s { bit = true }) else None) ≡ Some t) × Matches (record k { found = f }) t
    go true q true d e = no_member types k.found f w (m.bit q) e
    go true q false true e = no_bit k.found f (digits_number 10 w) (m.bit q) e
    go true q false false e = err_not_ok G10 f e
    go false q true d e = (s, refl, record { depth = m.depth; bit = λ r. absurd (cc (q, r)) })
    go false q false true e = (record s { bit = true }, refl, record { depth = m.depth; bit = λ r. bit_found k.found f (digits_number 10 w) e })
    go false q false false e = err_not_ok G10 f e

after_element : (types : List TypeDecl) (w : List ℕ) (k : Reading) (f : Found) (s : FormState) → Matches k s → find_element types k.found (digits_number 10 w) ≡ Ok f → Goes s (part.element w) (record k { found = f })
after_element types w k f s m e = go s.bit refl
  where
    go : (b : Bool) → s.bit ≡ b → (t : FormState) × ((if b then None else Some s) ≡ Some t) × Matches (record k { found = f }) t
    go true q = no_element types k.found f (digits_number 10 w) (m.bit q) e
    go false q = (s, refl, record { depth = m.depth; bit = λ r. absurd (cc (q, r)) })

after_opened : (w : List ℕ) (k : Reading) (f : Found) (s : FormState) → Matches k s → is_tag_name w ≡ true → is_array k.found.of ≡ true → Goes s (part.opened w) (record { arrays = k.found ∷ k.arrays; found = f })
after_opened w k f s m n e = go s.bit refl (is_tag_name w) n
  where
    go : (b : Bool) → s.bit ≡ b → (a : Bool) → a ≡ true → (t : FormState) × ((if b then None else if a then Some (record s { depth = s.depth + 1 }) else None) ≡ Some t) × Matches (record { arrays = k.found ∷ k.arrays; found = f }) t
    go true q a r = no_array k.found.of (m.bit q) e
    go false q true r = (record s { depth = s.depth + 1 }, refl, record { depth = add-one s.depth ∙ ap suc m.depth; bit = λ r. absurd (cc (q, r)) })
    go false q false r = absurd (cc r)

after_closed : (arrays : List Found) (f : Found) (s : FormState) → s.depth ≡ suc (length arrays) → Goes s part.closed (record { arrays = arrays; found = f })
after_closed arrays f s m = (record { depth = length arrays; bit = false }, ap closed_from m, record { depth = refl; bit = λ r. absurd (cc r) })

made_of : (types : List TypeDecl) (k j : Reading) (r : Result Found TagCode) (s : FormState) (p : OperandPart) → ((f : Found) → r ≡ Ok f → Goes s p (record k { found = f })) → (r >>= λ f. Ok (record k { found = f })) ≡ Ok j → Goes s p j
made_of types k j r s p known e =
    let a = bind_ok r _ j e in
    subst (Goes s p) (ok_inj _ j a.2) (known a.0 a.1)

pub state_step : (s : Subscripts) (types : List TypeDecl) (named : List ℕ → Result Found TagCode) (p : OperandPart) (k j : Reading) (t : FormState) → Matches k t → HasTagName p → step s types named p k ≡ Ok j → Goes t p j
state_step s types named (part.dotted w) k j t m n e = made_of types k j (find_dotted types k.found w) t (part.dotted w) (λ f r. after_dotted types w k f t m r) e
state_step s types named (part.element w) k j t m n e = made_of types k j (find_element types k.found (digits_number 10 w)) t (part.element w) (λ f r. after_element types w k f t m r) e
state_step s types named (part.opened w) k j t m n e =
    let a = bind_ok (unless (is_array k.found.of) G5) _ j e in
    let b = bind_ok (unless (may_open s) G6) _ j a.2 in
    let c = bind_ok (named w) _ j b.2 in
    subst (Goes t (part.opened w)) (ok_inj _ j c.2) (after_opened w k c.0 t m n (unless_ok _ _ _ a.1))
state_step s types named part.closed k j t m n e = go k.arrays m.depth e
  where
    go : (arrays : List Found) → t.depth ≡ length arrays → close_at types arrays k.found ≡ Ok j → Goes t part.closed j
    go [] q e = err_not_ok G10 j e
    go (a ∷ arrays) q e =
        let c = bind_ok (find_indexed types a (Ok k.found)) _ j e in
        subst (Goes t part.closed) (ok_inj _ j c.2) (after_closed arrays c.0 t q)

-- ---- as far as a text is read

-- a form that begins so is one exactly where what is left goes on to the end of one
abbrev pub StillForms : List Token → List Token → Reading → Type 0
StillForms ts left k = (t : FormState) × Matches k t × (completes ts (record { depth = 0; bit = false }) ≡ completes left t)

pub forms_first : (ts : List Token) (f : Found) → StillForms ts ts (record { arrays = []; found = f })
forms_first ts f = (record { depth = 0; bit = false }, record { depth = refl; bit = λ r. absurd (cc r) }, refl)

pub forms_on : (s : Subscripts) (types : List TypeDecl) (named : List ℕ → Result Found TagCode) (ts left rest : List Token) (p : OperandPart) (k j : Reading) → StillForms ts left k → first_part left ≡ Some (p, rest) → HasTagName p → step s types named p k ≡ Ok j → StillForms ts rest j
forms_on s types named ts left rest p k j f e n q =
    let g = state_step s types named p k j f.0 f.1 n q in
    (g.0, g.2, f.2 ∙ on_part left rest f.0 p e ∙ ap (then_on (completes rest)) g.1)

pub forms_last : (ts : List Token) (k : Reading) → k.arrays ≡ [] → StillForms ts [] k → completes ts (record { depth = 0; bit = false }) ≡ true
forms_last ts k p f = f.2 ∙ ap (λ (n : ℕ). n == 0) (f.1.depth ∙ ap (λ (l : List Found). length l) p)

pub all_forms : (ts : List Token) (rest : List ℕ) (k : Reading) (r : Option Found) → StillForms ts (tokens rest) k → IfSome r (λ _. length rest ≡ 0) → IfSome r (λ _. k.arrays ≡ []) → IfSome r (λ _. completes ts (record { depth = 0; bit = false }) ≡ true)
all_forms ts rest k None f a b = tt
all_forms ts [] k (Some g) f a b = forms_last ts k b f
all_forms ts (x ∷ xs) k (Some g) f a b = absurd (cc a)

pub all_found : (s : Subscripts) (types : List TypeDecl) (named : List ℕ → Result Found TagCode) (rest : List ℕ) (k : Reading) (start : Result Found TagCode) (r : Option Found) → start ≡ found_after s types named (tokens rest) k → IfSome r (λ _. length rest ≡ 0) → IfSome r (λ _. k.arrays ≡ []) → IfSome r (λ f. f ≡ k.found) → IfSome r (λ f. start ≡ Ok f)
all_found s types named rest k start None p a b c = tt
all_found s types named [] k start (Some f) p a b c = p ∙ ap (λ (arrays : List Found). end_at arrays k.found) b ∙ ap Ok (sym c)
all_found s types named (x ∷ xs) k start (Some f) p a b c = absurd (cc a)

-- ---- a whole text

pub spelled_found : (s : Subscripts) (types : List TypeDecl) (named : List ℕ → Result Found TagCode) (text name rest : List ℕ) (f : Found) → tokens text ≡ with_word name (tokens rest) → begins_marked rest ≡ true → is_tag_name name ≡ true → named name ≡ Ok f → completes (tokens rest) (record { depth = 0; bit = false }) ≡ true → in_form s types named text ≡ found_after s types named (tokens rest) (record { arrays = []; found = f })
spelled_found s types named text name rest f e m n q c = begun s types named text name rest f (form_named text name rest e n ∙ c) e m q

-- a text that is the name of a tag
pub spelled_alone : (s : Subscripts) (types : List TypeDecl) (named : List ℕ → Result Found TagCode) (text name rest : List ℕ) (f : Found) → tokens text ≡ with_word name (tokens rest) → length rest ≡ 0 → is_tag_name name ≡ true → named name ≡ Ok f → in_form s types named text ≡ Ok f
spelled_alone s types named text name [] f e z n q = spelled_found s types named text name [] f e refl n q refl
spelled_alone s types named text name (c ∷ cs) f e z n q = absurd (cc z)

-- a text of which all is found after its tag's name
pub spelled_whole : (s : Subscripts) (types : List TypeDecl) (named : List ℕ → Result Found TagCode) (text name rest : List ℕ) (f : Found) (r : Option Found) → tokens text ≡ with_word name (tokens rest) → begins_marked rest ≡ true → is_tag_name name ≡ true → named name ≡ Ok f → IfSome r (λ g. found_after s types named (tokens rest) (record { arrays = []; found = f }) ≡ Ok g) → IfSome r (λ _. completes (tokens rest) (record { depth = 0; bit = false }) ≡ true) → IfSome r (λ g. in_form s types named text ≡ Ok g)
spelled_whole s types named text name rest f None e m n q a b = tt
spelled_whole s types named text name rest f (Some g) e m n q a b = spelled_found s types named text name rest f e m n q b ∙ a
