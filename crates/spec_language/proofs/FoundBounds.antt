-- What is found lies in the image.
use Rattle.std.specs.Prelude.{◌≡◌, ℕ, zero, suc, ◌+◌, ◌*◌, ◌%◌, ◌<◌, ◌≤◌, Bool, true, false, not, ◌&&◌, ◌==◌, nat_lt, List, [], ◌∷◌, ◌++◌, length, Result, Ok, Err, ⊤, refl}
use Rattle.std.proofs.Common.{sym, subst, arith, eqb-true, ltb-true, length-append}
use Rattle.spec_base.specs.declared.limits.TheConstants.{MAX_SUBSCRIPTS}
use Rattle.lgx_num.specs.Image.{InBounds}
use Rattle.lgx_num.specs.declared.place.Index.{Index}
use Rattle.spec_language.specs.declared.types.Base.{Base}
use Rattle.spec_language.specs.declared.types.Base.TheVariants.{Bool as OneBit, Sint, Int, Dint, Timer, Counter, User}
use Rattle.spec_language.specs.declared.types.DataType.{DataType}
use Rattle.spec_language.specs.declared.types.Member.{Member}
use Rattle.spec_language.specs.declared.types.TypeDecl.{TypeDecl}
use Rattle.spec_language.specs.declared.tag.Scope.{Scope}
use Rattle.spec_language.specs.declared.tag.TagCode.{TagCode}
use Rattle.spec_language.specs.declared.tag.TagCode.TheVariants.{G3, G4, G5, G6, G7, G9, G10}
use Rattle.spec_language.specs.declared.tag.Found.{Found}
use Rattle.spec_base.specs.FirstCause.{unless, some_or}
use Rattle.spec_language.specs.Layout.{member as member_of, single}
use Rattle.spec_language.specs.OperandForm.{Form, tag, member, element, indexed, bit, form as form_in}
use Rattle.spec_language.specs.Declarations.{Meaning, Entry, Declarations, bytes}
use Rattle.spec_language.specs.Declarations.{tag as is_tag, alias as is_alias}
use Rattle.spec_language.specs.Resolution.{is_array, integer_bits, is_integer, kind_of, stride, find_member, find_element, find_bit, may_index, index_by, find_indexed, Subscripts, operands, numbers_alone, resolved, seen_from, tag_found, meant, in_form, named_within, named, aliases}
use Rattle.lgx_num.specs.Paths.{CanReach}
use Rattle.spec_language.specs.LayoutLaws.{SoundTypes}
use Rattle.spec_language.specs.ResolutionLaws.{Sound, EndsBy, LiesIn, FoundInBounds, FixedInBounds}
use Rattle.spec_base.proofs.Binds.{bind_ok, ok_inj, err_not_ok, unless_ok, some_or_ok}
use Rattle.spec_language.proofs.Subscripts.{leads_behind, leads_more, subscripts_more}
use Rattle.spec_language.proofs.TypesFit.{element_fits, bit_fits, member_fits}
use Rattle.spec_language.proofs.TagsFit.{LaidWell, seen_well, tag_lies}

-- ---- tests

pub and_left : (b c : Bool) → (b && c) ≡ true → b ≡ true
and_left true c p = refl
and_left false c p = absurd (cc p)

pub and_right : (b c : Bool) → (b && c) ≡ true → c ≡ true
and_right true c p = p
and_right false c p = absurd (cc p)

pub twice_not : (b : Bool) → not (not b) ≡ true → b ≡ true
twice_not true p = refl
twice_not false p = absurd (cc p)

pub empty_steps : (is : List Index) → (length is == 0) ≡ true → is ≡ []
empty_steps [] p = refl
empty_steps (i ∷ is) p = absurd (omega (arith, eqb-true (length (i ∷ is)) 0 p))

-- a type that is no array
pub is_single : (t : DataType) → not (is_array t) ≡ true → t ≡ single t.base
is_single t p = subst (λ (n : ℕ). t ≡ record { base = t.base; dim = n }) (eqb-true t.dim 0 (twice_not (t.dim == 0) p)) refl

-- ---- steps of resolution

pub member_lies : (types : List TypeDecl) (len : ℕ) (g f : Found) (name : List ℕ) → SoundTypes types → LiesIn types len g → find_member types g name ≡ Ok f → LiesIn types len f × (f.steps ≡ g.steps)
member_lies types len g f name s l p =
    let a = bind_ok (unless (not (is_array g.of)) G4) _ f p in
    let b = bind_ok (some_or (member_of types g.of.base name) G4) _ f a.2 in
    let m : Member = b.0 in
    let one : g.of ≡ single g.of.base = is_single g.of (unless_ok _ _ _ a.1) in
    let fits = member_fits types g.of.base name m s (some_or_ok _ _ _ b.1) in
    let made : Found = record g { at = g.at + m.at; of = m.of } in
    let lies : LiesIn types len made = record { subscripts = l.subscripts; few = l.few; inside = λ to h. let b = leads_behind g.steps g.at m.at to h in subst (λ (at : ℕ). EndsBy types m.of g.stop at) (sym b.2) (fits.1 g.stop b.0 (subst (λ (t : DataType). EndsBy types t g.stop b.0) one (l.inside b.0 b.1))); stop = l.stop; filled = fits.0 } in
    subst (λ (z : Found). LiesIn types len z × (z.steps ≡ g.steps)) (ok_inj made f b.2) (lies, refl)

pub element_lies : (types : List TypeDecl) (len : ℕ) (g f : Found) (n : ℕ) → LiesIn types len g → find_element types g n ≡ Ok f → LiesIn types len f × (f.steps ≡ g.steps)
element_lies types len g f n l p =
    let a = bind_ok (unless (is_array g.of) G5) _ f p in
    let b = bind_ok (unless (nat_lt n g.of.dim) G5) _ f a.2 in
    let made : Found = record g { at = g.at + n * stride types g.of.base; of = single g.of.base } in
    let lies : LiesIn types len made = record { subscripts = l.subscripts; few = l.few; inside = λ to h. let b' = leads_behind g.steps g.at (n * stride types g.of.base) to h in subst (λ (at : ℕ). EndsBy types (single g.of.base) g.stop at) (sym b'.2) (element_fits types g.of.base g.of.dim n g.stop b'.0 (ltb-true n g.of.dim (unless_ok _ _ _ b.1)) (l.inside b'.0 b'.1)); stop = l.stop; filled = l.filled } in
    subst (λ (z : Found). LiesIn types len z × (z.steps ≡ g.steps)) (ok_inj made f b.2) (lies, refl)

pub bit_lies : (types : List TypeDecl) (len : ℕ) (g f : Found) (n : ℕ) → LiesIn types len g → find_bit g n ≡ Ok f → LiesIn types len f × (f.steps ≡ g.steps)
bit_lies types len g f n l p =
    let a = bind_ok (unless (is_integer g.of) G5) _ f p in
    let b = bind_ok (unless (nat_lt n (integer_bits g.of.base)) G5) _ f a.2 in
    let one : g.of ≡ single g.of.base = is_single g.of (and_left (not (is_array g.of)) _ (unless_ok _ _ _ a.1)) in
    let made : Found = record g { at = g.at + n; of = single OneBit } in
    let lies : LiesIn types len made = record { subscripts = l.subscripts; few = l.few; inside = λ to h. let b' = leads_behind g.steps g.at n to h in subst (λ (at : ℕ). EndsBy types (single OneBit) g.stop at) (sym b'.2) (bit_fits types g.of.base n g.stop b'.0 (ltb-true n _ (unless_ok _ _ _ b.1)) (subst (λ (t : DataType). EndsBy types t g.stop b'.0) one (l.inside b'.0 b'.1))); stop = l.stop; filled = omega arith } in
    subst (λ (z : Found). LiesIn types len z × (z.steps ≡ g.steps)) (ok_inj made f b.2) (lies, refl)

-- an integer place without subscripts lies in the image, on a byte
pub place_lies : (types : List TypeDecl) (len stop at : ℕ) (base : Base) → 0 < integer_bits base → stop ≤ len → EndsBy types (single base) stop at → (at % 8 ≡ 0) × InBounds (record { kind = kind_of base; at = at }) len
place_lies types len stop at OneBit h t e = absurd (omega arith)
place_lies types len stop at Sint h t e = (e.0, (e.0, omega (arith, e.1)))
place_lies types len stop at Int h t e = (e.0, (e.0, omega (arith, e.1)))
place_lies types len stop at Dint h t e = (e.0, (e.0, omega (arith, e.1)))
place_lies types len stop at Timer h t e = absurd (omega arith)
place_lies types len stop at Counter h t e = absurd (omega arith)
place_lies types len stop at (User i) h t e = absurd (omega arith)

pub index_lies : (types : List TypeDecl) (len : ℕ) (array : DataType) (i : Found) → LiesIn types len i → may_index i ≡ true → (i.at % 8 ≡ 0) × InBounds (index_by types array i).of len
index_lies types len array i l p =
    let single_of : i.of ≡ single i.of.base = is_single i.of (and_left _ (nat_lt 0 (integer_bits i.of.base)) (and_left (is_integer i.of) _ p)) in
    let inside : EndsBy types i.of i.stop i.at = l.inside i.at (subst (λ (is : List Index). CanReach is i.at i.at) (sym (empty_steps i.steps (and_right (is_integer i.of) _ p))) refl) in
    place_lies types len i.stop i.at i.of.base (ltb-true 0 _ (and_right (not (is_array i.of)) _ (and_left (is_integer i.of) _ p))) l.stop (subst (λ (t : DataType). EndsBy types t i.stop i.at) single_of inside)

pub indexed_lies : (types : List TypeDecl) (len : ℕ) (g f : Found) (subscript : Result Found TagCode) → LiesIn types len g → ((i : Found) → subscript ≡ Ok i → LiesIn types len i) → find_indexed types g subscript ≡ Ok f → LiesIn types len f
indexed_lies types len g f subscript l known p =
    let a = bind_ok subscript _ f p in
    let i : Found = a.0 in
    let b = bind_ok (unless (may_index i) G6) _ f a.2 in
    let c = bind_ok (unless (nat_lt (length g.steps) MAX_SUBSCRIPTS) G9) _ f b.2 in
    let j : Index = index_by types g.of i in
    let made : Found = record g { steps = g.steps ++ j ∷ []; of = single g.of.base } in
    let lies : LiesIn types len made = record { subscripts = subscripts_more g.steps j len l.subscripts (index_lies types len g.of i (known i a.1) (unless_ok _ _ _ b.1)); few = omega (arith, length-append g.steps (j ∷ []), ltb-true (length g.steps) MAX_SUBSCRIPTS (unless_ok _ _ _ c.1)); inside = λ to h. let b' = leads_more g.steps j g.at to h in subst (λ (at : ℕ). EndsBy types (single g.of.base) g.stop at) (sym b'.4) (element_fits types g.of.base g.of.dim b'.1 g.stop b'.0 b'.3 (l.inside b'.0 b'.2)); stop = l.stop; filled = l.filled } in
    subst (λ (z : Found). LiesIn types len z) (ok_inj made f c.2) lies

-- ---- forms

-- if numbers alone are subscripts, nothing moves the place
abbrev IsFixed : Subscripts → Found → Type 0
IsFixed operands f = ⊤
IsFixed numbers_alone f = f.steps ≡ []

pub fixed_for : (s : Subscripts) (f : Found) → f.steps ≡ [] → IsFixed s f
fixed_for operands f p = tt
fixed_for numbers_alone f p = p

pub fixed_like : (s : Subscripts) (f g : Found) → f.steps ≡ g.steps → IsFixed s g → IsFixed s f
fixed_like operands f g p q = tt
fixed_like numbers_alone f g p q = cc (p, q)

pub resolved_lies : (s : Subscripts) (types : List TypeDecl) (len : ℕ) (names : List ℕ → Result Found TagCode) → SoundTypes types → ((name : List ℕ) (f : Found) → names name ≡ Ok f → LiesIn types len f × (f.steps ≡ [])) → (form : Form) (f : Found) → resolved s types names form ≡ Ok f → LiesIn types len f × IsFixed s f
resolved_lies s types len names sound known (tag name) f p = ((known name f p).0, fixed_for s f (known name f p).1)
resolved_lies s types len names sound known (member form name) f p =
    let a = bind_ok (resolved s types names form) _ f p in
    let before = resolved_lies s types len names sound known form a.0 a.1 in
    let l = member_lies types len a.0 f name sound before.0 a.2 in
    (l.0, fixed_like s f a.0 l.1 before.1)
resolved_lies s types len names sound known (element form n) f p =
    let a = bind_ok (resolved s types names form) _ f p in
    let before = resolved_lies s types len names sound known form a.0 a.1 in
    let l = element_lies types len a.0 f n before.0 a.2 in
    (l.0, fixed_like s f a.0 l.1 before.1)
resolved_lies s types len names sound known (bit form n) f p =
    let a = bind_ok (resolved s types names form) _ f p in
    let before = resolved_lies s types len names sound known form a.0 a.1 in
    let l = bit_lies types len a.0 f n before.0 a.2 in
    (l.0, fixed_like s f a.0 l.1 before.1)
resolved_lies operands types len names sound known (indexed form inner) f p =
    let a = bind_ok (resolved operands types names form) _ f p in
    let b = bind_ok (unless (is_array a.0.of) G5) _ f a.2 in
    let before = resolved_lies operands types len names sound known form a.0 a.1 in
    (indexed_lies types len a.0 f (resolved operands types names inner) before.0 (λ i q. (resolved_lies operands types len names sound known inner i q).0) b.2, tt)
resolved_lies numbers_alone types len names sound known (indexed form inner) f p =
    let a = bind_ok (resolved numbers_alone types names form) _ f p in
    let b = bind_ok (unless (is_array a.0.of) G5) _ f a.2 in
    err_not_ok G6 f b.2

-- ---- names and texts

pub text_lies : (s : Subscripts) (types : List TypeDecl) (len : ℕ) (names : List ℕ → Result Found TagCode) → SoundTypes types → ((name : List ℕ) (f : Found) → names name ≡ Ok f → LiesIn types len f × (f.steps ≡ [])) → (text : List ℕ) (f : Found) → in_form s types names text ≡ Ok f → LiesIn types len f × IsFixed s f
text_lies s types len names sound known text f p =
    let a = bind_ok (some_or (form_in text) G10) _ f p in
    resolved_lies s types len names sound known a.0 f a.2

pub meant_lies : (types : List TypeDecl) (len : ℕ) (target_found : Scope → List ℕ → Result Found TagCode) → ((scope : Scope) (text : List ℕ) (f : Found) → target_found scope text ≡ Ok f → LiesIn types len f × (f.steps ≡ [])) → (at : ℕ) (scope : Scope) (name : List ℕ) (m : Meaning) (f : Found) → LaidWell types len (at, record { scope = scope; name = name; meaning = m }) → meant types target_found (at, record { scope = scope; name = name; meaning = m }) ≡ Ok f → LiesIn types len f × (f.steps ≡ [])
meant_lies types len target_found known at scope name (is_tag of) f w p = subst (λ (z : Found). LiesIn types len z × (z.steps ≡ [])) (ok_inj (tag_found types at of) f p) (tag_lies types len at of w.0 w.1, refl)
meant_lies types len target_found known at scope name (is_alias target) f w p = known scope target f p

pub named_lies : (chain : ℕ) (d : Declarations) (scope : Scope) (name : List ℕ) (f : Found) → Sound d → named_within chain d scope name ≡ Ok f → LiesIn d.types (bytes d) f × (f.steps ≡ [])
named_lies zero d scope name f s p =
    let a = bind_ok (some_or (seen_from d scope name) G3) _ f p in
    let x : ℕ × Entry = a.0 in
    meant_lies d.types (bytes d) (λ _ _. Err G7) (λ _ _ f q. err_not_ok G7 f q) x.0 x.1.scope x.1.name x.1.meaning f (seen_well d scope name x s (some_or_ok _ _ _ a.1)) a.2
named_lies (suc chain) d scope name f s p =
    let a = bind_ok (some_or (seen_from d scope name) G3) _ f p in
    let x : ℕ × Entry = a.0 in
    meant_lies d.types (bytes d) (λ scope target. in_form numbers_alone d.types (named_within chain d scope) target) (λ scope text f q. text_lies numbers_alone d.types (bytes d) (named_within chain d scope) s.types (λ name f r. named_lies chain d scope name f s r) text f q) x.0 x.1.scope x.1.name x.1.meaning f (seen_well d scope name x s (some_or_ok _ _ _ a.1)) a.2

pub found_lies : FoundInBounds
found_lies d scope text f s p = (text_lies operands d.types (bytes d) (named d scope) s.types (λ name f q. named_lies (length (aliases d)) d scope name f s q) text f p).0

pub fixed_lies : FixedInBounds
fixed_lies d scope text f s p = text_lies numbers_alone d.types (bytes d) (named d scope) s.types (λ name f q. named_lies (length (aliases d)) d scope name f s q) text f p
