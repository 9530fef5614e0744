-- What a text names begins at a multiple of its size.
use Rattle.std.specs.Prelude.{◌≡◌, ℕ, zero, suc, ◌+◌, ◌*◌, not, nat_lt, List, length, Result, Ok, Err}
use Rattle.std.proofs.Common.{subst, arith}
use Rattle.spec_base.specs.FirstCause.{unless, some_or}
use Rattle.spec_base.proofs.Binds.{bind_ok, ok_inj, err_not_ok, some_or_ok}
use Rattle.spec_language.specs.declared.types.Base.TheVariants.{Bool as OneBit}
use Rattle.spec_language.specs.declared.types.Member.{Member}
use Rattle.spec_language.specs.declared.types.TypeDecl.{TypeDecl}
use Rattle.spec_language.specs.declared.tag.Scope.{Scope}
use Rattle.spec_language.specs.declared.tag.TagCode.{TagCode}
use Rattle.spec_language.specs.declared.tag.TagCode.TheVariants.{G3, G4, G5, G6, G7, G10}
use Rattle.spec_language.specs.declared.tag.Found.{Found}
use Rattle.spec_language.specs.Layout.{member as member_of, single}
use Rattle.spec_language.specs.OperandForm.{Form, tag, member, element, indexed, bit, form as form_in}
use Rattle.spec_language.specs.Declarations.{Meaning, Entry, Declarations}
use Rattle.spec_language.specs.Declarations.{tag as is_tag, alias as is_alias}
use Rattle.spec_language.specs.Resolution.{is_array, integer_bits, is_integer, stride, find_member, find_element, find_bit, numbers_alone, resolved, seen_from, tag_found, meant, in_form, named_within, named, aliases}
use Rattle.spec_valid.specs.Aligned.{IsAligned, FixedIsAligned}
use Rattle.spec_valid.proofs.Parts.{IsWords, element_aligned, member_aligned, seen_on_word, tag_aligned}

-- ---- steps of resolution

member_step : (types : List TypeDecl) (g f : Found) (name : List ℕ) → IsAligned g → find_member types g name ≡ Ok f → IsAligned f
member_step types g f name l p =
    let a = bind_ok (unless (not (is_array g.of)) G4) _ f p in
    let b = bind_ok (some_or (member_of types g.of.base name) G4) _ f a.2 in
    let m : Member = b.0 in
    let made : Found = record g { at = g.at + m.at; of = m.of } in
    subst (λ (z : Found). IsAligned z) (ok_inj made f b.2) (member_aligned types g.of.base name m g.at l (some_or_ok _ _ _ b.1))

element_step : (types : List TypeDecl) (g f : Found) (n : ℕ) → IsAligned g → find_element types g n ≡ Ok f → IsAligned f
element_step types g f n l p =
    let a = bind_ok (unless (is_array g.of) G5) _ f p in
    let b = bind_ok (unless (nat_lt n g.of.dim) G5) _ f a.2 in
    let made : Found = record g { at = g.at + n * stride types g.of.base; of = single g.of.base } in
    subst (λ (z : Found). IsAligned z) (ok_inj made f b.2) (element_aligned types g.of.base g.at n l)

bit_step : (g f : Found) (n : ℕ) → find_bit g n ≡ Ok f → IsAligned f
bit_step g f n p =
    let a = bind_ok (unless (is_integer g.of) G5) _ f p in
    let b = bind_ok (unless (nat_lt n (integer_bits g.of.base)) G5) _ f a.2 in
    let made : Found = record g { at = g.at + n; of = single OneBit } in
    let l : IsAligned made = omega arith in
    subst (λ (z : Found). IsAligned z) (ok_inj made f b.2) l

-- ---- forms and texts

abbrev NamesAligned : (List ℕ → Result Found TagCode) → Type 0
NamesAligned names = (name : List ℕ) (f : Found) → names name ≡ Ok f → IsAligned f

form_aligned : (types : List TypeDecl) (names : List ℕ → Result Found TagCode) → NamesAligned names → (form : Form) (f : Found) → resolved numbers_alone types names form ≡ Ok f → IsAligned f
form_aligned types names known (tag name) f p = known name f p
form_aligned types names known (member form name) f p =
    let a = bind_ok (resolved numbers_alone types names form) _ f p in
    member_step types a.0 f name (form_aligned types names known form a.0 a.1) a.2
form_aligned types names known (element form n) f p =
    let a = bind_ok (resolved numbers_alone types names form) _ f p in
    element_step types a.0 f n (form_aligned types names known form a.0 a.1) a.2
form_aligned types names known (bit form n) f p =
    let a = bind_ok (resolved numbers_alone types names form) _ f p in
    bit_step a.0 f n a.2
form_aligned types names known (indexed form inner) f p =
    let a = bind_ok (resolved numbers_alone types names form) _ f p in
    let b = bind_ok (unless (is_array a.0.of) G5) _ f a.2 in
    err_not_ok G6 f b.2

text_aligned : (types : List TypeDecl) (names : List ℕ → Result Found TagCode) → NamesAligned names → (text : List ℕ) (f : Found) → in_form numbers_alone types names text ≡ Ok f → IsAligned f
text_aligned types names known text f p =
    let a = bind_ok (some_or (form_in text) G10) _ f p in
    form_aligned types names known a.0 f a.2

-- ---- names

meant_aligned : (types : List TypeDecl) (target_found : Scope → List ℕ → Result Found TagCode) → ((scope : Scope) (text : List ℕ) (f : Found) → target_found scope text ≡ Ok f → IsAligned f) → (at : ℕ) (scope : Scope) (name : List ℕ) (m : Meaning) (f : Found) → IsWords at → meant types target_found (at, record { scope = scope; name = name; meaning = m }) ≡ Ok f → IsAligned f
meant_aligned types target_found known at scope name (is_tag of) f w p = subst (λ (z : Found). IsAligned z) (ok_inj (tag_found types at of) f p) (tag_aligned of.base at w)
meant_aligned types target_found known at scope name (is_alias target) f w p = known scope target f p

named_aligned : (chain : ℕ) (d : Declarations) (scope : Scope) (name : List ℕ) (f : Found) → named_within chain d scope name ≡ Ok f → IsAligned f
named_aligned zero d scope name f p =
    let a = bind_ok (some_or (seen_from d scope name) G3) _ f p in
    let x : ℕ × Entry = a.0 in
    meant_aligned d.types (λ _ _. Err G7) (λ _ _ f q. err_not_ok G7 f q) x.0 x.1.scope x.1.name x.1.meaning f (seen_on_word d scope name x (some_or_ok _ _ _ a.1)) a.2
named_aligned (suc chain) d scope name f p =
    let a = bind_ok (some_or (seen_from d scope name) G3) _ f p in
    let x : ℕ × Entry = a.0 in
    meant_aligned d.types (λ scope target. in_form numbers_alone d.types (named_within chain d scope) target) (λ scope text f q. text_aligned d.types (named_within chain d scope) (λ name f r. named_aligned chain d scope name f r) text f q) x.0 x.1.scope x.1.name x.1.meaning f (seen_on_word d scope name x (some_or_ok _ _ _ a.1)) a.2

pub aligned_fixed : FixedIsAligned
aligned_fixed d scope text f p = text_aligned d.types (named d scope) (λ name f q. named_aligned (length (aliases d)) d scope name f q) text f p
