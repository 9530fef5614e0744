-- What is answered for a text.
use Rattle.std.specs.Prelude.{◌≡◌, ℕ, Bool, true, false, List, [], ◌∷◌, Option, Some, None, Result, Ok, Err, IfOk, if◌then◌else◌, refl}
use Rattle.std.specs.Option.{is_some}
use Rattle.std.proofs.Common.{sym, subst, ◌∙◌}
use Rattle.std.proofs.lemmas.List.{append-nil}
use Rattle.lgx_num.specs.Name.{is_name}
use Rattle.spec_language.proofs.FormsRead.{name_some, word_tokens}
use Rattle.lgx_tags.proofs.TagNames.{named_tag}
use Rattle.spec_language.specs.declared.types.TypeDecl.{TypeDecl}
use Rattle.spec_language.specs.declared.tag.TagCode.{TagCode}
use Rattle.spec_language.specs.declared.tag.TagCode.TheVariants.{G10}
use Rattle.spec_language.specs.declared.tag.Found.{Found}
use Rattle.spec_base.specs.FirstCause.{◌>>=◌, some_or}
use Rattle.spec_language.specs.LayoutLaws.{SoundTypes}
use Rattle.spec_language.specs.OperandForm.{is_tag_name, Form, tag, Token, word, tokens, form_from, form_of, form}
use Rattle.spec_language.specs.Resolution.{Subscripts, numbers_alone, resolved, in_form}
use Rattle.spec_language.specs.ResolutionLaws.{LiesIn}
use Rattle.spec_language.proofs.FoundBounds.{text_lies}
use Rattle.lgx_tags.specs.Parts.{OperandPart, first_part, begins_marked, with_word}
use Rattle.lgx_tags.specs.TextReading.{Reading, step, end_after, found_after, AnswersTag, NamesInBounds}
use Rattle.lgx_tags.specs.declared.error.TagError.{TagError}
use Rattle.lgx_tags.specs.declared.error.TagError.TheVariants.{Tag, Memory}
use Rattle.lgx_tags.proofs.FormStates.{form_unnamed}
use Rattle.lgx_tags.proofs.ReadingSteps.{walks, on_part, not_on_part}

-- ---- the start of a text

pub formless : (s : Subscripts) (types : List TypeDecl) (named : List ℕ → Result Found TagCode) (text : List ℕ) → is_some (form text) ≡ false → in_form s types named text ≡ Err G10
formless s types named text p = go (form text) p
  where
    go : (o : Option Form) → is_some o ≡ false → (some_or o G10 >>= resolved s types named) ≡ Err G10
    go None q = refl
    go (Some r) q = absurd (cc q)

from_tag : (ts : List Token) (c : ℕ) (cs : List ℕ) (r : Form) → form_of (word (c ∷ cs) ∷ ts) ≡ Some r → form_from ts [] (tag (c ∷ cs)) ≡ Some r
from_tag ts c cs r e = go (is_tag_name (c ∷ cs)) e
  where
    go : (b : Bool) → (if b then form_from ts [] (tag (c ∷ cs)) else None) ≡ Some r → form_from ts [] (tag (c ∷ cs)) ≡ Some r
    go true q = q
    go false q = absurd (cc q)

begins : (s : Subscripts) (types : List TypeDecl) (named : List ℕ → Result Found TagCode) (text name rest : List ℕ) → is_some (form text) ≡ true → tokens text ≡ with_word name (tokens rest) → begins_marked rest ≡ true → in_form s types named text ≡ (named name >>= λ f. found_after s types named (tokens rest) (record { arrays = []; found = f }))
begins s types named text [] rest p e m = absurd (cc (p, form_unnamed text [] rest e m refl))
begins s types named text (c ∷ cs) rest p e m = go (form text) refl p
  where
    go : (o : Option Form) → form text ≡ o → is_some o ≡ true → (some_or o G10 >>= resolved s types named) ≡ (named (c ∷ cs) >>= λ f. found_after s types named (tokens rest) (record { arrays = []; found = f }))
    go None q h = absurd (cc h)
    go (Some r) q h = walks s types named (tokens rest) [] (tag (c ∷ cs)) r (from_tag (tokens rest) c cs r (subst (λ (ts : List Token). form_of ts ≡ Some r) e q)) ∙ assoc (named (c ∷ cs))
      where
        assoc : (x : Result Found TagCode) → ((Ok [] >>= λ arrays. x >>= λ f. Ok (record { arrays = arrays; found = f })) >>= found_after s types named (tokens rest)) ≡ (x >>= λ f. found_after s types named (tokens rest) (record { arrays = []; found = f }))
        assoc (Ok f) = refl
        assoc (Err code) = refl

pub begun : (s : Subscripts) (types : List TypeDecl) (named : List ℕ → Result Found TagCode) (text name rest : List ℕ) (f : Found) → is_some (form text) ≡ true → tokens text ≡ with_word name (tokens rest) → begins_marked rest ≡ true → named name ≡ Ok f → in_form s types named text ≡ found_after s types named (tokens rest) (record { arrays = []; found = f })
begun s types named text name rest f p e m q = begins s types named text name rest p e m ∙ rw q refl

pub not_begun : (s : Subscripts) (types : List TypeDecl) (named : List ℕ → Result Found TagCode) (text name rest : List ℕ) (code : TagCode) → is_some (form text) ≡ true → tokens text ≡ with_word name (tokens rest) → begins_marked rest ≡ true → named name ≡ Err code → in_form s types named text ≡ Err code
not_begun s types named text name rest code p e m q = begins s types named text name rest p e m ∙ rw q refl

-- ---- one more part

pub went_on : (s : Subscripts) (types : List TypeDecl) (named : List ℕ → Result Found TagCode) (ts rest : List Token) (p : OperandPart) (k j : Reading) → first_part ts ≡ Some (p, rest) → step s types named p k ≡ Ok j → found_after s types named ts k ≡ found_after s types named rest j
went_on s types named ts rest p k j e q = on_part s types named ts rest p k e ∙ rw q refl

pub stopped : (s : Subscripts) (types : List TypeDecl) (named : List ℕ → Result Found TagCode) (ts rest : List Token) (p : OperandPart) (k : Reading) (error : TagError) → first_part ts ≡ Some (p, rest) → AnswersTag (step s types named p k) (Err error) → AnswersTag (found_after s types named ts k) (Err error)
stopped s types named ts rest p k (Tag code) e q = on_part s types named ts rest p k e ∙ rw q refl
stopped s types named ts rest p k Memory e q = tt

-- ---- the end of a text

pub ended : (s : Subscripts) (types : List TypeDecl) (named : List ℕ → Result Found TagCode) (rest : List ℕ) (k : Reading) → first_part (tokens rest) ≡ None → found_after s types named (tokens rest) k ≡ end_after rest k
ended s types named [] k e = refl
ended s types named (c ∷ cs) k e = not_on_part s types named c cs k e

pub answered : (a b : Result Found TagCode) (r : Result Found TagError) → a ≡ b → AnswersTag b r → AnswersTag a r
answered a b r e q = subst (λ (x : Result Found TagCode). AnswersTag x r) (sym e) q

-- ---- a text that is a name alone

name_tokens : (text : List ℕ) → is_name text ≡ true → tokens text ≡ word text ∷ []
name_tokens text p =
    let some = name_some text p in
    subst (λ (t : List ℕ). tokens t ≡ word text ∷ []) (append-nil text) (word_tokens text [] some.0 some.1 tt)

in_name : (s : Subscripts) (types : List TypeDecl) (named : List ℕ → Result Found TagCode) (text : List ℕ) → is_name text ≡ true → in_form s types named text ≡ named text
in_name s types named text p = rw (name_tokens text p, named_tag text p) refl

pub name_answered : (s : Subscripts) (types : List TypeDecl) (named : List ℕ → Result Found TagCode) (text : List ℕ) (r : Result Found TagError) → is_name text ≡ true → AnswersTag (named text) r → AnswersTag (in_form s types named text) r
name_answered s types named text r p q = answered (in_form s types named text) (named text) r (in_name s types named text p) q

-- ---- what is answered lies in the image

pub lies : (s : Subscripts) (types : List TypeDecl) (bytes : ℕ) (named : List ℕ → Result Found TagCode) (text : List ℕ) (r : Result Found TagError) → SoundTypes types → NamesInBounds types bytes named → AnswersTag (in_form s types named text) r → IfOk r (λ f. LiesIn types bytes f)
lies s types bytes named text (Err error) sound known q = tt
lies s types bytes named text (Ok f) sound known q = (text_lies s types bytes named sound known text f q).0

pub fixed : (types : List TypeDecl) (bytes : ℕ) (named : List ℕ → Result Found TagCode) (text : List ℕ) (r : Result Found TagError) → SoundTypes types → NamesInBounds types bytes named → AnswersTag (in_form numbers_alone types named text) r → IfOk r (λ f. f.steps ≡ [])
fixed types bytes named text (Err error) sound known q = tt
fixed types bytes named text (Ok f) sound known q = (text_lies numbers_alone types bytes named sound known text f q).1
