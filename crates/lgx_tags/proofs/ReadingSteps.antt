-- A text that is read from left to right names what its form names.
use Rattle.std.specs.Prelude.{◌≡◌, ℕ, Bool, true, false, not, ◌||◌, List, [], ◌∷◌, Some, None, Result, Ok, Err, option_and_then, if◌then◌else◌, refl}
use Rattle.std.proofs.Common.{ap, subst, ◌∙◌}
use Rattle.lgx_num.specs.Name.{is_name}
use Rattle.spec_language.specs.declared.types.TypeDecl.{TypeDecl}
use Rattle.spec_language.specs.declared.tag.TagCode.{TagCode}
use Rattle.spec_language.specs.declared.tag.TagCode.TheVariants.{G5, G6, G10}
use Rattle.spec_language.specs.declared.tag.Found.{Found}
use Rattle.spec_base.specs.FirstCause.{◌>>=◌, unless}
use Rattle.spec_language.specs.OperandForm.{is_tag_name, are_digits, digits_number, Form, tag, member, element, indexed, bit, is_bit, Token, word, dot, opening, closing, tokens, dotted, bracketed, begun, form_from}
use Rattle.spec_language.specs.Resolution.{is_array, find_member, find_element, find_bit, find_indexed, Subscripts, operands, numbers_alone, subscript_by, resolved}
use Rattle.lgx_tags.specs.Parts.{OperandPart, first_part}
use Rattle.lgx_tags.specs.Parts as part
use Rattle.lgx_tags.specs.TextReading.{Reading, may_open, open_at, close_at, step, end_at, reading_step, found_after}
use Rattle.lgx_tags.proofs.TagNames.{no_digits}
use Rattle.std.proofs.lemmas.Option.{same_Some}
use Rattle.spec_language.proofs.FormsSpelled.{stepped as step_made}
use Rattle.lgx_tags.proofs.PartSteps.{part_taken, no_part}

-- ---- binds

pub bind_assoc : {A B C E : Type 0} (m : Result A E) (f : A → Result B E) (g : B → Result C E) → ((m >>= f) >>= g) ≡ (m >>= λ x. f x >>= g)
bind_assoc (Ok x) f g = refl
bind_assoc (Err e) f g = refl

-- ---- what is found of an open form

abbrev put : Result (List Found) TagCode → Result Found TagCode → Result Reading TagCode
put os r = os >>= λ arrays. r >>= λ x. Ok (record { arrays = arrays; found = x })

abbrev hold : Subscripts → Result (List Found) TagCode → Result Found TagCode → Result (List Found) TagCode
hold s os r = os >>= λ arrays. r >>= λ a. unless (is_array a.of) G5 >>= λ _. unless (may_open s) G6 >>= λ _. Ok (a ∷ arrays)

put_found : (os : Result (List Found) TagCode) (r : Result Found TagCode) (g : Found → Result Found TagCode) → put os (r >>= g) ≡ (put os r >>= λ k. g k.found >>= λ y. Ok (record k { found = y }))
put_found (Ok arrays) (Ok x) g = refl
put_found (Ok arrays) (Err e) g = refl
put_found (Err e) r g = refl

put_opened : (s : Subscripts) (named : List ℕ → Result Found TagCode) (name : List ℕ) (os : Result (List Found) TagCode) (r : Result Found TagCode) → put (hold s os r) (named name) ≡ (put os r >>= open_at s named name)
put_opened s named name (Err e) r = refl
put_opened s named name (Ok arrays) (Err e) = refl
put_opened s named name (Ok arrays) (Ok a) = go (is_array a.of) (may_open s)
  where
    go : (b c : Bool) → put (unless b G5 >>= λ _. unless c G6 >>= λ _. Ok (a ∷ arrays)) (named name) ≡ (unless b G5 >>= λ _. unless c G6 >>= λ _. named name >>= λ f. Ok (record { arrays = a ∷ arrays; found = f }))
    go false c = refl
    go true false = refl
    go true true = refl

put_indexed : (types : List TypeDecl) (s : Subscripts) (os : Result (List Found) TagCode) (r t : Result Found TagCode) → put os (r >>= λ a. unless (is_array a.of) G5 >>= λ _. find_indexed types a (subscript_by s t)) ≡ (put (hold s os r) t >>= λ k. close_at types k.arrays k.found)
put_indexed types s (Err e) r t = refl
put_indexed types s (Ok arrays) (Err e) t = refl
put_indexed types operands (Ok arrays) (Ok a) t = go (is_array a.of) t
  where
    go : (b : Bool) (t : Result Found TagCode) → put (Ok arrays) (unless b G5 >>= λ _. find_indexed types a t) ≡ (put (unless b G5 >>= λ _. Ok (a ∷ arrays)) t >>= λ k. close_at types k.arrays k.found)
    go false t = refl
    go true (Ok x) = refl
    go true (Err e) = refl
put_indexed types numbers_alone (Ok arrays) (Ok a) t = go (is_array a.of)
  where
    go : (b : Bool) → put (Ok arrays) (unless b G5 >>= λ _. find_indexed types a (Err G6)) ≡ (put (unless b G5 >>= λ _. Err G6) t >>= λ k. close_at types k.arrays k.found)
    go false = refl
    go true = refl

-- ---- states

abbrev held : Subscripts → List TypeDecl → (List ℕ → Result Found TagCode) → List Form → Result (List Found) TagCode
held s types named [] = Ok []
held s types named (g ∷ outer) = hold s (held s types named outer) (resolved s types named g)

abbrev state : Subscripts → List TypeDecl → (List ℕ → Result Found TagCode) → List Form → Form → Result Reading TagCode
state s types named outer f = put (held s types named outer) (resolved s types named f)

-- what a part makes of a form it makes of the state
abbrev Steps : Subscripts → List TypeDecl → (List ℕ → Result Found TagCode) → OperandPart → List Form → Form → List Form → Form → Type 0
Steps s types named p outer f outer' f' = state s types named outer' f' ≡ (state s types named outer f >>= step s types named p)

dot_steps : (s : Subscripts) (types : List TypeDecl) (named : List ℕ → Result Found TagCode) (outer : List Form) (f g : Form) (w : List ℕ) → dotted f w ≡ Some g → Steps s types named (part.dotted w) outer f outer g
dot_steps s types named outer f g w e = go (is_bit f) (is_name w) refl (are_digits 10 w) refl e
  where
    as_member : (b d : Bool) → b ≡ true → state s types named outer (member f w) ≡ (state s types named outer f >>= λ k. (if b then find_member types k.found w else if d then find_bit k.found (digits_number 10 w) else Err G10) >>= λ y. Ok (record k { found = y }))
    as_member b d h = rw h (put_found (held s types named outer) (resolved s types named f) (λ x. find_member types x w))

    as_bit : (b d : Bool) → b ≡ false → d ≡ true → state s types named outer (bit f (digits_number 10 w)) ≡ (state s types named outer f >>= λ k. (if b then find_member types k.found w else if d then find_bit k.found (digits_number 10 w) else Err G10) >>= λ y. Ok (record k { found = y }))
    as_bit b d h i = rw (h, i) (put_found (held s types named outer) (resolved s types named f) (λ x. find_bit x (digits_number 10 w)))

    go : (a b : Bool) → is_name w ≡ b → (d : Bool) → are_digits 10 w ≡ d → (if a then None else if b then Some (member f w) else if d then Some (bit f (digits_number 10 w)) else None) ≡ Some g → Steps s types named (part.dotted w) outer f outer g
    go true b h d i q = absurd (cc q)
    go false true h d i q = let same : member f w ≡ g = cc q in subst (λ (z : Form). Steps s types named (part.dotted w) outer f outer z) same (as_member (is_name w) (are_digits 10 w) h)
    go false false h true i q = let same : bit f (digits_number 10 w) ≡ g = cc q in subst (λ (z : Form). Steps s types named (part.dotted w) outer f outer z) same (as_bit (is_name w) (are_digits 10 w) h i)
    go false false h false i q = absurd (cc q)

element_steps : (s : Subscripts) (types : List TypeDecl) (named : List ℕ → Result Found TagCode) (outer : List Form) (f : Form) (w : List ℕ) → Steps s types named (part.element w) outer f outer (element f (digits_number 10 w))
element_steps s types named outer f w = put_found (held s types named outer) (resolved s types named f) (λ x. find_element types x (digits_number 10 w))

open_steps : (s : Subscripts) (types : List TypeDecl) (named : List ℕ → Result Found TagCode) (outer : List Form) (f : Form) (w : List ℕ) → Steps s types named (part.opened w) outer f (f ∷ outer) (tag w)
open_steps s types named outer f w = put_opened s named w (held s types named outer) (resolved s types named f)

close_steps : (s : Subscripts) (types : List TypeDecl) (named : List ℕ → Result Found TagCode) (outer : List Form) (g f : Form) → Steps s types named part.closed (g ∷ outer) f outer (indexed g f)
close_steps s types named outer g f = put_indexed types s (held s types named outer) (resolved s types named g) (resolved s types named f)

-- ---- the whole

abbrev Walks : Subscripts → List TypeDecl → (List ℕ → Result Found TagCode) → List Token → Form → List Form → Form → Type 0
Walks s types named ts r outer f = resolved s types named r ≡ (state s types named outer f >>= found_after s types named ts)

on_step : (s : Subscripts) (types : List TypeDecl) (named : List ℕ → Result Found TagCode) (ts : List Token) (p : OperandPart) (r : Form) (outer : List Form) (f : Form) (outer' : List Form) (f' : Form) → Steps s types named p outer f outer' f' → Walks s types named ts r outer' f' → resolved s types named r ≡ (state s types named outer f >>= λ k. step s types named p k >>= found_after s types named ts)
on_step s types named ts p r outer f outer' f' one more = more ∙ ap (λ m. m >>= found_after s types named ts) one ∙ bind_assoc (state s types named outer f) (step s types named p) (found_after s types named ts)

by_dot : (s : Subscripts) (types : List TypeDecl) (named : List ℕ → Result Found TagCode) (w : List ℕ) (ts : List Token) (outer : List Form) (f r : Form) → option_and_then (form_from ts outer) (dotted f w) ≡ Some r → ((g : Form) → form_from ts outer g ≡ Some r → Walks s types named ts r outer g) → Walks s types named (dot ∷ word w ∷ ts) r outer f
by_dot s types named w ts outer f r q known =
    let a = step_made (dotted f w) (form_from ts outer) r q in
    on_step s types named ts (part.dotted w) r outer f outer a.0 (dot_steps s types named outer f a.0 w a.1) (known a.0 a.2)

by_brackets : (s : Subscripts) (types : List TypeDecl) (named : List ℕ → Result Found TagCode) (w : List ℕ) (ts : List Token) (outer : List Form) (f r : Form) → option_and_then (form_from ts outer) (bracketed f w) ≡ Some r → ((g : Form) → form_from ts outer g ≡ Some r → Walks s types named ts r outer g) → Walks s types named (opening ∷ word w ∷ closing ∷ ts) r outer f
by_brackets s types named w ts outer f r q known =
    let a = step_made (bracketed f w) (form_from ts outer) r q in
    go (is_bit f) (are_digits 10 w) (is_tag_name w) a.0 a.1 (known a.0 a.2)
  where
    go : (x b d : Bool) (g : Form) → (if x then None else if b then Some (element f (digits_number 10 w)) else if d then Some (indexed f (tag w)) else None) ≡ Some g → Walks s types named ts r outer g → resolved s types named r ≡ (state s types named outer f >>= λ k. if b then (step s types named (part.element w) k >>= found_after s types named ts) else (step s types named (part.opened w) k >>= λ j. step s types named part.closed j >>= found_after s types named ts))
    go true b d g e more = absurd (cc e)
    go false true d g e more = on_step s types named ts (part.element w) r outer f outer g (subst (λ (z : Form). Steps s types named (part.element w) outer f outer z) (same_Some _ g e) (element_steps s types named outer f w)) more
    go false false true g e more =
        let inner : resolved s types named r ≡ (state s types named (f ∷ outer) (tag w) >>= λ k. step s types named part.closed k >>= found_after s types named ts) = on_step s types named ts part.closed r (f ∷ outer) (tag w) outer g (subst (λ (z : Form). Steps s types named part.closed (f ∷ outer) (tag w) outer z) (same_Some _ g e) (close_steps s types named outer f (tag w))) more in
        inner ∙ ap (λ m. m >>= λ k. step s types named part.closed k >>= found_after s types named ts) (open_steps s types named outer f w) ∙ bind_assoc (state s types named outer f) (step s types named (part.opened w)) (λ k. step s types named part.closed k >>= found_after s types named ts)
    go false false false g e more = absurd (cc e)

by_word : (s : Subscripts) (types : List TypeDecl) (named : List ℕ → Result Found TagCode) (w : List ℕ) (ts : List Token) (outer : List Form) (f r : Form) → option_and_then (form_from ts (f ∷ outer)) (begun f w) ≡ Some r → ((g : Form) → form_from ts (f ∷ outer) g ≡ Some r → Walks s types named ts r (f ∷ outer) g) → resolved s types named r ≡ (state s types named outer f >>= λ k. if are_digits 10 w then Err G10 else (step s types named (part.opened w) k >>= found_after s types named ts))
by_word s types named w ts outer f r q known =
    let a = step_made (begun f w) (form_from ts (f ∷ outer)) r q in
    go (is_bit f) (is_tag_name w) refl (are_digits 10 w) refl a.0 a.1 (known a.0 a.2)
  where
    go : (x d : Bool) → is_tag_name w ≡ d → (b : Bool) → are_digits 10 w ≡ b → (g : Form) → (if x || not d then None else Some (tag w)) ≡ Some g → Walks s types named ts r (f ∷ outer) g → resolved s types named r ≡ (state s types named outer f >>= λ k. if b then Err G10 else (step s types named (part.opened w) k >>= found_after s types named ts))
    go true d i b h g e more = absurd (cc e)
    go false false i b h g e more = absurd (cc e)
    go false true i true h g e more = absurd (cc (i, no_digits w h))
    go false true i false h g e more = on_step s types named ts (part.opened w) r outer f (f ∷ outer) g (subst (λ (z : Form). Steps s types named (part.opened w) outer f (f ∷ outer) z) (same_Some _ g e) (open_steps s types named outer f w)) more

at_last : (s : Subscripts) (types : List TypeDecl) (named : List ℕ → Result Found TagCode) (f : Form) → Walks s types named [] f [] f
at_last s types named f = go (resolved s types named f)
  where
    go : (x : Result Found TagCode) → x ≡ (put (Ok []) x >>= λ k. end_at k.arrays k.found)
    go (Ok y) = refl
    go (Err e) = refl

pub walks : (s : Subscripts) (types : List TypeDecl) (named : List ℕ → Result Found TagCode) (ts : List Token) (outer : List Form) (f r : Form) → form_from ts outer f ≡ Some r → Walks s types named ts r outer f
walks s types named [] [] f r q = subst (λ (z : Form). Walks s types named [] z [] f) (same_Some f r q) (at_last s types named f)
walks s types named [] (g ∷ outer) f r q = absurd (cc q)
walks s types named (dot ∷ word w ∷ ts) outer f r q = by_dot s types named w ts outer f r q (λ g h. walks s types named ts outer g r h)
walks s types named (opening ∷ word w ∷ closing ∷ ts) outer f r q = by_brackets s types named w ts outer f r q (λ g h. walks s types named ts outer g r h)
walks s types named (opening ∷ word w ∷ []) outer f r q = by_word s types named w [] outer f r q (λ g h. walks s types named [] (f ∷ outer) g r h)
walks s types named (opening ∷ word w ∷ word v ∷ ts) outer f r q = by_word s types named w (word v ∷ ts) outer f r q (λ g h. walks s types named (word v ∷ ts) (f ∷ outer) g r h)
walks s types named (opening ∷ word w ∷ dot ∷ ts) outer f r q = by_word s types named w (dot ∷ ts) outer f r q (λ g h. walks s types named (dot ∷ ts) (f ∷ outer) g r h)
walks s types named (opening ∷ word w ∷ opening ∷ ts) outer f r q = by_word s types named w (opening ∷ ts) outer f r q (λ g h. walks s types named (opening ∷ ts) (f ∷ outer) g r h)
walks s types named (closing ∷ ts) [] f r q = absurd (cc q)
walks s types named (closing ∷ ts) (g ∷ outer) f r q = on_step s types named ts part.closed r (g ∷ outer) f outer (indexed g f) (close_steps s types named outer g f) (walks s types named ts outer (indexed g f) r q)
walks s types named _ outer f r q = absurd (cc q)

-- ---- one part

pub on_part : (s : Subscripts) (types : List TypeDecl) (named : List ℕ → Result Found TagCode) (ts rest : List Token) (p : OperandPart) (k : Reading) → first_part ts ≡ Some (p, rest) → found_after s types named ts k ≡ (step s types named p k >>= found_after s types named rest)
on_part s types named ts rest p k e = part_taken (reading_step s types named) (λ k. end_at k.arrays k.found) (λ k. Err G10) ts rest k p e

-- a text that isn't at its end and begins with no part
pub not_on_part : (s : Subscripts) (types : List TypeDecl) (named : List ℕ → Result Found TagCode) (c : ℕ) (cs : List ℕ) (k : Reading) → first_part (tokens (c ∷ cs)) ≡ None → found_after s types named (tokens (c ∷ cs)) k ≡ Err G10
not_on_part s types named c cs k e = no_part (reading_step s types named) (λ k. end_at k.arrays k.found) (λ k. Err G10) c cs k e
