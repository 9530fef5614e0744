-- What is read as an operand form is spelled by the grammar.
use Rattle.std.specs.Prelude.{◌≡◌, ℕ, Bool, true, false, not, ◌||◌, ◌==◌, if◌then◌else◌, List, [], ◌∷◌, ◌++◌, IsTrue, Option, Some, None, option_and_then, refl}
use Rattle.std.proofs.Common.{ap, subst, eqb-true}
use Rattle.std.proofs.lemmas.List.{append_assoc, append-nil}
use Rattle.std.proofs.lemmas.Option.{same_Some}
use Rattle.lgx_num.specs.Name.{is_name}
use Rattle.spec_language.specs.OperandForm.{is_tag_name, are_digits, digits_number, Form, tag, member, element, indexed, bit, is_bit, Token, word, dot, opening, closing, put_byte, put_token, tokens, dotted, bracketed, begun, form_from, form_of, form}
use Rattle.spec_language.specs.FormLaws.{SpellsForm}

-- ---- tokens and their text

abbrev pub joined : List Token → List ℕ
joined [] = []
joined (word w ∷ ts) = w ++ joined ts
joined (dot ∷ ts) = 46 ∷ joined ts
joined (opening ∷ ts) = 91 ∷ joined ts
joined (closing ∷ ts) = 93 ∷ joined ts

pub joined_byte : (c : ℕ) (ts : List Token) → joined (put_byte c ts) ≡ c ∷ joined ts
joined_byte c [] = refl
joined_byte c (word w ∷ ts) = refl
joined_byte c (dot ∷ ts) = refl
joined_byte c (opening ∷ ts) = refl
joined_byte c (closing ∷ ts) = refl

pub joined_token : (c : ℕ) (ts : List Token) → joined (put_token c ts) ≡ c ∷ joined ts
joined_token c ts = go (c == 46) (c == 91) (c == 93) (λ e. eqb-true c 46 e) (λ e. eqb-true c 91 e) (λ e. eqb-true c 93 e)
  where
    go : (a b d : Bool) → (a ≡ true → c ≡ 46) → (b ≡ true → c ≡ 91) → (d ≡ true → c ≡ 93) → joined (if a then dot ∷ ts else if b then opening ∷ ts else if d then closing ∷ ts else put_byte c ts) ≡ c ∷ joined ts
    go true b d p q r = cc (p refl)
    go false true d p q r = cc (q refl)
    go false false true p q r = cc (r refl)
    go false false false p q r = joined_byte c ts

pub joined_tokens : (text : List ℕ) → joined (tokens text) ≡ text
joined_tokens [] = refl
joined_tokens (c ∷ cs) = cc (joined_token c (tokens cs), joined_tokens cs)

-- ---- one more part

pub dotted_spells : (f g : Form) (t w : List ℕ) → SpellsForm f t → dotted f w ≡ Some g → SpellsForm g (t ++ 46 ∷ w)
dotted_spells f g t w s p = go (is_bit f) refl (is_name w) refl (are_digits 10 w) refl p
  where
    go : (a : Bool) → is_bit f ≡ a → (b : Bool) → is_name w ≡ b → (d : Bool) → are_digits 10 w ≡ d → (if a then None else if b then Some (member f w) else if d then Some (bit f (digits_number 10 w)) else None) ≡ Some g → SpellsForm g (t ++ 46 ∷ w)
    go true e b i d h q = absurd (cc q)
    go false e true i d h q = subst (λ (z : Form). SpellsForm z (t ++ 46 ∷ w)) (same_Some _ g q) (t, s, ap not e, i, refl)
    go false e false i true h q = subst (λ (z : Form). SpellsForm z (t ++ 46 ∷ w)) (same_Some _ g q) (t, w, s, ap not e, h, refl, refl)
    go false e false i false h q = absurd (cc q)

pub bracketed_spells : (f g : Form) (t w : List ℕ) → SpellsForm f t → bracketed f w ≡ Some g → SpellsForm g (t ++ 91 ∷ (w ++ 93 ∷ []))
bracketed_spells f g t w s p = go (is_bit f) refl (are_digits 10 w) refl (is_tag_name w) refl p
  where
    go : (a : Bool) → is_bit f ≡ a → (b : Bool) → are_digits 10 w ≡ b → (d : Bool) → is_tag_name w ≡ d → (if a then None else if b then Some (element f (digits_number 10 w)) else if d then Some (indexed f (tag w)) else None) ≡ Some g → SpellsForm g (t ++ 91 ∷ (w ++ 93 ∷ []))
    go true e b i d h q = absurd (cc q)
    go false e true i d h q = subst (λ (z : Form). SpellsForm z (t ++ 91 ∷ (w ++ 93 ∷ []))) (same_Some _ g q) (t, w, s, ap not e, i, refl, refl)
    go false e false i true h q = subst (λ (z : Form). SpellsForm z (t ++ 91 ∷ (w ++ 93 ∷ []))) (same_Some _ g q) (t, w, s, ap not e, (h, refl), refl)
    go false e false i false h q = absurd (cc q)

pub begun_spells : (f g : Form) (w : List ℕ) → begun f w ≡ Some g → SpellsForm g w × IsTrue (not (is_bit f))
begun_spells f g w p = go (is_bit f) refl (is_tag_name w) refl p
  where
    go : (a : Bool) → is_bit f ≡ a → (b : Bool) → is_tag_name w ≡ b → (if a || not b then None else Some (tag w)) ≡ Some g → SpellsForm g w × IsTrue (not (is_bit f))
    go true e b h q = absurd (cc q)
    go false e false h q = absurd (cc q)
    go false e true h q = (subst (λ (z : Form). SpellsForm z w) (same_Some _ g q) (h, refl), ap not e)

-- ---- the whole

-- what stands before the form in progress: the forms whose brackets are open
abbrev pub Under : List Form → List ℕ → Type 0
Under [] p = p ≡ []
Under (g ∷ outer) p = (q t : List ℕ) × Under outer q × SpellsForm g t × IsTrue (not (is_bit g)) × (p ≡ q ++ (t ++ 91 ∷ []))

-- what a step makes, if it makes something
pub stepped : (o : Option Form) (next : Form → Option Form) (r : Form) → option_and_then next o ≡ Some r → (g : Form) × (o ≡ Some g) × (next g ≡ Some r)
stepped (Some g) next r p = (g, refl, p)
stepped None next r p = absurd (cc p)

-- what follows an operand that begins in brackets
pub deeper : (outer : List Form) (f r : Form) (w : List ℕ) (ts : List Token) (p t : List ℕ) → Under outer p → SpellsForm f t → option_and_then (form_from ts (f ∷ outer)) (begun f w) ≡ Some r → ((g : Form) → Under (f ∷ outer) (p ++ (t ++ 91 ∷ [])) → SpellsForm g w → form_from ts (f ∷ outer) g ≡ Some r → SpellsForm r ((p ++ (t ++ 91 ∷ [])) ++ (w ++ joined ts))) → SpellsForm r (p ++ (t ++ 91 ∷ (w ++ joined ts)))
deeper outer f r w ts p t u s q known =
    let a = stepped (begun f w) (form_from ts (f ∷ outer)) r q in
    let b = begun_spells f a.0 w a.1 in
    subst (SpellsForm r) (cc (append_assoc p (t ++ 91 ∷ []) (w ++ joined ts), append_assoc t (91 ∷ []) (w ++ joined ts))) (known a.0 (p, t, u, s, b.1, refl) b.0 a.2)

pub reads : (ts : List Token) (outer : List Form) (f r : Form) (p t : List ℕ) → Under outer p → SpellsForm f t → form_from ts outer f ≡ Some r → SpellsForm r (p ++ (t ++ joined ts))
reads [] [] f r p t u s q = subst (λ (z : Form). SpellsForm z (p ++ (t ++ []))) (same_Some f r q) (subst (λ (k : List ℕ). SpellsForm f k) (rw (u, append-nil) refl) s)
reads [] (g ∷ outer) f r p t u s q = absurd (cc q)
reads (dot ∷ word w ∷ ts) outer f r p t u s q =
    let a = stepped (dotted f w) (form_from ts outer) r q in
    subst (λ (k : List ℕ). SpellsForm r (p ++ k)) (append_assoc t (46 ∷ w) (joined ts)) (reads ts outer a.0 r p (t ++ 46 ∷ w) u (dotted_spells f a.0 t w s a.1) a.2)
reads (opening ∷ word w ∷ closing ∷ ts) outer f r p t u s q =
    let a = stepped (bracketed f w) (form_from ts outer) r q in
    subst (λ (k : List ℕ). SpellsForm r (p ++ k)) (cc (append_assoc t (91 ∷ (w ++ 93 ∷ [])) (joined ts), append_assoc w (93 ∷ []) (joined ts))) (reads ts outer a.0 r p (t ++ 91 ∷ (w ++ 93 ∷ [])) u (bracketed_spells f a.0 t w s a.1) a.2)
reads (opening ∷ word w ∷ []) outer f r p t u s q = deeper outer f r w [] p t u s q (λ g v k h. reads [] (f ∷ outer) g r (p ++ (t ++ 91 ∷ [])) w v k h)
reads (opening ∷ word w ∷ word v ∷ ts) outer f r p t u s q = deeper outer f r w (word v ∷ ts) p t u s q (λ g v' k h. reads (word v ∷ ts) (f ∷ outer) g r (p ++ (t ++ 91 ∷ [])) w v' k h)
reads (opening ∷ word w ∷ dot ∷ ts) outer f r p t u s q = deeper outer f r w (dot ∷ ts) p t u s q (λ g v k h. reads (dot ∷ ts) (f ∷ outer) g r (p ++ (t ++ 91 ∷ [])) w v k h)
reads (opening ∷ word w ∷ opening ∷ ts) outer f r p t u s q = deeper outer f r w (opening ∷ ts) p t u s q (λ g v k h. reads (opening ∷ ts) (f ∷ outer) g r (p ++ (t ++ 91 ∷ [])) w v k h)
reads (closing ∷ ts) [] f r p t u s q = absurd (cc q)
reads (closing ∷ ts) (g ∷ outer) f r p t u s q =
    let known : SpellsForm r (u.0 ++ ((u.1 ++ 91 ∷ (t ++ 93 ∷ [])) ++ joined ts)) = reads ts outer (indexed g f) r u.0 (u.1 ++ 91 ∷ (t ++ 93 ∷ [])) u.2 (u.1, t, u.3, u.4, s, refl) q in
    subst (SpellsForm r) (cc (u.5, append_assoc u.0 (u.1 ++ 91 ∷ []) (t ++ 93 ∷ joined ts), append_assoc u.1 (91 ∷ []) (t ++ 93 ∷ joined ts), append_assoc u.1 (91 ∷ (t ++ 93 ∷ [])) (joined ts), append_assoc t (93 ∷ []) (joined ts))) known
reads _ outer f r p t u s q = absurd (cc q)

pub form_spelled : (text : List ℕ) (r : Form) → form text ≡ Some r → SpellsForm r text
form_spelled text r q = subst (SpellsForm r) (joined_tokens text) (go (tokens text) q)
  where
    start : (w : List ℕ) (ts : List Token) (b : Bool) → is_tag_name w ≡ b → (if b then form_from ts [] (tag w) else None) ≡ Some r → SpellsForm r (w ++ joined ts)
    start w ts true e h = reads ts [] (tag w) r [] w refl (e, refl) h
    start w ts false e h = absurd (cc h)

    go : (ts : List Token) → form_of ts ≡ Some r → SpellsForm r (joined ts)
    go [] h = absurd (cc h)
    go (word w ∷ ts) h = start w ts (is_tag_name w) refl h
    go (dot ∷ ts) h = absurd (cc h)
    go (opening ∷ ts) h = absurd (cc h)
    go (closing ∷ ts) h = absurd (cc h)
