-- Reading by tokens is the grammar.
use Rattle.std.specs.Prelude.{◌≡◌, ℕ, ◌-◌, ◌<◌, ◌≤◌, ◌⊎◌, Bool, true, false, not, ◌&&◌, ◌||◌, ◌==◌, nat_lt, nat_le, cond, if◌then◌else◌, List, [], ◌∷◌, ◌++◌, length, option_and_then, Some, ⊤, refl}
use Rattle.std.specs.List.{AllByRecursion as Each, list_all}
use Rattle.std.specs.Char.{is_digit}
use Rattle.std.proofs.Common.{sym, subst, arith, eqb-true, eq-eqb, ltb-true, ltb-false, leb-true, inl, inr}
use Rattle.std.proofs.lemmas.Bool.{or_left, or_right, not-true}
use Rattle.std.proofs.lemmas.List.{append_assoc, append-nil}
use Rattle.spec_base.specs.declared.limits.TheConstants.{MAX_NAME_BYTES, MAX_TAG_NAME_BYTES, MAX_TAG_NAME_PARTS}
use Rattle.lgx_num.specs.Name.{is_name, is_name_byte, is_start, is_spelled, is_digit as is_digit_byte}
use Rattle.spec_base.specs.Pieces.{cut, pieces, is_empty}
use Rattle.spec_language.specs.OperandForm.{is_part, may_lead, is_joined, is_tag_name, are_digits, Form, tag, member, element, indexed, bit, is_bit, Token, word, dot, opening, closing, put_byte, put_token, tokens, dotted, bracketed, begun, form_from, form_of, form}
use Rattle.spec_language.specs.FormLaws.{SpellsForm, ReadsForms}
use Rattle.spec_language.proofs.FormsSpelled.{form_spelled}
use Rattle.spec_language.proofs.FoundBounds.{and_left, and_right}
use Rattle.lgx_num.proofs.Names.{name_bytes}

-- ---- plain bytes

-- a byte that is no dot and no bracket
abbrev IsPlain : ℕ → Type 0
IsPlain c = ((c == 46) ≡ false) × ((c == 91) ≡ false) × ((c == 93) ≡ false)

-- a byte that passes a test which dots and brackets fail
pub plain_by : (test : ℕ → Bool) (c : ℕ) → test 46 ≡ false → test 91 ≡ false → test 93 ≡ false → test c ≡ true → IsPlain c
plain_by test c p q r t = (apart 46 p (c == 46) refl, apart 91 q (c == 91) refl, apart 93 r (c == 93) refl)
  where
    apart : (k : ℕ) → test k ≡ false → (b : Bool) → (c == k) ≡ b → (c == k) ≡ false
    apart k h false e = e
    apart k h true e = absurd (cc (subst (λ (n : ℕ). test n ≡ true) (eqb-true c k e) t, h))

pub all_plain : (test : ℕ → Bool) (w : List ℕ) → test 46 ≡ false → test 91 ≡ false → test 93 ≡ false → list_all test w ≡ true → Each IsPlain w
all_plain test [] p q r t = tt
all_plain test (c ∷ cs) p q r t = (plain_by test c p q r (and_left (test c) _ t), all_plain test cs p q r (and_right (test c) _ t))

-- what may stand after a word
abbrev IsEnded : List ℕ → Type 0
IsEnded [] = ⊤
IsEnded (c ∷ cs) = ((c == 46) ≡ true) ⊎ ((c == 91) ≡ true) ⊎ ((c == 93) ≡ true)

pub byte_put : (c : ℕ) (ts : List Token) → IsPlain c → put_token c ts ≡ put_byte c ts
byte_put c ts p = rw (p.0, p.1, p.2) refl

pub ended_put : (c : ℕ) (rest : List ℕ) → IsEnded rest → put_byte c (tokens rest) ≡ word (c ∷ []) ∷ tokens rest
ended_put c [] e = refl
ended_put c (d ∷ ds) e = go (d == 46) (d == 91) (d == 93) refl refl refl
  where
    go : (x y z : Bool) → (d == 46) ≡ x → (d == 91) ≡ y → (d == 93) ≡ z → put_byte c (if x then dot ∷ tokens ds else if y then opening ∷ tokens ds else if z then closing ∷ tokens ds else put_byte d (tokens ds)) ≡ word (c ∷ []) ∷ (if x then dot ∷ tokens ds else if y then opening ∷ tokens ds else if z then closing ∷ tokens ds else put_byte d (tokens ds))
    go true y z p q r = refl
    go false true z p q r = refl
    go false false true p q r = refl
    go false false false p q r = absurd (none e p q r)
      where
        none : ((d == 46) ≡ true) ⊎ ((d == 91) ≡ true) ⊎ ((d == 93) ≡ true) → (d == 46) ≡ false → (d == 91) ≡ false → (d == 93) ≡ false → ⊥
        none h p q r = grind (arith, h, p, q, r)

-- a word before something else is one token
pub word_tokens : (w rest : List ℕ) → 0 < length w → Each IsPlain w → IsEnded rest → tokens (w ++ rest) ≡ word w ∷ tokens rest
word_tokens [] rest l p e = absurd (omega arith)
word_tokens (c ∷ []) rest l p e = cc (byte_put c (tokens rest) p.0, ended_put c rest e)
word_tokens (c ∷ d ∷ w) rest l p e =
    let more : tokens ((d ∷ w) ++ rest) ≡ word (d ∷ w) ∷ tokens rest = word_tokens (d ∷ w) rest (omega arith) p.1 e in
    let here : put_token c (tokens ((d ∷ w) ++ rest)) ≡ put_byte c (tokens ((d ∷ w) ++ rest)) = byte_put c (tokens ((d ∷ w) ++ rest)) p.0 in
    subst (λ (ts : List Token). put_token c (tokens ((d ∷ w) ++ rest)) ≡ put_byte c ts) more here

-- ---- names and digits

pub start_bound : (c : ℕ) → is_start c ≡ true → 65 ≤ c
start_bound c p = go (nat_le 65 c) (nat_le c 90) (nat_le 97 c) (nat_le c 122) (c == 95) refl refl refl p
  where
    go : (a b d e u : Bool) → nat_le 65 c ≡ a → nat_le 97 c ≡ d → (c == 95) ≡ u → (((a && b) || (d && e)) || u) ≡ true → 65 ≤ c
    go true b d e u h1 h2 h3 q = leb-true 65 c h1
    go false b true e u h1 h2 h3 q = omega (arith, leb-true 97 c h2)
    go false b false e true h1 h2 h3 q = omega (arith, eqb-true c 95 h3)
    go false b false e false h1 h2 h3 q = absurd (cc q)

pub digit_bound : (c : ℕ) → is_digit c 10 ≡ true → c < 58
digit_bound c p = go (nat_lt c 48) (nat_lt c 58) (nat_lt c 65) (nat_lt c 91) (nat_lt c 97) (nat_lt c 123) refl refl refl refl refl refl p
  where
    go : (a b d e f g : Bool) → nat_lt c 48 ≡ a → nat_lt c 58 ≡ b → nat_lt c 65 ≡ d → nat_lt c 91 ≡ e → nat_lt c 97 ≡ f → nat_lt c 123 ≡ g → nat_lt (cond a 36 (cond b (c - 48) (cond d 36 (cond e (c - 55) (cond f 36 (cond g (c - 87) 36)))))) 10 ≡ true → c < 58
    go true b d e f g h1 h2 h3 h4 h5 h6 q = absurd (cc q)
    go false true d e f g h1 h2 h3 h4 h5 h6 q = ltb-true c 58 h2
    go false false true e f g h1 h2 h3 h4 h5 h6 q = absurd (cc q)
    go false false false true f g h1 h2 h3 h4 h5 h6 q = absurd (omega (arith, ltb-true (c - 55) 10 q, ltb-false c 65 h3))
    go false false false false true g h1 h2 h3 h4 h5 h6 q = absurd (cc q)
    go false false false false false true h1 h2 h3 h4 h5 h6 q = absurd (omega (arith, ltb-true (c - 87) 10 q, ltb-false c 97 h5))
    go false false false false false false h1 h2 h3 h4 h5 h6 q = absurd (cc q)

pub digits_some : (w : List ℕ) → are_digits 10 w ≡ true → (0 < length w) × Each IsPlain w
digits_some [] p = absurd (cc p)
digits_some (c ∷ cs) p = (omega arith, all_plain (λ c. is_digit c 10) (c ∷ cs) refl refl refl p)

pub name_some : (w : List ℕ) → is_name w ≡ true → (0 < length w) × Each IsPlain w × (are_digits 10 w ≡ false)
name_some w p = go w (and_right (nat_le (length w) MAX_NAME_BYTES) _ p)
  where
    go : (v : List ℕ) → is_spelled v ≡ true → (0 < length v) × Each IsPlain v × (are_digits 10 v ≡ false)
    go [] q = absurd (cc q)
    go (c ∷ cs) q = (omega arith, (plain_by is_name_byte c refl refl refl (or_left (is_start c) _ (and_left (is_start c) _ q)), all_plain is_name_byte cs refl refl refl (and_left _ _ (and_left _ _ (and_right (is_start c) _ q)))), no_digit (is_digit c 10) refl)
      where
        no_digit : (b : Bool) → is_digit c 10 ≡ b → (is_digit c 10 && list_all (λ k. is_digit k 10) cs) ≡ false
        no_digit true e = absurd (omega (arith, digit_bound c e, start_bound c (and_left (is_start c) _ q)))
        no_digit false e = rw e refl

-- ---- tag names

abbrev AreNameBytes : List ℕ → Type 0
AreNameBytes p = list_all is_name_byte p ≡ true

pub parts_bytes : (ps : List (List ℕ)) → list_all is_part ps ≡ true → Each AreNameBytes ps
parts_bytes [] q = tt
parts_bytes (p ∷ ps) q = (and_right _ (list_all is_name_byte p) (and_left (is_part p) _ q), parts_bytes ps (and_right (is_part p) _ q))

pub joined_bytes : (ps : List (List ℕ)) → is_joined ps ≡ true → Each AreNameBytes ps
joined_bytes [] q = absurd (cc q)
joined_bytes (p ∷ []) q = (name_bytes p q, tt)
joined_bytes (p ∷ r ∷ ps) q =
    let a = and_left _ (list_all is_part ps) q in
    let b = and_left _ (nat_le (length ps) (MAX_TAG_NAME_PARTS - 2)) a in
    (name_bytes p (and_left (is_name p) _ (and_left _ _ (and_left (may_lead p) (is_part r) b))), (and_right _ (list_all is_name_byte r) (and_right (may_lead p) (is_part r) b), parts_bytes ps (and_right _ (list_all is_part ps) q)))

abbrev is_tag_byte : ℕ → Bool
is_tag_byte c = (c == 58) || is_name_byte c

pub put_bytes : (b : Bool) (c : ℕ) (ps : List (List ℕ)) → Each AreNameBytes (cut b c ps) → Each AreNameBytes ps × (b ≡ false → is_name_byte c ≡ true)
put_bytes true c ps h = (h.1, λ e. absurd (cc e))
put_bytes false c [] h = (tt, λ e. and_left (is_name_byte c) _ h.0)
put_bytes false c (p ∷ ps) h = ((and_right (is_name_byte c) _ h.0, h.1), λ e. and_left (is_name_byte c) _ h.0)

pub pieces_bytes : (w : List ℕ) → Each AreNameBytes (pieces 58 w) → list_all is_tag_byte w ≡ true
pieces_bytes [] h = refl
pieces_bytes (c ∷ cs) h =
    let a = put_bytes (c == 58) c (pieces 58 cs) h in
    go (c == 58) refl a.1 (pieces_bytes cs a.0)
  where
    go : (b : Bool) → (c == 58) ≡ b → ((c == 58) ≡ false → is_name_byte c ≡ true) → list_all is_tag_byte cs ≡ true → (((c == 58) || is_name_byte c) && list_all is_tag_byte cs) ≡ true
    go true e known r = rw (or_left (c == 58) (is_name_byte c) e) r
    go false e known r = rw (or_right (c == 58) (is_name_byte c) (known e)) r

pub one_piece : (w : List ℕ) → list_all (λ c. is_digit c 10) w ≡ true → pieces 58 w ≡ w ∷ []
one_piece [] p = refl
one_piece (c ∷ cs) p = go (c == 58) refl (one_piece cs (and_right (is_digit c 10) _ p))
  where
    go : (b : Bool) → (c == 58) ≡ b → pieces 58 cs ≡ cs ∷ [] → cut (c == 58) c (pieces 58 cs) ≡ (c ∷ cs) ∷ []
    go true e r = absurd (omega (arith, eqb-true c 58 e, digit_bound c (and_left (is_digit c 10) _ p)))
    go false e r = rw (e, r) refl

pub tag_some : (w : List ℕ) → is_tag_name w ≡ true → (0 < length w) × Each IsPlain w × (are_digits 10 w ≡ false)
tag_some w p = (some w (and_right (nat_le (length w) MAX_TAG_NAME_BYTES) _ p), all_plain is_tag_byte w refl refl refl (pieces_bytes w (joined_bytes (pieces 58 w) (and_right (nat_le (length w) MAX_TAG_NAME_BYTES) _ p))), go (are_digits 10 w) refl)
  where
    some : (v : List ℕ) → is_joined (pieces 58 v) ≡ true → 0 < length v
    some [] q = absurd (cc q)
    some (c ∷ cs) q = omega arith

    go : (b : Bool) → are_digits 10 w ≡ b → are_digits 10 w ≡ false
    go false e = e
    go true e = (name_some w (subst (λ (ps : List (List ℕ)). is_joined ps ≡ true) (one_piece w (and_right (not (is_empty w)) _ e)) (and_right (nat_le (length w) MAX_TAG_NAME_BYTES) _ p))).2

-- ---- forms

-- a text that spells a form begins with a tag name, from which what follows leads to the form
pub record Starts (f : Form) (t : List ℕ) : Type 0 where
  pub name : List ℕ
  pub rest : List ℕ
  pub whole : t ≡ name ++ rest
  pub is_tag : is_tag_name name ≡ true
  pub next : ((rest ≡ []) × (f ≡ tag name)) ⊎ ((c : ℕ) × (s : List ℕ) × (rest ≡ c ∷ s) × ((c ≡ 46) ⊎ (c ≡ 91)))
  pub leads : (more : List ℕ) (outer : List Form) → IsEnded more → form_from (tokens (rest ++ more)) outer (tag name) ≡ form_from (tokens more) outer f

pub ended_rest : (f : Form) (t : List ℕ) (k : Starts f t) (more : List ℕ) → IsEnded more → IsEnded (k.rest ++ more)
ended_rest f t k more e = go k.next
  where
    go : ((k.rest ≡ []) × (f ≡ tag k.name)) ⊎ ((c : ℕ) × (s : List ℕ) × (k.rest ≡ c ∷ s) × ((c ≡ 46) ⊎ (c ≡ 91))) → IsEnded (k.rest ++ more)
    go (inl h) = subst (λ (b : List ℕ). IsEnded (b ++ more)) (sym h.0) e
    go (inr h) = subst (λ (b : List ℕ). IsEnded (b ++ more)) (sym h.2) (which h.0 h.3)
      where
        which : (c : ℕ) → (c ≡ 46) ⊎ (c ≡ 91) → ((c == 46) ≡ true) ⊎ ((c == 91) ≡ true) ⊎ ((c == 93) ≡ true)
        which c (inl q) = inl (eq-eqb c 46 q)
        which c (inr q) = inr (inl (eq-eqb c 91 q))

-- with one more part, that is read after the form
pub further : (g f : Form) (t s : List ℕ) (c : ℕ) → Starts g t → (c ≡ 46) ⊎ (c ≡ 91) → ((more : List ℕ) (outer : List Form) → IsEnded more → form_from (tokens ((c ∷ s) ++ more)) outer g ≡ form_from (tokens more) outer f) → Starts f (t ++ c ∷ s)
further g f t s c k b step = record { name = k.name; rest = k.rest ++ c ∷ s; whole = cc (k.whole, append_assoc k.name k.rest (c ∷ s)); is_tag = k.is_tag; next = inr (go k.next); leads = λ more outer e. cc (append_assoc k.rest (c ∷ s) more, k.leads ((c ∷ s) ++ more) outer (ended b), step more outer e) }
  where
    go : ((k.rest ≡ []) × (g ≡ tag k.name)) ⊎ ((c : ℕ) × (s : List ℕ) × (k.rest ≡ c ∷ s) × ((c ≡ 46) ⊎ (c ≡ 91))) → (c' : ℕ) × (s' : List ℕ) × (k.rest ++ c ∷ s ≡ c' ∷ s') × ((c' ≡ 46) ⊎ (c' ≡ 91))
    go (inl h) = (c, s, rw h.0 refl, b)
    go (inr h) = (h.0, h.1 ++ c ∷ s, rw h.2 refl, h.3)

    ended : (c ≡ 46) ⊎ (c ≡ 91) → ((c == 46) ≡ true) ⊎ ((c == 91) ≡ true) ⊎ ((c == 93) ≡ true)
    ended (inl h) = inl (eq-eqb c 46 h)
    ended (inr h) = inr (inl (eq-eqb c 91 h))

-- a word after a dot
pub dot_step : (g f : Form) (w more : List ℕ) (outer : List Form) → 0 < length w → Each IsPlain w → IsEnded more → dotted g w ≡ Some f → form_from (tokens ((46 ∷ w) ++ more)) outer g ≡ form_from (tokens more) outer f
dot_step g f w more outer l p e d =
    let made : option_and_then (form_from (tokens more) outer) (dotted g w) ≡ form_from (tokens more) outer f = rw d refl in
    subst (λ (ts : List Token). form_from (dot ∷ ts) outer g ≡ form_from (tokens more) outer f) (sym (word_tokens w more l p e)) made

-- a word alone in brackets
pub bracket_step : (g f : Form) (w more : List ℕ) (outer : List Form) → 0 < length w → Each IsPlain w → bracketed g w ≡ Some f → form_from (tokens ((91 ∷ (w ++ 93 ∷ [])) ++ more)) outer g ≡ form_from (tokens more) outer f
bracket_step g f w more outer l p d =
    let made : option_and_then (form_from (tokens more) outer) (bracketed g w) ≡ form_from (tokens more) outer f = rw d refl in
    let split : tokens ((w ++ 93 ∷ []) ++ more) ≡ word w ∷ closing ∷ tokens more = cc (append_assoc w (93 ∷ []) more, word_tokens w (93 ∷ more) l p (inr (inr refl))) in
    subst (λ (ts : List Token). form_from (opening ∷ ts) outer g ≡ form_from (tokens more) outer f) (sym split) made

pub digits_no_name : (w : List ℕ) → are_digits 10 w ≡ true → is_name w ≡ false
digits_no_name w p = go (is_name w) refl
  where
    go : (b : Bool) → is_name w ≡ b → is_name w ≡ false
    go false e = e
    go true e = absurd (cc (p, (name_some w e).2))

-- another form in brackets
pub inner_step : (g sub : Form) (u more : List ℕ) (outer : List Form) → not (is_bit g) ≡ true → Starts sub u → IsEnded more → form_from (tokens ((91 ∷ (u ++ 93 ∷ [])) ++ more)) outer g ≡ form_from (tokens more) outer (indexed g sub)
inner_step g sub u more outer n k e =
    let some = tag_some k.name k.is_tag in
    let split : tokens ((u ++ 93 ∷ []) ++ more) ≡ word k.name ∷ tokens (k.rest ++ 93 ∷ more) = cc (append_assoc u (93 ∷ []) more, k.whole, append_assoc k.name k.rest (93 ∷ more), word_tokens k.name (k.rest ++ 93 ∷ more) some.0 some.1 (ended_rest sub u k (93 ∷ more) (inr (inr refl)))) in
    subst (λ (ts : List Token). form_from (opening ∷ ts) outer g ≡ form_from (tokens more) outer (indexed g sub)) (sym split) (go some.2 k.next)
  where
    at_once : are_digits 10 k.name ≡ false → bracketed g k.name ≡ Some (indexed g (tag k.name))
    at_once d = rw (not-true (is_bit g) n, d, k.is_tag) refl

    first_of : begun g k.name ≡ Some (tag k.name)
    first_of = rw (not-true (is_bit g) n, k.is_tag) refl

    opened : (ts : List Token) → option_and_then (form_from ts (g ∷ outer)) (begun g k.name) ≡ form_from ts (g ∷ outer) (tag k.name)
    opened ts = rw first_of refl

    deep : (c : ℕ) (s : List ℕ) → (c ≡ 46) ⊎ (c ≡ 91) → form_from (opening ∷ word k.name ∷ tokens (c ∷ s)) outer g ≡ form_from (tokens (c ∷ s)) (g ∷ outer) (tag k.name)
    deep c s (inl h) = subst (λ (b : ℕ). form_from (opening ∷ word k.name ∷ tokens (b ∷ s)) outer g ≡ form_from (tokens (b ∷ s)) (g ∷ outer) (tag k.name)) (sym h) (opened (dot ∷ tokens s))
    deep c s (inr h) = subst (λ (b : ℕ). form_from (opening ∷ word k.name ∷ tokens (b ∷ s)) outer g ≡ form_from (tokens (b ∷ s)) (g ∷ outer) (tag k.name)) (sym h) (opened (opening ∷ tokens s))

    go : are_digits 10 k.name ≡ false → ((k.rest ≡ []) × (sub ≡ tag k.name)) ⊎ ((c : ℕ) × (s : List ℕ) × (k.rest ≡ c ∷ s) × ((c ≡ 46) ⊎ (c ≡ 91))) → form_from (opening ∷ word k.name ∷ tokens (k.rest ++ 93 ∷ more)) outer g ≡ form_from (tokens more) outer (indexed g sub)
    go d (inl h) =
        let made : option_and_then (form_from (tokens more) outer) (bracketed g k.name) ≡ form_from (tokens more) outer (indexed g (tag k.name)) = rw (at_once d) refl in
        rw (h.0, h.1) made
    go d (inr h) =
        let whole : k.rest ++ 93 ∷ more ≡ h.0 ∷ (h.1 ++ 93 ∷ more) = rw h.2 refl in
        let first : form_from (opening ∷ word k.name ∷ tokens (k.rest ++ 93 ∷ more)) outer g ≡ form_from (tokens (k.rest ++ 93 ∷ more)) (g ∷ outer) (tag k.name) = subst (λ (b : List ℕ). form_from (opening ∷ word k.name ∷ tokens b) outer g ≡ form_from (tokens b) (g ∷ outer) (tag k.name)) (sym whole) (deep h.0 (h.1 ++ 93 ∷ more) h.3) in
        cc (first, k.leads (93 ∷ more) (g ∷ outer) (inr (inr refl)))

pub starts : (f : Form) (t : List ℕ) → SpellsForm f t → Starts f t
starts (tag name) t s = record { name = name; rest = []; whole = cc (s.1, append-nil name); is_tag = s.0; next = inl (refl, refl); leads = λ more outer e. refl }
starts (member g n) t s =
    let some = name_some n s.3 in
    subst (Starts (member g n)) (sym s.4) (further g (member g n) s.0 n 46 (starts g s.0 s.1) (inl refl) (λ more outer e. dot_step g (member g n) n more outer some.0 some.1 e (rw (not-true (is_bit g) s.2, s.3) refl)))
starts (bit g n) t s =
    let some = digits_some s.1 s.4 in
    subst (Starts (bit g n)) (sym s.6) (further g (bit g n) s.0 s.1 46 (starts g s.0 s.2) (inl refl) (λ more outer e. dot_step g (bit g n) s.1 more outer some.0 some.1 e (rw (not-true (is_bit g) s.3, digits_no_name s.1 s.4, s.4, s.5) refl)))
starts (element g n) t s =
    let some = digits_some s.1 s.4 in
    subst (Starts (element g n)) (sym s.6) (further g (element g n) s.0 (s.1 ++ 93 ∷ []) 91 (starts g s.0 s.2) (inr refl) (λ more outer e. bracket_step g (element g n) s.1 more outer some.0 some.1 (rw (not-true (is_bit g) s.3, s.4, s.5) refl)))
starts (indexed g sub) t s =
    subst (Starts (indexed g sub)) (sym s.5) (further g (indexed g sub) s.0 (s.1 ++ 93 ∷ []) 91 (starts g s.0 s.2) (inr refl) (λ more outer e. inner_step g sub s.1 more outer s.3 (starts sub s.1 s.4) e))

pub spelled_form : (text : List ℕ) (f : Form) → Starts f text → form text ≡ Some f
spelled_form text f k =
    let some = tag_some k.name k.is_tag in
    let split : tokens text ≡ word k.name ∷ tokens (k.rest ++ []) = cc (k.whole, append-nil k.rest, word_tokens k.name (k.rest ++ []) some.0 some.1 (ended_rest f text k [] tt)) in
    let named : form_of (word k.name ∷ tokens (k.rest ++ [])) ≡ form_from (tokens (k.rest ++ [])) [] (tag k.name) = rw k.is_tag refl in
    let led : form_from (tokens (k.rest ++ [])) [] (tag k.name) ≡ Some f = k.leads [] [] tt in
    subst (λ (ts : List Token). form_of ts ≡ Some f) (sym split) (cc (named, led))

pub reads_forms : ReadsForms
reads_forms text f = (form_spelled text f, λ s. spelled_form text f (starts f text s))
