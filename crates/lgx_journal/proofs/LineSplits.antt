-- The lines of a text, one by one.
use Rattle.std.proofs.Common.{◌≡◌, ℕ, ◌-◌, ◌<◌, List, [], ◌∷◌, length, get_or, take, Bool, true, false, cond, eqb, nat_eq, codes, ◌||◌, refl, sym, ap, ◌∙◌, arith, true≢false}
use Rattle.std.specs.List.{suffix_len}
use Rattle.std.specs.Str.{bytes_eq}
use Rattle.std.proofs.Math.Seq.{take-length}
use Rattle.std.proofs.lemmas.Bool.Decides.{nat_tests}
use Rattle.std.proofs.lemmas.List.Folds.{list_any-append}
use Rattle.std.proofs.lemmas.List.Sums.{suffix_len-take_no, suffix_len-take_yes}
use Rattle.std.proofs.lemmas.Slice.Eq.{bytes_eq-Decides}
use Rattle.spec_base.specs.Pieces.{pieces, cut, is_empty, has_byte}
use Rattle.spec_text.specs.TextLines.{lines, lines_of_pieces, without_return, words, spaced}
use Rattle.spec_text.specs.JournalText.{is_end}
use Rattle.lgx_journal.proofs.Trimmed.{none_in_take}
use Rattle.std.proofs.lemmas.Bool.{false_from_ne_true}

abbrev pub is_return : ℕ → Bool
is_return c = nat_eq c 13

abbrev returns_at_end : List ℕ → ℕ
returns_at_end line = suffix_len is_return line

-- ---- a carriage return at the end

dropped : (line : List ℕ) (n : ℕ) → nat_eq n 0 ≡ false → take (length line - 1) line ≡ take (length line - cond (nat_eq n 0) 0 1) line
dropped line n h = rw h refl

kept : (line : List ℕ) (n : ℕ) → n ≡ 0 → line ≡ take (length line - cond (nat_eq n 0) 0 1) line
kept line n h =
    let size : length line ≡ length line - 0 = omega arith in
    sym (take-length line) ∙ ap (λ k. take k line) size ∙ ap (λ k. take (length line - cond (nat_eq k 0) 0 1) line) (sym h)

pub return_dropped : (line : List ℕ) (n : ℕ) → n ≡ length line → 0 < n → get_or line (n - 1) 0 ≡ 13 → take (n - 1) line ≡ without_return line
return_dropped line n e h is =
    let same : nat_eq (get_or line (n - 1) 0) 13 ≡ true = grind (arith, nat_tests) in
    let one = suffix_len-take_yes is_return line n 0 h (omega arith) same in
    let all : returns_at_end (take n line) ≡ returns_at_end line = ap (λ k. returns_at_end (take k line)) e ∙ ap returns_at_end (take-length line) in
    let some : nat_eq (returns_at_end line) 0 ≡ false = grind (arith, nat_tests, one, all) in
    ap (λ k. take (k - 1) line) e ∙ dropped line (returns_at_end line) some

pub return_missing : (line : List ℕ) (n : ℕ) → n ≡ length line → 0 < n → nat_eq (get_or line (n - 1) 0) 13 ≡ false → line ≡ without_return line
return_missing line n e h is =
    let none = suffix_len-take_no is_return line n 0 h (omega arith) is in
    let all : returns_at_end (take n line) ≡ returns_at_end line = ap (λ k. returns_at_end (take k line)) e ∙ ap returns_at_end (take-length line) in
    kept line (returns_at_end line) (sym all ∙ none)

pub no_return : (line : List ℕ) → suffix_len is_return line ≡ 0 → without_return line ≡ line
no_return line h = sym (kept line (returns_at_end line) h)

pub empty_kept : (line : List ℕ) → length line ≡ 0 → line ≡ without_return line
empty_kept [] h = refl
empty_kept (c ∷ cs) h = absurd (omega arith)

pub clean_without : (line : List ℕ) → has_byte 10 line ≡ false → has_byte 10 (without_return line) ≡ false
clean_without line h = none_in_take (λ c. nat_eq c 10) (length line - cond (nat_eq (returns_at_end line) 0) 0 1) line h

-- ---- line by line

-- there is a piece
record HasPiece (text : List ℕ) : Type 0 where
  pub first : List ℕ
  pub others : List (List ℕ)
  pub is : pieces 10 text ≡ first ∷ others

cut_has : (b : Bool) (c : ℕ) (text : List ℕ) (ps : List (List ℕ)) → (p : List ℕ) × (qs : List (List ℕ)) × (cut b c ps ≡ p ∷ qs)
cut_has true c text ps = ([], ps, refl)
cut_has false c text [] = (c ∷ [], [], refl)
cut_has false c text (p ∷ ps) = (c ∷ p, ps, refl)

has_piece : (text : List ℕ) → HasPiece text
has_piece [] = record { first = []; others = []; is = refl }
has_piece (c ∷ cs) = let r = cut_has (nat_eq c 10) c cs (pieces 10 cs) in record { first = r.0; others = r.1; is = r.2 }

pub lines_split : (text line after : List ℕ) → pieces 10 text ≡ line ∷ pieces 10 after → lines text ≡ without_return line ∷ lines after
lines_split text line after e =
    let p = has_piece after in
    ap lines_of_pieces e ∙ ap (λ ps. lines_of_pieces (line ∷ ps)) p.is ∙ ap (λ ps. without_return line ∷ lines_of_pieces ps) (sym p.is)

some_text : (text : List ℕ) → eqb (length text) 0 ≡ false → is_empty text ≡ false
some_text [] h = absurd (true≢false h)
some_text (c ∷ cs) h = refl

pub lines_last : (text after : List ℕ) → pieces 10 text ≡ text ∷ [] → eqb (length text) 0 ≡ false → length after ≡ 0 → lines text ≡ text ∷ lines after
lines_last text [] e h k = ap lines_of_pieces e ∙ rw (some_text text h) refl
lines_last text (c ∷ cs) e h k = absurd (omega arith)

pub lines_none : (text : List ℕ) → eqb (length text) 0 ≡ true → lines text ≡ []
lines_none [] h = refl
lines_none (c ∷ cs) h = absurd (let some : eqb (length (c ∷ cs)) 0 ≡ false = grind (arith, nat_tests) in true≢false (sym h ∙ some))

-- ---- the line `end`

pub end_not_none : (line : List ℕ) → words line ≡ [] → is_end line ≡ false
end_not_none line e = ap (λ ws. bytes_eq (spaced ws) (codes "end")) e

pub end_alone : (line word : List ℕ) → words line ≡ word ∷ [] → is_end line ≡ bytes_eq word (codes "end")
end_alone line word e = ap (λ ws. bytes_eq (spaced ws) (codes "end")) e

or_true : (b : Bool) → (b || true) ≡ true
or_true true = refl
or_true false = refl

spaced_space : (w x : List ℕ) (ws : List (List ℕ)) → has_byte 32 (spaced (w ∷ x ∷ ws)) ≡ true
spaced_space w x ws = list_any-append (λ c. nat_eq c 32) w (32 ∷ spaced (x ∷ ws)) ∙ or_true (has_byte 32 w)

pub end_not_more : (line after w x : List ℕ) (ws : List (List ℕ)) → words line ≡ w ∷ words after → words after ≡ x ∷ ws → is_end line ≡ false
end_not_more line after w x ws e f =
    ap (λ vs. bytes_eq (spaced vs) (codes "end")) (e ∙ ap (λ vs. w ∷ vs) f)
    ∙ false_from_ne_true (bytes_eq (spaced (w ∷ x ∷ ws)) (codes "end")) (λ h. true≢false (sym (spaced_space w x ws) ∙ ap (has_byte 32) ((bytes_eq-Decides (spaced (w ∷ x ∷ ws)) (codes "end")).0 h)))

pub end_other : (line word after : List ℕ) → words line ≡ word ∷ words after → bytes_eq word (codes "end") ≡ false → is_end line ≡ false
end_other line word after e h = by_rest (words after) refl
  where
    by_rest : (ws : List (List ℕ)) → words after ≡ ws → is_end line ≡ false
    by_rest [] f = end_alone line word (e ∙ ap (λ vs. word ∷ vs) f) ∙ h
    by_rest (x ∷ ws) f = end_not_more line after word x ws e f
