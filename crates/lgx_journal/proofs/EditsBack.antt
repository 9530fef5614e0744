-- Edits that are written are read back.
use Rattle.std.proofs.Common.{◌≡◌, ℕ, suc, ◌+◌, ◌-◌, ◌<◌, ◌^◌, List, [], ◌∷◌, ◌++◌, length, length-append, take, drop, map, filter, Bool, true, false, not, ◌&&◌, ◌||◌, nat_eq, nat_le, Option, Some, option_map, codes, decimal, refl, sym, ap, ◌∙◌, append_assoc, append-nil, arith, true≢false}
use Rattle.std.specs.List.{list_all, list_any, prefix_len, suffix_len}
use Rattle.std.specs.Str.{bytes_eq}
use Rattle.std.proofs.Math.Seq.{take-append_seam}
use Rattle.std.proofs.lemmas.Bool.{and_from, and_parts, or_from, or_parts, not-true, leb-true, ltb-true}
use Rattle.std.proofs.lemmas.List.{reverse-append}
use Rattle.std.proofs.lemmas.List.Folds.{list_any-append}
use Rattle.std.proofs.lemmas.Slice.Eq.{bytes_eq-Decides}
use Rattle.lgx_rung.specs.Tokens.{is_blank}
use Rattle.spec_base.specs.declared.limits.TheConstants.{MAX_LINE_BYTES, MAX_EDITS}
use Rattle.spec_base.specs.Pieces.{pieces, is_empty, has_byte}
use Rattle.spec_machine.specs.Commands.{is_edit_count}
use Rattle.spec_machine.specs.EditText.{trimmed, is_edit_text}
use Rattle.spec_machine.specs.declared.event.RungEdit.{RungEdit}
use Rattle.spec_machine.specs.declared.event.RungEdit.TheVariants.{Replace, Insert, Delete}
use Rattle.spec_text.specs.TextLines.{words, after_word, spaced, unsigned_of}
use Rattle.spec_text.specs.ActionText.{text_edit_of, delete_of, edit_of, each_some, edits_of, text_word, edit_words, edits_text}
use Rattle.lgx_journal.specs.Written.{is_u32, is_kept_edit}
use Rattle.lgx_journal.proofs.Prefixes.{none_left, none_of_front, front_more}
use Rattle.lgx_journal.proofs.Trimmed.{no_suffix}
use Rattle.lgx_journal.proofs.Parts.{edits_few}
use Rattle.lgx_journal.proofs.Verbs.{edit_replaces, edit_inserts, edit_deletes}
use Rattle.lgx_journal.proofs.Spelled.{ends_word, no_space, all_kept, words_spaced, first_here, after_here, first_indented, after_indented, piece_before, piece_alone}
use Rattle.lgx_journal.proofs.Numerals.{unsigned_back, decimal_word, clean_decimal}

-- ---- a text between blanks

-- a text that is trimmed has no blank at its ends
no_front : (text : List ℕ) → trimmed text ≡ text → prefix_len is_blank text ≡ 0
no_front text e =
    let front = drop (prefix_len is_blank text) text in
    sym (ap (prefix_len is_blank) e) ∙ none_of_front is_blank (length front - suffix_len is_blank front) front (none_left is_blank text)

pub no_end : (text : List ℕ) → trimmed text ≡ text → suffix_len is_blank text ≡ 0
no_end text e = sym (ap (suffix_len is_blank) e) ∙ no_suffix is_blank (drop (prefix_len is_blank text) text)

indented : (text : List ℕ) → trimmed (32 ∷ text) ≡ trimmed text
indented text =
    let one : 1 + prefix_len is_blank text ≡ suc (prefix_len is_blank text) = omega arith in
    ap (λ (t : List ℕ). take (length t - suffix_len is_blank t) t) (ap (λ n. drop n (32 ∷ text)) one)

-- a space after it or not
abbrev gap : Bool → List ℕ
gap true = 32 ∷ []
gap false = []

with_space : (c : ℕ) (cs : List ℕ) → trimmed (c ∷ cs) ≡ c ∷ cs → trimmed ((c ∷ cs) ++ 32 ∷ []) ≡ c ∷ cs
with_space c cs e =
    let text = c ∷ cs in
    let longer = text ++ 32 ∷ [] in
    let front : prefix_len is_blank longer ≡ 0 = front_more is_blank c cs (cs ++ 32 ∷ []) (is_blank c) refl (no_front text e) in
    let one : suffix_len is_blank longer ≡ 1 + suffix_len is_blank text = ap (prefix_len is_blank) (reverse-append text (32 ∷ [])) in
    let size : length longer - suffix_len is_blank longer ≡ length text = omega (arith, one, no_end text e, length-append text (32 ∷ [])) in
    ap (λ n. take (length (drop n longer) - suffix_len is_blank (drop n longer)) (drop n longer)) front
    ∙ ap (λ n. take n longer) size
    ∙ take-append_seam text (32 ∷ [])

trimmed_gap : (b : Bool) (text : List ℕ) → trimmed text ≡ text → trimmed (text ++ gap b) ≡ text
trimmed_gap true [] e = refl
trimmed_gap true (c ∷ cs) e = with_space c cs e
trimmed_gap false text e = ap trimmed (append-nil text) ∙ e

pub is_trimmed : (text : List ℕ) → is_edit_text text ≡ true → trimmed text ≡ text
is_trimmed text h = (bytes_eq-Decides (trimmed text) text).0 (and_parts (nat_le (length text) MAX_LINE_BYTES && not (list_any (λ c. nat_eq c 10 || nat_eq c 124) text)) (bytes_eq (trimmed text) text) h).1

-- ---- an edit

ends_gap : (b : Bool) → ends_word (gap b) ≡ true
ends_gap true = refl
ends_gap false = refl

gap_words : (b : Bool) → words (gap b) ≡ []
gap_words true = refl
gap_words false = refl

-- the number and the text of an edit, after its verb
module _ (edit : ℕ → List ℕ → RungEdit) (index : ℕ) (h : index < 2 ^ 32) where
  number_only : (b : Bool) → text_edit_of edit (32 ∷ decimal index ++ gap b) ≡ Some (edit index [])
  number_only b =
      let word = decimal_word index (omega arith) in
      ap (λ o. option_map (λ i. edit i (trimmed (after_word (32 ∷ decimal index ++ gap b)))) o) (ap unsigned_of (first_indented (decimal index ++ gap b) ∙ first_here (decimal index) (gap b) word (ends_gap b)) ∙ unsigned_back index h)
      ∙ ap (λ t. Some (edit index (trimmed t))) (after_indented (decimal index ++ gap b) ∙ after_here (decimal index) (gap b) word (ends_gap b))
      ∙ ap (λ t. Some (edit index t)) (trimmed_gap b [] refl)

  number_text : (b : Bool) (text : List ℕ) → trimmed text ≡ text → text_edit_of edit (32 ∷ (decimal index ++ 32 ∷ text) ++ gap b) ≡ Some (edit index text)
  number_text b text e =
      let word = decimal_word index (omega arith) in
      let rest = 32 ∷ (text ++ gap b) in
      ap (λ t. text_edit_of edit (32 ∷ t)) (append_assoc (decimal index) (32 ∷ text) (gap b))
      ∙ ap (λ o. option_map (λ i. edit i (trimmed (after_word (32 ∷ decimal index ++ rest)))) o) (ap unsigned_of (first_indented (decimal index ++ rest) ∙ first_here (decimal index) rest word refl) ∙ unsigned_back index h)
      ∙ ap (λ t. Some (edit index (trimmed t))) (after_indented (decimal index ++ rest) ∙ after_here (decimal index) rest word refl)
      ∙ ap (λ t. Some (edit index t)) (indented (text ++ gap b) ∙ trimmed_gap b text e)

  text_back : (b : Bool) (text : List ℕ) → trimmed text ≡ text → text_edit_of edit (32 ∷ spaced (decimal index ∷ text_word text) ++ gap b) ≡ Some (edit index text)
  text_back b [] e = number_only b
  text_back b (c ∷ cs) e = number_text b (c ∷ cs) e

-- ---- an edit, with a space before it

number_words : (b : Bool) (index : ℕ) → index < 2 ^ 32 → words (32 ∷ decimal index ++ gap b) ≡ decimal index ∷ []
number_words true index h =
    let word = decimal_word index (omega arith) in
    ap (filter (λ w. not (is_empty w))) (piece_before 32 (decimal index) [] (no_space (decimal index) word)) ∙ all_kept (decimal index ∷ []) (and_from _ _ word refl)
number_words false index h =
    ap words (append-nil (decimal index)) ∙ words_spaced (decimal index ∷ []) (and_from _ _ (decimal_word index (omega arith)) refl)

delete_back : (b : Bool) (index : ℕ) → index < 2 ^ 32 → delete_of (words (32 ∷ decimal index ++ gap b)) ≡ Some (Delete index)
delete_back b index h = ap delete_of (number_words b index h) ∙ ap (λ o. option_map (λ n. Delete n) o) (unsigned_back index h)

-- an edit as it stands between marks
abbrev part : RungEdit → List ℕ
part e = 32 ∷ spaced (edit_words e)

-- the same after its verb
abbrev tail : Bool → ℕ → List ℕ → List ℕ
tail b index text = 32 ∷ spaced (decimal index ∷ text_word text) ++ gap b

abbrev replaced : List ℕ → Option RungEdit
replaced rest = text_edit_of (λ n t. Replace n t) rest

abbrev inserted : List ℕ → Option RungEdit
inserted rest = text_edit_of (λ n t. Insert n t) rest

edit_back : (b : Bool) (e : RungEdit) → is_kept_edit e ≡ true → edit_of (part e ++ gap b) ≡ Some e
edit_back b (Replace index text) h =
    let two = and_parts (is_u32 index) (is_edit_text text) h in
    let rest = tail b index text in
    edit_replaces (codes "r") (replaced rest) (inserted rest) (delete_of (words rest)) refl ∙ text_back (λ n t. Replace n t) index (ltb-true index (2 ^ 32) two.0) b text (is_trimmed text two.1)
edit_back b (Insert index text) h =
    let two = and_parts (is_u32 index) (is_edit_text text) h in
    let rest = tail b index text in
    edit_inserts (codes "i") (replaced rest) (inserted rest) (delete_of (words rest)) refl ∙ text_back (λ n t. Insert n t) index (ltb-true index (2 ^ 32) two.0) b text (is_trimmed text two.1)
edit_back b (Delete index) h =
    let rest = tail b index [] in
    edit_deletes (codes "d") (replaced rest) (inserted rest) (delete_of (words rest)) refl ∙ delete_back b index (ltb-true index (2 ^ 32) h)

-- ---- edits between marks

-- neither a line feed nor a `|` stands in the text of an edit
pub clean_text : (text : List ℕ) → list_any (λ c. nat_eq c 10 || nat_eq c 124) text ≡ false → (has_byte 10 text ≡ false) × (has_byte 124 text ≡ false)
clean_text [] h = (refl, refl)
clean_text (c ∷ cs) h =
    let two = or_parts (nat_eq c 10 || nat_eq c 124) (list_any (λ c. nat_eq c 10 || nat_eq c 124) cs) h in
    let here = or_parts (nat_eq c 10) (nat_eq c 124) two.0 in
    let later = clean_text cs two.1 in
    (or_from _ _ here.0 later.0, or_from _ _ here.1 later.1)

pub edit_text_clean : (text : List ℕ) → is_edit_text text ≡ true → (has_byte 10 text ≡ false) × (has_byte 124 text ≡ false)
edit_text_clean text h =
    let first = (and_parts (nat_le (length text) MAX_LINE_BYTES && not (list_any (λ c. nat_eq c 10 || nat_eq c 124) text)) (bytes_eq (trimmed text) text) h).0 in
    clean_text text (not-true _ (and_parts (nat_le (length text) MAX_LINE_BYTES) (not (list_any (λ c. nat_eq c 10 || nat_eq c 124) text)) first).1)

clean_numbered : (verb index : ℕ) (text : List ℕ) → nat_eq verb 124 ≡ false → index < 2 ^ 32 → has_byte 124 text ≡ false → has_byte 124 (spaced ((verb ∷ []) ∷ decimal index ∷ text_word text)) ≡ false
clean_numbered verb index [] v h k = or_from _ _ v (clean_decimal 124 index refl (omega arith))
clean_numbered verb index (c ∷ cs) v h k =
    or_from _ _ v (list_any-append (λ c. nat_eq c 124) (decimal index) (32 ∷ c ∷ cs) ∙ or_from _ _ (clean_decimal 124 index refl (omega arith)) k)

clean_edit : (e : RungEdit) → is_kept_edit e ≡ true → has_byte 124 (spaced (edit_words e)) ≡ false
clean_edit (Replace index text) h =
    let two = and_parts (is_u32 index) (is_edit_text text) h in
    clean_numbered 114 index text refl (ltb-true index (2 ^ 32) two.0) (edit_text_clean text two.1).1
clean_edit (Insert index text) h =
    let two = and_parts (is_u32 index) (is_edit_text text) h in
    clean_numbered 105 index text refl (ltb-true index (2 ^ 32) two.0) (edit_text_clean text two.1).1
clean_edit (Delete index) h = clean_numbered 100 index [] refl (ltb-true index (2 ^ 32) h) refl

clean_gap : (e : RungEdit) (b : Bool) → is_kept_edit e ≡ true → has_byte 124 (part e ++ gap b) ≡ false
clean_gap e true h = list_any-append (λ c. nat_eq c 124) (spaced (edit_words e)) (32 ∷ []) ∙ or_from _ _ (clean_edit e h) refl
clean_gap e false h = list_any-append (λ c. nat_eq c 124) (spaced (edit_words e)) [] ∙ or_from _ _ (clean_edit e h) refl

parts_back : (e : RungEdit) (es : List RungEdit) → is_kept_edit e ≡ true → list_all is_kept_edit es ≡ true → each_some (map edit_of (pieces 124 (32 ∷ edits_text (e ∷ es)))) ≡ Some (e ∷ es)
parts_back e [] h k =
    ap (λ ps. each_some (map edit_of ps)) (piece_alone 124 (part e ++ gap false) (clean_gap e false h)) ∙ ap (λ o. each_some (o ∷ [])) (edit_back false e h)
parts_back e (f ∷ fs) h k =
    let two = and_parts (is_kept_edit f) (list_all is_kept_edit fs) k in
    let rest = 32 ∷ edits_text (f ∷ fs) in
    ap (λ t. each_some (map edit_of (pieces 124 t))) (sym (append_assoc (part e) (32 ∷ []) (124 ∷ rest)))
    ∙ ap (λ ps. each_some (map edit_of ps)) (piece_before 124 (part e ++ gap true) rest (clean_gap e true h))
    ∙ ap (λ o. each_some (o ∷ map edit_of (pieces 124 rest))) (edit_back true e h)
    ∙ ap (λ o. option_map (λ xs. e ∷ xs) o) (parts_back f fs two.0 two.1)

pub edits_back : (es : List RungEdit) → list_all is_kept_edit es ≡ true → is_edit_count (length es) ≡ true → edits_of (32 ∷ edits_text es) ≡ Some es
edits_back [] h k = absurd (true≢false (sym k))
edits_back (e ∷ es) h k =
    let two = and_parts (is_kept_edit e) (list_all is_kept_edit es) h in
    let count = and_parts (nat_le 1 (length (e ∷ es))) (nat_le (length (e ∷ es)) MAX_EDITS) k in
    sym (edits_few (32 ∷ edits_text (e ∷ es)) (e ∷ es) (sym (parts_back e es two.0 two.1)) (leb-true 1 (length (e ∷ es)) count.0) (leb-true (length (e ∷ es)) MAX_EDITS count.1))
