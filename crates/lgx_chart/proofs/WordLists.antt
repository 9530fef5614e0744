-- The words of a line, as a list.
use Rattle.std.proofs.Common.{◌≡◌, ◌≢◌, ℕ, ◌<◌, List, [], ◌∷◌, length, map, Bool, true, false, eqb, None, refl, sym, ap, ◌∙◌, arith, true≢false}
use Rattle.std.specs.List.{list_all}
use Rattle.std.proofs.lemmas.Bool.Decides.{nat_tests}
use Rattle.std.proofs.lemmas.List.Folds.{list_all-map}
use Rattle.spec_base.specs.Pieces.{pieces}
use Rattle.spec_base.proofs.Splits.{some_piece}
use Rattle.lgx_chart.specs.Asked.{started}
use Rattle.lgx_chart.specs.Words.{is_printed, is_word, are_words}
use Rattle.lgx_chart.specs.Forms.{are_two_numbers, begin_of, fault_of, set_of, entry_of, end_of}

-- ---- one word

pub no_empty_word : (text : List ℕ) → eqb (length text) 0 ≡ true → is_word text ≡ false
no_empty_word [] h = refl
no_empty_word (c ∷ cs) h = absurd (let some : eqb (length (c ∷ cs)) 0 ≡ false = grind (arith, nat_tests) in true≢false (sym h ∙ some))

pub some_word : (text : List ℕ) → eqb (length text) 0 ≡ false → is_word text ≡ list_all is_printed text
some_word [] h = absurd (true≢false h)
some_word (c ∷ cs) h = refl

-- ---- several

pub words_by_reference : {A : Type 0} (word : A → List ℕ) (refs : List A) → are_words (map word refs) ≡ list_all (λ r. is_word (word r)) refs
words_by_reference word refs = list_all-map is_word word refs

-- three numbers or more are not two
pub three_numbers : (kind a b rest : List ℕ) → pieces 47 rest ≡ a ∷ pieces 47 b → are_two_numbers (kind ∷ pieces 47 rest) ≡ false
three_numbers kind a b rest split =
    let more = some_piece 47 b in
    ap (λ ps. are_two_numbers (kind ∷ ps)) (split ∙ ap (λ ps. a ∷ ps) more.2)

-- three parts or more are no name and value
pub three_parts : (is_bool : Bool) (name a b rest : List ℕ) → pieces 61 rest ≡ a ∷ pieces 61 b → started is_bool (name ∷ pieces 61 rest) ≡ None
three_parts is_bool name a b rest split =
    let more = some_piece 61 b in
    ap (λ ps. started is_bool (name ∷ ps)) (split ∙ ap (λ ps. a ∷ ps) more.2)

-- ---- lists of another length

pub begin_other : {A : Type 0} (word : A → List ℕ) (refs : List A) → length refs ≢ 3 → begin_of (map word refs) ≡ None
begin_other word [] h = refl
begin_other word (a ∷ []) h = refl
begin_other word (a ∷ b ∷ []) h = refl
begin_other word (a ∷ b ∷ c ∷ []) h = absurd (h refl)
begin_other word (a ∷ b ∷ c ∷ d ∷ more) h = refl

pub fault_other : {A : Type 0} (word : A → List ℕ) (refs : List A) → length refs ≢ 4 → fault_of (map word refs) ≡ None
fault_other word [] h = refl
fault_other word (a ∷ []) h = refl
fault_other word (a ∷ b ∷ []) h = refl
fault_other word (a ∷ b ∷ c ∷ []) h = refl
fault_other word (a ∷ b ∷ c ∷ d ∷ []) h = absurd (h refl)
fault_other word (a ∷ b ∷ c ∷ d ∷ e ∷ more) h = refl

pub set_other : {A : Type 0} (word : A → List ℕ) (refs : List A) → length refs ≢ 2 → set_of (map word refs) ≡ None
set_other word [] h = refl
set_other word (a ∷ []) h = refl
set_other word (a ∷ b ∷ []) h = absurd (h refl)
set_other word (a ∷ b ∷ c ∷ more) h = refl

pub entry_short : {A : Type 0} (word : A → List ℕ) (refs : List A) → length refs < 3 → entry_of (map word refs) ≡ None
entry_short word [] h = refl
entry_short word (a ∷ []) h = refl
entry_short word (a ∷ b ∷ []) h = refl
entry_short word (a ∷ b ∷ c ∷ more) h = absurd (omega arith)

pub end_other : {A : Type 0} (word : A → List ℕ) (refs : List A) → length refs ≢ 6 → end_of (map word refs) ≡ None
end_other word [] h = refl
end_other word (a ∷ []) h = refl
end_other word (a ∷ b ∷ []) h = refl
end_other word (a ∷ b ∷ c ∷ []) h = refl
end_other word (a ∷ b ∷ c ∷ d ∷ []) h = refl
end_other word (a ∷ b ∷ c ∷ d ∷ e ∷ []) h = refl
end_other word (a ∷ b ∷ c ∷ d ∷ e ∷ f ∷ []) h = absurd (h refl)
end_other word (a ∷ b ∷ c ∷ d ∷ e ∷ f ∷ g ∷ more) h = refl
