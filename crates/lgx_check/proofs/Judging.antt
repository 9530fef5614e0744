-- The least of codes, and what the operands stand for, one after another.
use Rattle.std.proofs.Common.{◌≡◌, ◌≢◌, ℕ, ◌+◌, ◌<◌, ◌≤◌, Bool, true, false, if◌then◌else◌, List, [], ◌∷◌, ◌++◌, length, map, drop, get_or, refl, ap, sym, subst, ◌∙◌, append_assoc, arith, eq-eqb, ne_eqb, Option, Some, None, Result, Ok, Err}
use Rattle.std.specs.Prelude.{nat_le, filter_map, option_map, ◌==◌}
use Rattle.std.specs.List.{zip}
use Rattle.std.specs.Result.{result_ok, result_err}
use Rattle.std.proofs.lemmas.Bool.Decides.{nat_tests}
use Rattle.std.proofs.lemmas.List.{append-nil, drop_more, drop_all}
use Rattle.lgx_num.specs.declared.place.Operand.{Operand}
use Rattle.lgx_rung.specs.declared.fault.CheckCode.{CheckCode}
use Rattle.lgx_rung.specs.declared.fault.CheckCode.TheVariants.{C1, C13, C14, C16, C17}
use Rattle.spec_base.specs.FirstCause.{where_true}
use Rattle.lgx_rung.specs.declared.op.Op.{Op}
use Rattle.lgx_rung.specs.declared.operands.OperandKind.{OperandKind}
use Rattle.lgx_rung.specs.OperandTable.{operand_kinds}
use Rattle.lgx_rung.specs.Tree.{SourceIns}
use Rattle.lgx_rung.proofs.KindCounts.{kinds_counted}
use Rattle.spec_language.specs.Operands.{paired, second_number}
use Rattle.spec_language.specs.Checked.{answered, CheckScope, code_number, Label, least, lesser, operand_of, operands_of, other_faults, settled, Spot}
use Rattle.spec_language.proofs.Outlines.{some_lesser}
use Rattle.lgx_check.specs.Answers.{AnswersArgs, AnswersOperand}
use Rattle.lgx_check.specs.Judging.{lesser_of}
use Rattle.lgx_check.specs.Pairs.{in_pairs}
use Rattle.lgx_check.specs.declared.error.OperandError.{OperandError}
use Rattle.lgx_check.specs.declared.error.OperandError.TheVariants.{Code, Memory as no_memory}

-- ---- the lesser of two

pub lesser_none : (o : Option CheckCode) → lesser_of o None ≡ o
lesser_none None = refl
lesser_none (Some c) = refl

chosen : (b : Bool) (c d : CheckCode) → lesser_of (if b then Some c else Some d) None ≡ (if b then Some c else Some d)
chosen true c d = refl
chosen false c d = refl

lesser_if : (c d e : CheckCode) (b : Bool) → lesser c (if b then Some d else Some e) ≡ (if b then lesser c (Some d) else lesser c (Some e))
lesser_if c d e true = refl
lesser_if c d e false = refl

lesser_of_if : (c d e : CheckCode) (a : Bool) → lesser_of (if a then Some c else Some d) (Some e) ≡ (if a then lesser c (Some e) else lesser d (Some e))
lesser_of_if c d e true = refl
lesser_of_if c d e false = refl

-- of three, by the three comparisons of two
table : (c d e : CheckCode) (a b k : Bool) → (a ≡ true → b ≡ true → k ≡ true) → (a ≡ false → b ≡ false → k ≡ false)
    → (if b then (if a then Some c else Some d) else (if k then Some c else Some e)) ≡ (if a then (if k then Some c else Some e) else (if b then Some d else Some e))
table c d e true true true low high = refl
table c d e true true false low high = absurd (cc (low refl refl))
table c d e true false k low high = refl
table c d e false true k low high = refl
table c d e false false true low high = absurd (cc (high refl refl))
table c d e false false false low high = refl

three : (c d e : CheckCode) → lesser c (lesser d (Some e)) ≡ lesser_of (lesser c (Some d)) (Some e)
three c d e =
    let low : nat_le (code_number c) (code_number d) ≡ true → nat_le (code_number d) (code_number e) ≡ true → nat_le (code_number c) (code_number e) ≡ true = λ p q. at_most (code_number c) (code_number d) (code_number e) p q in
    let high : nat_le (code_number c) (code_number d) ≡ false → nat_le (code_number d) (code_number e) ≡ false → nat_le (code_number c) (code_number e) ≡ false = λ p q. beyond (code_number c) (code_number d) (code_number e) p q in
    lesser_if c d e (nat_le (code_number d) (code_number e))
    ∙ table c d e (nat_le (code_number c) (code_number d)) (nat_le (code_number d) (code_number e)) (nat_le (code_number c) (code_number e)) low high
    ∙ sym (lesser_of_if c d e (nat_le (code_number c) (code_number d)))
  where
    at_most : (x y z : ℕ) → nat_le x y ≡ true → nat_le y z ≡ true → nat_le x z ≡ true
    at_most x y z p q = grind (arith, nat_tests)

    beyond : (x y z : ℕ) → nat_le x y ≡ false → nat_le y z ≡ false → nat_le x z ≡ false
    beyond x y z p q = grind (arith, nat_tests)

lesser_assoc : (c : CheckCode) (o p : Option CheckCode) → lesser c (lesser_of o p) ≡ lesser_of (lesser c o) p
lesser_assoc c None p = refl
lesser_assoc c (Some d) None = sym (chosen (nat_le (code_number c) (code_number d)) c d)
lesser_assoc c (Some d) (Some e) = three c d e

pub lesser_of_assoc : (n o p : Option CheckCode) → lesser_of n (lesser_of o p) ≡ lesser_of (lesser_of n o) p
lesser_of_assoc None o p = refl
lesser_of_assoc (Some c) o p = lesser_assoc c o p

pub least_append : (xs ys : List CheckCode) → least (xs ++ ys) ≡ lesser_of (least xs) (least ys)
least_append [] ys = refl
least_append (c ∷ xs) ys = ap (lesser c) (least_append xs ys) ∙ lesser_assoc c (least xs) (least ys)

pub none_lesser : (o p : Option CheckCode) → lesser_of o p ≡ None → p ≡ None
none_lesser None p h = h
none_lesser (Some c) p h = absurd (some_lesser c p h)

-- ---- beside the operands

pub first_of : (a b c d : Bool) → least ((where_true a C13 ++ where_true b C14) ++ (where_true c C16 ++ where_true d C17)) ≡ (if a then Some C13 else if b then Some C14 else if c then Some C16 else if d then Some C17 else None)
first_of true true true true = refl
first_of true true true false = refl
first_of true true false true = refl
first_of true true false false = refl
first_of true false true true = refl
first_of true false true false = refl
first_of true false false true = refl
first_of true false false false = refl
first_of false true true true = refl
first_of false true true false = refl
first_of false true false true = refl
first_of false true false false = refl
first_of false false true true = refl
first_of false false true false = refl
first_of false false false true = refl
first_of false false false false = refl

-- ---- an operand more

oks_first : {A E : Type 0} (r : Result A E) (rs : List (Result A E)) → filter_map result_ok (r ∷ rs) ≡ filter_map result_ok (r ∷ []) ++ filter_map result_ok rs
oks_first (Ok x) rs = refl
oks_first (Err e) rs = refl

errs_first : {A E : Type 0} (r : Result A E) (rs : List (Result A E)) → filter_map result_err (r ∷ rs) ≡ filter_map result_err (r ∷ []) ++ filter_map result_err rs
errs_first (Ok x) rs = refl
errs_first (Err e) rs = refl

pub args_more : (old now : List Operand) (r : Result Operand CheckCode) (rs : List (Result Operand CheckCode)) → now ≡ old ++ filter_map result_ok (r ∷ []) → now ++ filter_map result_ok rs ≡ old ++ filter_map result_ok (r ∷ rs)
args_more old now r rs h =
    ap (λ xs. xs ++ filter_map result_ok rs) h
    ∙ append_assoc old (filter_map result_ok (r ∷ [])) (filter_map result_ok rs)
    ∙ ap (λ xs. old ++ xs) (sym (oks_first r rs))

pub code_more : (old now : Option CheckCode) (r : Result Operand CheckCode) (rs : List (Result Operand CheckCode)) → now ≡ lesser_of old (least (filter_map result_err (r ∷ []))) → lesser_of now (least (filter_map result_err rs)) ≡ lesser_of old (least (filter_map result_err (r ∷ rs)))
code_more old now r rs h =
    ap (λ o. lesser_of o (least (filter_map result_err rs))) h
    ∙ sym (lesser_of_assoc old (least (filter_map result_err (r ∷ []))) (least (filter_map result_err rs)))
    ∙ ap (lesser_of old) (sym (ap least (errs_first r rs) ∙ least_append (filter_map result_err (r ∷ [])) (filter_map result_err rs)))

pub zip_first : {K T : Type 0} (ks : List K) (i : ℕ) (d : K) (ts rest : List T) (t : T) → i < length ks → ts ≡ t ∷ rest
    → zip (drop i ks) ts ≡ (get_or ks i d, t) ∷ zip (drop (i + 1) ks) rest
zip_first ks i d ts rest t h e = ap (λ x. zip x ts) (drop_more ks i d h) ∙ ap (zip (get_or ks i d ∷ drop (i + 1) ks)) e

pub zip_end : {K T : Type 0} (ks : List K) (i : ℕ) (ts : List T) → length ks ≤ i → zip (drop i ks) ts ≡ []
zip_end ks i ts h = ap (λ x. zip x ts) (drop_all i ks h)

pub zip_none : {K T : Type 0} (ks : List K) (ts : List T) → ts ≡ [] → zip ks ts ≡ []
zip_none [] ts h = refl
zip_none (k ∷ ks) ts h = ap (zip (k ∷ ks)) h

-- ---- an operand that was answered

pub added_args : (old : List Operand) (meant : Result Operand CheckCode) (o : Operand) → meant ≡ Ok o → old ++ o ∷ [] ≡ old ++ filter_map result_ok (meant ∷ [])
added_args old meant o p = rw p refl

pub kept_code : (code : Option CheckCode) (meant : Result Operand CheckCode) (o : Operand) → meant ≡ Ok o → code ≡ lesser_of code (least (filter_map result_err (meant ∷ [])))
kept_code code meant o p = rw p (sym (lesser_none code))

pub kept_args : (old : List Operand) (meant : Result Operand CheckCode) (c : CheckCode) → meant ≡ Err c → old ≡ old ++ filter_map result_ok (meant ∷ [])
kept_args old meant c p = rw p (sym (append-nil old))

pub added_code : (code : Option CheckCode) (meant : Result Operand CheckCode) (c : CheckCode) → meant ≡ Err c → lesser_of code (Some c) ≡ lesser_of code (least (filter_map result_err (meant ∷ [])))
added_code code meant c p = rw p refl

-- ---- as many operands as kinds, or not

pub as_many : (kinds : List OperandKind) (texts : List (List ℕ)) → length kinds ≡ length texts → in_pairs kinds texts ≡ Some (zip kinds texts)
as_many kinds texts h = ap (λ b. if b then Some (zip kinds texts) else None) (eq-eqb (length kinds) (length texts) h)

pub not_as_many : (kinds : List OperandKind) (texts : List (List ℕ)) → length kinds ≢ length texts → in_pairs kinds texts ≡ None
not_as_many kinds texts h = ap (λ b. if b then Some (zip kinds texts) else None) (ne_eqb (length kinds) (length texts) h)

pub too_many_or_few : (s : CheckScope) (ls : List Label) (spot : Spot) (pairs : Option (List (OperandKind × List ℕ))) → pairs ≡ None → least (filter_map result_err (operands_of s ls spot pairs)) ≡ Some C1
too_many_or_few s ls spot pairs h = rw h refl

abbrev paired_by : List (List ℕ) → Option (List OperandKind) → Option (List (OperandKind × List ℕ))
paired_by texts kinds = option_map (λ ks. zip ks texts) kinds

pub paired_fixed : (op : Op) (texts : List (List ℕ)) (kinds : List OperandKind) → operand_kinds op (second_number texts) (length texts) ≡ (if length kinds == length texts then Some kinds else None) → paired op texts ≡ in_pairs kinds texts
paired_fixed op texts kinds h = ap (paired_by texts) h ∙ go (length kinds == length texts)
  where
    go : (b : Bool) → paired_by texts (if b then Some kinds else None) ≡ (if b then Some (zip kinds texts) else None)
    go true = refl
    go false = refl

pub paired_handed : (op : Op) (texts : List (List ℕ)) (kinds : List OperandKind) → operand_kinds op (second_number texts) (length texts) ≡ Some kinds → paired op texts ≡ in_pairs kinds texts
paired_handed op texts kinds h = ap (paired_by texts) h ∙ sym (as_many kinds texts (kinds_counted op (second_number texts) (length texts) kinds h).0)

pub unpaired : (op : Op) (texts : List (List ℕ)) → operand_kinds op (second_number texts) (length texts) ≡ None → paired op texts ≡ None
unpaired op texts h = ap (paired_by texts) h

-- ---- operands that were all judged

pub judged_args : (s : CheckScope) (ls : List Label) (spot : Spot) (kinds : List OperandKind) (texts operands : List (List ℕ)) (i : ℕ) (args : List Operand)
    → length kinds ≡ length texts → length kinds ≤ i
    → args ++ filter_map result_ok (map (operand_of s ls spot) (zip (drop i kinds) operands)) ≡ filter_map result_ok (map (operand_of s ls spot) (zip kinds texts))
    → args ≡ filter_map result_ok (operands_of s ls spot (in_pairs kinds texts))
judged_args s ls spot kinds texts operands i args same end h =
    sym (append-nil args)
    ∙ ap (λ ps. args ++ filter_map result_ok (map (operand_of s ls spot) ps)) (sym (zip_end kinds i operands end))
    ∙ h
    ∙ ap (λ ps. filter_map result_ok (operands_of s ls spot ps)) (sym (as_many kinds texts same))

pub judged_code : (s : CheckScope) (ls : List Label) (spot : Spot) (kinds : List OperandKind) (texts operands : List (List ℕ)) (i : ℕ) (code : Option CheckCode)
    → length kinds ≡ length texts → length kinds ≤ i
    → lesser_of code (least (filter_map result_err (map (operand_of s ls spot) (zip (drop i kinds) operands)))) ≡ least (filter_map result_err (map (operand_of s ls spot) (zip kinds texts)))
    → least (filter_map result_err (operands_of s ls spot (in_pairs kinds texts))) ≡ code
judged_code s ls spot kinds texts operands i code same end h =
    ap (λ ps. least (filter_map result_err (operands_of s ls spot ps))) (as_many kinds texts same)
    ∙ sym h
    ∙ ap (λ ps. lesser_of code (least (filter_map result_err (map (operand_of s ls spot) ps)))) (zip_end kinds i operands end)
    ∙ lesser_none code

-- ---- a single operand

pub one_operand : (s : CheckScope) (ls : List Label) (spot : Spot) (kind : OperandKind) (text : List ℕ) (texts rest : List (List ℕ)) → texts ≡ text ∷ rest → length rest ≡ 0
    → operands_of s ls spot (in_pairs (kind ∷ []) texts) ≡ operand_of s ls spot (kind, text) ∷ []
one_operand s ls spot kind text texts [] h z = ap (λ ts. operands_of s ls spot (in_pairs (kind ∷ []) ts)) h
one_operand s ls spot kind text texts (x ∷ xs) h z = absurd (omega arith)

pub one_kept : (meant : Result Operand CheckCode) (o : Operand) → meant ≡ Ok o → AnswersArgs (meant ∷ []) (Ok (o ∷ []))
one_kept meant o p = rw p (refl, refl)

pub one_refused : (meant : Result Operand CheckCode) (error : OperandError) → AnswersOperand meant (Err error) → AnswersArgs (meant ∷ []) (Err error)
one_refused meant (Code code) p = rw p refl
one_refused meant no_memory p = tt

-- ---- an instruction that was judged

pub refused_code : (meant : List (Result Operand CheckCode)) (error : OperandError) (code : CheckCode) → AnswersArgs meant (Err error) → error ≡ Code code → Some code ≡ least (filter_map result_err meant)
refused_code meant error code h is = sym (subst (λ e. AnswersArgs meant (Err e)) is h)

pub settled_by : (ls : List Label) (spot : Spot) (i : SourceIns) (operands : List (Result Operand CheckCode)) (args : List Operand) (code other o : Option CheckCode)
    → args ≡ filter_map result_ok operands → code ≡ least (filter_map result_err operands) → other ≡ least (other_faults ls spot i) → o ≡ lesser_of code other
    → settled ls spot i operands ≡ answered spot i.op args o
settled_by ls spot i operands args code other o p q r h =
    ap (answered spot i.op (filter_map result_ok operands)) (least_append (filter_map result_err operands) (other_faults ls spot i) ∙ sym (h ∙ ap (λ x. lesser_of x other) q ∙ ap (lesser_of (least (filter_map result_err operands))) r))
    ∙ ap (λ x. answered spot i.op x o) (sym p)
