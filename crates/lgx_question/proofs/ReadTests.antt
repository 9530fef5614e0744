-- Words of tests.
use Rattle.std.proofs.Common.{◌≡◌, ℕ, ◌+◌, ◌<◌, ◌≤◌, ℤ, List, [], ◌∷◌, ◌++◌, length, map, drop, get_or, Bool, true, false, cond, not, Option, Some, None, option_map, codes, refl, sym, ◌∙◌, ap, arith, append_assoc}
use Rattle.std.specs.Prelude.{position}
use Rattle.std.specs.List.{position_from}
use Rattle.std.specs.Str.{bytes_eq}
use Rattle.std.proofs.lemmas.Bool.{not-true, not-false}
use Rattle.std.proofs.lemmas.List.{at_drop_more, drop_all}
use Rattle.std.proofs.lemmas.Iterator.Adapters.{position_from-zero}
use Rattle.spec_text.specs.ReportText.{Names}
use Rattle.spec_text.specs.TextLines.{signed_of}
use Rattle.spec_explore.specs.declared.question.Comparison.{Comparison}
use Rattle.spec_explore.specs.declared.question.Operand.{Operand}
use Rattle.spec_explore.specs.declared.question.Operand.TheVariants.{Number, Watched}
use Rattle.spec_explore.specs.declared.question.Test.{Test}
use Rattle.spec_explore.specs.QuestionText.{SaidValue, ANumber, AName, SaidTest, SaidNever, begins_number, value_said, value_of_names, named, test_from, test_said, test_of_names, found_test, all_found, never_said, last_test, before_tests, in_program, program_of_names}
use Rattle.lgx_question.specs.declared.tests.FoundNever.{FoundNever}
use Rattle.lgx_question.specs.Reading.{found, never_found, single, both, seen, IsTest, program_alone, ends_at}

-- ---- names

position_step : {A : Type 0} (test : A → Bool) (xs : List A) (i : ℕ) (x : A) → i < length xs → x ≡ get_or xs i x → position_from test i (drop i xs) ≡ cond (test x) (Some i) (position_from test (i + 1) (drop (i + 1) xs))
position_step test xs i x lt is = at_drop_more (λ ys. position_from test i ys) xs i x lt ∙ ap (λ y. cond (test y) (Some i) (position_from test (i + 1) (drop (i + 1) xs))) (sym is)

pub found_at : {A : Type 0} (test : A → Bool) (xs : List A) (i : ℕ) (x : A) → i < length xs → x ≡ get_or xs i x → test x ≡ true → position_from test i (drop i xs) ≡ position_from test 0 xs → Some i ≡ position test xs
found_at test xs i x lt is passes goes =
    sym (position_from-zero test xs ∙ sym goes ∙ position_step test xs i x lt is ∙ ap (λ b. cond b (Some i) (position_from test (i + 1) (drop (i + 1) xs))) passes)

pub found_nowhere : {A : Type 0} (test : A → Bool) (xs : List A) (i : ℕ) → length xs ≤ i → position_from test i (drop i xs) ≡ position_from test 0 xs → None ≡ position test xs
found_nowhere test xs i h goes = sym (position_from-zero test xs ∙ sym goes ∙ ap (λ ys. position_from test i ys) (drop_all i xs h))

pub found_later : {A : Type 0} (test : A → Bool) (xs : List A) (i : ℕ) (x : A) → i < length xs → x ≡ get_or xs i x → test x ≡ false → position_from test i (drop i xs) ≡ position_from test 0 xs → position_from test (i + 1) (drop (i + 1) xs) ≡ position_from test 0 xs
found_later test xs i x lt is fails goes =
    sym (ap (λ b. cond b (Some i) (position_from test (i + 1) (drop (i + 1) xs))) fails) ∙ sym (position_step test xs i x lt is) ∙ goes

-- ---- values

abbrev by_begin : Bool → List ℕ → Option SaidValue
by_begin b word = cond b (option_map ANumber (signed_of word)) (Some (AName word))

pub number_said : (names : Names) (word : List ℕ) (v : ℤ) → begins_number word ≡ true → Some v ≡ signed_of word → Some (Some (Number v)) ≡ option_map (value_of_names names) (value_said word)
number_said names word v begins is =
    sym (ap (λ b. option_map (value_of_names names) (by_begin b word)) begins ∙ ap (λ o. option_map (value_of_names names) (option_map ANumber o)) (sym is))

pub no_number_said : (names : Names) (word : List ℕ) → begins_number word ≡ true → None ≡ signed_of word → None ≡ option_map (value_of_names names) (value_said word)
no_number_said names word begins is =
    sym (ap (λ b. option_map (value_of_names names) (by_begin b word)) begins ∙ ap (λ o. option_map (value_of_names names) (option_map ANumber o)) (sym is))

pub name_said : (names : Names) (word : List ℕ) (o : Option ℕ) → begins_number word ≡ false → o ≡ named names.watches word → Some (option_map Watched o) ≡ option_map (value_of_names names) (value_said word)
name_said names word o begins is =
    sym (ap (λ b. option_map (value_of_names names) (by_begin b word)) begins ∙ ap (λ x. Some (option_map Watched x)) (sym is))

-- ---- a test

pub test_found : (names : Names) (tag : List ℕ) (comparison : Comparison) (o : Option SaidValue) (r : Option Operand) → Some r ≡ option_map (value_of_names names) o → Some (found_test comparison (named names.watches tag) r) ≡ option_map (test_of_names names) (test_from tag (Some comparison) o)
test_found names tag comparison None r h = absurd (let e : None ≡ Some r = sym h in cc e)
test_found names tag comparison (Some v) r h = let e : r ≡ value_of_names names v = cc h in ap (λ x. Some (found_test comparison (named names.watches tag) x)) e

pub test_none : (names : Names) (tag : List ℕ) (c : Option Comparison) (o : Option SaidValue) → None ≡ option_map (value_of_names names) o → None ≡ option_map (test_of_names names) (test_from tag c o)
test_none names tag None o h = refl
test_none names tag (Some c) None h = refl
test_none names tag (Some c) (Some v) h = absurd (let e : None ≡ Some (value_of_names names v) = h in cc e)

-- ---- tests and what follows

-- no word, one or two are no tests
pub short_said : (ws : List (List ℕ)) → length ws < 3 → never_said ws ≡ None
short_said [] h = refl
short_said (a ∷ []) h = refl
short_said (a ∷ b ∷ []) h = refl
short_said (a ∷ b ∷ c ∷ rest) h = absurd (omega arith)

cond_none : {A : Type 0} (a b : Bool) (x y : Option A) → x ≡ None → y ≡ None → cond a x (cond b y None) ≡ None
cond_none true b x y h k = h
cond_none false true x y h k = k
cond_none false false x y h k = refl

in_program_none : (ws : List (List ℕ)) → in_program ws None ≡ None
in_program_none [] = refl
in_program_none (p ∷ []) = refl
in_program_none (p ∷ r ∷ ws) = refl

abbrev said_after : Option SaidTest → List (List ℕ) → Option SaidNever
said_after t [] = last_test None t
said_after t (word ∷ rest) = cond (bytes_eq word (codes "and")) (before_tests t (never_said rest)) (cond (bytes_eq word (codes "at")) (in_program rest t) None)

-- what is said by the test and what follows it
said_split : (tag sign value : List ℕ) (rest : List (List ℕ)) → never_said (tag ∷ sign ∷ value ∷ rest) ≡ said_after (test_said tag sign value) rest
said_split tag sign value [] = refl
said_split tag sign value (word ∷ rest) = refl

said_none : (rest : List (List ℕ)) → said_after None rest ≡ None
said_none [] = refl
said_none (word ∷ rest) = cond_none (bytes_eq word (codes "and")) (bytes_eq word (codes "at")) (before_tests None (never_said rest)) (in_program rest None) refl (in_program_none rest)

no_test : (names : Names) (o : Option SaidTest) → None ≡ option_map (test_of_names names) o → o ≡ None
no_test names None h = refl
no_test names (Some t) h = absurd (let e : None ≡ Some (test_of_names names t) = h in cc e)

pub no_test_said : (names : Names) (ws : List (List ℕ)) (tag sign value : List ℕ) (rest : List (List ℕ)) → ws ≡ tag ∷ sign ∷ value ∷ rest → None ≡ option_map (test_of_names names) (test_said tag sign value) → never_said ws ≡ None
no_test_said names ws tag sign value rest is none =
    ap never_said is ∙ said_split tag sign value rest ∙ ap (λ o. said_after o rest) (no_test names (test_said tag sign value) none) ∙ said_none rest

-- ---- several tests

abbrev pub put : Option (List Test) → Option FoundNever → Option FoundNever
put acc None = None
put acc (Some f) = Some (record { tests = both acc f.tests; program = f.program })

both_both : (a b c : Option (List Test)) → both a (both b c) ≡ both (both a b) c
both_both None b c = none b c
  where
    none : (b c : Option (List Test)) → both None (both b c) ≡ both (both None b) c
    none None c = refl
    none (Some y) None = refl
    none (Some y) (Some z) = refl
both_both (Some x) None c = refl
both_both (Some x) (Some y) None = refl
both_both (Some x) (Some y) (Some z) = ap Some (sym (append_assoc x y z))

put_put : (a b : Option (List Test)) (f : Option FoundNever) → put a (put b f) ≡ put (both a b) f
put_put a b None = refl
put_put a b (Some f) = ap (λ ts. Some (record { tests = ts; program = f.program })) (both_both a b f.tests)

first_found : (o : Option Test) (os : List (Option Test)) → all_found (o ∷ os) ≡ both (single o) (all_found os)
first_found None os = none (all_found os)
  where
    none : (o : Option (List Test)) → None ≡ both None o
    none None = refl
    none (Some x) = refl
first_found (Some t) os = some (all_found os)
  where
    some : (o : Option (List Test)) → option_map (λ ts. t ∷ ts) o ≡ both (Some (t ∷ [])) o
    some None = refl
    some (Some x) = refl

-- the test of a word's test is this one
said_is : (names : Names) (test : Option Test) (o : Option SaidTest) → Some test ≡ option_map (test_of_names names) o → (P : Option SaidTest → Type 0) → ((s : SaidTest) → test ≡ test_of_names names s → P (Some s)) → P o
said_is names test None h P f = absurd (let e : None ≡ Some test = sym h in cc e)
said_is names test (Some s) h P f = f s (cc h)

one_alone : (t : Option Test) → both (single t) (Some []) ≡ single t
one_alone None = refl
one_alone (Some t) = refl

-- tests that end with the test
last_found : (names : Names) (program : Option (List ℕ)) (test : Option Test) (s : SaidTest) → test ≡ test_of_names names s → option_map (found names) (last_test program (Some s)) ≡ Some (record { tests = single test; program = program_of_names names program })
last_found names program test s is =
    ap (λ ts. Some (record { tests = ts; program = program_of_names names program })) (first_found (test_of_names names s) [] ∙ one_alone (test_of_names names s) ∙ ap single (sym is))

-- tests that go on after the test
next_found : (names : Names) (test : Option Test) (s : SaidTest) (n : Option SaidNever) → test ≡ test_of_names names s → option_map (found names) (before_tests (Some s) n) ≡ put (single test) (option_map (found names) n)
next_found names test s None is = refl
next_found names test s (Some n) is =
    ap (λ ts. Some (record { tests = ts; program = program_of_names names n.program })) (first_found (test_of_names names s) (map (test_of_names names) n.tests) ∙ ap (λ t. both (single t) (all_found (map (test_of_names names) n.tests))) (sym is))

program_found : (names : Names) (test : Option Test) (s : SaidTest) (ws : List (List ℕ)) → test ≡ test_of_names names s → option_map (found names) (in_program ws (Some s)) ≡ program_alone names (single test) ws
program_found names test s [] is = refl
program_found names test s (p ∷ []) is = last_found names (Some p) test s is
program_found names test s (p ∷ r ∷ ws) is = refl

-- ---- after a test

split_found : (names : Names) (ws : List (List ℕ)) (test : Option Test) (rest : List (List ℕ)) (t : IsTest names ws test rest) → never_found names ws ≡ option_map (found names) (said_after (test_said t.tag t.sign t.value) rest)
split_found names ws test rest t = ap (λ x. never_found names x) t.is ∙ ap (option_map (found names)) (said_split t.tag t.sign t.value rest)

-- nothing follows
pub alone_found : (names : Names) (ws : List (List ℕ)) (test : Option Test) (rest : List (List ℕ)) → IsTest names ws test rest → rest ≡ [] → never_found names ws ≡ Some (record { tests = single test; program = Some None })
alone_found names ws test rest t none =
    split_found names ws test rest t ∙ ap (λ x. option_map (found names) (said_after (test_said t.tag t.sign t.value) x)) none
    ∙ said_is names test (test_said t.tag t.sign t.value) t.said (λ o. option_map (found names) (last_test None o) ≡ Some (record { tests = single test; program = Some None })) (λ s is. last_found names None test s is)

abbrev choose : Bool → Bool → Option FoundNever → Option FoundNever → Option FoundNever
choose a b x y = cond a x (cond b y None)

word_follows : (names : Names) (test : Option Test) (s : SaidTest) (a b : Bool) (ws : List (List ℕ)) → test ≡ test_of_names names s → option_map (found names) (cond a (before_tests (Some s) (never_said ws)) (cond b (in_program ws (Some s)) None)) ≡ choose a b (put (single test) (never_found names ws)) (program_alone names (single test) ws)
word_follows names test s true b ws is = next_found names test s (never_said ws) is
word_follows names test s false true ws is = program_found names test s ws is
word_follows names test s false false ws is = refl

follows : (names : Names) (ws : List (List ℕ)) (test : Option Test) (rest : List (List ℕ)) (word : List ℕ) (more : List (List ℕ)) → IsTest names ws test rest → rest ≡ word ∷ more → never_found names ws ≡ choose (bytes_eq word (codes "and")) (bytes_eq word (codes "at")) (put (single test) (never_found names more)) (program_alone names (single test) more)
follows names ws test rest word more t is =
    split_found names ws test rest t ∙ ap (λ x. option_map (found names) (said_after (test_said t.tag t.sign t.value) x)) is
    ∙ said_is names test (test_said t.tag t.sign t.value) t.said
    (λ o. option_map (found names) (cond (bytes_eq word (codes "and")) (before_tests o (never_said more)) (cond (bytes_eq word (codes "at")) (in_program more o) None)) ≡ choose (bytes_eq word (codes "and")) (bytes_eq word (codes "at")) (put (single test) (never_found names more)) (program_alone names (single test) more))
    (λ s same. word_follows names test s (bytes_eq word (codes "and")) (bytes_eq word (codes "at")) more same)

-- ---- with what was read before

abbrev pub GoesOn : Names → List (List ℕ) → Option (List Test) → List (List ℕ) → Type 0
GoesOn names whole acc ws = never_found names whole ≡ put acc (never_found names ws)

pub seen_more : (tests new : List Test) (missing : Bool) (t : Test) → new ≡ tests ++ t ∷ [] → seen new missing ≡ both (seen tests missing) (single (Some t))
seen_more tests new true t is = refl
seen_more tests new false t is = ap Some is

pub seen_none : (tests : List Test) (missing : Bool) → seen tests true ≡ both (seen tests missing) (single None)
seen_none tests true = refl
seen_none tests false = refl

pub begins_found : (names : Names) (ws : List (List ℕ)) → GoesOn names ws (Some []) ws
begins_found names ws = go (never_found names ws)
  where
    nil : (o : Option (List Test)) → o ≡ both (Some []) o
    nil None = refl
    nil (Some x) = refl

    go : (o : Option FoundNever) → o ≡ put (Some []) o
    go None = refl
    go (Some f) = ap (λ ts. Some (record { tests = ts; program = f.program })) (nil f.tests)

pub ends_none : (names : Names) (whole ws : List (List ℕ)) (acc : Option (List Test)) → GoesOn names whole acc ws → never_said ws ≡ None → None ≡ never_found names whole
ends_none names whole ws acc h none = sym (h ∙ ap (λ n. put acc (option_map (found names) n)) none)

pub ends_alone : (names : Names) (whole ws : List (List ℕ)) (acc now : Option (List Test)) (test : Option Test) (rest : List (List ℕ)) → GoesOn names whole acc ws → IsTest names ws test rest → rest ≡ [] → now ≡ both acc (single test) → Some (record { tests = now; program = Some None }) ≡ never_found names whole
ends_alone names whole ws acc now test rest h t none is =
    sym (h ∙ ap (put acc) (alone_found names ws test rest t none) ∙ ap (λ ts. Some (record { tests = ts; program = Some None })) (sym is))

pub goes_on : (names : Names) (whole ws : List (List ℕ)) (acc now : Option (List Test)) (test : Option Test) (rest : List (List ℕ)) (word : List ℕ) (more : List (List ℕ)) → GoesOn names whole acc ws → IsTest names ws test rest → rest ≡ word ∷ more → bytes_eq word (codes "and") ≡ true → now ≡ both acc (single test) → GoesOn names whole now more
goes_on names whole ws acc now test rest word more h t is and same =
    h ∙ ap (put acc) (follows names ws test rest word more t is ∙ ap (λ b. choose b (bytes_eq word (codes "at")) (put (single test) (never_found names more)) (program_alone names (single test) more)) and)
    ∙ put_put acc (single test) (never_found names more) ∙ ap (λ a. put a (never_found names more)) (sym same)

put_program : (names : Names) (acc b : Option (List Test)) (ws : List (List ℕ)) → put acc (program_alone names b ws) ≡ program_alone names (both acc b) ws
put_program names acc b [] = refl
put_program names acc b (p ∷ []) = refl
put_program names acc b (p ∷ r ∷ ws) = refl

put_at : (names : Names) (acc b : Option (List Test)) (at : Bool) (ws : List (List ℕ)) → put acc (cond at (program_alone names b ws) None) ≡ cond at (program_alone names (both acc b) ws) None
put_at names acc b true ws = put_program names acc b ws
put_at names acc b false ws = refl

pub ends_program : (names : Names) (whole ws : List (List ℕ)) (acc now : Option (List Test)) (test : Option Test) (rest : List (List ℕ)) (word : List ℕ) (more : List (List ℕ)) → GoesOn names whole acc ws → IsTest names ws test rest → rest ≡ word ∷ more → bytes_eq word (codes "and") ≡ false → now ≡ both acc (single test) → ends_at names now word more ≡ never_found names whole
ends_program names whole ws acc now test rest word more h t is and same =
    sym (h ∙ ap (put acc) (follows names ws test rest word more t is ∙ ap (λ b. choose b (bytes_eq word (codes "at")) (put (single test) (never_found names more)) (program_alone names (single test) more)) and)
    ∙ put_at names acc (single test) (bytes_eq word (codes "at")) more ∙ ap (λ a. ends_at names a word more) (sym same))

-- ---- a word that was compared

pub word_differs : (word wanted seen_as : List ℕ) (r : Bool) → r ≡ not (bytes_eq word seen_as) → seen_as ≡ wanted → r ≡ true → bytes_eq word wanted ≡ false
word_differs word wanted seen_as r is same h = not-true (bytes_eq word wanted) (sym (ap (λ w. not (bytes_eq word w)) same) ∙ sym is ∙ h)

pub word_equals : (word wanted seen_as : List ℕ) (r : Bool) → r ≡ not (bytes_eq word seen_as) → seen_as ≡ wanted → r ≡ false → bytes_eq word wanted ≡ true
word_equals word wanted seen_as r is same h = not-false (bytes_eq word wanted) (sym (ap (λ w. not (bytes_eq word w)) same) ∙ sym is ∙ h)
