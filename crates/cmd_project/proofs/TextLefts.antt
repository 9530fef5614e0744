-- What is left of a text as its lines are handed out.
use Rattle.std.proofs.Common.{◌≡◌, ℕ, ◌+◌, ◌-◌, ◌<◌, ◌≤◌, zero, suc, List, [], ◌∷◌, ◌++◌, length, map, drop, get_or}
use Rattle.std.proofs.Common.{refl, sym, ap, ◌∙◌, append_assoc, arith, length-append}
use Rattle.std.specs.Prelude.{flat_map}
use Rattle.std.proofs.lemmas.List.{drop_more, drop_all, drop-map}
use Rattle.lgx_rung.specs.Tree.{Source}
use Rattle.spec_machine.specs.Project.{Project, ProgramText, RoutineText}
use Rattle.cmd_project.specs.TextPlan.{rung_line, rung_lines, routine_head, routine_lines, program_lines, text_lines}
use Rattle.cmd_project.specs.TextLeft.{first_left, routine_left, program_left, programs_left}

-- a line that ends with a line feed has a byte
pub line_has_byte : (line xs : List ℕ) → line ≡ xs ++ 10 ∷ [] → 0 < length line
line_has_byte line xs is = let size = ap (λ l. length l) is ∙ length-append xs (10 ∷ []) in omega (arith, size)

-- ---- items, one after another

drop_head : {A B : Type 0} (f : A → B) (xs : List A) (i : ℕ) (x : A) → i < length xs → x ≡ get_or xs i x → drop i (map f xs) ≡ f x ∷ drop (i + 1) (map f xs)
drop_head f xs i x within is =
    drop-map f i xs
    ∙ ap (map f) (drop_more xs i x within)
    ∙ ap (λ y. f y ∷ map f (drop (i + 1) xs)) (sym is)
    ∙ ap (λ ys. f x ∷ ys) (sym (drop-map f (i + 1) xs))

-- where of each item all is left, all is left
all_of_first : {B : Type 0} (start whole : B → List ℕ) → ((y : B) → start y ≡ whole y) → (ys : List B) → first_left start whole ys ≡ flat_map whole ys
all_of_first start whole is [] = refl
all_of_first start whole is (y ∷ ys) = ap (λ t. t ++ flat_map whole ys) (is y)

-- a line of an item
pub line_of_first : {A B : Type 0} (f : A → B) (part next whole : B → List ℕ) (xs : List A) (i : ℕ) (x : A) (line : List ℕ)
    → i < length xs → x ≡ get_or xs i x → part (f x) ≡ line ++ next (f x)
    → first_left part whole (drop i (map f xs)) ≡ line ++ first_left next whole (drop i (map f xs))
line_of_first f part next whole xs i x line within is more =
    let head = drop_head f xs i x within is in
    let rest = flat_map whole (drop (i + 1) (map f xs)) in
    ap (first_left part whole) head
    ∙ ap (λ t. t ++ rest) more
    ∙ append_assoc line (next (f x)) rest
    ∙ ap (λ t. line ++ t) (sym (ap (first_left next whole) head))

-- nothing is left of an item
pub none_of_first : {A B : Type 0} (f : A → B) (part start whole : B → List ℕ) (xs : List A) (i : ℕ) (x : A)
    → i < length xs → x ≡ get_or xs i x → part (f x) ≡ [] → ((y : B) → start y ≡ whole y)
    → first_left part whole (drop i (map f xs)) ≡ first_left start whole (drop (i + 1) (map f xs))
none_of_first f part start whole xs i x within is none starts =
    let rest = drop (i + 1) (map f xs) in
    ap (first_left part whole) (drop_head f xs i x within is)
    ∙ ap (λ t. t ++ flat_map whole rest) none
    ∙ sym (all_of_first start whole starts rest)

-- past the items
pub past_all : {A B : Type 0} (f : A → B) (part whole : B → List ℕ) (xs : List A) (i : ℕ) → length xs ≤ i → first_left part whole (drop i (map f xs)) ≡ []
past_all f part whole xs i past =
    ap (first_left part whole) (drop-map f i xs ∙ ap (map f) (drop_all i xs past))

-- ---- a routine

pub head_of_routine : (program : List ℕ) (r : RoutineText) (n : ℕ) → n ≡ 0 → routine_left program n r ≡ routine_head program r.name ++ routine_left program 1 r
head_of_routine program r n is = ap (λ m. routine_left program m r) is

pub rung_of_routine : (program : List ℕ) (r : RoutineText) (n : ℕ) (x : Source)
    → 0 < n → n ≤ length r.source → x ≡ get_or r.source (n - 1) x
    → routine_left program n r ≡ rung_line x ++ routine_left program (n + 1) r
rung_of_routine program r zero x some within is = absurd (omega (arith, some))
rung_of_routine program r (suc k) x some within is =
    let less : suc k - 1 ≡ k = omega arith in
    let more : k + 1 ≡ suc k = omega arith in
    let next : suc (suc k) ≡ suc k + 1 = omega arith in
    let inside : k < length r.source = omega (arith, within) in
    let here : x ≡ get_or r.source k x = is ∙ ap (λ m. get_or r.source m x) less in
    ap rung_lines (drop_more r.source k x inside)
    ∙ ap (λ y. rung_line y ++ rung_lines (drop (k + 1) r.source)) (sym here)
    ∙ ap (λ m. rung_line x ++ rung_lines (drop m r.source)) more
    ∙ ap (λ m. rung_line x ++ routine_left program m r) next

pub past_routine : (program : List ℕ) (r : RoutineText) (n : ℕ) → length r.source < n → routine_left program n r ≡ []
past_routine program r zero past = absurd (omega (arith, past))
past_routine program r (suc k) past =
    let beyond : length r.source ≤ k = omega (arith, past) in
    ap rung_lines (drop_all k r.source beyond)

-- ---- the start

pub program_start : (q : ProgramText) → program_left (record { routine = 0; line = 0 }) q ≡ program_lines q
program_start q = all_of_first (routine_left q.name 0) (routine_lines q.name) (λ r. refl) q.routines

pub all_left : (p : Project) → programs_left p.programs 0 (record { routine = 0; line = 0 }) ≡ text_lines p
unfolding text_lines
all_left p = all_of_first (program_left (record { routine = 0; line = 0 })) program_lines program_start p.programs
