-- The plan of a valid project is sound, and its rungs are ready.
use Rattle.std.proofs.Common.{◌≡◌, ◌≢◌, ℕ, zero, suc, ◌+◌, ◌*◌, ◌<◌, ◌≤◌, Bool, true, false, cond, List, [], ◌∷◌, ◌++◌, length, map, Option, Some, None, inl, inr, refl, sym, ap, ◌∙◌, subst, arith}
use Rattle.std.specs.Prelude.{nat_lt, nat_le, not, ◌&&◌, ◌||◌, ◌==◌, count_by, flat_map, slice_index}
use Rattle.std.specs.List.{AllByRecursion as Each, list_all, list_any, range_with_len}
use Rattle.std.proofs.lemmas.Bool.{and_parts, ltb-true, leb-true, eqb-true, eq-eqb, cases_eq}
use Rattle.std.proofs.lemmas.List.Sums.{AllPass-from_list_all, sum_by-cons}
use Rattle.spec_base.specs.declared.limits.TheConstants.{MAX_TASKS}
use Rattle.spec_machine.specs.declared.limits.TheConstants.{MAX_PROGRAMS}
use Rattle.spec_tables.specs.declared.conn.ConnDef.{ConnDef}
use Rattle.spec_tables.specs.declared.task.TaskDef.{TaskDef}
use Rattle.spec_language.specs.declared.types.TypeDecl.{TypeDecl}
use Rattle.spec_language.specs.declared.tag.Scope.TheVariants.{Controller}
use Rattle.spec_language.specs.Declarations.{Entry, same_scope, entry_size, in_order, laid, bytes}
use Rattle.spec_language.proofs.TagsFit.{LaidWell, laid_well, ordered_sound}
use Rattle.spec_scan.specs.Executable.{AreExecutable}
use Rattle.spec_scan.specs.KnownTasks.{KnowsTasks}
use Rattle.spec_machine.specs.Project.{Project, ProgramText}
use Rattle.spec_machine.specs.Edits.{book_of}
use Rattle.spec_machine.specs.State.{plan_of}
use Rattle.spec_machine.specs.ValidProject.{IsValidProject, is_list_of, is_listed_once, is_within, is_tag_of, is_of_one_tag, has_known_trigger, is_event_task}
use Rattle.spec_machine.proofs.CheckedTasks.{checked_know_tasks}
use Rattle.spec_machine.proofs.ValidProjects.{EachProgramHas, tasks_of}
use Rattle.lgx_steps.specs.Plans.{IsKnown, IsList, EachOnce, ConnFits, IsSoundPlan, AreReady, IsReadyBook, list_at}

-- ---- tests

pub within : (n limit : ℕ) → is_within n limit ≡ true → (0 < n) × (n ≤ limit)
within n limit h = let two = and_parts (nat_lt 0 n) (nat_le n limit) h in (ltb-true _ _ two.0, leb-true _ _ two.1)

-- ---- the lists of programs

list-of : (programs : ℕ) (list : List ℕ) → is_list_of programs list ≡ true → IsList programs list
list-of programs list h =
    let two = and_parts (nat_lt 0 (length list)) (list_all (λ n. nat_lt n programs) list) h in
    record { some = ltb-true _ _ two.0; known = λ i l. ltb-true _ _ (AllPass-from_list_all (λ n. nat_lt n programs) list two.1 i 0 l) }

-- how often a number stands in the lists
abbrev count_of : ℕ → List ℕ → ℕ
count_of n xs = count_by (λ m. m == n) xs

counted : (n x : ℕ) (xs : List ℕ) → count_of n (x ∷ xs) ≡ cond (x == n) 1 0 + count_of n xs
counted n x xs = sum_by-cons (λ m. cond (m == n) 1 0) x xs

counts-one : (n x : ℕ) → x ≡ n → ◌≡◌ {A = ℕ} (cond (x == n) 1 0) 1
counts-one n x e = ap (λ (b : Bool). cond b 1 0) (eq-eqb x n e)

count-append : (n : ℕ) (xs ys : List ℕ) → count_of n (xs ++ ys) ≡ count_of n xs + count_of n ys
count-append n [] ys = omega arith
count-append n (x ∷ xs) ys = let e = count-append n xs ys in let a = counted n x (xs ++ ys) in let b = counted n x xs in omega arith

-- it stands in a list if it is one of its elements
count-there : (n : ℕ) (xs : List ℕ) (i : ℕ) → i < length xs → slice_index xs i ≡ n → 0 < count_of n xs
count-there n [] i l e = absurd (omega arith)
count-there n (x ∷ xs) zero l e = let a = counted n x xs in let one = counts-one n x e in omega arith
count-there n (x ∷ xs) (suc i) l e = let c = count-there n xs i (omega arith) e in let a = counted n x xs in omega arith

-- and twice if it is two of them
count-twice : (n : ℕ) (xs : List ℕ) (i j : ℕ) → i < length xs → j < length xs → i ≢ j → slice_index xs i ≡ n → slice_index xs j ≡ n → 1 < count_of n xs
count-twice n [] i j li lj ne ei ej = absurd (omega arith)
count-twice n (x ∷ xs) zero zero li lj ne ei ej = absurd (ne refl)
count-twice n (x ∷ xs) zero (suc j) li lj ne ei ej = let c = count-there n xs j (omega arith) ej in let a = counted n x xs in let one = counts-one n x ei in omega arith
count-twice n (x ∷ xs) (suc i) zero li lj ne ei ej = let c = count-there n xs i (omega arith) ei in let a = counted n x xs in let one = counts-one n x ej in omega arith
count-twice n (x ∷ xs) (suc i) (suc j) li lj ne ei ej = let c = count-twice n xs i j (omega arith) (omega arith) (λ e. ne (ap suc e)) ei ej in let a = counted n x xs in omega arith

abbrev all_of : List (List ℕ) → List ℕ
all_of schedule = flat_map (λ list. list) schedule

-- a number of one list is counted among all
count-in : (n : ℕ) (schedule : List (List ℕ)) (t i : ℕ) → i < length (list_at schedule t) → slice_index (list_at schedule t) i ≡ n → 0 < count_of n (all_of schedule)
count-in n [] t i l e = absurd (omega arith)
count-in n (ns ∷ rest) zero i l e = let c = count-there n ns i l e in let a = count-append n ns (all_of rest) in omega arith
count-in n (ns ∷ rest) (suc t) i l e = let c = count-in n rest t i l e in let a = count-append n ns (all_of rest) in omega arith

-- one that is counted once stands at one place alone
once-alone : (n : ℕ) (schedule : List (List ℕ)) (t u i j : ℕ) → count_of n (all_of schedule) ≡ 1 → i < length (list_at schedule t) → j < length (list_at schedule u) → slice_index (list_at schedule t) i ≡ n → slice_index (list_at schedule u) j ≡ n → (t ≡ u) × (i ≡ j)
once-alone n [] t u i j one li lj ei ej = absurd (omega arith)
once-alone n (ns ∷ rest) zero zero i j one li lj ei ej =
    elim (cases_eq i j) [
      | inl e ↦ (refl, e)
      | inr ne ↦ let c = count-twice n ns i j li lj ne ei ej in let a = count-append n ns (all_of rest) in absurd (omega arith)
    ]
once-alone n (ns ∷ rest) zero (suc u) i j one li lj ei ej =
    let c = count-there n ns i li ei in let d = count-in n rest u j lj ej in let a = count-append n ns (all_of rest) in absurd (omega arith)
once-alone n (ns ∷ rest) (suc t) zero i j one li lj ei ej =
    let c = count-there n ns j lj ej in let d = count-in n rest t i li ei in let a = count-append n ns (all_of rest) in absurd (omega arith)
once-alone n (ns ∷ rest) (suc t) (suc u) i j one li lj ei ej =
    let d = count-in n rest t i li ei in let a = count-append n ns (all_of rest) in
    let r = once-alone n rest t u i j (omega arith) li lj ei ej in
    (ap suc r.0, r.1)

-- ---- connections

abbrev any_if : Bool → Bool → Bool
any_if b rest = b || rest

any-there : (d : List TypeDecl) (len : ℕ) (c : ConnDef) (xs : List (ℕ × Entry)) → Each (LaidWell d len) xs → list_any (is_tag_of d c) xs ≡ true → c.byte + 4 * c.words ≤ len
any-there d len c [] h e = absurd (cc)
any-there d len c ((at, x) ∷ xs) h e = go (is_tag_of d c (at, x)) refl e (λ g. any-there d len c xs h.1 g)
  where
    here : is_tag_of d c (at, x) ≡ true → c.byte + 4 * c.words ≤ len
    here f =
        let two = and_parts (same_scope x.scope Controller && at == c.byte) (entry_size d x == 4 * c.words) f in
        let one = and_parts (same_scope x.scope Controller) (at == c.byte) two.0 in
        let a : at ≡ c.byte = eqb-true _ _ one.1 in
        let b : entry_size d x ≡ 4 * c.words = eqb-true _ _ two.1 in
        let l = h.0.0 in
        omega arith

    go : (b : Bool) → is_tag_of d c (at, x) ≡ b → any_if b (list_any (is_tag_of d c) xs) ≡ true → (list_any (is_tag_of d c) xs ≡ true → c.byte + 4 * c.words ≤ len) → c.byte + 4 * c.words ≤ len
    go true f g rest = here f
    go false f g rest = rest g

abbrev has_trigger : List TaskDef → Bool → Option ℕ → Bool
has_trigger tasks output o = elim o [ None ↦ true | Some t ↦ not output && is_event_task tasks t ]

known-trigger : (tasks : List TaskDef) (output : Bool) (o : Option ℕ) → has_trigger tasks output o ≡ true → IsKnown (length tasks) o
known-trigger tasks output None h = tt
known-trigger tasks output (Some t) h = let two = and_parts (not output) (is_event_task tasks t) h in ltb-true _ _ (and_parts (nat_lt t (length tasks)) _ two.1).0

conns-fit : (p : Project) (len : ℕ) (cs : List ConnDef) → Each (LaidWell p.tags.types len) (laid p.tags) → list_all (is_of_one_tag p.tags) cs ≡ true → list_all (has_known_trigger p.tasks) cs ≡ true → Each (ConnFits len (length p.tasks)) cs
conns-fit p len [] well a b = tt
conns-fit p len (c ∷ cs) well a b =
    let one = and_parts (is_of_one_tag p.tags c) (list_all (is_of_one_tag p.tags) cs) a in
    let two = and_parts (has_known_trigger p.tasks c) (list_all (has_known_trigger p.tasks) cs) b in (
      record { inside = any-there p.tags.types len c (laid p.tags) well (and_parts (nat_lt 0 c.words) (list_any (is_tag_of p.tags.types c) (laid p.tags)) one.0).1; trigger = known-trigger p.tasks c.output c.trigger two.0 },
      conns-fit p len cs well one.1 two.1,
    )

-- ---- the plan

-- what stands in a list stands in one that is there
within-lists : (schedule : List (List ℕ)) (t i : ℕ) → i < length (list_at schedule t) → t < length schedule
within-lists [] t i l = absurd (omega arith)
within-lists (ns ∷ rest) zero i l = omega arith
within-lists (ns ∷ rest) (suc t) i l = let r = within-lists rest t i l in omega arith

-- a test of all numbers below a limit is passed by each
range-at : (test : ℕ → Bool) (from many i : ℕ) → list_all test (range_with_len from many) ≡ true → i < many → test (from + i) ≡ true
range-at test from zero i h l = absurd (omega arith)
range-at test from (suc many) zero h l = let plus : from + 0 ≡ from = omega arith in subst (λ k. test k ≡ true) (sym plus) (and_parts (test from) (list_all test (range_with_len (from + 1) many)) h).0
range-at test from (suc many) (suc i) h l =
    let plus : (from + 1) + i ≡ from + suc i = omega arith in
    subst (λ k. test k ≡ true) plus (range-at test (from + 1) many i (and_parts (test from) (list_all test (range_with_len (from + 1) many)) h).1 (omega arith))

in-range : (test : ℕ → Bool) (many n : ℕ) → list_all test (range_with_len 0 many) ≡ true → n < many → test n ≡ true
in-range test many n h l = let plus : 0 + n ≡ n = omega arith in subst (λ k. test k ≡ true) plus (range-at test 0 many n h l)

module _ (p : Project) (v : IsValidProject p) where
  each-once : EachOnce p.schedule
  each-once t u i j li lj same =
      let n : ℕ = slice_index (list_at p.schedule t) i in
      let l : t < length p.schedule = within-lists p.schedule t i li in
      let known : n < length p.programs = (list-of (length p.programs) (list_at p.schedule t) (AllPass-from_list_all (is_list_of (length p.programs)) p.schedule v.lists t [] l)).known i li in
      let one : count_of n (all_of p.schedule) ≡ 1 = eqb-true _ _ (in-range (is_listed_once p.schedule) (length p.programs) n v.once known) in
      once-alone n p.schedule t u i j one li lj refl (sym same)

  pub sound-plan : IsSoundPlan (plan_of p)
  sound-plan = record {
    tags = v.tags.sound;
    few = subst (λ k. k ≤ MAX_TASKS) (sym v.task_lists.lists) (within (length p.tasks) MAX_TASKS v.limits.tasks).1;
    programs = subst (λ k. k ≤ MAX_PROGRAMS) (sym v.scopes) (within (length p.programs) MAX_PROGRAMS v.limits.programs).1;
    bytes = leb-true _ _ v.limits.image;
    names = v.task_lists.names ∙ sym v.task_lists.lists;
    lists = λ t l. subst (λ k. IsList k (list_at p.schedule t)) (sym v.scopes) (list-of (length p.programs) (list_at p.schedule t) (AllPass-from_list_all (is_list_of (length p.programs)) p.schedule v.lists t [] l));
    once = each-once;
    conns = subst (λ k. Each (ConnFits (bytes p.tags) k) p.conns) (sym v.task_lists.lists) (conns-fit p (bytes p.tags) p.conns (laid_well p.tags.types 0 (in_order p.tags) (ordered_sound p.tags v.tags.sound)) v.connections v.triggers);
  }

-- ---- rungs

books-ready : (len tasks : ℕ) (ps : List ProgramText) → EachProgramHas (AreExecutable len) ps → EachProgramHas (KnowsTasks tasks) ps → Each (IsReadyBook len tasks 0) (map book_of ps)
books-ready len tasks [] a b = tt
books-ready len tasks (q ∷ qs) a b =
    let ready : AreReady len tasks q.routines = record { executable = a.0; know = b.0 } in
    (record { base = ready; merged = ready; newest = omega arith }, books-ready len tasks qs a.1 b.1)

pub ready-books : (p : Project) → IsValidProject p → Each (IsReadyBook (bytes p.tags) (length p.schedule) 0) (map book_of p.programs)
ready-books p v = books-ready (bytes p.tags) (length p.schedule) p.programs
    (subst (λ k. EachProgramHas (AreExecutable k) p.programs) v.tags.image v.operands)
    (subst (λ k. EachProgramHas (KnowsTasks k) p.programs) (sym v.task_lists.lists) (tasks_of checked_know_tasks p v.task_lists.names v.rungs))
