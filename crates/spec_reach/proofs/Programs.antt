-- Each change keeps a task at a program of its list.
use Rattle.std.proofs.Common.{◌≡◌, ℕ, zero, suc, ◌<◌, inl, inr, true, List, [], ◌∷◌, length, Some, sym, ◌∙◌, ap, subst, arith}
use Rattle.std.specs.Prelude.{nat_lt, slice_index, slice_index_or}
use Rattle.std.specs.List.{list_all}
use Rattle.std.proofs.lemmas.Bool.{and_parts, ltb-true, cases_lt}
use Rattle.std.proofs.lemmas.Option.{same_Some}
use Rattle.std.proofs.lemmas.List.{get_or_past}
use Rattle.spec_tables.specs.Tasks.{TaskState}
use Rattle.spec_tables.proofs.StateLists.{chosen_up}
use Rattle.spec_machine.specs.declared.event.Event.{Event}
use Rattle.spec_machine.specs.Machine.{step, run_from, run}
use Rattle.spec_machine.specs.Project.{Project}
use Rattle.spec_machine.specs.State.{State, Scan, Plan, programs_of, start}
use Rattle.spec_machine.specs.ValidProject.{IsValidProject, is_list_of}
use Rattle.spec_reach.specs.Programs.{TasksAreAtPrograms}
use Rattle.spec_reach.proofs.Changes.{TaskView, view_of, Change, Stays, Rotates, GoesDown, ComesUp, Restarts, Begins, Goes, Ends, changed, Makes, Known}
use Rattle.spec_reach.proofs.Reached.{IsReached, reached_start, reached_next, happens, known_at, run_known, past_view, start_view}
use Rattle.spec_reach.proofs.Sizes.{event_keeps_sizes}

-- a view at a program of this list
pub record IsAt (programs : List ℕ) (v : TaskView) : Type 0 where
  pub to_come : (u : TaskState) → v.state ≡ Some u → v.ended < length programs
  pub scanned : (scan : Scan) → v.scan ≡ Some scan → scan.program ≡ slice_index programs v.ended

at_change : (s : State) (e : Event) (t : ℕ) (c : Change) → 0 < length (programs_of s t) → Makes s e t c → IsAt (programs_of s t) (view_of s t) → IsAt (programs_of s t) (changed c (view_of s t))
at_change s e t Stays some m h = h
at_change s e t (Rotates n) some m h = let u = chosen_up s.table t m.0.chosen in record { to_come = λ v k. h.to_come u.0 u.1; scanned = h.scanned }
at_change s e t GoesDown some m h = record { to_come = λ v k. absurd (cc k); scanned = λ scan k. absurd (cc k) }
at_change s e t (ComesUp now rank) some m h = record { to_come = λ v k. some; scanned = λ scan k. absurd (cc k) }
at_change s e t (Restarts now rank) some m h = record { to_come = λ v k. some; scanned = λ scan k. absurd (cc k) }
at_change s e t (Begins scan) some m h = record { to_come = h.to_come; scanned = λ x k. (sym (ap (λ (y : Scan). y.program) (same_Some scan x k)) ∙ ap (λ (y : Scan). y.program) m.2) }
at_change s e t (Goes mark scan) some m h =
    let u = chosen_up s.table t m.0.chosen in
    record {
      to_come = λ v k. h.to_come u.0 u.1;
      scanned = λ x k. (sym (ap (λ (y : Scan). y.program) (same_Some scan x k)) ∙ (m.1.program ∙ h.scanned m.1.before m.1.was));
    }
at_change s e t Ends some m h = record { to_come = λ v k. m.1; scanned = λ scan k. absurd (cc k) }

-- ---- the lists of a valid project

list_at : (many : ℕ) (schedule : List (List ℕ)) (t : ℕ) → list_all (is_list_of many) schedule ≡ true → t < length schedule → is_list_of many (slice_index_or schedule t []) ≡ true
list_at many [] t h l = absurd (omega arith)
list_at many (x ∷ xs) zero h l = (and_parts (is_list_of many x) (list_all (is_list_of many) xs) h).0
list_at many (x ∷ xs) (suc t) h l = list_at many xs t (and_parts (is_list_of many x) (list_all (is_list_of many) xs) h).1 (omega arith)

each_below : (many : ℕ) (ns : List ℕ) (k : ℕ) → list_all (λ n. nat_lt n many) ns ≡ true → k < length ns → slice_index ns k < many
each_below many [] k h l = absurd (omega arith)
each_below many (n ∷ ns) zero h l = ltb-true n many (and_parts (nat_lt n many) (list_all (λ n. nat_lt n many) ns) h).0
each_below many (n ∷ ns) (suc k) h l = each_below many ns k (and_parts (nat_lt n many) (list_all (λ n. nat_lt n many) ns) h).1 (omega arith)

module _ (p : Project) (valid : IsValidProject p) where
  pub lists : (s : State) (t : ℕ) → Known p s → programs_of s t ≡ slice_index_or p.schedule t []
  lists s t known = ap (λ (plan : Plan). slice_index_or plan.schedule t []) known.sizes.same_plan

  good : (t : ℕ) → t < length p.tasks → is_list_of (length p.programs) (slice_index_or p.schedule t []) ≡ true
  good t l = list_at (length p.programs) p.schedule t valid.lists (let e = valid.task_lists.lists in omega arith)

  some_programs : (s : State) (t : ℕ) → Known p s → t < length p.tasks → 0 < length (programs_of s t)
  some_programs s t known l =
      let list = slice_index_or p.schedule t [] in
      subst (λ (xs : List ℕ). 0 < length xs) (sym (lists s t known)) (ltb-true 0 (length list) (and_parts (nat_lt 0 (length list)) (list_all (λ n. nat_lt n (length p.programs)) list) (good t l)).0)

  -- where there is no task there is no list
  none_known : (s : State) (t k : ℕ) → Known p s → k < length (programs_of s t) → slice_index (programs_of s t) k < length p.programs
  none_known s t k known l =
      let list = slice_index_or p.schedule t [] in
      let e = lists s t known in
      elim (cases_lt t (length p.tasks)) [
        | inl w ↦ subst (λ (xs : List ℕ). slice_index xs k < length p.programs) (sym e) (each_below (length p.programs) list k (and_parts (nat_lt 0 (length list)) (list_all (λ n. nat_lt n (length p.programs)) list) (good t w)).1 (subst (λ (xs : List ℕ). k < length xs) e l))
        | inr g ↦ (let none : programs_of s t ≡ [] = e ∙ get_or_past p.schedule t [] (let x = valid.task_lists.lists in omega arith) in absurd (let x : k < length (let ys : List ℕ = [] in ys) = subst (λ (xs : List ℕ). k < length xs) none l in omega arith))
      ]

  at_next : (s : State) (e : Event) (t : ℕ) → Known p s → t < length p.tasks → IsAt (programs_of s t) (view_of s t) → IsAt (programs_of (step s e).state t) (view_of (step s e).state t)
  at_next s e t known l h =
      let x = happens p s e t known l in
      let a = ap (λ (plan : Plan). slice_index_or plan.schedule t []) (known.sizes.same_plan ∙ sym (event_keeps_sizes p s e known.sizes).same_plan) in
      subst (λ (xs : List ℕ). IsAt xs (view_of (step s e).state t)) a (subst (IsAt (programs_of s t)) (sym x.view) (at_change s e t x.change (some_programs s t known l) x.makes h))

  at_from : (s : State) (es : List Event) (t : ℕ) → IsReached p s → t < length p.tasks → IsAt (programs_of s t) (view_of s t) → IsAt (programs_of (run_from s es) t) (view_of (run_from s es) t)
  at_from s [] t r l h = h
  at_from s (e ∷ es) t r l h = at_from (step s e).state es t (reached_next p s e r) l (at_next s e t (known_at p s r) l h)

  start_at : (t : ℕ) → IsAt (programs_of (start p) t) (view_of (start p) t)
  start_at t = subst (IsAt (programs_of (start p) t)) (sym (start_view p t)) (record { to_come = λ u k. absurd (cc k); scanned = λ scan k. absurd (cc k) })

  at_all : (s : State) (es : List Event) (t : ℕ) → IsReached p s → ((k : ℕ) → k < length p.tasks → IsAt (programs_of s k) (view_of s k)) → Known p (run_from s es) → IsAt (programs_of (run_from s es) t) (view_of (run_from s es) t)
  at_all s es t r each known =
      let x = run_from s es in
      elim (cases_lt t (length p.tasks)) [
        | inl l ↦ at_from s es t r l (each t l)
        | inr g ↦
            (let none = past_view x t (let a = known.sizes.states in omega arith) (let a = known.sizes.progresses in omega arith) in
            subst (IsAt (programs_of x t)) (sym none) (record { to_come = λ u k. absurd (cc k); scanned = λ scan k. absurd (cc k) }))
      ]

pub tasks_are_at_programs : TasksAreAtPrograms
tasks_are_at_programs p journal t valid =
    let s = run p journal in
    let known = run_known p journal in
    let h = at_all p valid (start p) journal t (reached_start p) (λ k l. start_at p valid k) known in
    record { to_come = h.to_come; scanned = h.scanned; known = λ k l. none_known p valid s t k known l }
