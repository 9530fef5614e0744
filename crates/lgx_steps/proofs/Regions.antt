-- Region counts are at most the number of events, whatever a step does to the table of tasks.
use Rattle.std.proofs.Common.{◌≡◌, ℕ, ◌+◌, ◌-◌, ◌<◌, ◌≤◌, zero, suc, Bool, true, false, List, [], ◌∷◌, get_or, map, Option, Some, None, option_map, refl, sym, subst, arith, if◌then◌else◌}
use Rattle.std.specs.List.{AllByRecursion as Each}
use Rattle.spec_base.proofs.Lists.{each_map}
use Rattle.spec_base.specs.declared.limits.TheConstants.{MAX_EVENTS}
use Rattle.spec_tables.specs.declared.task.Release.{Release}
use Rattle.spec_tables.specs.declared.task.Release.TheVariants.{Released, Overlap, Inhibited}
use Rattle.spec_tables.specs.Tasks.{TaskState, Table, state_of, region_count, is_open, with_region_count, with_cps_open, with_rank, put_up, put_up_if, release_answer, release, release_some, continuous_task, if_continuous, stop, start, finish, set_region, region_up, region_down, set_copy, chosen, to_back, unless_open, rotate}
use Rattle.lgx_sched.specs.TableView.{TableView, up_of, region_count_of}
use Rattle.lgx_sched.specs.Represents.{RepresentsTable, without_rank}
use Rattle.lgx_sched.specs.declared.active.ActiveTask.{ActiveTask}
use Rattle.lgx_edit.proofs.Elements.{each-set, each-get_or}
use Rattle.lgx_steps.proofs.Elements.{each-of_map}

-- a state with so many open regions at most
abbrev pub IsAtMost : ℕ → Option TaskState → Type 0
IsAtMost n u = region_count u ≤ n

abbrev pub AreAtMost : ℕ → Table → Type 0
AreAtMost n T = Each (IsAtMost n) T.states

pub at_most-more : (n : ℕ) (us : List (Option TaskState)) → Each (IsAtMost n) us → Each (IsAtMost (n + 1)) us
at_most-more n us h = each_map (IsAtMost n) (IsAtMost (n + 1)) us (λ u l. omega arith) h

at-state : (n : ℕ) (T : Table) (t : ℕ) → AreAtMost n T → IsAtMost n (state_of T t)
at-state n T t h = each-get_or (IsAtMost n) T.states t None h (omega arith)

-- ---- one state changed

counted : (n m : ℕ) (o : Option TaskState) → m ≤ n → IsAtMost n (with_region_count m o)
counted n m None l = omega arith
counted n m (Some u) l = l

pub at_most-region : (n m : ℕ) (T : Table) (t : ℕ) → AreAtMost n T → m ≤ n → AreAtMost n (set_region t m T)
at_most-region n m T t h l = each-set (IsAtMost n) T.states t (with_region_count m (state_of T t)) h (counted n m (state_of T t) l)

pub at_most-up : (n : ℕ) (T : Table) (t : ℕ) → AreAtMost n T → AreAtMost (n + 1) (region_up t T)
at_most-up n T t h = let a = at-state n T t h in at_most-region (n + 1) (region_count (state_of T t) + 1) T t (at_most-more n T.states h) (omega arith)

pub at_most-down : (n : ℕ) (T : Table) (t : ℕ) → AreAtMost n T → AreAtMost n (region_down t T)
at_most-down n T t h = let a = at-state n T t h in at_most-region n (region_count (state_of T t) - 1) T t h (omega arith)

copying : (n : ℕ) (b : Bool) (o : Option TaskState) → IsAtMost n o → IsAtMost n (with_cps_open b o)
copying n b None l = l
copying n b (Some u) l = l

pub at_most-copy : (n : ℕ) (T : Table) (t : ℕ) (b : Bool) → AreAtMost n T → AreAtMost n (set_copy t b T)
at_most-copy n T t b h = each-set (IsAtMost n) T.states t (with_cps_open b (state_of T t)) h (copying n b (state_of T t) (at-state n T t h))

ranked : (n m : ℕ) (o : Option TaskState) → IsAtMost n o → IsAtMost n (with_rank m o)
ranked n m None l = l
ranked n m (Some u) l = l

-- ---- up and down

pub at_most-put_up : (n : ℕ) (T : Table) (t now : ℕ) → AreAtMost n T → AreAtMost n (put_up t now T)
at_most-put_up n T t now h = each-set (IsAtMost n) T.states t _ h (omega arith)

at_most-by_answer : (n : ℕ) (T : Table) (a : Release) (t now : ℕ) → AreAtMost n T → AreAtMost n (put_up_if a t now T)
at_most-by_answer n T Released t now h = at_most-put_up n T t now h
at_most-by_answer n T Overlap t now h = h
at_most-by_answer n T Inhibited t now h = h

pub at_most-release : (n : ℕ) (T : Table) (t now : ℕ) → AreAtMost n T → AreAtMost n (release t now T)
at_most-release n T t now h = at_most-by_answer n T (release_answer T t) t now h

at_most-release_some : (n : ℕ) (T : Table) (o : Option ℕ) (now : ℕ) → AreAtMost n T → AreAtMost n (release_some o now T)
at_most-release_some n T None now h = h
at_most-release_some n T (Some t) now h = at_most-release n T t now h

pub at_most-stop : (n : ℕ) (T : Table) → AreAtMost n (stop T)
at_most-stop n T = each-of_map (IsAtMost n) (λ u. None) T.states (λ u. omega arith)

pub at_most-start : (n : ℕ) (T : Table) (now : ℕ) → AreAtMost n (start now T)
at_most-start n T now = at_most-release_some n (record (stop T) { run_since = now }) (continuous_task T) now (at_most-stop n T)

pub at_most-finish : (n : ℕ) (T : Table) (t now : ℕ) → AreAtMost n T → AreAtMost n (finish t now T)
at_most-finish n T t now h = at_most-release_some n _ (if_continuous T t) now (each-set (IsAtMost n) T.states t None h (omega arith))

-- ---- the tick

pub at_most-rotate : (n : ℕ) (T : Table) → AreAtMost n T → AreAtMost n (rotate T)
at_most-rotate n T h = go (chosen T)
  where
    back : (t : ℕ) → AreAtMost n (to_back t T)
    back t = each-set (IsAtMost n) T.states t (with_rank T.next (state_of T t)) h (ranked n T.next (state_of T t) (at-state n T t h))

    unless : (t : ℕ) (b : Bool) → AreAtMost n (if b then T else to_back t T)
    unless t true = h
    unless t false = back t

    go : (o : Option ℕ) → AreAtMost n (unless_open o T)
    go None = h
    go (Some t) = unless t (is_open (state_of T t))

-- ---- room for another region

same-count : (w : TableView) (T : Table) (t : ℕ) → RepresentsTable w T → region_count_of (up_of w t) ≡ region_count (state_of T t)
same-count w T t h = subst (λ (us : List (Option ActiveTask)). region_count_of (get_or us t None) ≡ region_count (state_of T t)) (sym h.ups) (go T.states t)
  where
    go : (us : List (Option TaskState)) (i : ℕ) → region_count_of (get_or (map (option_map without_rank) us) i None) ≡ region_count (get_or us i None)
    go [] i = refl
    go (None ∷ us) zero = refl
    go (Some u ∷ us) zero = refl
    go (u ∷ us) (suc i) = go us i

pub region-room : (w : TableView) (T : Table) (t n : ℕ) → RepresentsTable w T → AreAtMost n T → n ≤ MAX_EVENTS → region_count_of (up_of w t) + 1 < 4294967296
region-room w T t n h most room = let a = at-state n T t most in let e = same-count w T t h in omega arith
