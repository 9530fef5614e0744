-- A table of tasks is orderly if tasks are up in Run alone, none of them is inhibited, their ranks differ and are below
-- the next one, and at most one has something open. What keeps it so.
use Rattle.std.proofs.Common.{◌≡◌, ℕ, ◌+◌, ◌<◌, Bool, true, false, cond, Option, Some, None, inl, inr, refl, sym, ◌∙◌, ap, subst, arith}
use Rattle.std.specs.Prelude.{unwrap_or, slice_set, if◌then◌else◌}
use Rattle.std.proofs.lemmas.Bool.{cond_both}
use Rattle.std.specs.List.{position_from}
use Rattle.spec_machine.specs.declared.reply.Mode.{Mode}
use Rattle.spec_machine.specs.declared.reply.Mode.TheVariants.{Run}
use Rattle.spec_tables.specs.declared.task.Release.{Release}
use Rattle.spec_tables.specs.declared.task.Release.TheVariants.{Released, Overlap, Inhibited}
use Rattle.spec_tables.specs.Tasks.{TaskState, Table, state_of, task, is_up, is_open, chosen, is_continuous, put_up, put_up_if, release_answer, release, release_some, stop, start, finish, with_region_count, set_region, with_cps_open, set_copy, with_rank, to_back, unless_open, rotate}
use Rattle.spec_tables.proofs.StateLists.{after_set, none_up, chosen_up, chosen_open}

pub record Orderly (m : Mode) (s : Table) : Type 0 where
  pub in_run : (t : ℕ) (u : TaskState) → state_of s t ≡ Some u → m ≡ Run
  pub allowed : (t : ℕ) (u : TaskState) → state_of s t ≡ Some u → (task s t).inhibited ≡ false
  pub below : (t : ℕ) (u : TaskState) → state_of s t ≡ Some u → u.rank < s.next
  pub differ : (t q : ℕ) (u v : TaskState) → state_of s t ≡ Some u → state_of s q ≡ Some v → u.rank ≡ v.rank → t ≡ q
  pub alone : (t q : ℕ) (u v : TaskState) → state_of s t ≡ Some u → state_of s q ≡ Some v → is_open (Some u) ≡ true → is_open (Some v) ≡ true → t ≡ q

-- the chosen task is the one that has something open
pub only_chosen : (m : Mode) (s : Table) (t q : ℕ) (v : TaskState) → Orderly m s → chosen s ≡ Some t → state_of s q ≡ Some v → is_open (Some v) ≡ true → q ≡ t
only_chosen m s t q v h c g o = let p = chosen_open s t q v c g o in h.alone q t v p.0 g p.1 o p.2

pub chosen_in_run : (m : Mode) (s : Table) (t : ℕ) → Orderly m s → chosen s ≡ Some t → m ≡ Run
chosen_in_run m s t h c = let p = chosen_up s t c in h.in_run t p.0 p.1

-- ---- all down

pub down_orderly : (m : Mode) (s : Table) → ((t : ℕ) (u : TaskState) → state_of s t ≡ Some u → ⊥) → Orderly m s
down_orderly m s none = record { in_run = λ t u g. absurd (none t u g); allowed = λ t u g. absurd (none t u g); below = λ t u g. absurd (none t u g); differ = λ t q u v g k e. absurd (none t u g); alone = λ t q u v g k o p. absurd (none t u g) }

pub stop_orderly : (m : Mode) (s : Table) → Orderly m (stop s)
stop_orderly m s = down_orderly m (stop s) (none_up s.states)

-- ---- a change of the chosen task's state that keeps its rank

-- the state x has the rank of the state that task t has
abbrev SameRank : Table → ℕ → Option TaskState → Type 0
SameRank s t x = (v : TaskState) → x ≡ Some v → (u : TaskState) × (state_of s t ≡ Some u) × (u.rank ≡ v.rank)

abbrev with_state : ℕ → Option TaskState → Table → Table
with_state t x s = record s { states = slice_set s.states t x }

-- each state afterwards has the rank of the same task's state before
from_before : (s : Table) (t : ℕ) (x : Option TaskState) → SameRank s t x → (q : ℕ) (v : TaskState) → state_of (with_state t x s) q ≡ Some v → (u : TaskState) × (state_of s q ≡ Some u) × (u.rank ≡ v.rank)
from_before s t x same q v g =
    elim (after_set s.states t q x v g) [
      | inl p ↦ (let r = same v p.1 in (r.0, subst (λ n. state_of s n ≡ Some r.0) (sym p.0) r.1, r.2))
      | inr p ↦ (v, p, refl)
    ]

-- what has something open afterwards is task t
open_after : (m : Mode) (s : Table) (t : ℕ) (x : Option TaskState) → Orderly m s → chosen s ≡ Some t → (q : ℕ) (v : TaskState) → state_of (with_state t x s) q ≡ Some v → is_open (Some v) ≡ true → q ≡ t
open_after m s t x h c q v g o =
    elim (after_set s.states t q x v g) [ inl p ↦ p.0 | inr p ↦ only_chosen m s t q v h c p o ]

pub state_orderly : (m : Mode) (s : Table) (t : ℕ) (x : Option TaskState) → Orderly m s → chosen s ≡ Some t → SameRank s t x → Orderly m (with_state t x s)
state_orderly m s t x h c same = record {
  in_run = λ q v g. (let r = from_before s t x same q v g in h.in_run q r.0 r.1);
  allowed = λ q v g. (let r = from_before s t x same q v g in h.allowed q r.0 r.1);
  below = λ q v g. (let r = from_before s t x same q v g in subst (λ n. n < s.next) r.2 (h.below q r.0 r.1));
  differ = λ q k v w g g' e. (let r = from_before s t x same q v g in let r' = from_before s t x same k w g' in h.differ q k r.0 r'.0 r.1 r'.1 (r.2 ∙ e ∙ sym r'.2));
  alone = λ q k v w g g' o o'. open_after m s t x h c q v g o ∙ sym (open_after m s t x h c k w g' o');
}

region_keeps : (n : ℕ) (o : Option TaskState) (v : TaskState) → with_region_count n o ≡ Some v → (u : TaskState) × (o ≡ Some u) × (u.rank ≡ v.rank)
region_keeps n None v h = absurd (cc h)
region_keeps n (Some u) v h = (u, refl, ap (λ o. (unwrap_or o u).rank) h)

copies_keep : (b : Bool) (o : Option TaskState) (v : TaskState) → with_cps_open b o ≡ Some v → (u : TaskState) × (o ≡ Some u) × (u.rank ≡ v.rank)
copies_keep b None v h = absurd (cc h)
copies_keep b (Some u) v h = (u, refl, ap (λ o. (unwrap_or o u).rank) h)

pub region_orderly : (m : Mode) (s : Table) (t n : ℕ) → Orderly m s → chosen s ≡ Some t → Orderly m (set_region t n s)
region_orderly m s t n h c = state_orderly m s t (with_region_count n (state_of s t)) h c (region_keeps n (state_of s t))

pub copy_orderly : (m : Mode) (s : Table) (t : ℕ) (b : Bool) → Orderly m s → chosen s ≡ Some t → Orderly m (set_copy t b s)
copy_orderly m s t b h c = state_orderly m s t (with_cps_open b (state_of s t)) h c (copies_keep b (state_of s t))

-- ---- a state with the next rank

-- the state x, of a task that isn't inhibited, has the next rank, and is open only if a state of task t is
pub record IsNext (s : Table) (t : ℕ) (x : Option TaskState) : Type 0 where
  pub allowed : (v : TaskState) → x ≡ Some v → (task s t).inhibited ≡ false
  pub rank : (v : TaskState) → x ≡ Some v → v.rank ≡ s.next
  pub opens : (v : TaskState) → x ≡ Some v → is_open (Some v) ≡ true → (u : TaskState) × (state_of s t ≡ Some u) × (is_open (Some u) ≡ true)

abbrev with_next : ℕ → Option TaskState → Table → Table
with_next t x s = record s { states = slice_set s.states t x; next = s.next + 1 }

next_allowed : (m : Mode) (s : Table) (t : ℕ) (x : Option TaskState) → Orderly m s → IsNext s t x → (q : ℕ) (v : TaskState) → state_of (with_next t x s) q ≡ Some v → (task s q).inhibited ≡ false
next_allowed m s t x h n q v g =
    elim (after_set s.states t q x v g) [
      | inl p ↦ subst (λ k. (task s k).inhibited ≡ false) (sym p.0) (n.allowed v p.1)
      | inr p ↦ h.allowed q v p
    ]

next_below : (m : Mode) (s : Table) (t : ℕ) (x : Option TaskState) → Orderly m s → IsNext s t x → (q : ℕ) (v : TaskState) → state_of (with_next t x s) q ≡ Some v → v.rank < s.next + 1
next_below m s t x h n q v g =
    elim (after_set s.states t q x v g) [
      | inl p ↦ (let e = n.rank v p.1 in omega arith)
      | inr p ↦ (let e = h.below q v p in omega arith)
    ]

next_differ : (m : Mode) (s : Table) (t : ℕ) (x : Option TaskState) → Orderly m s → IsNext s t x → (q k : ℕ) (v w : TaskState) → state_of (with_next t x s) q ≡ Some v → state_of (with_next t x s) k ≡ Some w → v.rank ≡ w.rank → q ≡ k
next_differ m s t x h n q k v w g g' e =
    elim (after_set s.states t q x v g) [
      | inl p ↦ elim (after_set s.states t k x w g') [
        | inl p' ↦ p.0 ∙ sym p'.0
        | inr p' ↦ (let a = n.rank v p.1 in let b = h.below k w p' in absurd (omega arith))
      ]
      | inr p ↦ elim (after_set s.states t k x w g') [
        | inl p' ↦ (let a = n.rank w p'.1 in let b = h.below q v p in absurd (omega arith))
        | inr p' ↦ h.differ q k v w p p' e
      ]
    ]

-- what is open afterwards was open before
next_open : (s : Table) (t : ℕ) (x : Option TaskState) → IsNext s t x → (q : ℕ) (v : TaskState) → state_of (with_next t x s) q ≡ Some v → is_open (Some v) ≡ true → (u : TaskState) × (state_of s q ≡ Some u) × (is_open (Some u) ≡ true)
next_open s t x n q v g o =
    elim (after_set s.states t q x v g) [
      | inl p ↦ (let r = n.opens v p.1 o in (r.0, subst (λ k. state_of s k ≡ Some r.0) (sym p.0) r.1, r.2))
      | inr p ↦ (v, p, o)
    ]

pub next_orderly : (s : Table) (t : ℕ) (x : Option TaskState) → Orderly Run s → IsNext s t x → Orderly Run (with_next t x s)
next_orderly s t x h n = record {
  in_run = λ q v g. refl;
  allowed = next_allowed Run s t x h n;
  below = next_below Run s t x h n;
  differ = next_differ Run s t x h n;
  alone = λ q k v w g g' o o'. (let r = next_open s t x n q v g o in let r' = next_open s t x n k w g' o' in h.alone q k r.0 r'.0 r.1 r'.1 r.2 r'.2);
}

new_state : (s : Table) (t now : ℕ) → (task s t).inhibited ≡ false → IsNext s t (Some (record { start = now; rank = s.next; region_count = 0; cps_open = false }))
new_state s t now free = record {
  allowed = λ v e. free;
  rank = λ v e. sym (ap (λ o. (unwrap_or o v).rank) e);
  opens = λ v e o. absurd (let f : false ≡ true → ⊥ = λ p. cc in f (ap is_open e ∙ o));
}

pub put_up_orderly : (s : Table) (t now : ℕ) → (task s t).inhibited ≡ false → Orderly Run s → Orderly Run (put_up t now s)
put_up_orderly s t now free h = next_orderly s t _ h (new_state s t now free)

-- what is released isn't inhibited
pub released_free : (s : Table) (t : ℕ) → release_answer s t ≡ Released → (task s t).inhibited ≡ false
released_free s t e = go (task s t).inhibited e
  where
    go : (b : Bool) → (if b then Inhibited else (if is_up s t then Overlap else Released)) ≡ Released → b ≡ false
    go true e = absurd (cc e)
    go false e = refl

pub release_orderly : (s : Table) (t now : ℕ) → Orderly Run s → Orderly Run (release t now s)
release_orderly s t now h = go (release_answer s t) refl
  where
    go : (a : Release) → release_answer s t ≡ a → Orderly Run (put_up_if a t now s)
    go Released e = put_up_orderly s t now (released_free s t e) h
    go Overlap e = h
    go Inhibited e = h

release_some_orderly : (s : Table) (o : Option ℕ) (now : ℕ) → Orderly Run s → Orderly Run (release_some o now s)
release_some_orderly s None now h = h
release_some_orderly s (Some t) now h = release_orderly s t now h

pub start_orderly : (s : Table) (now : ℕ) → Orderly Run (start now s)
start_orderly s now = release_some_orderly (record (stop s) { run_since = now }) (position_from (λ d. is_continuous d.kind) 0 s.defs) now (down_orderly Run (record (stop s) { run_since = now }) (none_up s.states))

pub finish_orderly : (s : Table) (t now : ℕ) → Orderly Run s → chosen s ≡ Some t → Orderly Run (finish t now s)
finish_orderly s t now h c =
    release_some_orderly (with_state t None s) (cond (is_continuous (task s t).kind) (Some t) None) now (state_orderly Run s t None h c (λ v e. absurd (cc e)))

rank_next : (s : Table) (t : ℕ) (o : Option TaskState) → Orderly Run s → state_of s t ≡ o → IsNext s t (with_rank s.next o)
rank_next s t None h g = record { allowed = λ v e. absurd (cc e); rank = λ v e. absurd (cc e); opens = λ v e o. absurd (cc e) }
rank_next s t (Some u) h g = record { allowed = λ v e. h.allowed t u g; rank = λ v e. sym (ap (λ o. (unwrap_or o v).rank) e); opens = λ v e o. (u, g, ap is_open e ∙ o) }

unless_open_orderly : (s : Table) (o : Option ℕ) → Orderly Run s → Orderly Run (unless_open o s)
unless_open_orderly s None h = h
unless_open_orderly s (Some t) h = cond_both (is_open (state_of s t)) s (to_back t s) (Orderly Run) (λ q. h) (λ q. next_orderly s t (with_rank s.next (state_of s t)) h (rank_next s t (state_of s t) h refl))

pub rotate_orderly : (s : Table) → Orderly Run s → Orderly Run (rotate s)
rotate_orderly s h = unless_open_orderly s (chosen s) h
