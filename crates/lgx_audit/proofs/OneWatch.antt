-- A step that is of one task: what is watched of the others.
use Rattle.std.proofs.Common.{◌≡◌, ℕ, ◌+◌, ◌<◌, inl, inr, Bool, true, false, List, length, Option, Some, None, refl, sym, ◌∙◌, ap, arith, eq-eqb}
use Rattle.std.specs.Prelude.{slice_index_or, nat_eq, not, ◌||◌, ◌&&◌}
use Rattle.std.proofs.lemmas.Bool.{cases_eq, ne_eqb}
use Rattle.lgx_audit.specs.declared.watch.TurnState.{TurnState}
use Rattle.spec_schedule.specs.declared.trace.Table.{Table}
use Rattle.spec_schedule.specs.declared.trace.TraceEvent.{TraceEvent}
use Rattle.spec_schedule.specs.declared.trace.TraceEvent.TheVariants.{Tick}
use Rattle.spec_schedule.specs.Counting.{Counted, uncounted, counted, counted_all, is_task, stepping, Numbers}
use Rattle.spec_schedule.specs.Legal.{no_task, is_tick}
use Rattle.lgx_audit.specs.Along.{is_for_all}
use Rattle.lgx_audit.specs.Watching.{stays, watched, watched_step}
use Rattle.spec_legal.proofs.CountedLists.{count_at}
use Rattle.lgx_audit.proofs.OneTask.{others_kept}

no_tick : (e : TraceEvent) → is_for_all e ≡ false → is_tick e ≡ false
no_tick (Tick r o w) h = absurd (cc h)
no_tick _ h = refl

module _ (table : Table) (e : TraceEvent) (cs : List Counted) (ns : List Numbers) (last : Option ℕ) (many : length cs ≡ length table.tasks) (one : is_for_all e ≡ false) where
  abbrev cs' : List Counted
  cs' = counted_all table.tasks e cs

  -- a task that doesn't step stays up
  other_stays : (t : ℕ) → t < length table.tasks → is_task t (stepping e) ≡ false → stays (slice_index_or cs t uncounted) (slice_index_or cs' t uncounted) ≡ true
  other_stays t within h =
      ap (λ (c : Counted). nat_eq (slice_index_or cs t uncounted).downs c.downs)
      (count_at 0 table.tasks e cs t many within
      ∙ (ap (λ n. counted (slice_index_or table.tasks t no_task) n e (slice_index_or cs t uncounted)) (let z : 0 + t ≡ t = omega arith in z)
      ∙ others_kept e (slice_index_or table.tasks t no_task) t (slice_index_or cs t uncounted) one h))
      ∙ eq-eqb (slice_index_or cs t uncounted).downs (slice_index_or cs t uncounted).downs refl

  pub step_watched : (t u : ℕ) (stay : Bool) (w : TurnState) → t < length table.tasks → stepping e ≡ Some u → stay ≡ stays (slice_index_or cs u uncounted) (slice_index_or cs' u uncounted) → watched_step table t (Some u) (not (nat_eq t u) || stay) w ≡ watched table (record { tasks = cs; programs = ns; event = e }) last t (slice_index_or cs' t uncounted) w
  step_watched t u stay w within steps is =
      ap (λ b. watched_step table t (Some u) b w) same
      ∙ (ap (λ o. watched_step table t o (stays (slice_index_or cs t uncounted) (slice_index_or cs' t uncounted)) w) (sym steps)
      ∙ sym (rw (no_tick e one) refl))
    where
      same : (not (nat_eq t u) || stay) ≡ stays (slice_index_or cs t uncounted) (slice_index_or cs' t uncounted)
      same = elim (cases_eq t u) [
        | inl e' ↦ rw (eq-eqb t u e') (is ∙ ap (λ n. stays (slice_index_or cs n uncounted) (slice_index_or cs' n uncounted)) (sym e'))
        | inr ne ↦ rw (ne_eqb t u ne) (sym (other_stays t within (ap (is_task t) steps ∙ ne_eqb u t (λ k. ne (sym k)))))
      ]

  pub none_watched : (t : ℕ) (w : TurnState) → t < length table.tasks → stepping e ≡ None → w ≡ watched table (record { tasks = cs; programs = ns; event = e }) last t (slice_index_or cs' t uncounted) w
  none_watched t w within steps =
      sym (plain w.stepped w.awaited)
      ∙ (ap (λ b. watched_step table t None b w) (sym (other_stays t within (ap (is_task t) steps)))
      ∙ (ap (λ o. watched_step table t o (stays (slice_index_or cs t uncounted) (slice_index_or cs' t uncounted)) w) (sym steps)
      ∙ sym (rw (no_tick e one) refl)))
    where
      and_true : (b : Bool) → (b && true) ≡ b
      and_true true = refl
      and_true false = refl

      plain : (s a : Bool) → watched_step table t None true w ≡ w
      plain s a = ap (λ b. record { stepped = b; passed = w.passed; awaited = w.awaited && true }) (and_true w.stepped) ∙ ap (λ b. record { stepped = w.stepped; passed = w.passed; awaited = b }) (and_true w.awaited)
