-- Events that change the counts of one task alone.
use Rattle.std.proofs.Common.{◌≡◌, ℕ, ◌<◌, inl, inr, true, false, List, length, Some, None, refl, sym, ◌∙◌, ap, subst, arith, eqb-true, get_or-set_same, get_or-set_other, length-set}
use Rattle.std.specs.Prelude.{slice_index_or, slice_set, nat_eq}
use Rattle.std.specs.Int.{bit_at}
use Rattle.std.proofs.lemmas.Bool.{not-false, ne_eqb, cases_eq}
use Rattle.std.proofs.lemmas.Nat.Bits.{bit_at-zero}
use Rattle.lgx_audit.specs.declared.counts.Count.{Count}
use Rattle.spec_schedule.specs.declared.trace.AuditTask.{AuditTask}
use Rattle.spec_schedule.specs.declared.trace.TraceEvent.{TraceEvent}
use Rattle.spec_schedule.specs.declared.trace.TraceEvent.TheVariants.{Idle, Began, Step, Left, Tick, Act}
use Rattle.spec_schedule.specs.declared.trace.TraceMark.TheVariants as mark
use Rattle.spec_schedule.specs.declared.trace.StepFault.TheVariants as fault
use Rattle.spec_schedule.specs.declared.trace.Verb.TheVariants as verb
use Rattle.spec_schedule.specs.Counting.{Counted, counted, counted_all, is_task, stepping, steps_here}
use Rattle.spec_schedule.specs.Legal.{no_task}
use Rattle.lgx_audit.specs.Along.{shown, no_count, Shown, is_for_all}
use Rattle.lgx_audit.proofs.Listed.{all_shown}

no_bit : (k r : ℕ) → r ≡ 0 → nat_eq (bit_at r k) 1 ≡ false
no_bit k r e = ap (λ n. nat_eq (bit_at n k) 1) e ∙ ap (λ n. nat_eq n 1) (bit_at-zero k)

pub others_kept : (e : TraceEvent) (d : AuditTask) (k : ℕ) (c : Counted) → is_for_all e ≡ false → steps_here e k ≡ false → counted d k e c ≡ c
others_kept Idle d k c h s = refl
others_kept (Began t g v) d k c h s = rw s refl
others_kept (Left t g true) d k c h s = rw s refl
others_kept (Left t g false) d k c h s = rw s refl
others_kept (Tick r o w) d k c h s = absurd (cc h)
others_kept (Step t g m fault.Major) d k c h s = absurd (cc h)
others_kept (Step t g (mark.Trigger u) fault.Plain) d k c h s = absurd (cc h)
others_kept (Step t g (mark.Trigger u) fault.Minor) d k c h s = absurd (cc h)
others_kept (Step t g mark.Plain fault.Plain) d k c h s = rw s refl
others_kept (Step t g mark.Up fault.Plain) d k c h s = rw s refl
others_kept (Step t g mark.Down fault.Plain) d k c h s = rw s refl
others_kept (Step t g mark.Copy fault.Plain) d k c h s = rw s refl
others_kept (Step t g mark.Sync fault.Plain) d k c h s = rw s refl
others_kept (Step t g mark.CopyEnd fault.Plain) d k c h s = rw s refl
others_kept (Step t g mark.SyncEnd fault.Plain) d k c h s = rw s refl
others_kept (Step t g mark.Plain fault.Minor) d k c h s = rw s refl
others_kept (Step t g mark.Up fault.Minor) d k c h s = rw s refl
others_kept (Step t g mark.Down fault.Minor) d k c h s = rw s refl
others_kept (Step t g mark.Copy fault.Minor) d k c h s = rw s refl
others_kept (Step t g mark.Sync fault.Minor) d k c h s = rw s refl
others_kept (Step t g mark.CopyEnd fault.Minor) d k c h s = rw s refl
others_kept (Step t g mark.SyncEnd fault.Minor) d k c h s = rw s refl
others_kept (Act lane verb.Program g answer r) d k c h s = absurd (cc h)
others_kept (Act lane v g answer r) d k c h s = rw (no_bit k r (eqb-true r 0 (not-false _ h))) refl

-- nobody steps
pub none_changed : (ds : List AuditTask) (e : TraceEvent) (counts : List Count) (cs : List Counted) → length counts ≡ length ds → is_for_all e ≡ false → stepping e ≡ None → Shown counts cs → Shown counts (counted_all ds e cs)
none_changed ds e counts cs many h s shows =
    all_shown ds e counts counts cs many refl shows (λ k within x is. is ∙ ap shown (sym (others_kept e (slice_index_or ds k no_task) k x h (ap (is_task k) s))))

-- task t steps
pub one_changed : (ds : List AuditTask) (e : TraceEvent) (counts : List Count) (c : Count) (cs : List Counted) (t : ℕ) → length counts ≡ length ds → t < length ds → is_for_all e ≡ false → stepping e ≡ Some t → ((x : Counted) → slice_index_or counts t no_count ≡ shown x → c ≡ shown (counted (slice_index_or ds t no_task) t e x)) → Shown counts cs → Shown (slice_set counts t c) (counted_all ds e cs)
one_changed ds e counts c cs t many within h s made shows =
    all_shown ds e counts (slice_set counts t c) cs many (length-set counts t c) shows (λ k below x is. elim (cases_eq k t) [
      | inl same ↦ subst (λ n. slice_index_or counts n no_count ≡ shown x → slice_index_or (slice_set counts t c) n no_count ≡ shown (counted (slice_index_or ds n no_task) n e x)) (sym same)
          (λ is'. get_or-set_same counts t c no_count (omega arith) ∙ made x is') is
      | inr other ↦ get_or-set_other counts t k c no_count other ∙ (is ∙ ap shown (sym (others_kept e (slice_index_or ds k no_task) k x h (ap (is_task k) s ∙ ne_eqb t k (λ q. other (sym q))))))
    ])
