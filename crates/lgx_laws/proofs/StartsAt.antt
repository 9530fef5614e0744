-- The masks of the law of starts by what is kept.
use Rattle.std.proofs.Common.{◌≡◌, ℕ, zero, suc, ◌+◌, ◌^◌, ◌<◌, ◌≤◌, inl, inr, Bool, true, false, List, length, refl, sym, ◌∙◌, ap, arith}
use Rattle.std.specs.Prelude.{not, ◌&&◌, nat_eq, slice_index_or}
use Rattle.std.specs.List.{list_any, range_with_len}
use Rattle.std.proofs.lemmas.Bool.{or_from, or_left, or_right, cases_eq}
use Rattle.spec_tables.specs.declared.task.TaskDef.{TaskDef}
use Rattle.spec_tables.specs.declared.task.TaskKind.{TaskKind}
use Rattle.spec_tables.specs.Tasks.{no_task}
use Rattle.spec_machine.specs.ValidProject.{is_event}
use Rattle.spec_schedule.specs.declared.trace.TraceEvent.{TraceEvent}
use Rattle.spec_schedule.specs.Counting.{Counted, CountedEvent, Numbers}
use Rattle.spec_laws.specs.TickReleases.{mask_below}
use Rattle.lgx_audit.specs.declared.counts.Count.{Count}
use Rattle.lgx_audit.specs.Along.{no_count, Shown}
use Rattle.lgx_laws.specs.Starts.{may_come_up, is_event_mask}
use Rattle.lgx_laws.proofs.Masks.{mask_same}
use Rattle.lgx_laws.proofs.ScansAt.{any_default}

pub any_in_range : (test : ℕ → Bool) (i n t : ℕ) → i ≤ t → t < i + n → test t ≡ true → list_any test (range_with_len i n) ≡ true
any_in_range test i zero t a b h = absurd (omega arith)
any_in_range test i (suc n) t a b h =
    elim (cases_eq i t) [
      | inl e ↦ or_left (test i) _ (ap test e ∙ h)
      | inr ne ↦ or_right (test i) _ (any_in_range test (i + 1) n t (omega arith) (omega arith) h)
    ]

none_in_range : (test : ℕ → Bool) (i n : ℕ) → ((t : ℕ) → i ≤ t → t < i + n → test t ≡ false) → list_any test (range_with_len i n) ≡ false
none_in_range test i zero h = refl
none_in_range test i (suc n) h = or_from (test i) _ (h i (omega arith) (omega arith)) (none_in_range test (i + 1) n (λ t a b. h t (omega arith) (omega arith)))

module _ (kind : TaskKind → Bool) (tasks : List TaskDef) (counts : List Count) where
  -- a task comes up that is down, isn't inhibited, and is of this kind
  abbrev pub comes : ℕ → Bool
  comes t = (kind (slice_index_or tasks t no_task).kind && not (slice_index_or tasks t no_task).inhibited) && not (slice_index_or counts t no_count).up

  pub comes_at : (d : TaskDef) (t : ℕ) (b : Bool) → t < length tasks → b ≡ ((kind (slice_index_or tasks t d).kind && not (slice_index_or tasks t d).inhibited) && not (slice_index_or counts t no_count).up) → b ≡ comes t
  comes_at d t b l is = is ∙ ap (λ (k : TaskDef). (kind k.kind && not k.inhibited) && not (slice_index_or counts t no_count).up) (any_default tasks t d no_task l)

  module _ (cs : List Counted) (ns : List Numbers) (e : TraceEvent) (shown : Shown counts cs) (many : length counts ≡ length tasks) where
    abbrev here : CountedEvent
    here = record { tasks = cs; programs = ns; event = e }

    comes_shown : (t : ℕ) → t < length tasks → comes t ≡ may_come_up kind tasks here t
    comes_shown t l =
        ap (λ (c : Count). (kind (slice_index_or tasks t no_task).kind && not (slice_index_or tasks t no_task).inhibited) && not c.up) (shown.each t (let m = shown.many in omega arith))

    pub same_mask : mask_below comes (length tasks) ≡ mask_below (may_come_up kind tasks here) (length tasks)
    same_mask = mask_same comes (may_come_up kind tasks here) (length tasks) comes_shown

-- ---- of one event task

module _ (tasks : List TaskDef) (counts : List Count) (mask : ℕ) (cs : List Counted) (ns : List Numbers) (e : TraceEvent) (shown : Shown counts cs) (many : length counts ≡ length tasks) where
  abbrev x : CountedEvent
  x = record { tasks = cs; programs = ns; event = e }

  passes_shown : (t : ℕ) → t < length tasks → (nat_eq mask (2 ^ t) && comes is_event tasks counts t) ≡ (nat_eq mask (2 ^ t) && may_come_up is_event tasks x t)
  passes_shown t l = ap (λ b. nat_eq mask (2 ^ t) && b) (comes_shown is_event tasks counts cs ns e shown many t l)

  pub mask_here : (d : TaskDef) (t : ℕ) → t < length tasks → (nat_eq mask (2 ^ t) && ((is_event (slice_index_or tasks t d).kind && not (slice_index_or tasks t d).inhibited) && not (slice_index_or counts t no_count).up)) ≡ true → is_event_mask tasks x mask ≡ true
  mask_here d t l h =
      any_in_range (λ u. nat_eq mask (2 ^ u) && may_come_up is_event tasks x u) 0 (length tasks) t (omega arith) (omega arith)
      (sym (passes_shown t l) ∙ (ap (λ (k : TaskDef). nat_eq mask (2 ^ t) && ((is_event k.kind && not k.inhibited) && not (slice_index_or counts t no_count).up)) (any_default tasks t no_task d l) ∙ h))

  pub mask_nowhere : ((t : ℕ) → t < length tasks → (nat_eq mask (2 ^ t) && comes is_event tasks counts t) ≡ false) → is_event_mask tasks x mask ≡ false
  mask_nowhere none = none_in_range (λ u. nat_eq mask (2 ^ u) && may_come_up is_event tasks x u) 0 (length tasks) (λ t a b. sym (passes_shown t (omega arith)) ∙ none t (omega arith))
