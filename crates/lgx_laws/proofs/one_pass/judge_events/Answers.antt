use Rattle.std.proofs.Common.{◌<◌, ◌+◌, ℕ, List, ◌∷◌, length, None, refl, sym, ◌∙◌, ap, subst, arith}
use Rattle.std.specs.Prelude.{slice_index_or, take, replicate, Option, option_map, Some, if◌then◌else◌}
use Rattle.std.proofs.lemmas.List.{take_all}
use Rattle.spec_machine.specs.declared.reply.Mode.{Mode}
use Rattle.spec_schedule.specs.declared.trace.AuditTask.{AuditTask}
use Rattle.spec_schedule.specs.declared.trace.TraceEvent.{TraceEvent}
use Rattle.spec_schedule.specs.declared.trace.TraceEvent.TheVariants.{Idle}
use Rattle.spec_schedule.specs.Counting.{Counted, CountedEvent, Numbers, counted_all, stops}
use Rattle.spec_laws.specs.CountedBack.{ticks_in, comes_to_run, ticks_in_run}
use Rattle.lgx_audit.specs.Along.{IsWithin, IsOfPrograms, no_count, Shown, counts_after, numbers_after, place_after}
use Rattle.lgx_audit.proofs.Listed.{fresh}
use Rattle.lgx_audit.proofs.MoreEvents.{counts_more, numbers_more}
use Rattle.lgx_audit.proofs.TableBounds.{tasks_within, programs_within}
use Rattle.lgx_laws.specs.Laws.{Roster, KeepsAll}
use Rattle.lgx_laws.specs.Modes.{mode_shown, mode_after}
use Rattle.lgx_laws.specs.Kept.{no_since, Kept, Books, past_after, IsToldWithin, IsTriggeredWithin}
use Rattle.lgx_laws.proofs.Back.{past_more, still_kept, not_kept}
use Rattle.lgx_laws.proofs.Events.{all_told, all_triggered}
use Rattle.lgx_laws.proofs.Breaching.{least_there, all_there}
use Rattle.lgx_laws.proofs.KeptOn.{kept_first}
use Rattle.lgx_laws.proofs.BooksOn.{books_first}
use Rattle.lgx_laws.proofs.one_pass.judge_events.Goals as goal

pub loop-i-init : goal.loop-i-init
loop-i-init c =
    let ds = c.args.table.now.tasks in
    let same = c.as_slice-rows.ensures in
    let f = fresh ds c.as_mut_slice-counts.result.now (c.as_mut_slice-counts.ensures.value ∙ (c.in_ok-count_list.ensures ∙ ap (λ (ds : List AuditTask). replicate (length ds) no_count) same)) in
    let k = kept_first ds c.as_mut_slice-kept.result.now (c.as_mut_slice-kept.ensures.value ∙ (c.in_ok-kept_list.ensures ∙ ap (λ (ds : List AuditTask). replicate (length ds) no_since) same)) in
    let b = books_first c.args.table.now.programs c.as_mut_slice-books.result.now (c.as_mut_slice-books.ensures.value ∙ c.in_ok-book_list.ensures) in (
      f.0,
      f.1,
      f.2,
      f.3,
      k.0,
      k.1,
      k.2,
      refl,
      (λ n h. absurd (cc h)),
      refl,
      b.0,
      b.1,
      (λ law. refl),
    )

pub returns-in-Some-clause-breach : goal.returns-in-Some-clause-breach
returns-in-Some-clause-breach c =
    let i = c.loop-i.i in
    let t = c.args.table.now in
    let xs = c.args.trace.now in
    let r : Roster = record { table = t; tasks = c.args.tasks.now; schedule = c.args.schedule.now } in
    let l : i < length xs = c.loop-i-test.true in
    let h = c.loop-i.invariant in
    let law = c.in-Some.law in
    let x = place_after t (take i xs) (slice_index_or xs i Idle) in
    let least = least_there r (past_after t (take i xs)) x law (sym (c.broken_law.ensures t (counts_after t (take i xs)) (numbers_after t (take i xs)) (past_after t (take i xs)) h.0 h.4 h.10 h.9 h.7) ∙ c.in-Some.is) in
    record {
      there = l;
      before = h.12;
      broken = not_kept r xs i Idle l law least.broken;
      lesser = λ k below. still_kept r xs i Idle l k (h.12 k) (least.lesser k below);
    }

pub loop-i-preserved : goal.loop-i-preserved
loop-i-preserved c =
    let i = c.loop-i.i in
    let t = c.args.table.now in
    let xs = c.args.trace.now in
    let r : Roster = record { table = t; tasks = c.args.tasks.now; schedule = c.args.schedule.now } in
    let l : i < length xs = c.loop-i-test.true in
    let h = c.loop-i.invariant in
    let pre = take i xs in
    let e = slice_index_or xs i Idle in
    let cs = counts_after t pre in
    let ns = numbers_after t pre in
    let past = past_after t pre in
    let x : CountedEvent = place_after t pre e in
    let counted = counts_more t xs i Idle l in
    let placed = past_more t xs i Idle l in
    let same = c.as_slice-rows.ensures in (
      subst (λ (ys : List Counted). Shown c.count_event.new.counts ys) (sym counted) (subst (λ (ds : List AuditTask). Shown c.count_event.new.counts (counted_all ds e cs)) same (c.count_event.ensures.counts cs h.0)),
      c.count_event.auto.counts ∙ h.1,
      (λ k within. let many = c.count_event.auto.counts in let a = c.count_event.ensures.regions k (omega arith) in let b = h.2 k (omega arith) in omega arith),
      (λ k within. let many = c.count_event.auto.counts in let a = c.count_event.ensures.downs k (omega arith) in let b = h.3 k (omega arith) in omega arith),
      subst (λ (ps : List CountedEvent). Kept c.keep_all.new.kept (counts_after t (take (i + 1) xs)) ps) (sym placed)
          (subst (λ (ys : List Counted). Kept c.keep_all.new.kept ys (x ∷ past)) (sym counted)
          (subst (λ (ds : List AuditTask). Kept c.keep_all.new.kept (counted_all ds e cs) (x ∷ past)) same (c.keep_all.ensures.kept cs ns past h.0 h.4))),
      c.keep_all.auto.kept ∙ h.5,
      (λ k within. let many = c.keep_all.auto.kept in let a = c.keep_all.ensures.ticks k (omega arith) in let b = h.6 k (omega arith) in omega arith),
      c.control_after-control.ensures.run
          ∙ (ap (λ (o : Option ℕ). if comes_to_run e then Some 0 else (if stops e then None else option_map (λ n. ticks_in e + n) o)) h.7 ∙ sym (ap ticks_in_run placed)),
      (λ n is. c.control_after-control.ensures.ticks i h.8 n is),
      c.control_after-control.ensures.mode ∙ (ap (λ (m : Mode). mode_shown e m) h.9 ∙ sym (ap mode_after placed)),
      subst (λ (ps : List CountedEvent). Books c.book_event.new.books (numbers_after t (take (i + 1) xs)) ps) (sym placed)
          (subst (λ (ys : List Numbers). Books c.book_event.new.books ys (x ∷ past)) (sym (numbers_more t xs i Idle l)) (c.book_event.ensures cs ns past h.10)),
      c.book_event.auto.books ∙ h.11,
      (λ law. still_kept r xs i Idle l law (h.12 law) (all_there r past x (sym (c.broken_law.ensures t cs ns past h.0 h.4 h.10 h.9 h.7) ∙ c.in_default.is) law)),
    )

pub returns-clause-ok : goal.returns-clause-ok
returns-clause-ok c =
    let i = c.loop-i.i in
    let xs = c.args.trace.now in
    subst (λ (ys : List TraceEvent). KeepsAll (record { table = c.args.table.now; tasks = c.args.tasks.now; schedule = c.args.schedule.now }) ys) (take_all i xs (let e = c.loop-i-test.false in omega arith)) c.loop-i.invariant.12

pub broken_law-requires-clause-within : goal.broken_law-requires-clause-within
broken_law-requires-clause-within c =
    subst (λ n. IsWithin n (slice_index_or c.args.trace.now c.loop-i.i Idle)) (sym c.requires.proper.tasks) (tasks_within c.args.table.now c.args.trace.now c.requires.known c.loop-i.i c.loop-i-test.true)

pub broken_law-requires-clause-told : goal.broken_law-requires-clause-told
broken_law-requires-clause-told c =
    subst (λ n. IsToldWithin n (slice_index_or c.args.trace.now c.loop-i.i Idle)) (sym c.requires.proper.tasks) (all_told c.args.table.now c.args.trace.now c.requires.known c.loop-i.i c.loop-i-test.true)

pub broken_law-requires-clause-triggered : goal.broken_law-requires-clause-triggered
broken_law-requires-clause-triggered c =
    subst (λ n. IsTriggeredWithin n (slice_index_or c.args.trace.now c.loop-i.i Idle)) (sym c.requires.proper.tasks) (all_triggered c.args.table.now c.args.trace.now c.requires.known c.loop-i.i c.loop-i-test.true)

pub broken_law-requires-clause-few : goal.broken_law-requires-clause-few
broken_law-requires-clause-few c = c.requires.proper.few

pub broken_law-requires-clause-lists : goal.broken_law-requires-clause-lists
broken_law-requires-clause-lists c = c.requires.proper.lists ∙ sym c.requires.proper.tasks

pub broken_law-requires-clause-many : goal.broken_law-requires-clause-many
broken_law-requires-clause-many c = c.loop-i.invariant.1 ∙ sym c.requires.proper.tasks

pub broken_law-requires-clause-kept : goal.broken_law-requires-clause-kept
broken_law-requires-clause-kept c = c.loop-i.invariant.5 ∙ sym c.requires.proper.tasks

pub broken_law-requires-clause-periods : goal.broken_law-requires-clause-periods
broken_law-requires-clause-periods c = c.requires.proper.periods

pub broken_law-requires-clause-ticks : goal.broken_law-requires-clause-ticks
broken_law-requires-clause-ticks c = λ t below. let a = c.loop-i.invariant.6 t below in omega arith

pub broken_law-requires-clause-run : goal.broken_law-requires-clause-run
broken_law-requires-clause-run c = λ n is. let a = c.loop-i.invariant.8 n is in omega arith

pub keep_all-requires-clause-many : goal.keep_all-requires-clause-many
keep_all-requires-clause-many c = c.loop-i.invariant.1 ∙ sym (ap (λ (ds : List AuditTask). length ds) c.as_slice-rows.ensures)

pub keep_all-requires-clause-kept : goal.keep_all-requires-clause-kept
keep_all-requires-clause-kept c = c.loop-i.invariant.5 ∙ sym (ap (λ (ds : List AuditTask). length ds) c.as_slice-rows.ensures)

pub keep_all-requires-clause-regions : goal.keep_all-requires-clause-regions
keep_all-requires-clause-regions c = λ t below. let a = c.loop-i.invariant.2 t below in omega arith

pub keep_all-requires-clause-downs : goal.keep_all-requires-clause-downs
keep_all-requires-clause-downs c = λ t below. let a = c.loop-i.invariant.3 t below in omega arith

pub keep_all-requires-clause-ticks : goal.keep_all-requires-clause-ticks
keep_all-requires-clause-ticks c = λ t below. let a = c.loop-i.invariant.6 t below in omega arith

pub control_after-control-requires : goal.control_after-control-requires
control_after-control-requires c = λ n is. let a = c.loop-i.invariant.8 n is in omega arith

pub count_event-requires-clause-within : goal.count_event-requires-clause-within
count_event-requires-clause-within c =
    subst (λ (ds : List AuditTask). IsWithin (length ds) (slice_index_or c.args.trace.now c.loop-i.i Idle)) (sym c.as_slice-rows.ensures) (tasks_within c.args.table.now c.args.trace.now c.requires.known c.loop-i.i c.loop-i-test.true)

pub count_event-requires-clause-regions : goal.count_event-requires-clause-regions
count_event-requires-clause-regions c = λ t below. let a = c.loop-i.invariant.2 t below in omega arith

pub count_event-requires-clause-downs : goal.count_event-requires-clause-downs
count_event-requires-clause-downs c = λ t below. let a = c.loop-i.invariant.3 t below in omega arith

pub broken_law-requires-clause-programs : goal.broken_law-requires-clause-programs
broken_law-requires-clause-programs c =
    subst (λ n. IsOfPrograms n (slice_index_or c.args.trace.now c.loop-i.i Idle)) (sym c.loop-i.invariant.11) (programs_within c.args.table.now c.args.trace.now c.requires.known c.loop-i.i c.loop-i-test.true)

pub book_event-requires : goal.book_event-requires
book_event-requires c =
    subst (λ n. IsOfPrograms n (slice_index_or c.args.trace.now c.loop-i.i Idle)) (sym c.loop-i.invariant.11) (programs_within c.args.table.now c.args.trace.now c.requires.known c.loop-i.i c.loop-i-test.true)
