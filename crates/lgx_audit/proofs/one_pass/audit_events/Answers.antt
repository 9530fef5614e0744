use Rattle.std.proofs.Common.{◌≡◌, ◌<◌, ◌+◌, ℕ, List, length, true, refl, sym, ◌∙◌, ap, subst, arith}
use Rattle.std.specs.Prelude.{slice_index_or, take, replicate, Option, if◌then◌else◌}
use Rattle.std.proofs.lemmas.Bool.{and_parts}
use Rattle.std.proofs.lemmas.List.{take_all, length-replicate}
use Rattle.spec_schedule.specs.declared.trace.AuditTask.{AuditTask}
use Rattle.spec_schedule.specs.declared.trace.TraceEvent.{TraceEvent}
use Rattle.spec_schedule.specs.declared.trace.TraceEvent.TheVariants.{Idle}
use Rattle.spec_schedule.specs.Counting.{Counted, Numbers, counted_all, stepping}
use Rattle.spec_schedule.specs.Legal.{keeps_priority, keeps_version, is_tick, Legal}
use Rattle.lgx_audit.specs.Along.{IsWithin, no_count, no_tally, Shown, AreNumbersIn, counts_after, numbers_after, place_after}
use Rattle.lgx_audit.specs.declared.error.AuditError.{AuditError}
use Rattle.lgx_audit.specs.Answers.{IfBreach}
use Rattle.lgx_audit.specs.Breaches.{keeps, IsBreach}
use Rattle.lgx_audit.specs.Watching.{unwatched, Watching, gives_at, is_unpassed, awaits_none, gives_way_now, last_after, watching_after}
use Rattle.lgx_audit.proofs.Listed.{fresh}
use Rattle.lgx_audit.proofs.MoreEvents.{counts_more, numbers_more, still, no_more}
use Rattle.lgx_audit.proofs.MorePasses.{watching_more, still_passes, passes_more}
use Rattle.lgx_audit.proofs.Judged.{each_take, turn_test, turns_of, legal_of, no_turns, tests_are, either_fails, none_below, one_below, two_below, watches_on, all_same, none_told_yet}
use Rattle.lgx_audit.proofs.one_pass.audit_events.Goals as goal

pub loop-i-init : goal.loop-i-init
loop-i-init c =
    let ds = c.args.table.now.tasks in
    let same = c.as_slice-tasks.ensures in
    let f = fresh ds c.as_mut_slice-counts.result.now (c.as_mut_slice-counts.ensures.value ∙ (c.in_ok-count_list.ensures ∙ ap (λ (ds : List AuditTask). replicate (length ds) no_count) same)) in
    let w : c.as_mut_slice-watches.result.now ≡ replicate (length ds) unwatched = c.as_mut_slice-watches.ensures.value ∙ (c.in_ok-watch_list.ensures ∙ ap (λ (ds : List AuditTask). replicate (length ds) unwatched) same) in
    let t : c.as_mut_slice-tallies.result.now ≡ replicate c.args.table.now.programs no_tally = c.as_mut_slice-tallies.ensures.value ∙ c.in_ok-tally_list.ensures in (
      f.0,
      f.1,
      f.2,
      f.3,
      w ∙ sym (all_same unwatched ds),
      ap length w ∙ length-replicate (length ds) unwatched,
      refl,
      refl,
      (λ u h. absurd (cc h)),
      none_told_yet c.args.table.now.programs c.as_mut_slice-tallies.result.now t,
      ap length t ∙ length-replicate c.args.table.now.programs no_tally,
      refl,
      refl,
      refl,
      refl,
    )

pub returns-then-not-keeps_priority-clause-breach : goal.returns-then-not-keeps_priority-clause-breach
returns-then-not-keeps_priority-clause-breach c =
    let i = c.loop-i.i in
    let t = c.args.table.now in
    let xs = c.args.trace.now in
    let l : i < length xs = c.loop-i-test.true in
    let h = c.loop-i.invariant in
    subst (λ (e : AuditError). IfBreach e (λ law at. IsBreach t xs law at)) (sym c.breach.ensures) (record {
      there = l;
      before = legal_of t (take i xs) (each_take (IsWithin (length t.tasks)) Idle i xs c.requires.tasks) h.11 h.12 h.13 h.14;
      broken = no_more t xs i Idle l (keeps_priority t) h.11 (sym (c.keeps_priority.ensures (counts_after t (take i xs)) (numbers_after t (take i xs)) h.0) ∙ c.if-not-keeps_priority.true);
      lesser = none_below (λ k. keeps k t (take (i + 1) xs) ≡ true) refl;
    })

pub returns-then-not-keeps_turns-clause-breach : goal.returns-then-not-keeps_turns-clause-breach
returns-then-not-keeps_turns-clause-breach c =
    let i = c.loop-i.i in
    let t = c.args.table.now in
    let xs = c.args.trace.now in
    let l : i < length xs = c.loop-i-test.true in
    let h = c.loop-i.invariant in
    let w = watching_after t (take i xs) in
    let e = slice_index_or xs i Idle in
    let first = still t xs i Idle l (keeps_priority t) h.11 (sym (c.keeps_priority.ensures (counts_after t (take i xs)) (numbers_after t (take i xs)) h.0) ∙ c.if-not-keeps_priority.false) in
    let fails = sym (tests_are w c.loop-i.watches c.loop-i.way c.stepping-steps.result (stepping e) c.keeps_turns.result h.4 h.7 c.stepping-steps.ensures (c.keeps_turns.ensures w.last)) ∙ c.if-not-keeps_turns.true in
    subst (λ (e : AuditError). IfBreach e (λ law at. IsBreach t xs law at)) (sym c.breach-then-not-keeps_turns.ensures) (record {
      there = l;
      before = legal_of t (take i xs) (each_take (IsWithin (length t.tasks)) Idle i xs c.requires.tasks) h.11 h.12 h.13 h.14;
      broken = no_turns t (take (i + 1) xs) (each_take (IsWithin (length t.tasks)) Idle (i + 1) xs c.requires.tasks)
          (either_fails _ _ (is_unpassed w.watches (stepping e)) (awaits_none w (stepping e)) _ _ (passes_more t xs i Idle l turn_test) (passes_more t xs i Idle l gives_way_now) fails);
      lesser = one_below (λ k. keeps k t (take (i + 1) xs) ≡ true) refl first;
    })

pub returns-then-not-keeps_version-clause-breach : goal.returns-then-not-keeps_version-clause-breach
returns-then-not-keeps_version-clause-breach c =
    let i = c.loop-i.i in
    let t = c.args.table.now in
    let xs = c.args.trace.now in
    let l : i < length xs = c.loop-i-test.true in
    let h = c.loop-i.invariant in
    let w = watching_after t (take i xs) in
    let e = slice_index_or xs i Idle in
    let first = still t xs i Idle l (keeps_priority t) h.11 (sym (c.keeps_priority.ensures (counts_after t (take i xs)) (numbers_after t (take i xs)) h.0) ∙ c.if-not-keeps_priority.false) in
    let fair = and_parts (is_unpassed w.watches (stepping e)) (awaits_none w (stepping e)) (sym (tests_are w c.loop-i.watches c.loop-i.way c.stepping-steps.result (stepping e) c.keeps_turns.result h.4 h.7 c.stepping-steps.ensures (c.keeps_turns.ensures w.last)) ∙ c.if-not-keeps_turns.false) in
    subst (λ (e : AuditError). IfBreach e (λ law at. IsBreach t xs law at)) (sym c.breach-then-not-keeps_version.ensures) (record {
      there = l;
      before = legal_of t (take i xs) (each_take (IsWithin (length t.tasks)) Idle i xs c.requires.tasks) h.11 h.12 h.13 h.14;
      broken = no_more t xs i Idle l keeps_version h.14 (sym (c.keeps_version.ensures (counts_after t (take i xs)) (numbers_after t (take i xs)) h.9) ∙ c.if-not-keeps_version.true);
      lesser = two_below (λ k. keeps k t (take (i + 1) xs) ≡ true) refl first
          (turns_of t (take (i + 1) xs) (each_take (IsWithin (length t.tasks)) Idle (i + 1) xs c.requires.tasks) (still_passes t xs i Idle l turn_test h.12 fair.0) (still_passes t xs i Idle l gives_way_now h.13 fair.1));
    })

pub loop-i-preserved : goal.loop-i-preserved
loop-i-preserved c =
    let i = c.loop-i.i in
    let t = c.args.table.now in
    let xs = c.args.trace.now in
    let l : i < length xs = c.loop-i-test.true in
    let h = c.loop-i.invariant in
    let pre = take i xs in
    let w = watching_after t pre in
    let e = slice_index_or xs i Idle in
    let cs = counts_after t pre in
    let ns = numbers_after t pre in
    let x = place_after t pre e in
    let cs' = counted_all t.tasks e cs in
    let more = watching_more t xs i Idle l in
    let fair = and_parts (is_unpassed w.watches (stepping e)) (awaits_none w (stepping e)) (sym (tests_are w c.loop-i.watches c.loop-i.way c.stepping-steps.result (stepping e) c.keeps_turns.result h.4 h.7 c.stepping-steps.ensures (c.keeps_turns.ensures w.last)) ∙ c.if-not-keeps_turns.false) in
    let to_give : c.gives_at-to_give.result ≡ gives_at t x c.loop-i.last = c.gives_at-to_give.ensures.gives cs ns e h.0 in (
      subst (λ (ys : List Counted). Shown c.count_event.new.counts ys) (sym (counts_more t xs i Idle l)) (subst (λ (ds : List AuditTask). Shown c.count_event.new.counts (counted_all ds e cs)) c.as_slice-tasks.ensures (c.count_event.ensures.counts cs h.0)),
      c.count_event.auto.counts ∙ h.1,
      (λ k within. let same = c.count_event.auto.counts in let a = c.count_event.ensures.regions k (omega arith) in let b = h.2 k (omega arith) in omega arith),
      (λ k within. let same = c.count_event.auto.counts in let a = c.count_event.ensures.downs k (omega arith) in let b = h.3 k (omega arith) in omega arith),
      watches_on t x cs' w c.loop-i.watches c.watch_event.new.watches c.loop-i.last h.4 h.6 h.5 c.watch_event.auto.watches (λ u within. c.watch_event.ensures cs ns c.loop-i.last u h.0 to_give within) ∙ sym (ap (λ (v : Watching). v.watches) more),
      c.watch_event.auto.watches ∙ h.5,
      c.last_after-last.ensures.last cs ns h.0 ∙ (ap (λ (o : Option ℕ). last_after x cs' o) h.6 ∙ sym (ap (λ (v : Watching). v.last) more)),
      c.way_after-way.ensures ∙ (ap (λ (o : Option ℕ). if is_tick e then o else c.loop-i.way) (to_give ∙ ap (gives_at t x) h.6) ∙ (ap (λ (o : Option ℕ). if is_tick e then gives_at t x w.last else o) h.7 ∙ sym (ap (λ (v : Watching). v.way) more))),
      c.last_after-last.ensures.within,
      subst (λ (ys : List Numbers). AreNumbersIn c.edit_all.new.tallies ys) (sym (numbers_more t xs i Idle l)) (c.edit_all.ensures ns h.9),
      c.edit_all.auto.tallies ∙ h.10,
      still t xs i Idle l (keeps_priority t) h.11 (sym (c.keeps_priority.ensures cs ns h.0) ∙ c.if-not-keeps_priority.false),
      still_passes t xs i Idle l turn_test h.12 fair.0,
      still_passes t xs i Idle l gives_way_now h.13 fair.1,
      still t xs i Idle l keeps_version h.14 (sym (c.keeps_version.ensures cs ns h.9) ∙ c.if-not-keeps_version.false),
    )

pub returns-clause-ok : goal.returns-clause-ok
returns-clause-ok c =
    let i = c.loop-i.i in
    let t = c.args.table.now in
    let xs = c.args.trace.now in
    let h = c.loop-i.invariant in
    subst (λ (ys : List TraceEvent). Legal t ys) (take_all i xs (let e = c.loop-i-test.false in omega arith))
    (legal_of t (take i xs) (each_take (IsWithin (length t.tasks)) Idle i xs c.requires.tasks) h.11 h.12 h.13 h.14)

pub keeps_priority-requires-clause-many : goal.keeps_priority-requires-clause-many
keeps_priority-requires-clause-many c = c.loop-i.invariant.1

pub gives_at-to_give-requires-clause-many : goal.gives_at-to_give-requires-clause-many
gives_at-to_give-requires-clause-many c = c.loop-i.invariant.1

pub watch_event-requires-clause-many : goal.watch_event-requires-clause-many
watch_event-requires-clause-many c = c.loop-i.invariant.1

pub last_after-last-requires-clause-many : goal.last_after-last-requires-clause-many
last_after-last-requires-clause-many c = c.loop-i.invariant.1

pub keeps_priority-requires-clause-within : goal.keeps_priority-requires-clause-within
keeps_priority-requires-clause-within c = c.requires.tasks c.loop-i.i c.loop-i-test.true

pub watch_event-requires-clause-within : goal.watch_event-requires-clause-within
watch_event-requires-clause-within c = c.requires.tasks c.loop-i.i c.loop-i-test.true

pub last_after-last-requires-clause-within : goal.last_after-last-requires-clause-within
last_after-last-requires-clause-within c = c.requires.tasks c.loop-i.i c.loop-i-test.true

pub gives_at-to_give-requires-clause-within : goal.gives_at-to_give-requires-clause-within
gives_at-to_give-requires-clause-within c = c.loop-i.invariant.8

pub watch_event-requires-clause-watches : goal.watch_event-requires-clause-watches
watch_event-requires-clause-watches c = c.loop-i.invariant.5

pub watch_event-requires-clause-regions : goal.watch_event-requires-clause-regions
watch_event-requires-clause-regions c = λ t below. let a = c.loop-i.invariant.2 t below in omega arith

pub watch_event-requires-clause-downs : goal.watch_event-requires-clause-downs
watch_event-requires-clause-downs c = λ t below. let a = c.loop-i.invariant.3 t below in omega arith

pub last_after-last-requires-clause-regions : goal.last_after-last-requires-clause-regions
last_after-last-requires-clause-regions c = λ t below. let a = c.loop-i.invariant.2 t below in omega arith

pub last_after-last-requires-clause-downs : goal.last_after-last-requires-clause-downs
last_after-last-requires-clause-downs c = λ t below. let a = c.loop-i.invariant.3 t below in omega arith

pub count_event-requires-clause-regions : goal.count_event-requires-clause-regions
count_event-requires-clause-regions c = λ t below. let a = c.loop-i.invariant.2 t below in omega arith

pub count_event-requires-clause-downs : goal.count_event-requires-clause-downs
count_event-requires-clause-downs c = λ t below. let a = c.loop-i.invariant.3 t below in omega arith
