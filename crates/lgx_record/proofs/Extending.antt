-- A run that goes on by some events, and then by others.
use Rattle.std.proofs.Common.{◌≡◌, ℕ, ◌+◌, ◌*◌, ◌≤◌, cond, List, [], ◌++◌, length, replicate, refl, sym, ap, ◌∙◌, subst, arith, append-nil, append_assoc, length-append}
use Rattle.std.specs.Prelude.{Result, Ok, Err, OnErr}
use Rattle.std.proofs.lemmas.List.{replicate-append-replicate}
use Rattle.std.proofs.lemmas.List.Sums.{sum_by-append}
use Rattle.spec_machine.specs.declared.event.Event.{Event}
use Rattle.spec_machine.specs.Project.{Project}
use Rattle.spec_machine.specs.State.{State, start}
use Rattle.spec_machine.specs.Machine.{run, run_from}
use Rattle.spec_machine.specs.Report.{is_step, steps_of, lines_from, report_lines}
use Rattle.lgx_watch.specs.Kept.{KeptLines, kept_of, with_lines}
use Rattle.lgx_record.specs.declared.lines.TheConstants.{MAX_EVENT_LINES}
use Rattle.lgx_record.specs.RunView.{RunView}
use Rattle.lgx_record.specs.IsRunOf.{IsRunOf, IsRun}
use Rattle.lgx_record.specs.RecordingView.{RecordingView, run_of}
use Rattle.lgx_record.specs.Records.{Records, IsRecording, RecordsMore, HasCounted, IsUnchanged}
use Rattle.lgx_record.specs.Extends.{Extends, IsExtended, more_lines}
use Rattle.lgx_record.proofs.FewLines.{few_from}
use Rattle.lgx_record.proofs.Logs.{few-more-lost, with_lines-append, kept_of-more}
use Rattle.lgx_record.proofs.StepLines.{run_on, lines-append}

-- the steps among some events and others after them
pub steps-of-both : (xs ys : List Event) → steps_of (xs ++ ys) ≡ steps_of xs + steps_of ys
steps-of-both xs ys = sum_by-append (λ x. cond (is_step x) 1 0) xs ys

-- the lines of some events and of others after them
pub lines-of-both : (project : Project) (events xs ys : List Event) → more_lines project events xs ++ more_lines project (events ++ xs) ys ≡ more_lines project events (xs ++ ys)
lines-of-both project events xs ys =
    let first = more_lines project events xs in
    ap (λ (s : State). first ++ lines_from project.watches s (steps_of (events ++ xs)) ys) (run_on (start project) events xs)
    ∙ ap (λ n. first ++ lines_from project.watches (run_from (run project events) xs) n ys) (steps-of-both events xs)
    ∙ sym (lines-append project.watches (run project events) (steps_of events) xs ys)

-- ---- by no event, and by some after others

pub by-none : (v : RunView) (log : KeptLines) → Extends v v log log []
by-none v log = λ project events r. record { run = subst (λ (es : List Event). IsRunOf v project es) (sym (append-nil events)) r; log = refl }

pub and-then : (old new : RunView) (start between end : KeptLines) (project : Project) (events xs ys : List Event) → IsExtended old start between project events xs → Extends old new between end ys → IsExtended new start end project events (xs ++ ys)
and-then old new start between end project events xs ys a two =
    let b = two project (events ++ xs) a.run in
    record {
      run = subst (λ (es : List Event). IsRunOf new project es) (append_assoc events xs ys) b.run;
      log =
          b.log
          ∙ ap (λ (log : KeptLines). with_lines log (more_lines project (events ++ xs) ys)) a.log
          ∙ sym (with_lines-append start (more_lines project events xs) (more_lines project (events ++ xs) ys))
          ∙ ap (with_lines start) (lines-of-both project events xs ys);
    }

pub by-both : (old middle new : RunView) (start between end : KeptLines) (xs ys : List Event) → Extends old middle start between xs → Extends middle new between end ys → Extends old new start end (xs ++ ys)
by-both old middle new start between end xs ys one two = λ project events r. and-then middle new start between end project events xs ys (one project events r) two

-- so often, and then so often again
pub by-more : (old middle new : RunView) (start between end : KeptLines) (e : Event) (n m : ℕ) → Extends old middle start between (replicate n e) → Extends middle new between end (replicate m e) → Extends old new start end (replicate (n + m) e)
by-more old middle new start between end e n m one two =
    subst (Extends old new start end) (replicate-append-replicate n m e) (by-both old middle new start between end (replicate n e) (replicate m e) one two)

-- ---- what follows from it

-- few lines are lost
pub few-lost : (old new : RunView) (start end : KeptLines) (more : List Event) → IsRun old → Extends old new start end more → end.lost ≤ start.lost + MAX_EVENT_LINES * length more
few-lost old new start end more i x =
    let few = few_from i.project i.run.controller.valid i.events (steps_of i.events) more in
    let lost = ap (λ (k : KeptLines). k.lost) (x i.project i.events i.run).log in
    let all = few-more-lost start (more_lines i.project i.events more) in
    omega arith

-- it is a run still
pub is-run-still : (old new : RunView) (start end : KeptLines) (more : List Event) → IsRun old → Extends old new start end more → IsRun new
is-run-still old new start end more i x = record { project = i.project; events = i.events ++ more; run = (x i.project i.events i.run).run }

-- ---- a recording

-- the lines of a journal with more events
pub lines-of-more : (project : Project) (events more : List Event) → report_lines project (events ++ more) ≡ report_lines project events ++ more_lines project events more
lines-of-more project events more =
    lines-append project.watches (start project) 0 events more
    ∙ ap (λ n. report_lines project events ++ lines_from project.watches (run project events) n more) (omega arith)

-- so is the log of a report
pub report-more : (new : RunView) (before after : KeptLines) (project : Project) (events more : List Event) → IsExtended new before after project events more → before ≡ kept_of (report_lines project events) → after ≡ kept_of (report_lines project (events ++ more))
report-more new before after project events more x log =
    x.log
    ∙ ap (λ (k : KeptLines). with_lines k (more_lines project events more)) log
    ∙ kept_of-more (report_lines project events) (more_lines project events more)
    ∙ ap kept_of (sym (lines-of-more project events more))

-- its run has more events, as its journal has
pub records-more : (old new : RecordingView) (more : List Event) → Extends (run_of old) (run_of new) old.log new.log more → new.journal.events ≡ old.journal.events ++ more → RecordsMore old new more
records-more old new more x journal = λ project events r.
    let t = x project events r.run in
    record {
      journal = journal ∙ ap (λ (es : List Event). es ++ more) r.journal;
      run = t.run;
      log = report-more (run_of new) old.log new.log project events more t r.log;
    }

pub is-recording-still : (old new : RecordingView) (more : List Event) → IsRecording old → RecordsMore old new more → IsRecording new
is-recording-still old new more i x = record { project = i.project; events = i.events ++ more; records = x i.project i.events i.records }

-- it has counted them
pub has-counted : (old new : RecordingView) (more : List Event) → IsRecording old → RecordsMore old new more → HasCounted old new more
has-counted old new more i x =
    let was = i.records in
    let is = x i.project i.events i.records in record {
      steps = is.steps ∙ steps-of-both i.events more ∙ ap (λ n. n + steps_of more) (sym was.steps);
      spent = is.controller.counted ∙ length-append i.events more ∙ ap (λ n. n + length more) (sym was.controller.counted);
    }

-- what it records doesn't hang on the room of its journal
pub still-records : (old new : RecordingView) (project : Project) (events : List Event) → IsUnchanged old new → Records old project events → Records new project events
still-records old new project events same r =
    subst (λ (v : RecordingView). Records v project events) (sym same) (record { journal = r.journal; run = r.run; log = r.log })

pub counted-still : (old between new : RecordingView) (more : List Event) → IsUnchanged old between → HasCounted between new more → HasCounted old new more
counted-still old between new more same h =
    let x = subst (λ (v : RecordingView). HasCounted v new more) same h in record { steps = x.steps; spent = x.spent }

-- ---- no event at all

pub records-none : (v : RecordingView) (e : Event) (n : ℕ) → n ≡ 0 → RecordsMore v v (replicate n e)
records-none v e n none = λ project events r.
    subst (λ (m : ℕ). Records v project (events ++ replicate m e)) (sym none)
    (subst (λ (es : List Event). Records v project es) (sym (append-nil events)) r)

pub counts-none : (v : RecordingView) (e : Event) (n : ℕ) → n ≡ 0 → HasCounted v v (replicate n e)
counts-none v e n none =
    subst (λ (m : ℕ). HasCounted v v (replicate m e)) (sym none) (record { steps = omega arith; spent = omega arith })

-- ---- what holds where a call came to want of memory

pub when-err : {A E P : Type 0} (r : Result A E) → P → OnErr r P
when-err (Ok x) p = tt
when-err (Err e) p = p

pub on-err : {A E P Q : Type 0} (r : Result A E) → (P → Q) → OnErr r P → OnErr r Q
on-err (Ok x) f h = tt
on-err (Err e) f h = f h
