use Rattle.std.proofs.Common.{◌≡◌, ◌≤◌, ◌<◌, ℕ, List, ◌++◌, ◌∷◌, [], ◌∙◌, true, take, take_all, slice_index_or, ◌+◌, length, codes, ap, sym, append_assoc, arith}
use Rattle.std.specs.List.{flat_map, list_all}
use Rattle.std.proofs.lemmas.Bool.{and_from}
use Rattle.std.proofs.lemmas.List.{flat_map_more, take_more}
use Rattle.std.proofs.lemmas.List.Folds.{list_all_more}
use Rattle.spec_machine.specs.declared.event.Event.TheVariants.{Cpu}
use Rattle.spec_text.specs.declared.script.EventRun.{EventRun}
use Rattle.spec_text.specs.TextLines.{line_of}
use Rattle.spec_text.specs.JournalText.{event_words, joined, text, journal_of}
use Rattle.lgx_journal.specs.Runs.{seen_run}
use Rattle.lgx_journal.specs.Written.{is_kept_run}
use Rattle.lgx_journal.proofs.TextsBack.{journal_written, journal_reading, journal_back}
use Rattle.lgx_journal.proofs.write.write_journal.Goals as goal

-- the run that stands for a missing one
no_run : EventRun
no_run = record { event = Cpu; count = 0 }

line_more : (f : EventRun → List ℕ) (before after : List ℕ) (rs : List EventRun) (i : ℕ) (r d : EventRun) → i < length rs → (r ≡ slice_index_or rs i d) → before ≡ flat_map f (take i rs) → after ≡ before ++ f r → after ≡ flat_map f (take (i + 1) rs)
line_more f before after rs i r d h is old new = new ∙ ap (λ (t : List ℕ). t ++ f r) old ∙ ap (λ (q : EventRun). flat_map f (take i rs) ++ f q) is ∙ flat_map_more f [] (take i rs) (slice_index_or rs i d) ∙ ap (flat_map f) (sym (take_more rs i d h))

pub loop-i-preserved : goal.loop-i-preserved
loop-i-preserved c =
    let rs = joined c.args.journal.now.events in
    let below : c.loop-i.i < length rs = omega arith in
    let is = c.run_at.ensures no_run in
    record {
      text = line_more (λ r. line_of (event_words r.event r.count)) c.loop-i.text.items c.push_run.new.text.items rs c.loop-i.i (seen_run c.run_at.result) no_run below is c.loop-i.invariant.text c.in_ok-push_run.ensures.text;
      kept = list_all_more is_kept_run rs c.loop-i.i no_run below ∙ and_from _ _ c.loop-i.invariant.kept (sym (ap is_kept_run is) ∙ c.in_ok-push_run.ensures.kept);
    }

-- the runs, all of which have been gone over
record Done (c : goal.In_ok-extend_from_slice) : Type 0 where
  pub kept : list_all is_kept_run (joined c.args.journal.now.events) ≡ true
  pub text : c.extend_from_slice.new.self.items ≡ text c.args.journal.now.events

done : (c : goal.In_ok-extend_from_slice) → Done c
done c =
    let rs = joined c.args.journal.now.events in
    let end : length rs ≤ c.loop-i.i = omega arith in
    let all : take c.loop-i.i rs ≡ rs = take_all c.loop-i.i rs end in
    record {
      kept = sym (ap (list_all is_kept_run) all) ∙ c.loop-i.invariant.kept;
      text = c.in_ok-extend_from_slice.ensures.items ∙ sym (append_assoc c.loop-i.text.items (codes "end") (10 ∷ [])) ∙ ap (λ t. t ++ codes "end" ++ 10 ∷ []) (c.loop-i.invariant.text ∙ ap (λ qs. flat_map (λ r. line_of (event_words r.event r.count)) qs) all);
    }

pub returns-clause-text : goal.returns-clause-text
returns-clause-text c = (done c).text

pub returns-clause-written : goal.returns-clause-written
returns-clause-written c lanes = journal_written c.args.journal.now.events (done c).kept lanes

pub returns-clause-one_reading : goal.returns-clause-one_reading
returns-clause-one_reading c lanes runs are e =
    let es = c.args.journal.now.events in
    journal_reading es runs (journal_written es (done c).kept lanes) are (e ∙ (done c).text)

pub returns-clause-read_back : goal.returns-clause-read_back
returns-clause-read_back c r =
    let es = c.args.journal.now.events in
    ap journal_of (done c).text ∙ journal_back es (journal_written es (done c).kept r.lanes) r
