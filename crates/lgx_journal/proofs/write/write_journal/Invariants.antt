use Rattle.std.proofs.Common.{◌≡◌, true, take}
use Rattle.std.specs.List.{flat_map, list_all}
use Rattle.spec_text.specs.TextLines.{line_of}
use Rattle.spec_text.specs.JournalText.{event_words, joined}
use Rattle.lgx_journal.specs.Written.{is_kept_run}
use Rattle.lgx_journal.proofs.write.write_journal.Given as goal

abbrev pub invariant-loop-i : goal.invariant-loop-i
invariant-loop-i l = record {
  text : l.text.items ≡ flat_map (λ r. line_of (event_words r.event r.count)) (take l.i (joined l.journal.events));
  kept : list_all is_kept_run (take l.i (joined l.journal.events)) ≡ true;
}
