-- The lines of what was recorded are a text of the run.
use Rattle.std.proofs.Common.{◌≡◌, ◌++◌, length, sym, ap, ◌∙◌, subst}
use Rattle.std.specs.Prelude.{IsTrue}
use Rattle.std.specs.List.{list_all}
use Rattle.spec_machine.specs.Project.{Project}
use Rattle.spec_text.specs.Scripts.{Script, is_script}
use Rattle.spec_text.specs.JournalText.{joined, text, journal_of as read_journal}
use Rattle.spec_text.specs.ReportText.{report}
use Rattle.spec_schedule.specs.Partial.{IsComplete}
use Rattle.spec_lanes.proofs.Scripts.{proper_of}
use Rattle.lgx_journal.specs.Written.{is_kept_run}
use Rattle.lgx_record.specs.Records.{Records}
use Rattle.lgx_judge.specs.declared.ends.End.{End}
use Rattle.lgx_judge.specs.ReportLines.{end_of}
use Rattle.lgx_judge.proofs.Reports.{report_from_start}
use Rattle.lgx_shared.specs.RecorderView.{RecorderView}
use Rattle.lgx_shared.specs.Follows.{journal_of}
use Rattle.cmd_run.specs.declared.lines.NextLine.TheVariants.{Journal}
use Rattle.cmd_run.specs.RunText.{run_text, BeginsWithOne, IsRunText}
use Rattle.cmd_run.specs.RunLines.{rest_of}
use Rattle.cmd_run.proofs.ReadBack.{journal_before}
use Rattle.cmd_run.proofs.Reading.{journal_lanes, begins_with_one}

pub is_run_text : (project : Project) (script : Script) (v : RecorderView) (end : End)
    → IsTrue (is_script script) → Records v.recording project (journal_of v) → IsComplete project script (journal_of v)
    → IsTrue (list_all is_kept_run (joined (journal_of v))) → end ≡ end_of project (journal_of v)
    → IsRunText project script (rest_of v end (Journal 0))
is_run_text project script v end proper records complete kept is_end =
    let journal = journal_of v in
    let after = report project journal in
    let behind = report_from_start v.recording.names v.recording.log end project journal records.names records.log is_end in
    let whole : rest_of v end (Journal 0) ≡ run_text project journal = ap (λ t. text journal ++ t) behind in
    let lanes = journal_lanes (length script.lanes) journal (proper_of script proper).lanes complete.partial.opening complete.partial.rest in
    let one : BeginsWithOne (run_text project journal) journal = begins_with_one journal after kept lanes in
    record {
      journal = journal;
      complete = complete;
      is = whole;
      one = subst (λ t. BeginsWithOne t journal) (sym whole) one;
      read_back = λ readable. ap read_journal whole ∙ journal_before journal after one.written readable;
    }
