-- The lines of stations, one station more; and the whole text.
use Rattle.std.proofs.Common.{◌≡◌, ℕ, suc, ◌+◌, ◌<◌, List, [], ◌++◌, length, drop, sym, ap, ◌∙◌, subst, arith}
use Rattle.std.specs.Prelude.{slice_index_or}
use Rattle.std.specs.List.{All}
use Rattle.std.proofs.Math.Seq.{drop-cons}
use Rattle.spec_machine.specs.declared.event.Event.{Event}
use Rattle.spec_machine.specs.Project.{Project}
use Rattle.spec_story.specs.Snapshots.{snapshots}
use Rattle.spec_text.specs.ReportText.{report}
use Rattle.lgx_watch.specs.Kept.{KeptLines, no_lines}
use Rattle.lgx_watch.proofs.Pushes.{keeps_the_first}
use Rattle.lgx_record.specs.RunView.{RunView}
use Rattle.lgx_record.specs.IsRunOf.{IsRunOf}
use Rattle.lgx_judge.specs.declared.ends.End.{End}
use Rattle.lgx_judge.specs.ReportLines.{end_of}
use Rattle.lgx_judge.proofs.Reports.{report_from_start}
use Rattle.lgx_stations.specs.declared.gated.Readings.{Readings}
use Rattle.lgx_stations.specs.declared.reported.Reported.{Reported}
use Rattle.lgx_stations.specs.Reports.{Reports}
use Rattle.lgx_stations.specs.Telling.{AreReadingsOf}
use Rattle.cmd_stations.specs.declared.lines.NextLine.TheVariants.{Report}
use Rattle.cmd_stations.specs.StationsText.{station_lines, lines_from, IsStationsText}
use Rattle.cmd_stations.specs.Rest.{rest_of}

-- the lines of a station, and those of the stations after it
pub next_station : (rs : List Readings) (i : ℕ) (r : Readings) → i < length rs → r ≡ slice_index_or rs i r
    → lines_from i (drop i rs) ≡ station_lines i r ++ lines_from (i + 1) (drop (i + 1) rs)
next_station rs i r below is =
    let n : suc i ≡ i + 1 = omega arith in
    ap (lines_from i) (drop-cons rs i r below)
    ∙ (ap (λ x. station_lines i x ++ lines_from (i + 1) (drop (suc i) rs)) (sym is)
    ∙ ap (λ k. station_lines i r ++ lines_from (i + 1) (drop k rs)) n)

-- a run without an event has an empty report
pub just_begun : (run : RunView) (log : KeptLines) (p q : Project) → p ≡ q → IsRunOf run p [] → log ≡ no_lines → Reports (record { run = run; log = log }) q []
just_begun run log p q same h empty =
    subst (λ (x : Project). Reports (record { run = run; log = log }) x []) same (record { run = h; log = empty ∙ keeps_the_first [] })

-- the report of a run, and the lines of the stations
pub is_stations_text : (project : Project) (journal : List Event) (count : ℕ) (r : Reported) (end : End) (rs : List Readings) (text : List ℕ)
    → Reports r project journal → end ≡ end_of project journal → length rs ≡ count → All (λ r. AreReadingsOf (snapshots project journal) r) rs → text ≡ lines_from 0 rs
    → IsStationsText project journal count (rest_of r end text (Report 0))
is_stations_text project journal count r end rs text h is_end many each is =
    record {
      readings = rs;
      count = many;
      each = each;
      is = ap (λ t. t ++ text) (report_from_start r.run.names r.log end project journal h.run.names h.log is_end) ∙ ap (λ t. report project journal ++ t) is;
    }
