-- What is seen of a run keeps the laws.
use Rattle.std.proofs.Common.{◌≡◌, true, []}
use Rattle.spec_schedule.specs.Legal.{keeps_region}
use Rattle.spec_schedule.specs.TraceView.{view}
use Rattle.spec_legal.specs.LegalRuns.{counted_run}
use Rattle.spec_legal.proofs.Priority.{runs_keep_regions}
use Rattle.spec_laws.specs.Triggers.{keeps_triggers}
use Rattle.spec_laws.proofs.Lawful.{runs_are_lawful}
use Rattle.lgx_laws.specs.declared.error.Law.{Law}
use Rattle.lgx_laws.specs.declared.error.Law.TheVariants.{Regions, Copies, Watchdogs, Releases, Starts, Triggers, Scans, Modes, Edits, Numbers}
use Rattle.lgx_laws.specs.Laws.{roster_of, keeps}
use Rattle.lgx_laws.specs.OwnTraces.{RunsKeepLaws}
use Rattle.lgx_laws.proofs.Back.{each_alone}
use Rattle.lgx_laws.proofs.CopiesKept.{runs_keep_copies}
use Rattle.lgx_laws.proofs.ModesKept.{runs_keep_modes}
use Rattle.lgx_laws.proofs.StartsKept.{runs_keep_starts}
use Rattle.lgx_laws.proofs.EditsKept.{runs_keep_edits, runs_keep_numbers}

pub runs_keep_laws : RunsKeepLaws
runs_keep_laws p journal valid law = go law
  where
    go : (law : Law) → keeps law (roster_of p) (view p journal) ≡ true
    go Regions = each_alone keeps_region [] (counted_run p journal) (runs_keep_regions p journal valid)
    go Copies = runs_keep_copies p valid journal
    go Watchdogs = (runs_are_lawful p valid).watchdogs journal
    go Releases = (runs_are_lawful p valid).releases journal
    go Starts = runs_keep_starts p valid journal
    go Triggers = each_alone (keeps_triggers p.tasks) [] (counted_run p journal) ((runs_are_lawful p valid).triggers journal)
    go Scans = (runs_are_lawful p valid).scans journal
    go Modes = runs_keep_modes p valid journal
    go Edits = runs_keep_edits p valid journal
    go Numbers = runs_keep_numbers p valid journal
