-- Each run of a valid project is lawful.
use Rattle.spec_legal.proofs.EditByEdit.{merges-edits}
use Rattle.spec_legal.proofs.MergedBooks.{books-are-merged}
use Rattle.spec_legal.proofs.Priority.{runs_keep_priority, runs_keep_regions}
use Rattle.spec_legal.proofs.Refused.{refusals_change_nothing}
use Rattle.spec_legal.proofs.Rungs.{scans_keep_rungs}
use Rattle.spec_legal.proofs.Turns.{runs_keep_turns}
use Rattle.spec_legal.proofs.Versions.{runs_keep_versions}
use Rattle.spec_legal.proofs.Ways.{runs_give_way}
use Rattle.spec_copies.proofs.WholeCopies.{runs_copy_whole}
use Rattle.spec_beside.proofs.Writers.{changes_have_writers}
use Rattle.spec_laws.specs.Lawful.{RunsAreLawful}
use Rattle.spec_laws.specs.TickReleases.{keeps_releases}
use Rattle.spec_laws.specs.Watchdogs.{keeps_watchdogs}
use Rattle.spec_laws.proofs.ActionReleases.{actions_release}
use Rattle.spec_laws.proofs.AtTicks.{watchdogs_here, releases_here}
use Rattle.spec_laws.proofs.CheckedBooks.{books_are_checked}
use Rattle.spec_laws.proofs.Marks.{steps_are_marked}
use Rattle.spec_laws.proofs.Modes.{modes_are_kept}
use Rattle.spec_laws.proofs.Orders.{scans_run_in_order}
use Rattle.spec_laws.proofs.Places.{all_of_run}
use Rattle.spec_laws.proofs.Replies.{answers_are_right}
use Rattle.spec_laws.proofs.RunStarts.{runs_start_anew}
use Rattle.spec_laws.proofs.Scans.{runs_keep_scans}
use Rattle.spec_laws.proofs.TakenRungs.{again_is_counted}
use Rattle.spec_laws.proofs.Triggered.{runs_keep_triggers}

pub runs_are_lawful : RunsAreLawful
runs_are_lawful p valid = record {
  legal = λ events. record {
    priority = runs_keep_priority p events valid;
    turns = runs_keep_turns p events valid;
    ticks = runs_give_way p events valid;
    versions = runs_keep_versions p events valid;
  };
  regions = λ events. runs_keep_regions p events valid;
  rungs = scans_keep_rungs p;
  copies = runs_copy_whole p;
  refusals = refusals_change_nothing p;
  answers = answers_are_right p;
  watchdogs = all_of_run p valid (keeps_watchdogs p.tasks) (λ s e cs ns past h. watchdogs_here p valid s cs ns past h e);
  releases = all_of_run p valid (keeps_releases p.tasks) (λ s e cs ns past h. releases_here p valid s cs ns past h e);
  triggers = runs_keep_triggers p valid;
  actions = actions_release p valid;
  modes = modes_are_kept p;
  run_starts = runs_start_anew p;
  scans = runs_keep_scans p valid;
  order = scans_run_in_order p;
  marks = steps_are_marked p valid;
  merged = books-are-merged p;
  checked = books_are_checked p valid;
  merges = merges-edits;
  retaken = again_is_counted;
  changes = changes_have_writers p valid;
}
