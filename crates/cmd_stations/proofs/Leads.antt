-- What the bytes of a file lead to, by what a reader tells of them.
use Rattle.std.proofs.Common.{◌≡◌, ℕ, List, Option, Result, Ok, refl, sym, subst}
use Rattle.lgx_io.specs.declared.files.FileFault.{FileFault}
use Rattle.lgx_io.specs.declared.files.FileFault.TheVariants as file
use Rattle.spec_machine.specs.declared.event.Event.{Event}
use Rattle.spec_machine.specs.Project.{Project}
use Rattle.spec_text.specs.declared.script.JournalFault.{JournalFault}
use Rattle.spec_text.specs.JournalText.{journal_of}
use Rattle.spec_project.specs.Projects.{project_of}
use Rattle.lgx_answer.specs.declared.status.Status.{Status}
use Rattle.lgx_answer.specs.declared.status.Status.TheVariants as status
use Rattle.lgx_answer.specs.declared.status.Verdict.{Verdict}
use Rattle.lgx_answer.specs.declared.status.Verdict.TheVariants as verdict
use Rattle.lgx_answer.specs.Plan.{Texts, Plan, Say, only}
use Rattle.lgx_answer.specs.Endings.{ending_of, after_read}
use Rattle.lgx_answer.specs.Answered.{Change, Told, Failures, Call, call_with, Answered, Writes, LeadsTo}
use Rattle.lgx_answer.proofs.Follow.{says_leads}
use Rattle.lgx_judge.specs.Plans.{of_journal, on_project, on_journal}
use Rattle.lgx_judge.specs.Judged.{IsNoProject, IsNoJournal}
use Rattle.lgx_judge.proofs.Follow.{project_refused, project_leads, journal_refused}
use Rattle.cmd_stations.specs.StationsText.{IsStationsText}
use Rattle.cmd_stations.specs.StationsPlan.{journal_watched, journal_read}

-- what is refused is answered with the line that says why
pub no_journal_leads : (accepted : List Event → Plan) (bytes line : List ℕ) → IsNoJournal bytes line
    → LeadsTo (on_journal accepted bytes) (Say verdict.Script (only line))
no_journal_leads accepted bytes line why = λ call a.
    says_leads (on_journal accepted bytes) verdict.Script line call (journal_refused accepted bytes line why) a

pub no_project_leads : (accepted : Project → Plan) (bytes line : List ℕ) → IsNoProject bytes line
    → LeadsTo (on_project accepted bytes) (Say verdict.Project (only line))
no_project_leads accepted bytes line why = λ call a.
    says_leads (on_project accepted bytes) verdict.Project line call (project_refused accepted bytes line why) a

-- an accepted project
pub project_read : (j bytes : List ℕ) (count : ℕ) (project : Project) → project_of bytes ≡ Ok project → LeadsTo (on_project (journal_read j count) bytes) (journal_read j count project)
project_read j bytes count project is = project_leads (journal_read j count) bytes project (journal_read j count project) is (λ call a. a)

-- an accepted journal
pub journal_accepted : (accepted : List Event → Plan) (bytes : List ℕ) (journal : List Event) → journal_of bytes ≡ Ok journal → LeadsTo (on_journal accepted bytes) (accepted journal)
journal_accepted accepted bytes journal is =
    let P : Result (List Event) JournalFault → Type 0 = λ r. LeadsTo (of_journal accepted r) (accepted journal) in
    subst P (sym is) (λ call a. a)

-- what is written of the stations is a text of them
pub watched_written : (project : Project) (journal : List Event) (count : ℕ) (text : List ℕ) (call : Call)
    → IsStationsText project journal count text
    → Answered (Say verdict.Ok (only text)) call → Answered (journal_watched count project journal) call
watched_written project journal count text call is a =
    says_leads (journal_watched count project journal) verdict.Ok text call (refl, is) a

-- ---- status 0

-- it is the ending of a call that said so
pub said_ok : (v : Verdict) (texts : Texts) (told : Told) (failures : Change Failures) (held : Change (Option (List ℕ))) (faults : Change ℕ) (s : Status)
    → Answered (Say v texts) (call_with told failures held faults (ending_of s)) → s ≡ status.Ok → verdict.Ok ≡ v
said_ok v texts told failures held faults s a ok =
    let P : Status → Type 0 = λ x. Writes v texts (call_with told failures held faults (ending_of x)) in
    (subst P ok a.0).0

-- and of none whose file didn't come
pub came_if_ok : (fault : FileFault) (s : Status) → ending_of s ≡ after_read fault → s ≡ status.Ok → ⊥
came_if_ok fault s is ok = go fault (subst (λ x. ending_of x ≡ after_read fault) ok is)
  where
    go : (f : FileFault) → ending_of status.Ok ≡ after_read f → ⊥
    go file.Failed h = cc h
    go (file.TooLong taken) h = cc h
    go file.Memory h = cc h
