-- A status that answers a question answers that of the three files.
use Rattle.std.proofs.Common.{◌≡◌, ◌⊎◌, inl, inr, ℕ, List, [], ◌∷◌, Bool, true, false, Option, Some, Result, Ok, Err, refl, sym, ap, ◌∙◌, subst, true≢false}
use Rattle.spec_machine.specs.Project.{Project}
use Rattle.spec_text.specs.declared.script.JournalFault.{JournalFault}
use Rattle.spec_text.specs.Scripts.{Script}
use Rattle.spec_text.specs.ScriptText.{script_of}
use Rattle.spec_text.specs.ReportText.{names_of}
use Rattle.spec_project.specs.declared.fault.ProjectFault.{ProjectFault}
use Rattle.spec_project.specs.Projects.{project_of}
use Rattle.spec_explore.specs.declared.question.Question.{Question}
use Rattle.spec_explore.specs.declared.question.QuestionFault.{QuestionFault}
use Rattle.spec_explore.specs.QuestionText.{question_of}
use Rattle.lgx_io.specs.Gathered.{GatheredState, held_by}
use Rattle.lgx_answer.specs.declared.status.Verdict.{Verdict}
use Rattle.lgx_answer.specs.declared.status.Verdict.TheVariants as verdict
use Rattle.lgx_answer.specs.declared.status.Status.{Status}
use Rattle.lgx_answer.specs.declared.status.Status.TheVariants as status
use Rattle.lgx_answer.specs.Endings.{ending_of, number}
use Rattle.lgx_answer.specs.Endings as ending
use Rattle.lgx_answer.specs.Answered.{Change, Told as Contents, Failures, call_with, Came, AddsOf, Answered}
use Rattle.lgx_answer.specs.Exit.{ExitsWritten, ExitsUnwritten}
use Rattle.lgx_answer.specs.Laws.{Reaches}
use Rattle.lgx_answer.specs.Process.{IsProcess}
use Rattle.lgx_answer.proofs.Follows.{only_if}
use Rattle.lgx_answer.specs.Plan.{Read}
use Rattle.lgx_judge.specs.Plans.{of_project, of_script}
use Rattle.cmd_explore.specs.ExplorePlan.{answered, of_question, question_read, script_read, explore_plan, plan_of}
use Rattle.cmd_explore.specs.Explored.{said_by, Explored, EndsExplored}

-- ---- verdicts that answer a question

abbrev is_answer : Verdict → Bool
is_answer verdict.Ok = true
is_answer verdict.Breach = true
is_answer verdict.Unknown = true
is_answer verdict.Usage = false
is_answer verdict.Project = false
is_answer verdict.Script = false

record IsAnswer (s : Status) (said : Verdict) : Type 0 where
  pub ends : ending_of s ≡ ending.Said said
  pub answers : is_answer said ≡ true

answers_as : (s : Status) (v said : Verdict) → ending_of s ≡ ending.Said v → is_answer v ≡ true → v ≡ said → IsAnswer s said
answers_as s v said ends answers same = subst (λ (w : Verdict). IsAnswer s w) same (record { ends = ends; answers = answers })

answers_by : (s : Status) (said : Verdict) → said_by (number s) ≡ Some said → IsAnswer s said
answers_by status.Ok said is = answers_as status.Ok verdict.Ok said refl refl (cc is)
answers_by status.Breach said is = answers_as status.Breach verdict.Breach said refl refl (cc is)
answers_by status.Unknown said is = answers_as status.Unknown verdict.Unknown said refl refl (cc is)
answers_by status.Usage said is = absurd (cc is)
answers_by status.Project said is = absurd (cc is)
answers_by status.Script said is = absurd (cc is)
answers_by status.ReadFault said is = absurd (cc is)
answers_by status.WriteFault said is = absurd (cc is)
answers_by status.Memory said is = absurd (cc is)
answers_by status.TooLong said is = absurd (cc is)

-- ---- file by file

module _ (contents : Contents) (held : Change (Option (List ℕ))) (p s q : List ℕ) (said : Verdict) (answers : is_answer said ≡ true) where
  by_question : (pt st qt : List ℕ) (project : Project) (script : Script) → Came contents p pt → project_of pt ≡ Ok project → Came contents s st → script_of st ≡ Ok script → Came contents q qt
      → (r : Result Question QuestionFault) → question_of (names_of project) qt ≡ r → Reaches contents (of_question (answered project script) r) said (AddsOf held) → Explored contents held p s q said
  by_question pt st qt project script pc pi sc si qc (Err fault) is h = absurd (true≢false (sym answers ∙ ap is_answer h.0))
  by_question pt st qt project script pc pi sc si qc (Ok question) is h = record {
    project = project;
    script = script;
    question = question;
    read = record { project_text = pt; project_came = pc; is_project = pi; script_text = st; script_came = sc; is_script = si; question_text = qt; question_came = qc; is_question = is };
    told = h.0.told;
    is_told = h.0.is;
    is_said = h.1.0;
    text = h.1.1.0;
    is_text = h.1.1.1;
    added = h.1.1.2;
  }

  by_script : (pt st : List ℕ) (project : Project) → Came contents p pt → project_of pt ≡ Ok project → Came contents s st
      → (r : Result Script JournalFault) → script_of st ≡ r → Reaches contents (of_script (λ script. Read q (question_read project script)) r) said (AddsOf held) → Explored contents held p s q said
  by_script pt st project pc pi sc (Err fault) is h = absurd (true≢false (sym answers ∙ ap is_answer h.0))
  by_script pt st project pc pi sc (Ok script) is (qt, qc, h) =
      by_question pt st qt project script pc pi sc is qc (question_of (names_of project) qt) refl h

  by_project : (pt : List ℕ) → Came contents p pt
      → (r : Result Project ProjectFault) → project_of pt ≡ r → Reaches contents (of_project (λ project. Read s (script_read q project)) r) said (AddsOf held) → Explored contents held p s q said
  by_project pt pc (Err fault) is h = absurd (true≢false (sym answers ∙ ap is_answer h.0))
  by_project pt pc (Ok project) is (st, sc, h) = by_script pt st project pc is sc (script_of st) refl h

  explored : Reaches contents (explore_plan p s q) said (AddsOf held) → Explored contents held p s q said
  explored (pt, pc, h) = by_project pt pc (project_of pt) refl h

-- ---- by the words of the command line

pub words_explored : (words : List (List ℕ)) (contents : Contents) (failures : Change Failures) (held : Change (Option (List ℕ))) (faults : Change ℕ) (st : Status) (p s q : List ℕ) (said : Verdict)
    → Answered (plan_of words) (call_with contents failures held faults (ending_of st)) → words ≡ p ∷ s ∷ q ∷ [] → said_by (number st) ≡ Some said → Explored contents held p s q said
words_explored words contents failures held faults st p s q said a same is =
    let call = call_with contents failures held faults (ending_of st) in
    let P : List (List ℕ) → Type 0 = λ ws. Answered (plan_of ws) call in
    let known = answers_by st said is in
    explored contents held p s q said known.answers (only_if (explore_plan p s q) call said (subst P same a) known.ends)

pub process_explored : (words : List (List ℕ)) (contents : Contents) (failures : Change Failures) (old new : GatheredState) (ends : ℕ) (p s q : List ℕ) (said : Verdict)
    → IsProcess (plan_of words) contents failures old new ends → words ≡ p ∷ s ∷ q ∷ [] → said_by ends ≡ Some said → EndsExplored contents old new p s q said
process_explored words contents failures old new ends p s q said process same is = by_exit process.exits.1
  where
    by_exit : ExitsWritten process.status process.after new ends ⊎ ExitsUnwritten process.after new ends → EndsExplored contents old new p s q said
    by_exit (inl written) = record {
      after = process.after;
      explored =
          words_explored words contents failures (record { old = held_by old; new = held_by process.after }) (record { old = old.faults; new = process.after.faults }) process.status p s q said process.follows.ends same (ap said_by (sym written.exit) ∙ is);
      kept = process.exits.0;
      written = written.written;
    }
    by_exit (inr unwritten) = absurd (let none : said_by (number status.WriteFault) ≡ Some said = ap said_by (sym unwritten.exit) ∙ is in cc none)
