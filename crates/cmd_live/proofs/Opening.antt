-- What a call comes to.
use Rattle.std.proofs.Common.{◌≡◌, ◌≤◌, ℕ, List, [], ◌++◌, length, IfSome, Result, Ok, Err, OnOk, inl, inr, refl, sym, ◌∙◌, subst, append-nil}
use Rattle.spec_base.specs.declared.limits.TheConstants.{MAX_FILE_BYTES}
use Rattle.spec_machine.specs.Project.{Project}
use Rattle.spec_project.specs.declared.fault.ProjectFault.{ProjectFault}
use Rattle.spec_project.specs.Projects.{project_of}
use Rattle.lgx_io.specs.declared.files.FileFault.{FileFault}
use Rattle.lgx_io.specs.declared.sink.SinkFault.{SinkFault}
use Rattle.lgx_io.specs.declared.sink.SinkFault.TheVariants as sink
use Rattle.lgx_io.specs.Files.{added, IsCause}
use Rattle.lgx_answer.specs.declared.status.Verdict.{Verdict}
use Rattle.lgx_answer.specs.declared.status.Verdict.TheVariants as verdict
use Rattle.lgx_answer.specs.Endings.{Ending, after_puts, after_read}
use Rattle.lgx_answer.specs.Endings as ending
use Rattle.lgx_answer.specs.Answered.{Told, Failures}
use Rattle.lgx_answer.proofs.Follow.{says_put, missed}
use Rattle.lgx_judge.specs.Judged.{IsNoProject}
use Rattle.lgx_judge.specs.CauseLines.{project_cause_line}
use Rattle.lgx_live.specs.Console.{ConsoleSeen, IsSameInput, Says}
use Rattle.lgx_live.specs.Talks.{Talks}
use Rattle.lgx_live.proofs.Talking.{talk_begins, talk_stops}
use Rattle.cmd_live.specs.LiveCall.{LiveCall, IsSaid, IsTalked, OnProject, OnFile}

abbrev pub call : Told → Failures → Failures → ConsoleSeen → ConsoleSeen → Ending → LiveCall
call told f g a b answer = record { told = told; failures = record { old = f; new = g }; old = a; new = b; answer = answer }

-- what holds after puts that were done holds if the call said so
if_said : (done : Result (Unit {0}) SinkFault) (v : Verdict) (A : Type 0) → OnOk done A → after_puts done v ≡ ending.Said v → A
if_said (Ok x) v A a e = a
if_said (Err sink.Failed) v A a e = absurd (cc e)
if_said (Err sink.Memory) v A a e = absurd (cc e)

pub said : (told : Told) (f : Failures) (a b : ConsoleSeen) (done : Result (Unit {0}) SinkFault) (v : Verdict) (text : List ℕ) (answer : Ending) → Says a b text done → OnOk done (b.waiting ≡ []) → answer ≡ after_puts done v
    → IsSaid v text (call told f f a b answer)
said told f a b done v text answer says written is = record {
  answered = says_put told (record { old = f; new = f }) (record { old = a.held; new = b.held }) (record { old = a.faults; new = b.faults }) done v text answer refl says.puts is;
  written = λ e. if_said done v (b.waiting ≡ []) written (sym is ∙ e);
  input = says.input;
}

same_input : (a : ConsoleSeen) → IsSameInput a a
same_input a = record { lines = refl; asked = refl; misses = refl }

-- memory runs out before anything is said
unsaid : (told : Told) (f : Failures) (a : ConsoleSeen) (v : Verdict) (text : List ℕ) → IsSaid v text (call told f f a a ending.Memory)
unsaid told f a v text = record { answered = ((inr refl, refl), refl); written = λ e. absurd (cc e); input = same_input a }

untalked : (told : Told) (f : Failures) (a : ConsoleSeen) (project : Project) → a.waiting ≡ [] → IsTalked project (call told f f a a ending.Memory)
untalked told f a project h = record { talks = talk_stops project a a [] (talk_begins project a h); failures = refl }

pub stopped : (told : Told) (f : Failures) (a : ConsoleSeen) (bytes : List ℕ) → a.waiting ≡ [] → OnProject (project_of bytes) (call told f f a a ending.Memory)
stopped told f a bytes h = at (project_of bytes)
  where
    at : (r : Result Project ProjectFault) → OnProject r (call told f f a a ending.Memory)
    at (Err fault) = unsaid told f a verdict.Project (project_cause_line fault)
    at (Ok project) = untalked told f a project h

pub accepted : (told : Told) (f : Failures) (a b : ConsoleSeen) (answer : Ending) (bytes : List ℕ) (project : Project) → project_of bytes ≡ Ok project → Talks project a b answer → OnProject (project_of bytes) (call told f f a b answer)
accepted told f a b answer bytes project is talks =
    let P : Result Project ProjectFault → Type 0 = λ r. OnProject r (call told f f a b answer) in
    subst P (sym is) (record { talks = talks; failures = refl })

pub refused : (told : Told) (f : Failures) (a b : ConsoleSeen) (answer : Ending) (bytes line shown : List ℕ) → IsNoProject bytes line → shown ≡ line → IsSaid verdict.Project shown (call told f f a b answer) → OnProject (project_of bytes) (call told f f a b answer)
refused told f a b answer bytes line shown refusal same says =
    let P : Result Project ProjectFault → Type 0 = λ r. OnProject r (call told f f a b answer) in
    let Q : List ℕ → Type 0 = λ t. IsSaid verdict.Project t (call told f f a b answer) in
    subst P (sym refusal.refused) (subst Q (same ∙ refusal.line_is) says)

pub missing : (told : Told) (f g : Failures) (a : ConsoleSeen) (name : List ℕ) (fault : FileFault) (answer : Ending) → IsCause (told name) fault → g ≡ f ++ added name (Err fault) → answer ≡ after_read fault
    → OnFile name (call told f g a a answer)
missing told f g a name fault answer why gains is =
    let P : Ending → Type 0 = λ e. OnFile name (call told f g a a e) in
    subst P (sym is) (inl (record {
      misses = missed told name fault (record { old = f; new = g }) (record { old = a.held; new = a.held }) (record { old = a.faults; new = a.faults }) why gains;
      silent = record { held = refl; faults = refl };
      input = same_input a;
    }))

pub whole : (told : Told) (f g : Failures) (a b : ConsoleSeen) (name bytes shown : List ℕ) (answer : Ending) → length bytes ≤ MAX_FILE_BYTES → IfSome (told name) (λ contents. bytes ≡ contents) → g ≡ f ++ [] → shown ≡ bytes
    → OnProject (project_of shown) (call told f f a b answer) → OnFile name (call told f g a b answer)
whole told f g a b name bytes shown answer short is same seen on =
    let P : Failures → Type 0 = λ g. OnFile name (call told f g a b answer) in
    let Q : List ℕ → Type 0 = λ t. OnProject (project_of t) (call told f f a b answer) in
    subst P (sym (same ∙ append-nil f)) (inr (bytes, record { short = short; whole = is }, subst Q seen on))
