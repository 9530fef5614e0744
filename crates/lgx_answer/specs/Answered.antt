-- What each call of a command answers.
use Rattle.std.specs.Prelude.{◌≡◌, ◌⊎◌, ◌<◌, ◌≤◌, ℕ, List, [], ◌∷◌, ◌++◌, length, Option, IfSome}
use Rattle.std.specs.Io.KnownBytes.{Appends}
use Rattle.spec_base.specs.declared.limits.TheConstants.{MAX_FILE_BYTES}
use Rattle.lgx_io.specs.declared.files.ReadCause.{ReadCause}
use Rattle.lgx_io.specs.declared.files.ReadCause.TheVariants as cause
use Rattle.lgx_io.specs.Sink.{FaultsRose, AppendsPart}
use Rattle.lgx_answer.specs.declared.status.Verdict.{Verdict}
use Rattle.lgx_answer.specs.Endings.{Ending}
use Rattle.lgx_answer.specs.Endings as ending
use Rattle.lgx_answer.specs.Plan.{Texts, Plan, Say, Read, OneOf}

-- a value before the call and after it
pub record Change (A : Type 0) : Type 0 where
  pub old : A
  pub new : A

-- the contents of the files by name, where they are known
abbrev pub Told : Type 0
Told = List ℕ → Option (List ℕ)

-- the reads that failed, each by its name and its cause
abbrev pub Failures : Type 0
Failures = List (List ℕ × ReadCause)

-- what is known of the files' contents, the reads that failed, what the sink holds, its count of faults, and the answer
pub record Call : Type 0 where
  pub told : Told
  pub failures : Change Failures
  pub held : Change (Option (List ℕ))
  pub faults : Change ℕ
  pub answer : Ending

-- a call by its parts
abbrev pub call_with : Told → Change Failures → Change (Option (List ℕ)) → Change ℕ → Ending → Call
call_with told failures held faults answer = record { told = told; failures = failures; held = held; faults = faults; answer = answer }

-- the call of these files, before it and after it, of this sink, and of this answer, where these functions describe files and sinks
abbrev pub call_of : {F K : Type 0} → (F → Told) → (F → Failures) → F → F → (K → Option (List ℕ)) → (K → ℕ) → K → K → Ending → Call
call_of told failures files now held faults sink then answer = record {
  told = told files;
  failures = record { old = failures files; new = failures now };
  held = record { old = held sink; new = held then };
  faults = record { old = faults sink; new = faults then };
  answer = answer;
}

-- the list of failures gained this pair and no other
abbrev pub Gains : Change Failures → List ℕ → ReadCause → Type 0
Gains failures name why = failures.new ≡ failures.old ++ (name, why) ∷ []

-- the bytes of a file that came whole: not too many, and those of its contents, if these are known
pub record Came (told : Told) (name : List ℕ) (bytes : List ℕ) : Type 0 where
  pub short : length bytes ≤ MAX_FILE_BYTES
  pub whole : IfSome (told name) (λ contents. bytes ≡ contents)

-- a text of these was added, or a first part of one
abbrev pub AddsOf : Change (Option (List ℕ)) → Texts → Type 0
AddsOf held texts = (text : List ℕ) × texts text × Appends held.old held.new text

abbrev pub AddsPartOf : Change (Option (List ℕ)) → Texts → Type 0
AddsPartOf held texts = (text : List ℕ) × texts text × AppendsPart held.old held.new text

-- How the text is written: all of it; or a first part and the sink failed; or a first part, maybe nothing, and memory ran out.
abbrev pub Writes : Verdict → Texts → Call → Type 0
Writes verdict texts call = go call.answer
  where
    go : Ending → Type 0
    go (ending.Said said) = (said ≡ verdict) × AddsOf call.held texts × (call.faults.new ≡ call.faults.old)
    go ending.ReadFault = ⊥
    go ending.WriteFault = AddsPartOf call.held texts × FaultsRose call.faults.old call.faults.new
    go ending.Memory = (AddsPartOf call.held texts ⊎ (call.held.new ≡ call.held.old)) × (call.faults.new ≡ call.faults.old)
    go ending.TooLong = ⊥

-- Why a file doesn't come whole: the read failed, or the file is too long, and is noted as such; or memory ran out.
abbrev pub Misses : List ℕ → Call → Type 0
Misses name call = go call.answer
  where
    go : Ending → Type 0
    go (ending.Said said) = ⊥
    go ending.ReadFault = Gains call.failures name cause.Failed
    go ending.WriteFault = ⊥
    go ending.Memory = call.failures.new ≡ call.failures.old
    go ending.TooLong =
        Gains call.failures name cause.TooLong × IfSome (call.told name) (λ contents. MAX_FILE_BYTES < length contents)

-- Nothing was written.
pub record IsSilent (call : Call) : Type 0 where
  pub held : call.held.new ≡ call.held.old
  pub faults : call.faults.new ≡ call.faults.old

-- Memory ran out, no read failed, and nothing was written.
pub record RunsOut (call : Call) : Type 0 where
  pub answer : call.answer ≡ ending.Memory
  pub failures : call.failures.new ≡ call.failures.old
  pub silent : IsSilent call

-- All that is said of a call. Its files come one after another, each whole, up to a verdict whose text is written, and no read
-- failed; or up to one that doesn't come, and nothing is written. Of several plans the call follows one, unless memory runs out
-- before that one is known.
abbrev pub Answered : Plan → Call → Type 0
Answered (Say verdict texts) call = Writes verdict texts call × (call.failures.new ≡ call.failures.old)
Answered (Read name next) call =
    (Misses name call × IsSilent call) ⊎ ((bytes : List ℕ) × Came call.told name bytes × Answered (next bytes) call)
Answered (OneOf A plans) call = RunsOut call ⊎ ((x : A) × Answered (plans x) call)

-- Whatever is answered to the second plan is an answer to the first: what they say of a call is the same, or the second says more.
-- (Plans hold sets of texts, so they are too large for a clause to say that two of them are equal.)
abbrev pub LeadsTo : Plan → Plan → Type 0
LeadsTo plan next = (call : Call) → Answered next call → Answered plan call
