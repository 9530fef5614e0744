-- What follows from an answer, by its status, and what a call must answer.
use Rattle.std.specs.Prelude.{◌≡◌, ◌≢◌, ◌⊎◌, ◌<◌, ◌≤◌, ℕ, List, length, Some}
use Rattle.std.specs.Io.KnownBytes.{Appends}
use Rattle.spec_base.specs.declared.limits.TheConstants.{MAX_FILE_BYTES}
use Rattle.lgx_io.specs.declared.files.ReadCause.TheVariants as cause
use Rattle.lgx_io.specs.Sink.{FaultsRose}
use Rattle.lgx_answer.specs.declared.status.Verdict.{Verdict}
use Rattle.lgx_answer.specs.Endings.{Ending}
use Rattle.lgx_answer.specs.Endings as ending
use Rattle.lgx_answer.specs.Plan.{Texts, Plan, Say, Read, OneOf}
use Rattle.lgx_answer.specs.Answered.{Told, Call, Came, Gains, AddsOf, Answered}

-- files that came whole lead the plan to this verdict, whose texts are of this kind
abbrev pub Reaches : Told → Plan → Verdict → (Texts → Type 0) → Type 0
Reaches told (Say verdict texts) wanted P = (wanted ≡ verdict) × P texts
Reaches told (Read name next) wanted P = (bytes : List ℕ) × Came told name bytes × Reaches told (next bytes) wanted P
Reaches told (OneOf A plans) wanted P = (x : A) × Reaches told (plans x) wanted P

-- The files that are read have known contents and didn't fail, and they come to this status: to a verdict, and no put failed; or to
-- a file that is too long.
abbrev pub Comes : Call → Plan → Ending → Type 0
Comes call (Say verdict texts) wanted =
    (wanted ≡ ending.Said verdict) × (FaultsRose call.faults.old call.faults.new → ⊥)
Comes call (Read name next) wanted =
    (bytes : List ℕ) × (call.told name ≡ Some bytes) × (Gains call.failures name cause.Failed → ⊥) × (((MAX_FILE_BYTES < length bytes) × (wanted ≡ ending.TooLong)) ⊎ ((length bytes ≤ MAX_FILE_BYTES) × Comes call (next bytes) wanted))
Comes call (OneOf A plans) wanted = (x : A) → Comes call (plans x) wanted

-- what is known of the files leads the plan to this text alone
abbrev pub IsSure : Told → Plan → Verdict → List ℕ → Type 0
IsSure told (Say verdict texts) wanted text = (wanted ≡ verdict) × ((t : List ℕ) → texts t → t ≡ text)
IsSure told (Read name next) wanted text = (bytes : List ℕ) × (told name ≡ Some bytes) × IsSure told (next bytes) wanted text
IsSure told (OneOf A plans) wanted text = (x : A) → IsSure told (plans x) wanted text

-- All that is said of a call of a plan. Everything follows from `ends`; the others say it by the status.
pub record FollowsPlan (plan : Plan) (call : Call) : Type 0 where
  -- what was read, what was written and what was noted
  pub ends : Answered plan call
  -- a verdict comes only if the plan has it there, and then all of a text of it was added
  pub only : (said : Verdict) → call.answer ≡ ending.Said said → Reaches call.told plan said (AddsOf call.held)
  -- what is known all along gives its status, or memory ran out
  pub comes : (wanted : Ending) → Comes call plan wanted → (call.answer ≡ wanted) ⊎ (call.answer ≡ ending.Memory)
  -- where what is known allows one text alone, no verdict adds another
  pub exact : (said wanted : Verdict) (text : List ℕ) → IsSure call.told plan wanted text → call.answer ≡ ending.Said said → (said ≡ wanted) × Appends call.held.old call.held.new text
  -- write fault: exactly if a put failed
  pub write_fault : call.answer ≡ ending.WriteFault → FaultsRose call.faults.old call.faults.new
  pub no_write_fault : call.answer ≢ ending.WriteFault → call.faults.new ≡ call.faults.old
  -- a file that couldn't be read, or is too long: nothing was written
  pub silent_at_read_fault : call.answer ≡ ending.ReadFault → call.held.new ≡ call.held.old
  pub silent_at_too_long : call.answer ≡ ending.TooLong → call.held.new ≡ call.held.old
