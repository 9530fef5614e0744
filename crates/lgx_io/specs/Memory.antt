-- Files and sinks in memory, as contracts see them.
use Rattle.std.specs.Prelude.{◌≡◌, ℕ, List, [], length, map, find, Bool, ◌==◌, nat_le, if◌then◌else◌, Option, Some, None, option_map, unwrap_or, Result, Ok, Err, String, string_bytes, Vec}
use Rattle.std.specs.List.{list_any}
use Rattle.std.specs.Str.{bytes_eq}
use Rattle.std.specs.declared.alloc.Global.{Global}
use Rattle.lgx_io.specs.declared.files.FileFault.{FileFault}
use Rattle.lgx_io.specs.declared.files.FileFault.TheVariants.{Failed, TooLong, Memory}
use Rattle.lgx_io.specs.declared.files.ReadCause.{ReadCause}
use Rattle.lgx_io.specs.declared.files.ReadCause.TheVariants as cause
use Rattle.lgx_io.specs.declared.files.FailedRead.{FailedRead}
use Rattle.lgx_io.specs.Sink.{next_count}
use Rattle.spec_base.specs.declared.limits.TheConstants.{MAX_FILE_BYTES}

-- ---- files

-- the pairs of a name and contents
abbrev pub stored : List (String Global × Vec ℕ Global) → List (List ℕ × List ℕ)
stored files = map (λ f. (string_bytes f.0, f.1.items)) files

-- the reads that failed, each by its name and its cause
abbrev pub failed_reads : List FailedRead → List (List ℕ × ReadCause)
failed_reads reads = map (λ r. (string_bytes r.name, r.cause)) reads

-- the contents of a name: of several entries of one name the first counts
abbrev pub contents_at : List (List ℕ × List ℕ) → List ℕ → Option (List ℕ)
contents_at files name = option_map (λ f. f.1) (find (λ f. bytes_eq f.0 name) files)

-- the contents of a name, and none if it is unknown
abbrev pub contents_or_empty : List (List ℕ × List ℕ) → List ℕ → List ℕ
contents_or_empty files name = unwrap_or (contents_at files name) []

-- what a file of these contents answers: all of them, or that they are too long
abbrev pub whole_or_too_long : List ℕ → Result (List ℕ) FileFault
whole_or_too_long contents = if nat_le (length contents) MAX_FILE_BYTES then Ok contents else Err (TooLong (length contents))

-- a file that isn't there fails
abbrev pub whole_or_failed : Option (List ℕ) → Result (List ℕ) FileFault
whole_or_failed None = Err Failed
whole_or_failed (Some contents) = whole_or_too_long contents

-- the result is this answer, or out of memory
abbrev pub AnswersBytes : Result (Vec ℕ Global) FileFault → Result (List ℕ) FileFault → Type 0
AnswersBytes (Ok bytes) answer = answer ≡ Ok bytes.items
AnswersBytes (Err Failed) answer = answer ≡ Err Failed
AnswersBytes (Err (TooLong taken)) answer = answer ≡ Err (TooLong taken)
AnswersBytes (Err Memory) answer = Unit {0}

-- `MemFiles`: the files, the numbers of the calls that fail, the number of calls so far and the failures
pub record MemFilesState : Type 0 where
  pub files : List (List ℕ × List ℕ)
  pub failing : List ℕ
  pub calls : ℕ
  pub failures : List (List ℕ × ReadCause)

-- whether the next call is one of those that fail; the first call has number 1
abbrev pub fails_next : MemFilesState → Bool
fails_next m = list_any (λ number. number == next_count m.calls) m.failing

-- what a read answers, if there is memory
abbrev pub read_answer : MemFilesState → List ℕ → Result (List ℕ) FileFault
read_answer m name = if fails_next m then Err Failed else whole_or_failed (contents_at m.files name)

-- the number of calls after a read, which doesn't count if it was out of memory
abbrev pub calls_after : ℕ → Result (Vec ℕ Global) FileFault → ℕ
calls_after calls (Ok bytes) = next_count calls
calls_after calls (Err Failed) = next_count calls
calls_after calls (Err (TooLong taken)) = next_count calls
calls_after calls (Err Memory) = calls

-- `SureFiles`: the files, and the names of those that were found too long
pub record SureFilesState : Type 0 where
  pub files : List (List ℕ × List ℕ)
  pub too_long : List (List ℕ)

-- the failures of `SureFiles`: all of them for the length
abbrev pub too_long_reads : List (List ℕ) → List (List ℕ × ReadCause)
too_long_reads names = map (λ name. (name, cause.TooLong)) names

-- ---- sinks

-- `MemSink`: the bytes held, the calls that fail with the number of bytes that each keeps, the number of calls
-- so far and the count of faults
pub record MemSinkState : Type 0 where
  pub held : List ℕ
  pub failing : List (ℕ × ℕ)
  pub calls : ℕ
  pub faults : ℕ

-- how many bytes the next call keeps, if it is one that fails: of several pairs of one call the first counts
abbrev pub kept_next : MemSinkState → Option ℕ
kept_next s = option_map (λ pair. pair.1) (find (λ pair. pair.0 == next_count s.calls) s.failing)
