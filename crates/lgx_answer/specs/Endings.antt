-- How a call ends, and the numbers of the statuses.
use Rattle.std.specs.Prelude.{ℕ, Result, Ok, Err}
use Rattle.lgx_io.specs.declared.files.FileFault.{FileFault}
use Rattle.lgx_io.specs.declared.files.FileFault.TheVariants as file
use Rattle.lgx_io.specs.declared.sink.SinkFault.{SinkFault}
use Rattle.lgx_io.specs.declared.sink.SinkFault.TheVariants as sink
use Rattle.lgx_answer.specs.declared.status.Verdict.{Verdict}
use Rattle.lgx_answer.specs.declared.status.Verdict.TheVariants as verdict
use Rattle.lgx_answer.specs.declared.status.Status.{Status}
use Rattle.lgx_answer.specs.declared.status.Status.TheVariants as status

-- a verdict with its whole text, or what kept the call from one
pub data Ending : Type 0 where
  Said : Verdict → Ending
  ReadFault : Ending
  WriteFault : Ending
  Memory : Ending
  TooLong : Ending

-- which ending a status is
abbrev pub ending_of : Status → Ending
ending_of status.Ok = Said verdict.Ok
ending_of status.Usage = Said verdict.Usage
ending_of status.Project = Said verdict.Project
ending_of status.Script = Said verdict.Script
ending_of status.ReadFault = ReadFault
ending_of status.WriteFault = WriteFault
ending_of status.Memory = Memory
ending_of status.TooLong = TooLong
ending_of status.Breach = Said verdict.Breach
ending_of status.Unknown = Said verdict.Unknown

-- the number that the process ends with
abbrev pub number : Status → ℕ
number status.Ok = 0
number status.Usage = 1
number status.Project = 2
number status.Script = 3
number status.ReadFault = 4
number status.WriteFault = 5
number status.Memory = 6
number status.TooLong = 7
number status.Breach = 8
number status.Unknown = 9

-- how a call ends whose whole text is put, or cut off by a fault
abbrev pub after_puts : Result (Unit {0}) SinkFault → Verdict → Ending
after_puts (Ok done) whole = Said whole
after_puts (Err sink.Failed) whole = WriteFault
after_puts (Err sink.Memory) whole = Memory

-- how a call ends after a read that gave no bytes
abbrev pub after_read : FileFault → Ending
after_read file.Failed = ReadFault
after_read (file.TooLong taken) = TooLong
after_read file.Memory = Memory
