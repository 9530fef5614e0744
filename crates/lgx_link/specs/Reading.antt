-- How a reader's answer relates to what its definition says.
use Rattle.std.specs.Prelude.{ℕ, ◌+◌, List, ◌++◌, Result, Ok, Err}
use Rattle.lgx_journal.specs.declared.error.LineError.{LineError}
use Rattle.lgx_journal.specs.declared.error.LineError.TheVariants as line
use Rattle.spec_link.specs.declared.script.LinkCode.{LinkCode}
use Rattle.spec_link.specs.declared.script.LinkFault.{LinkFault}
use Rattle.spec_link.specs.declared.script.LinkScript.{LinkScript}
use Rattle.spec_link.specs.declared.script.LinkStep.{LinkStep}
use Rattle.spec_link.specs.LinkText.{code_of, no_counts, steps_from, with_steps, refused}
use Rattle.lgx_link.specs.declared.error.LinkError.{LinkError}
use Rattle.lgx_link.specs.declared.error.LinkError.TheVariants as whole
use Rattle.lgx_link.specs.declared.error.StepError.{StepError}
use Rattle.lgx_link.specs.declared.error.StepError.TheVariants as one

-- of a fault that is answered; running out of memory says nothing
abbrev pub IfLine : LinkError → (LinkFault → Type 0) → Type 0
IfLine (whole.Line fault) P = P fault
IfLine whole.Memory P = Unit {0}

abbrev pub IfCode : StepError → (LinkCode → Type 0) → Type 0
IfCode (one.Code code) P = P code
IfCode one.Memory P = Unit {0}

-- the error of a controller's line, as one of a link script
abbrev pub error_of : LineError → StepError
error_of (line.Code code) = one.Code (code_of code)
error_of line.Memory = one.Memory

-- the error of a line, by its number
abbrev pub error_at : StepError → ℕ → LinkError
error_at (one.Code code) n = whole.Line (record { code = code; line = n })
error_at one.Memory n = whole.Memory

-- what is read of the later lines, after the earlier ones
abbrev pub after_steps : List LinkStep → Result (List LinkStep) LinkFault → Result (List LinkStep) LinkFault
after_steps before (Err fault) = Err fault
after_steps before (Ok steps) = Ok (before ++ steps)

-- what a script is from its first line on, by what this line says
abbrev pub first_read : ℕ → List (List ℕ) → Result LinkScript LinkCode → Result LinkScript LinkFault
first_read n ls (Err code) = refused n code
first_read n ls (Ok s) = with_steps s (steps_from (n + 1) no_counts ls)
