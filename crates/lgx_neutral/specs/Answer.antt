-- The answers to a reading. Only that it runs out of memory is free.
use Rattle.std.specs.Prelude.{◌≡◌, Result, Ok, Err}
use Rattle.lgx_rung.specs.declared.fault.TextFault.{TextFault}
use Rattle.lgx_rung.specs.Tree.{Source}
use Rattle.lgx_neutral.specs.declared.fault.RungError.{RungError}
use Rattle.lgx_neutral.specs.declared.fault.RungError.TheVariants.{Text, Memory}

-- the answer is what is said, or memory ran out
abbrev pub AnswersRung : (said : Result Source TextFault) → Result Source RungError → Type 0
AnswersRung said (Ok r) = said ≡ Ok r
AnswersRung said (Err (Text f)) = said ≡ Err f
AnswersRung said (Err Memory) = Unit {0}

-- what holds of the fault, if the answer is one
abbrev pub IfFault : Result Source RungError → (TextFault → Type 0) → Type 0
IfFault (Ok r) P = Unit {0}
IfFault (Err (Text f)) P = P f
IfFault (Err Memory) P = Unit {0}
