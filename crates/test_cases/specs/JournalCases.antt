-- Texts of journals and scripts with what they are.
use Rattle.std.specs.Prelude.{ℕ, List, [], ◌∷◌, ◌++◌, map, replicate, take, codes, pos, negsuc, Result}
use Rattle.std.specs.List.{range_with_len}
use Rattle.spec_base.specs.declared.limits.TheConstants.{OWN_LANE}
use Rattle.spec_machine.specs.declared.event.RungEdit.{RungEdit}
use Rattle.spec_machine.specs.declared.event.RungEdit.TheVariants.{Replace, Insert, Delete}
use Rattle.spec_machine.specs.declared.event.Action.{Action}
use Rattle.spec_machine.specs.declared.event.Action.TheVariants.{WordIn, WordOut, Accept, Test, Untest, Assemble, Cancel, ForceInstall, ForceEnable, ForceDisable, ForceRemove, ModeRun, ModeProgram, Clear}
use Rattle.spec_machine.specs.declared.event.Event.{Event}
use Rattle.spec_machine.specs.declared.event.Event.TheVariants.{Cpu, Tick, Act}
use Rattle.spec_text.specs.declared.script.Timed.{Timed}
use Rattle.spec_text.specs.Scripts.{Script}
use Rattle.spec_text.specs.declared.script.JournalFault.{JournalFault}
use Rattle.spec_machine.specs.Commands.{accept_command}
use Rattle.spec_text.specs.ScriptText.{script_of}

abbrev pub cpu : ℕ → List Event
cpu n = replicate n Cpu

abbrev pub tick : ℕ → List Event
tick n = replicate n Tick

abbrev pub accept : List ℕ → List ℕ → List RungEdit → Action
accept program routine edits = Accept (accept_command program routine edits)

-- a run of a script with a tick after every second processor step
abbrev pub paced_text : List ℕ
paced_text = codes "mode run\ncpu 2\ntick 1\ncpu 1\nend\n"

abbrev pub paced : List Event
paced = Act OWN_LANE ModeRun ∷ cpu 2 ++ tick 1 ++ cpu 1

-- a rung is replaced, tested and untested
abbrev pub tested_text : List ℕ
tested_text = codes "mode run\ncpu 2\n@0 accept P M r 1 MOV(3,n);\n@0 test P\ncpu 5\n@0 untest P\ncpu 2\nend\n"

abbrev pub tested : List Event
tested = Act OWN_LANE ModeRun ∷ cpu 2 ++ Act 0 (accept (codes "P") (codes "M") (Replace 1 (codes "MOV(3,n);") ∷ [])) ∷ Act 0 (Test (codes "P")) ∷ cpu 5 ++ Act 0 (Untest (codes "P")) ∷ cpu 2

-- two lanes edit one program
abbrev pub one_program_text : List ℕ
one_program_text = codes "mode run\n@0 cancel P\n@0 accept P M r 0 XIC(zz)OTE(x);\n@1 accept P M r 1 MOV(6,n);\n@1 cancel P\ncpu 3\nend\n"

abbrev pub one_program : List Event
one_program =
    Act OWN_LANE ModeRun ∷ Act 0 (Cancel (codes "P")) ∷ Act 0 (accept (codes "P") (codes "M") (Replace 0 (codes "XIC(zz)OTE(x);") ∷ [])) ∷ Act 1 (accept (codes "P") (codes "M") (Replace 1 (codes "MOV(6,n);") ∷ [])) ∷ Act 1 (Cancel (codes "P")) ∷ cpu 3

-- three edits in one accept, with blanks that aren't the canonical ones
abbrev pub edits_text : List ℕ
edits_text = codes "# edits\n\n@0  accept P M r 0 NOP(); | d 0|i 02 \t XIQ(); \r | i 3\r\n@30 assemble P\nend"

abbrev pub edits : List Event
edits =
    Act 0 (accept (codes "P") (codes "M") (Replace 0 (codes "NOP();") ∷ Delete 0 ∷ Insert 2 (codes "XIQ();") ∷ Insert 3 [] ∷ [])) ∷ Act 30 (Assemble (codes "P")) ∷ []

abbrev pub edits_canonical : List ℕ
edits_canonical = codes "@0 accept P M r 0 NOP(); | d 0 | i 2 XIQ(); | i 3\n@30 assemble P\nend\n"

-- I/O words, forces and modes
abbrev pub words_text : List ℕ
words_text = codes "@0 force Out1 5 1 1\n@0 force enable\n@0 force Out1 0 -2147483648 2147483647\n@0 out Out1 0\n@0 force disable\n@0 force remove\n@0 in Zz 0 -1\nmode program\nclear\ntick 3\nend\n"

abbrev pub words : List Event
words =
    Act 0 (ForceInstall (codes "Out1") 5 (pos 1) (pos 1)) ∷ Act 0 ForceEnable ∷ Act 0 (ForceInstall (codes "Out1") 0 (negsuc 2147483647) (pos 2147483647)) ∷ Act 0 (WordOut (codes "Out1") 0) ∷ Act 0 ForceDisable ∷ Act 0 ForceRemove ∷ Act 0 (WordIn (codes "Zz") 0 (negsuc 0)) ∷ Act 31 ModeProgram ∷ Act 31 Clear ∷ tick 3

-- lines that have none of the forms
abbrev pub formless : List (List ℕ)
formless =
    codes "  " ∷ codes "cpu" ∷ codes "cpu 1 2" ∷ codes "cpu -1" ∷ codes "cpu 4294967296" ∷ codes "cpu 00000000001" ∷ codes "CPU 1" ∷
    codes "cpu\t1" ∷ codes " # no" ∷ codes "@ mode run" ∷ codes "@0" ∷ codes "@0 cpu 1" ∷ codes "mode test" ∷ codes "test 1P" ∷
    codes "test P__Q" ∷ codes "in I 0 2147483648" ∷ codes "in I 0 --1" ∷ codes "in I -1 0" ∷ codes "out I" ∷ codes "force" ∷
    codes "force disable all" ∷ codes "force I 0 1" ∷ codes "accept P M" ∷ codes "accept P M r" ∷ codes "accept P M r x NOP();" ∷
    codes "accept P M d 0 NOP();" ∷ codes "accept P M r 0 NOP(); |" ∷
    codes "accept P M d 0|d 0|d 0|d 0|d 0|d 0|d 0|d 0|d 0|d 0|d 0|d 0|d 0|d 0|d 0|d 0|d 0" ∷ codes "run 3 2 0" ∷ codes "end it" ∷ []

abbrev pub before_end : List ℕ → List ℕ
before_end line = line ++ codes "\nend\n"

-- the script of three steps without a lane
abbrev pub plain_text : List ℕ
plain_text = codes "run 3 2 0\nend"

abbrev pub plain : Script
plain = record { steps = 3; pace = 2; lanes = [] }

-- what the beginnings of its text are, from one length on
abbrev pub cut_scripts : ℕ → ℕ → List (Result Script JournalFault)
cut_scripts from count = map (λ n. script_of (take n plain_text)) (range_with_len from count)

-- two lanes
abbrev pub lanes_text : List ℕ
lanes_text = codes "#\nrun 20 5 2\n@1 2 test P\n@0 0 in In1 0 7\n@0 0 cancel P\n@0 4 mode run\nend\nand so on"

abbrev pub timed : ℕ → Action → Timed
timed at action = record { at = at; action = action }

abbrev pub lanes : Script
lanes =
    record { steps = 20; pace = 5; lanes = (timed 0 (WordIn (codes "In1") 0 (pos 7)) ∷ timed 0 (Cancel (codes "P")) ∷ timed 4 ModeRun ∷ []) ∷ (timed 2 (Test (codes "P")) ∷ []) ∷ [] }
