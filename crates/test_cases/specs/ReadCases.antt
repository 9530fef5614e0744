-- Lists of the instructions that read a tag, and two images that differ in the tag alone.
use Rattle.std.specs.Prelude.{◌≡◌, ℕ, Bool, List, slice_get, slice_set, Some}
use Rattle.lgx_num.specs.declared.place.Flags.{Flags}
use Rattle.lgx_rung.specs.declared.ins.Ins.{Ins}
use Rattle.lgx_rung.specs.declared.op.Op.TheVariants.{Xic, Ote, Ons}
use Rattle.spec_scan.specs.Instructions.{row}
use Rattle.spec_scan.specs.Position.{Frame}
use Rattle.spec_machine.specs.Project.{Project, ProgramText}
use Rattle.spec_uses.specs.declared.uses.Use.{Use}
use Rattle.spec_uses.specs.Changes.{IsByteOf}
use Rattle.spec_uses.specs.Uses.{Site, sites_of_program}
use Rattle.spec_readers.specs.Others.{IsNoneOf}
use Rattle.spec_readers.specs.Reads.{AreSameBut, MakeSameBut}
use Rattle.test_cases.specs.LadderRuns.{one_rung}
use Rattle.test_cases.specs.TaskRuns.{inhibited_event}

-- ---- what is claimed of a list

-- an instruction makes the same from two images that differ at bytes of tag k alone, but at these bytes
abbrev pub ReadsNone : Project → ℕ → Ins → Type 0
ReadsNone p k i =
    (on : Bool) (now : ℕ) (first : Bool) (frames : List Frame) (flags : Flags) (x y : List ℕ)
    → AreSameBut (IsByteOf p k) x y
    → MakeSameBut (IsByteOf p k) (row i.op i.args on now first frames flags x) (row i.op i.args on now first frames flags y)

-- No instruction of the project reads a byte of tag k but these. Of a valid project this holds of the tag's readers.
abbrev pub NoOthersRead : Project → ℕ → List Use → Type 0
NoOthersRead p k uses =
    (g : ℕ) (program : ProgramText) (n : ℕ) (s : Site)
    → slice_get p.programs g ≡ Some program → slice_get (sites_of_program (g, program)) n ≡ Some s
    → IsNoneOf uses s.at → ReadsNone p k s.ins

-- ---- XIC(a)OTE(b)

-- XIC reads a, which is tag 0; OTE doesn't
abbrev pub xic : Use
xic = record { program = 0; routine = 0; rung = 0; ins = 0; op = Xic }

abbrev pub ote : Use
ote = record { program = 0; routine = 0; rung = 0; ins = 1; op = Ote }

-- a is 1 at the start
abbrev pub a_is_one : List ℕ
a_is_one = one_rung.image

abbrev pub a_is_zero : List ℕ
a_is_zero = slice_set a_is_one 0 0

-- ---- ONS(s)OTL(q), in the second program

-- ONS reads s, which is tag 1, and writes it
abbrev pub ons : Use
ons = record { program = 1; routine = 0; rung = 0; ins = 0; op = Ons }

-- s is 0 at the start
abbrev pub s_is_zero : List ℕ
s_is_zero = inhibited_event.image

abbrev pub s_is_one : List ℕ
s_is_one = slice_set s_is_zero 4 1
