-- Of a valid project: an instruction that isn't among a tag's readers reads no byte of it.
use Rattle.std.specs.Prelude.{◌≡◌, ℕ, Bool, List, slice_get, Some}
use Rattle.lgx_num.specs.declared.place.Flags.{Flags}
use Rattle.spec_scan.specs.Instructions.{row}
use Rattle.spec_scan.specs.Position.{Frame}
use Rattle.spec_machine.specs.Project.{Project, ProgramText}
use Rattle.spec_machine.specs.ValidProject.{IsValidProject}
use Rattle.spec_uses.specs.declared.uses.Use.{Use}
use Rattle.spec_uses.specs.Changes.{IsByteOf}
use Rattle.spec_uses.specs.Uses.{Site, readers, sites_of_program}
use Rattle.spec_readers.specs.Reads.{AreSameBut, MakeSameBut}

-- it is none of these
abbrev pub IsNoneOf : List Use → Use → Type 0
IsNoneOf uses one = (i : ℕ) → slice_get uses i ≡ Some one → ⊥

-- From two images that differ at bytes of tag k alone, each instruction of the project that isn't among the readers of k makes the
-- same, but at bytes of k: the same condition, flags and way on, and the same image but there. A RET too: the places that its
-- callers want back are written, and what it hands out are its own operands.
abbrev pub OthersReadNothing : Type 0
OthersReadNothing =
    (p : Project) (g : ℕ) (program : ProgramText) (n : ℕ) (s : Site) (k : ℕ) (on : Bool) (now : ℕ) (first : Bool) (frames : List Frame) (flags : Flags) (x y : List ℕ)
    → IsValidProject p → slice_get p.programs g ≡ Some program → slice_get (sites_of_program (g, program)) n ≡ Some s
    → IsNoneOf (readers p k) s.at → AreSameBut (IsByteOf p k) x y
    → MakeSameBut (IsByteOf p k) (row s.ins.op s.ins.args on now first frames flags x) (row s.ins.op s.ins.args on now first frames flags y)
