-- An instruction that isn't among a tag's writers writes beside each byte of the tag.
use Rattle.std.specs.Prelude.{◌≡◌, ℕ, false, filter, slice_get, Some}
use Rattle.std.specs.List.{AllByRecursion as Each}
use Rattle.lgx_rung.specs.declared.op.Op.TheVariants.{Ret}
use Rattle.spec_machine.specs.Project.{Project, ProgramText}
use Rattle.spec_machine.specs.ValidProject.{IsValidProject}
use Rattle.spec_uses.specs.Uses.{Site, is_call_of, program_instructions, sites_of_program, span_at, writes_tag}
use Rattle.spec_uses.specs.Changes.{IsByteOf}
use Rattle.spec_beside.specs.Misses.{WritesBeside}

-- every JSR of the program that names routine r writes beside byte b: its returns do
abbrev pub CallsBeside : ℕ → ProgramText → ℕ → Type 0
CallsBeside b program r = Each (WritesBeside b) (filter (is_call_of r) (program_instructions program))

-- so does the instruction at a site, and if it is a RET, the calls of its routine do
pub record SiteBeside (b : ℕ) (program : ProgramText) (s : Site) : Type 0 where
  pub written : WritesBeside b s.ins
  pub returns : s.ins.op ≡ Ret → CallsBeside b program s.at.routine

-- of program number g, and of one of its sites
abbrev pub SitesWriteBeside : Type 0
SitesWriteBeside =
    (p : Project) (g : ℕ) (program : ProgramText) (n : ℕ) (s : Site) (k b : ℕ) → IsValidProject p → IsByteOf p k b
    → slice_get p.programs g ≡ Some program → slice_get (sites_of_program (g, program)) n ≡ Some s
    → writes_tag (span_at p.tags k) program s ≡ false → SiteBeside b program s

-- a byte is one of a single tag
abbrev pub BytesAreOfOneTag : Type 0
BytesAreOfOneTag = (p : Project) (i j b : ℕ) → IsByteOf p i b → IsByteOf p j b → i ≡ j
