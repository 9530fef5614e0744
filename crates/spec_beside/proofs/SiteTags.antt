-- An instruction that isn't among a tag's writers writes beside each byte of the tag.
use Rattle.std.specs.Prelude.{filter, slice_get, Ok}
use Rattle.std.specs.List.{AllByRecursion as Each, list_any}
use Rattle.std.proofs.Common.{◌≡◌, ℕ, Bool, true, false, if◌then◌else◌, List, [], ◌∷◌, length, Some, subst}
use Rattle.spec_base.proofs.Lists.{each_filter, each_get, each_map}
use Rattle.lgx_num.specs.declared.place.Operand.{Operand}
use Rattle.lgx_rung.specs.declared.ins.Ins.{Ins}
use Rattle.lgx_rung.specs.declared.op.Op.{Op}
use Rattle.lgx_rung.specs.declared.operands.OperandKind.{OperandKind}
use Rattle.spec_language.specs.Checked.{checked}
use Rattle.spec_scan.specs.Executable.{IsExecutable}
use Rattle.spec_machine.specs.Edits.{book_of, scope_of}
use Rattle.spec_machine.specs.Project.{Project, ProgramText, RoutineText}
use Rattle.spec_machine.specs.ValidProject.{IsChecked, IsExecutableOver, IsValidProject}
use Rattle.spec_reach.specs.Positions.{RungsHave}
use Rattle.spec_uses.specs.Changes.{IsByteOf}
use Rattle.spec_uses.specs.Uses.{Site, holds_bit, is_call_of, program_instructions, returns_to, sites_of_program, span_at, with_returns, writes_tag}
use Rattle.spec_uses.specs.Written.{bits_written, is_written, kinds_of, those_of, written}
use Rattle.spec_beside.specs.InTags.{InsInTags, OperandInTag}
use Rattle.spec_beside.specs.Misses.{WritesBeside}
use Rattle.spec_beside.specs.Sites.{CallsBeside, SiteBeside, SitesWriteBeside}
use Rattle.spec_beside.proofs.OperandTags.{checked_in_tags}
use Rattle.spec_beside.proofs.TagsApart.{operands_miss}
use Rattle.spec_beside.proofs.TextLists.{TextHas, each_both, instructions_have, none_of_both, none_of_flat, numbered_at, sites_have}

-- ---- a valid project's text

-- every operand of a program's text lies in one tag
pub text_in_tags : (p : Project) (g : ℕ) (program : ProgramText) → IsValidProject p → slice_get p.programs g ≡ Some program → TextHas (InsInTags p.tags) program
text_in_tags p g program valid is =
    each_map (λ (r : RoutineText). checked (scope_of p.tags p.names g (book_of program)) r.source ≡ Ok r.checked) (λ (r : RoutineText). RungsHave (InsInTags p.tags) r.checked) program.routines
    (λ r e. checked_in_tags (scope_of p.tags p.names g (book_of program)) r.source r.checked valid.tags.sound e)
    (numbered_at (IsChecked p) p.programs g program valid.rungs is)

pub text_is_executable : (p : Project) (g : ℕ) (program : ProgramText) → IsValidProject p → slice_get p.programs g ≡ Some program → TextHas (IsExecutable (length p.image)) program
text_is_executable p g program valid is = each_get (IsExecutableOver (length p.image)) p.programs g program valid.operands is

-- ---- what is written

pub each_those : (P : Operand → Type 0) (test : OperandKind → Bool) (kinds : List OperandKind) (os : List Operand) → Each P os → Each P (those_of test kinds os)
each_those P test [] os h = tt
each_those P test (kind ∷ kinds) [] h = tt
each_those P test (kind ∷ kinds) (o ∷ os) h = go (test kind) (each_those P test kinds os h.1)
  where
    go : (b : Bool) → Each P (those_of test kinds os) → Each P (if b then o ∷ those_of test kinds os else those_of test kinds os)
    go true k = (h.0, k)
    go false k = k

module _ (p : Project) (k b : ℕ) (byte : IsByteOf p k b) where
  abbrev Unheld : List ℕ → Type 0
  Unheld bits = list_any (holds_bit (span_at p.tags k)) bits ≡ false

  -- an instruction none of whose written bits is the tag's
  pub instruction_beside : (i : Ins) → InsInTags p.tags i → Unheld (bits_written i) → WritesBeside b i
  instruction_beside i h none = operands_miss p k b byte (written i) (each_those (OperandInTag p.tags) is_written (kinds_of i) i.args h) none

  calls_beside : (program : ProgramText) (r : ℕ) → TextHas (InsInTags p.tags) program → Unheld (returns_to program r) → CallsBeside b program r
  calls_beside program r h none =
      each_both (InsInTags p.tags) (λ i. Unheld (bits_written i)) (WritesBeside b) (filter (is_call_of r) (program_instructions program)) instruction_beside
      (each_filter (InsInTags p.tags) (is_call_of r) (program_instructions program) (instructions_have (InsInTags p.tags) program h))
      (none_of_flat (holds_bit (span_at p.tags k)) bits_written (filter (is_call_of r) (program_instructions program)) none)

  site_beside : (program : ProgramText) (s : Site) → TextHas (InsInTags p.tags) program → InsInTags p.tags s.ins → writes_tag (span_at p.tags k) program s ≡ false → SiteBeside b program s
  site_beside program s text h none =
      let both = none_of_both (holds_bit (span_at p.tags k)) (bits_written s.ins) (with_returns s.ins.op (returns_to program s.at.routine)) none in
      record {
        written = instruction_beside s.ins h both.0;
        returns = λ is. calls_beside program s.at.routine text (subst (λ (op : Op). Unheld (with_returns op (returns_to program s.at.routine))) is both.1);
      }

pub sites_write_beside : SitesWriteBeside
sites_write_beside p g program n s k b valid byte is there none =
    let text = text_in_tags p g program valid is in
    site_beside p k b byte program s text (each_get (λ (s : Site). InsInTags p.tags s.ins) (sites_of_program (g, program)) n s (sites_have (InsInTags p.tags) g program text) there) none
