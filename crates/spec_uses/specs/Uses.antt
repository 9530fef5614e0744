-- Who writes and who reads each tag of a project. Tags are numbered in the order of the layout; an alias has no number.
use Rattle.std.specs.Prelude.{ℕ, ◌*◌, Bool, ◌&&◌, nat_lt, nat_le, nat_eq, List, [], ◌++◌, map, filter, flat_map, slice_index_or}
use Rattle.std.specs.List.{enumerate_from, list_any}
use Rattle.lgx_rung.specs.Tree.{Tree, instructions}
use Rattle.lgx_rung.specs.declared.ins.Ins.{Ins}
use Rattle.lgx_rung.specs.declared.op.Op.{Op}
use Rattle.lgx_rung.specs.declared.op.Op.TheVariants.{Ret}
use Rattle.spec_language.specs.declared.tag.Scope.TheVariants.{Controller}
use Rattle.spec_language.specs.Declarations.{Declarations}
use Rattle.spec_scan.specs.Prescan.{called_by}
use Rattle.spec_machine.specs.Project.{Project, ProgramText, RoutineText}
use Rattle.spec_language.specs.declared.span.TagSpan.{TagSpan}
use Rattle.spec_language.specs.TagSpans.{spans_of}
use Rattle.spec_uses.specs.declared.uses.Use.{Use}
use Rattle.spec_uses.specs.Written.{bits_written, bits_read}

-- ---- tags by number

abbrev pub no_span : TagSpan
no_span = record { scope = Controller; start = 0; end = 0 }

abbrev pub span_at : Declarations → ℕ → TagSpan
span_at d k = slice_index_or (spans_of d) k no_span

-- a bit of the image is one of the tag's
abbrev pub holds_bit : TagSpan → ℕ → Bool
holds_bit s bit = nat_le (8 * s.start) bit && nat_lt bit (8 * s.end)

-- ---- instructions by place

-- an instruction, and where it is
pub record Site : Type 0 where
  pub at : Use
  pub ins : Ins

abbrev pub site : ℕ → ℕ → ℕ → ℕ × Ins → Site
site g r u x = record { at = record { program = g; routine = r; rung = u; ins = x.0; op = x.1.op }; ins = x.1 }

abbrev pub sites_of_rung : ℕ → ℕ → ℕ × Tree Ins → List Site
sites_of_rung g r (u, rung) = map (site g r u) (enumerate_from 0 (instructions rung))

abbrev pub sites_of_routine : ℕ → ℕ × RoutineText → List Site
sites_of_routine g (r, routine) = flat_map (sites_of_rung g r) (enumerate_from 0 routine.checked)

abbrev pub sites_of_program : ℕ × ProgramText → List Site
sites_of_program (g, program) = flat_map (sites_of_routine g) (enumerate_from 0 program.routines)

-- ---- uses

-- a JSR of this routine
abbrev pub is_call_of : ℕ → Ins → Bool
is_call_of r i = list_any (nat_eq r) (called_by i.op i.args)

abbrev pub program_instructions : ProgramText → List Ins
program_instructions program = flat_map (λ routine. flat_map instructions routine.checked) program.routines

-- the bits of the returns of every JSR of the program that names this routine
abbrev pub returns_to : ProgramText → ℕ → List ℕ
returns_to program r = flat_map bits_written (filter (is_call_of r) (program_instructions program))

abbrev pub with_returns : Op → List ℕ → List ℕ
with_returns Ret returns = returns
with_returns _ returns = []

-- what an instruction writes where it is: a RET also writes the returns of its routine's calls
abbrev pub site_writes : ProgramText → Site → List ℕ
site_writes program s = bits_written s.ins ++ with_returns s.ins.op (returns_to program s.at.routine)

abbrev pub writes_tag : TagSpan → ProgramText → Site → Bool
writes_tag span program s = list_any (holds_bit span) (site_writes program s)

abbrev pub reads_tag : TagSpan → ProgramText → Site → Bool
reads_tag span program s = list_any (holds_bit span) (bits_read s.ins)

-- the instructions of all routines that pass a test, in the order of programs, routines, rungs and instructions, each once
abbrev pub sites_by : (ProgramText → Site → Bool) → Project → List Site
sites_by test p = flat_map (λ g. filter (test g.1) (sites_of_program g)) (enumerate_from 0 p.programs)

abbrev pub writer_sites : Project → ℕ → List Site
writer_sites p k = sites_by (writes_tag (span_at p.tags k)) p

abbrev pub reader_sites : Project → ℕ → List Site
reader_sites p k = sites_by (reads_tag (span_at p.tags k)) p

abbrev pub writers : Project → ℕ → List Use
writers p k = map (λ s. s.at) (writer_sites p k)

abbrev pub readers : Project → ℕ → List Use
readers p k = map (λ s. s.at) (reader_sites p k)
