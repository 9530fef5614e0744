use Rattle.std.proofs.Common.{◌≡◌, ℕ, List, sym, subst, length}
use Rattle.spec_scan.specs.Position.{ProgramRungs, Rungs, first_position}
use Rattle.lgx_prog.specs.FlatProgram.{IsFlatProgram}
use Rattle.spec_scan.specs.Executable.{IsExecutableProgram}
use Rattle.test_rungs.specs.declared.tags.TheConstants.{LEN}
use Rattle.test_rungs.proofs.bench.Bench.of.Goals as goal

pub invariant_of-result : goal.invariant_of-result
invariant_of-result c =
    let rungs : ProgramRungs = record { routines = c.args.routines.now; main = 0 } in
    let flat : IsFlatProgram c.in_ok-program.program rungs = subst (λ (rs : List Rungs). IsFlatProgram c.in_ok-program.program (record { routines = rs; main = 0 })) c.as_slice-rungs.ensures.value c.in_ok-program.ensures in
    let len : length c.args.image.bytes ≡ LEN = c.requires in (
      (
        rungs,
        first_position rungs,
        record {
          program = flat;
          executable = subst (λ (n : ℕ). IsExecutableProgram n rungs) (sym len) c.as_slice-rungs.ensures.executable;
          position = c.start-position.ensures rungs flat;
          copy = tt;
          returns = (tt, tt);
        },
      ),
      len,
    )
