-- What is taken apart is the valid project that the parts were.
use Rattle.std.proofs.Common.{refl, sym, ap, subst, List, map}
use Rattle.spec_machine.specs.Project.{Project}
use Rattle.lgx_edit.specs.declared.texts.ProgramText.{ProgramText as KeptProgram}
use Rattle.lgx_edit.specs.Texts.{program_of}
use Rattle.lgx_steps.specs.declared.fresh.OtherParts.{OtherParts}
use Rattle.lgx_steps.specs.Fresh.{IsTakenApart}
use Rattle.lgx_steps.proofs.fresh.take_parts.Goals as goal

pub returns : goal.returns
returns c =
    let x = c.project.inside in
    let kept : OtherParts = record { tags = x.tags; tasks = x.tasks; names = x.names; schedule = x.schedule; conns = x.conns; image = x.image } in
    subst (λ (q : Project). IsTakenApart q c.into_vec.result.items kept) c.project.view_is
    (record {
      valid = c.project.invariant.valid;
      programs = ap (λ (qs : List KeptProgram). map program_of qs) (sym c.into_vec.ensures);
      tags = refl;
      sealed = c.project.invariant.sealed;
      tasks = refl;
      names = refl;
      schedule = refl;
      conns = refl;
      image = refl;
    })
