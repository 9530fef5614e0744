use Rattle.std.proofs.Common.{◌≡◌, ℕ, List, map, IfOk, ap, subst, ◌∙◌}
use Rattle.spec_project.specs.declared.described.DescribedProgram.{DescribedProgram}
use Rattle.spec_project.specs.declared.described.DescribedTask.{DescribedTask}
use Rattle.spec_project.specs.Names.{program_names}
use Rattle.lgx_declare.specs.Listing.{numbers_of}
use Rattle.lgx_project.proofs.tasks.schedule_of.Goals as goal

pub returns : goal.returns
returns c =
    let p = c.args.file.now in
    let names : c.in_ok-programs.programs ≡ program_names p = c.in_ok-programs.ensures ∙ ap (λ (qs : List DescribedProgram). map (λ q. q.name) qs) c.as_slice.ensures in
    let named = subst (λ (ns : List (List ℕ)). IfOk c.lists.result (λ lists. lists ≡ map (λ t. numbers_of ns t.programs) c.as_slice-2.result.now)) names c.lists.ensures in
    subst (λ (ts : List DescribedTask). IfOk c.lists.result (λ lists. lists ≡ map (λ t. numbers_of (program_names p) t.programs) ts)) c.as_slice-2.ensures named
