use Rattle.std.proofs.Common.{append_assoc}
use Rattle.lgx_gen.specs.ProjectText.{project, watches}
use Rattle.lgx_gen.proofs.project.gen_project.Goals as goal

pub returns : goal.returns
unfolding project watches
returns c =
    rw (
      c.in_ok-extend_from_slice-7.ensures.items,
      c.in_ok-push_listed.ensures,
      c.in_ok-extend_from_slice-6.ensures.items,
      c.in_ok-push_initial_values.ensures,
      c.in_ok-extend_from_slice-5.ensures.items,
      c.in_ok-push_connections.ensures,
      c.in_ok-extend_from_slice-4.ensures.items,
      c.in_ok-push_tasks.ensures,
      c.in_ok-extend_from_slice-3.ensures.items,
      c.in_ok-push_programs.ensures,
      c.of.ensures,
      c.in_ok-extend_from_slice-2.ensures.items,
      c.in_ok-push_tags.ensures,
      c.in_ok-extend_from_slice.ensures.items,
      c.in_ok-text.ensures.items,
    ) (simp append_assoc)
