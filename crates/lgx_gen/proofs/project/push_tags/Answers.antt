use Rattle.std.proofs.Common.{append_assoc}
use Rattle.lgx_gen.specs.ProjectText.{tags}
use Rattle.lgx_gen.proofs.project.push_tags.Goals as goal

pub returns : goal.returns
unfolding tags
returns c =
    rw (
      c.in_ok-extend_from_slice.ensures.items,
      c.in_ok-push_listed-4.ensures,
      c.in_ok-push-3.ensures.items,
      c.in_ok-push_listed-3.ensures,
      c.in_ok-push-2.ensures.items,
      c.in_ok-push_listed-2.ensures,
      c.in_ok-push.ensures.items,
      c.in_ok-push_listed.ensures,
    ) (simp append_assoc)
