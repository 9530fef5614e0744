use Rattle.std.proofs.Common.{append_assoc}
use Rattle.lgx_gen.specs.Rungs.{filled}
use Rattle.lgx_gen.proofs.rungs.push_move.Goals as goal

pub returns : goal.returns
unfolding filled
returns c =
    rw (
      c.in_ok-extend_from_slice.ensures.items,
      c.in_ok-push_numbered-4.ensures,
      c.in_ok-push_numbered-3.ensures,
      c.in_ok-push_numbered-2.ensures,
      c.in_ok-push_numbered.ensures,
    ) (simp append_assoc)
