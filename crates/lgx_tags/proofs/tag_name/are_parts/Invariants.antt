use Rattle.std.proofs.Common.{◌≡◌, ◌-◌}
use Rattle.spec_base.specs.Pieces.{pieces}
use Rattle.lgx_tags.specs.TagNames.{are_parts}
use Rattle.lgx_tags.proofs.tag_name.are_parts.Given as goal

abbrev pub invariant-loop : goal.invariant-loop
invariant-loop l = are_parts (3 - l.counter) (pieces 58 l.rest) ≡ are_parts 3 (pieces 58 l.text)
