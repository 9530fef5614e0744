use Rattle.std.proofs.Common.{◌≡◌, ◌+◌, ◌-◌, ◌≤◌, length, take}
use Rattle.std.specs.List.{suffix_len}
use Rattle.lgx_rung.specs.Tokens.{is_blank}
use Rattle.lgx_journal.proofs.edits.trimmed.Given as goal

abbrev pub invariant-loop-len : goal.invariant-loop-len
invariant-loop-len l = record {
  inside : l.len ≤ length l.front;
  blanks : suffix_len is_blank l.front ≡ (length l.front - l.len) + suffix_len is_blank (take l.len l.front);
}

abbrev pub decreases-loop-len : goal.decreases-loop-len
decreases-loop-len l = l.len
