use Rattle.std.proofs.Common.{◌≡◌, ◌+◌, drop}
use Rattle.lgx_tags.specs.Chains.{bad_from, count_aliases}
use Rattle.lgx_tags.proofs.seal.first_bad.Given as goal

abbrev pub invariant-loop-i : goal.invariant-loop-i
invariant-loop-i l = (bad_from l.known l.i l.alias (drop l.i l.entries) ≡ bad_from l.known 0 0 l.entries) × (l.alias + count_aliases (drop l.i l.entries) ≡ count_aliases l.entries)
