use Rattle.std.proofs.Common.{◌≡◌, ◌+◌, ◌-◌, ◌≤◌, max, ◌++◌, [], length, replicate}
use Rattle.lgx_cover.proofs.table.Table.grow.Given as goal

abbrev pub invariant-loop-alloc : goal.invariant-loop-alloc
invariant-loop-alloc l = record {
  rows : l.self-inside.rows.items ≡ l.initial.self-inside.rows.items ++ replicate (length l.self-inside.rows.items - length l.initial.self-inside.rows.items) [];
  more : length l.initial.self-inside.rows.items ≤ length l.self-inside.rows.items;
  few : length l.self-inside.rows.items ≤ max (length l.initial.self-inside.rows.items) (l.routine + 1);
  version : l.self-inside.version ≡ l.initial.self-inside.version;
}

abbrev pub decreases-loop-alloc : goal.decreases-loop-alloc
decreases-loop-alloc l = (l.routine + 1) - length l.self-inside.rows.items
