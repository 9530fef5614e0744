use Rattle.std.proofs.Common.{◌≡◌, ℕ, ◌<◌, length, take, get_or}
use Rattle.spec_tables.specs.Connections.{words_of}
use Rattle.lgx_conn.proofs.conns.Conns.new.Given as goal

abbrev pub invariant-loop-def : goal.invariant-loop-def
invariant-loop-def l = record {
  kept : l.kept.items ≡ take l.def-index l.defs;
  many : length l.firsts.items ≡ l.def-index;
  next : l.next ≡ words_of (take l.def-index l.defs);
  first : (n : ℕ) → n < l.def-index → get_or l.firsts.items n 0 ≡ words_of (take n l.defs);
}
