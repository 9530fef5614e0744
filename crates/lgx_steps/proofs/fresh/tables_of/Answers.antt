-- The tables are made of these tasks and connections.
use Rattle.std.proofs.Common.{List, ap, ◌∙◌}
use Rattle.spec_tables.specs.declared.conn.ConnDef.{ConnDef}
use Rattle.spec_tables.specs.Connections.{words_of}
use Rattle.spec_tables.specs.Forces.{no_forces}
use Rattle.lgx_steps.proofs.fresh.tables_of.Goals as goal

pub returns : goal.returns
returns c = record {
  table = c.in_ok-table.ensures.represents 0;
  conns_are = c.in_ok-conns.ensures;
  forces = c.in_ok-forces.ensures.exact ∙ (ap no_forces c.words.ensures.words ∙ ap (λ (cs : List ConnDef). no_forces (words_of cs)) c.in_ok-conns.ensures);
}
