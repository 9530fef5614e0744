-- A word is among the words of all.
use Rattle.std.proofs.Common.{◌+◌, ◌*◌, ◌<◌, ◌≤◌, List, length, get_or, sym, subst, arith}
use Rattle.spec_base.specs.declared.limits.TheConstants.{MAX_CONNECTIONS, MAX_CONNECTION_WORDS}
use Rattle.spec_tables.specs.declared.conn.ConnDef.{ConnDef}
use Rattle.spec_tables.specs.Connections.{no_conn, words_of}
use Rattle.lgx_conn.proofs.Slots.{few_in_all, word_within}
use Rattle.lgx_conn.proofs.conns.Conns.number.Goals as goal

pub overflow_add-result : goal.overflow_add-result
overflow_add-result c =
    let there : c.args.n < length c.self.inside.defs =
    subst (λ (defs : List ConnDef). c.args.n < length defs) (sym c.self.view_is) c.requires.conn in
    let word : c.args.word < (get_or c.self.inside.defs c.args.n no_conn).words =
    subst (λ (defs : List ConnDef). c.args.word < (get_or defs c.args.n no_conn).words) (sym c.self.view_is) c.requires.word in
    let within : c.index.result.now + c.args.word < words_of c.self.inside.defs =
    word_within c.self.inside.defs c.self.inside.firsts.items c.self.inside.words c.args.n c.args.word c.index.result.now
    c.self.invariant there c.index.ensures word in
    let few : words_of c.self.inside.defs ≤ MAX_CONNECTIONS * MAX_CONNECTION_WORDS =
    few_in_all c.self.inside.defs c.self.invariant.few c.self.invariant.small in
    record { fits = omega arith }
