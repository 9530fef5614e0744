-- There are few words.
use Rattle.std.proofs.Common.{◌*◌, ◌≤◌, sym, subst}
use Rattle.spec_base.specs.declared.limits.TheConstants.{MAX_CONNECTIONS, MAX_CONNECTION_WORDS}
use Rattle.lgx_conn.proofs.Slots.{few_in_all}
use Rattle.lgx_conn.proofs.conns.Conns.words.Goals as goal

pub returns-clause-few : goal.returns-clause-few
returns-clause-few c =
    subst (λ n. n ≤ MAX_CONNECTIONS * MAX_CONNECTION_WORDS) (sym c.self.invariant.all)
    (few_in_all c.self.inside.defs c.self.invariant.few c.self.invariant.small)
