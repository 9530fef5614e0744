use Rattle.std.proofs.Common.{sym, ◌∙◌}
use Rattle.lgx_places.proofs.Sizes.{connected_has_size}
use Rattle.lgx_places.proofs.connections.connected.Goals as goal

pub returns-clause-sized : goal.returns-clause-sized
returns-clause-sized c =
    connected_has_size c.args.tags.now.declarations c.args.types.now c.in_ok-found.found (sym c.is_connected.ensures ∙ c.if-not-is_connected.false) c.in_ok-found.ensures.sized
