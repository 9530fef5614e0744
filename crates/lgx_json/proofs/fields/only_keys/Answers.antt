use Rattle.std.proofs.Common.{false, true, sym, ◌∙◌}
use Rattle.serde_json.specs.View.{view}
use Rattle.lgx_json.proofs.Keys.{only_known}
use Rattle.lgx_json.proofs.fields.only_keys.Goals as goal

pub returns-then-not-are_known : goal.returns-then-not-are_known
returns-then-not-are_known c =
    rw c.here-then-not-are_known.ensures (only_known c.args.known.now c.in-Some.members.now.entries (view c.args.value.now) false (sym c.in-Some.ensures) (sym c.are_known.ensures ∙ c.if-not-are_known.true))

pub returns : goal.returns
returns c =
    only_known c.args.known.now c.in-Some.members.now.entries (view c.args.value.now) true (sym c.in-Some.ensures) (sym c.are_known.ensures ∙ c.if-not-are_known.false)
