-- The first instruction of a rung has the number 0.
use Rattle.std.proofs.Common.{rules, ◌≡◌, ◌++◌, length, ap, ◌∙◌}
use Rattle.std.proofs.lemmas.Result.{on_ok_weaker}
use Rattle.spec_uses.specs.Uses.{sites_of_rung}
use Rattle.lgx_xref.specs.declared.placed.RungPlace.{RungPlace}
use Rattle.lgx_xref.proofs.Placing.{rung_placed}
use Rattle.lgx_xref.proofs.placed.place_next.Goals as goal

pub returns : goal.returns
returns c =
    let here : RungPlace = record { program = c.args.program; routine = c.args.routine; rung = c.in_ok-rung_number.rung_number; before = c.len-before.result } in
    let first : c.len-before.result ≡ length c.args.placed.now.items = search rules in
    on_ok_weaker c.place_rung.result
    (λ added.
    rung_placed here c.args.placed.now.items c.place_rung.new.placed.items c.args.rung.now first added
    ∙ ap (λ n. c.args.placed.now.items ++ sites_of_rung c.args.program c.args.routine (n, c.args.rung.now)) c.in_ok-rung_number.ensures)
    c.place_rung.ensures
