-- The keeper takes in what was seen, and goes on.
use Rattle.std.proofs.Common.{◌≡◌, true, sym, ap, ◌∙◌, subst, arith}
use mathlib.Core.List.{IsPrefix}
use Rattle.lgx_history.proofs.Beginnings.{goes_on, takes_in}
use Rattle.lgx_history.proofs.history.History.go_on.Goals as goal

pub join_seat-requires : goal.join_seat-requires
join_seat-requires g c =
    let i = c.self.invariant in
    let same = ap (λ h. h.name) c.sight.view_is ∙ c.requires.name ∙ sym (ap (λ h. h.name) c.self.view_is) in
    (i.1, same, c.sight.invariant, omega (arith, i.0), takes_in c.self.inside.keeper.id c.self.inside.keeper.me.0 c.sight.inside.seat.id c.sight.inside.seat.me.0)

pub load-requires : goal.load-requires
load-requires g c =
    let i = c.self.invariant in
    let j = c.join_seat.ensures in
    let seat = c.join_seat.new.seat in
    let keeps : seat.me.0.keeps ≡ true = ap (λ m. m.0.keeps) j.2 ∙ ap (λ v. v.keeps) i.2 in
    let all = sym (ap (λ h. h.events) c.self.view_is) ∙ sym (ap (λ m. m.0.all) j.2) in
    let ahead : IsPrefix seat.me.0.all g.X.Ahead.events = subst (λ l. IsPrefix l g.X.Ahead.events) all c.requires.ahead in
    (j.0 ∙ i.1, omega (arith, i.0), goes_on seat.id seat.me.0 seat.me.1 g.X.Ahead.events keeps ahead c.self.inside.table.shared.table_id.slots 0)
