use Rattle.std.proofs.Common.{List, ℕ, get_or, sym, ap, ◌∙◌, le_refl, arith}
use Rattle.lgx_watch.specs.declared.bits.TheConstants.{MAX_WATCHES}
use Rattle.lgx_watch.proofs.Rows.{lone-place}
use Rattle.lgx_watch.proofs.watch_index.WatchIndex.lone_of.Goals as goal

pub returns-then-lone-len-clause-lone : goal.returns-then-lone-len-clause-lone
returns-then-lone-len-clause-lone c = λ w p at lies.
    let i = c.self.inside in
    let found = ap (λ (ls : List ℕ). get_or ls c.args.word MAX_WATCHES) (sym c.deref.ensures.value) ∙ sym (c.in-Some.ensures.lookup.4 (le_refl c.args.word) MAX_WATCHES) in
    lone-place i.places.items c.args.self.now i.rows.items i.lones.items c.args.word w p c.self.view_is c.self.invariant.0 c.self.invariant.1 (omega (arith, found)) at lies ∙ found
