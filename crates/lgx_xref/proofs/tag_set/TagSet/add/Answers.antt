-- A tag that wasn't there is there once.
use Rattle.std.proofs.Common.{◌≡◌, List, ℕ, false, nat_eq, sym, ap, ◌∙◌, subst}
use Rattle.std.specs.List.{IsDistinct, list_any}
use Rattle.lgx_xref.proofs.Tagged.{with_distinct}
use Rattle.lgx_xref.proofs.tag_set.TagSet.add.Goals as goal

pub invariant_of-self : goal.invariant_of-self
invariant_of-self c =
    let new : list_any (nat_eq c.args.tag) c.self.inside.tags.items ≡ false =
    ap (λ tags. list_any (nat_eq c.args.tag) tags) c.self.view_is ∙ sym c.has.ensures ∙ c.if-not-has.true in
    let P : List ℕ → Type 0 = λ tags. IsDistinct nat_eq tags in
    subst P (sym c.in_ok-push.ensures.items) (with_distinct c.self.inside.tags.items c.args.tag c.self.invariant new)
