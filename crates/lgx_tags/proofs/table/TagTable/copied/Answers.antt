-- What holds of the declarations when they are sealed holds of the copies of both.
use Rattle.lgx_tags.proofs.table.TagTable.copied.Goals as goal

pub invariant_of-result : goal.invariant_of-result
invariant_of-result c =
    let t = c.self.inside.parts.value in
    rw c.in_ok-new.ensures.ok (rw c.in_ok-declared.ensures (rw c.deref.ensures (c.in_ok-seal.ensures.holds t.declared (rw c.deref-2.ensures c.self.invariant))))
