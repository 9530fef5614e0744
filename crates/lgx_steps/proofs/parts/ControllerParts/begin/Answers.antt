use Rattle.std.proofs.Common.{◌≡◌, None, ap, ◌∙◌}
use Rattle.lgx_steps.specs.PartsView.{view_of}
use Rattle.lgx_steps.specs.declared.parts.Progress.{Progress as KeptProgress}
use Rattle.lgx_steps.proofs.Reading.{list-read, next-read, read-at}
use Rattle.lgx_steps.proofs.Beginning.{begun}
use Rattle.lgx_steps.proofs.parts.ControllerParts.begin.Goals as goal

pub returns-clause-gives : goal.returns-clause-gives
returns-clause-gives c = λ n s h.
    let v = view_of c.args.self.now in
    let t = c.args.t in
    let l = c.requires.known in
    let x = c.index_mut-progress.result.now in
    let list = list-read n v s h t l c.as_slice.result.now c.index-as_slice-t.result c.as_slice-2.result.now c.as_slice.ensures c.index-as_slice-t.is c.as_slice-2.ensures in
    let next = next-read n v s h t l x _ c.as_slice-2.result.now c.index_mut-progress.ensures.value list in
    let without : x.scan ≡ None = ap (λ (y : KeptProgress). y.scan) (read-at n v s h t l x _ c.index_mut-progress.ensures.value) ∙ c.requires.without_scan in
    begun n v s h t _ l x _ c.index_mut-progress.ensures.value next without c.hold-version.new.self c.hold-version.result c.index-first.result.now _ c.restart.new.position c.plainly.result c.hold-version.ensures.held c.hold-version.ensures.books c.hold-version.ensures.number c.index-first.ensures c.restart.ensures c.plainly.ensures
