-- The parts are seen the same.
use Rattle.std.proofs.Common.{◌≡◌, ap, ◌∙◌}
use Rattle.lgx_steps.specs.PartsView.{view_of as parts_of}
use Rattle.lgx_core.proofs.Copied.{same-view, same-controller}
use Rattle.lgx_core.proofs.Opened.{live}
use Rattle.lgx_core.proofs.controller.Controller.copied.Goals as goal

pub again-requires : goal.again-requires
again-requires c = rw c.deref.ensures (live c.self.inside.parts.value c.self.inside.spent c.self.invariant)

pub invariant_of-result : goal.invariant_of-result
invariant_of-result c =
    let copy = c.in_ok-boxed.boxed.value in
    let old = c.self.inside.parts.value in
    let same : parts_of copy ≡ parts_of old = ap parts_of c.in_ok-boxed.ensures.ok ∙ (rw c.deref.ensures at c.in_ok-parts.ensures) in
    same-controller copy old c.self.inside.spent same c.self.invariant

pub returns : goal.returns
returns c =
    let copy = c.in_ok-boxed.boxed.value in
    let old = c.self.inside.parts.value in
    let same : parts_of copy ≡ parts_of old = ap parts_of c.in_ok-boxed.ensures.ok ∙ (rw c.deref.ensures at c.in_ok-parts.ensures) in
    same-view copy old c.self.inside.spent same ∙ c.self.view_is
