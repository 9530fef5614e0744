-- Parts that are seen the same make the same controller, which stands for the same runs.
use Rattle.std.proofs.Common.{◌≡◌, ℕ, sym, ap, subst}
use Rattle.lgx_steps.specs.declared.parts.ControllerParts.{ControllerParts}
use Rattle.lgx_steps.specs.PartsView.{PartsView, view_of as parts_of}
use Rattle.lgx_core.specs.ControllerView.{ControllerView, view_of}
use Rattle.lgx_core.specs.Represents.{IsController}

pub same-view : (now old : ControllerParts) (spent : ℕ) → parts_of now ≡ parts_of old → view_of now spent ≡ view_of old spent
same-view now old spent same = ap (λ (v : PartsView). let seen : ControllerView = record { parts = v; spent = spent } in seen) same

pub same-controller : (now old : ControllerParts) (spent : ℕ) → parts_of now ≡ parts_of old → IsController (view_of old spent) → IsController (view_of now spent)
same-controller now old spent same is = subst IsController (sym (same-view now old spent same)) is
