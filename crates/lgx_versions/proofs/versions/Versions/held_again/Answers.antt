-- No two slots have versions of one number.
use Rattle.std.proofs.Common.{◌≢◌, ℕ, Some, sym, ap, ◌∙◌, subst}
use Rattle.lgx_versions.specs.Roles.{selected}
use Rattle.lgx_versions.specs.View.{VersionsView, number_of}
use Rattle.lgx_versions.specs.Slots.{is_at}
use Rattle.lgx_versions.proofs.Held.{held-other}
use Rattle.lgx_versions.proofs.versions.Versions.held_again.Goals as goal

pub returns-else-again-clause-other : goal.returns-else-again-clause-other
returns-else-again-clause-other c =
    subst (λ (v : VersionsView). number_of v.roles.held ≢ Some (selected v.roles).number) c.self.view_is
    (held-other c.self.inside c.self.invariant (sym (c.is_at-again.ensures ∙ ap (λ (k : ℕ). is_at c.self.inside.places.held k) c.selected-slot.ensures) ∙ c.if-again.false))
