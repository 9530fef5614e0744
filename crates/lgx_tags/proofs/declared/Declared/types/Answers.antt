use Rattle.std.proofs.Common.{◌≤◌, ◌∙◌, ℕ, ap, subst}
use Rattle.std.specs.List.{AllByRecursion as Each}
use Rattle.spec_base.specs.declared.limits.TheConstants.{MAX_IMAGE_BYTES}
use Rattle.spec_language.specs.Declarations.{Declarations, bytes}
use Rattle.spec_language.specs.ResolutionLaws.{Sound}
use Rattle.lgx_tags.specs.Tables.{IsAdmitted}
use Rattle.lgx_tags.proofs.SoundTags.{all_sound}
use Rattle.lgx_tags.proofs.declared.Declared.types.Goals as goal

pub returns-clause-sound : goal.returns-clause-sound
returns-clause-sound c =
    let d : Declarations = record { types = c.self.inside.types; programs = c.self.inside.programs; entries = c.self.inside.entries.items } in
    subst Sound c.self.view_is (all_sound d c.structures.ensures.sound c.structures.ensures.members c.self.invariant.admitted)

pub returns-clause-admitted : goal.returns-clause-admitted
returns-clause-admitted c = subst (λ (d : Declarations). Each (IsAdmitted d.types d.programs) d.entries) c.self.view_is c.self.invariant.admitted

pub returns-clause-room : goal.returns-clause-room
returns-clause-room c = subst (λ (n : ℕ). n ≤ MAX_IMAGE_BYTES) (c.self.invariant.counted ∙ ap bytes c.self.view_is) c.self.invariant.room
