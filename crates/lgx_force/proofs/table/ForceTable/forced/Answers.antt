-- The word is forced by its own place.
use Rattle.std.proofs.Common.{None, Option, ◌∙◌, ap, option_map}
use Rattle.std.proofs.lemmas.Int.{to_z-of_z}
use Rattle.std.proofs.lemmas.List.{get_or_read}
use mir.Val.{SFits}
use mir.Syntax.{w32}
use Rattle.spec_tables.specs.Forces.{masked}
use Rattle.lgx_force.specs.declared.table.StoredForce.{StoredForce}
use Rattle.lgx_force.specs.Seen.{force_of}
use Rattle.lgx_force.proofs.Words.{forced-on, fits_seen}
use Rattle.lgx_force.proofs.table.ForceTable.forced.Goals as goal

pub returns-then-self : goal.returns-then-self
returns-then-self c =
    let f : SFits w32 c.masked.result = record { sfits = c.masked.type_inv } in
    let l = fits_seen c.self.inside.words.items c.self.inside.enabled c.args.self.now c.args.word c.self.view_is c.requires in
    to_z-of_z w32 c.masked.result f
    ∙ (c.masked.ensures ∙ (ap (λ z. masked (option_map force_of c.index.result.now) z) (to_z-of_z w32 c.args.value c.ranges.value) ∙ (ap (λ (k : Option StoredForce). masked (option_map force_of k) c.args.value) (get_or_read c.self.inside.words.items c.args.word _ l c.index.ensures None)
    ∙ forced-on c.self.inside.words.items c.self.inside.enabled c.args.self.now c.args.word c.args.value c.self.view_is c.if-self.true l)))
