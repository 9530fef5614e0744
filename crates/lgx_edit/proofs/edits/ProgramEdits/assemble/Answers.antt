-- Each routine is changed, and the versions with them.
use Rattle.std.proofs.Common.{◌≡◌, List, [], map, None, false, refl, ap, ◌∙◌}
use Rattle.std.specs.Prelude.{IsSome}
use Rattle.std.specs.Vec.{with_items}
use Rattle.spec_machine.specs.Edits.{Book, has_accepted, assemble}
use Rattle.lgx_versions.specs.Roles as roles
use Rattle.lgx_edit.specs.declared.changes.EditedRoutine.{EditedRoutine}
use Rattle.lgx_edit.specs.Texts.{merged_of, assembled}
use Rattle.lgx_edit.specs.EditsView.{EditsView}
use Rattle.lgx_edit.specs.Seen.{view_of}
use Rattle.lgx_edit.proofs.Tied.{tied-assemble, tied-along, book-along, assembled-book, changed_items}
use Rattle.lgx_edit.proofs.Commanded.{commanded, accepted_there}
use Rattle.lgx_edit.proofs.edits.ProgramEdits.assemble.Goals as goal

pub invariant_of-self : goal.invariant_of-self
invariant_of-self c =
    let some : IsSome c.self.inside.versions.roles.merged = c.self.invariant.accepted ∙ (ap (λ (e : EditsView). has_accepted e.book) c.self.view_is
    ∙ accepted_there c.args.lane c.args.self.now.book c.in_ok-may_edit.ensures) in
    let items = c.self.inside.routines.items in
    let done : c.assemble_all.new.routines ≡ map assembled items = c.assemble_all.ensures ∙ ap (λ (xs : List EditedRoutine). map assembled xs) c.deref_mut.ensures.value in
    tied-along c.self.inside.name c.self.inside.main (with_items c.self.inside.routines c.assemble_all.new.routines).items (map assembled items)
    c.clear.new.self.items [] c.assemble.new.self.roles (roles.assemble c.self.inside.versions.roles)
    (changed_items assembled c.self.inside.routines c.assemble_all.new.routines done) c.clear.ensures.items c.assemble.ensures.roles
    (tied-assemble c.self.inside.name c.self.inside.main c.self.inside.routines.items c.self.inside.accepted.items c.self.inside.owner c.self.inside.versions.roles c.self.invariant some)

pub returns : goal.returns
returns c =
    let some : IsSome c.self.inside.versions.roles.merged = c.self.invariant.accepted ∙ (ap (λ (e : EditsView). has_accepted e.book) c.self.view_is
    ∙ accepted_there c.args.lane c.args.self.now.book c.in_ok-may_edit.ensures) in
    let items = c.self.inside.routines.items in
    let done : c.assemble_all.new.routines ≡ map assembled items = c.assemble_all.ensures ∙ ap (λ (xs : List EditedRoutine). map assembled xs) c.deref_mut.ensures.value in
    let book : Book = record (view_of c.self.inside).book { base = map merged_of items; number = c.self.inside.versions.roles.newest; accepted = []; owner = None; testing = false } in
    let new : EditsView = view_of (record c.self.inside { routines = with_items c.self.inside.routines c.assemble_all.new.routines; accepted = c.clear.new.self; owner = None; versions = c.assemble.new.self }) in
    commanded assemble c.args.lane (view_of c.self.inside) c.args.self.now new book c.self.view_is c.in_ok-may_edit.ensures refl
    (book-along c.self.inside.name c.self.inside.main (with_items c.self.inside.routines c.assemble_all.new.routines).items (map assembled items)
    c.clear.new.self.items [] c.assemble.new.self.roles (roles.assemble c.self.inside.versions.roles)
    (changed_items assembled c.self.inside.routines c.assemble_all.new.routines done) c.clear.ensures.items c.assemble.ensures.roles
    ∙ assembled-book c.self.inside.name c.self.inside.main c.self.inside.routines.items c.self.inside.accepted.items c.self.inside.owner c.self.inside.versions.roles c.self.invariant some)
    (ap (λ (r : roles.Roles). r.held) c.assemble.ensures.roles)
