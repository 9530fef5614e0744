-- Each routine is changed, and the versions with them.
use Rattle.std.proofs.Common.{◌≡◌, List, [], map, None, false, refl, ap, ◌∙◌}
use Rattle.std.specs.Vec.{with_items}
use Rattle.spec_machine.specs.Edits.{Book, cancel}
use Rattle.lgx_versions.specs.Roles as roles
use Rattle.lgx_edit.specs.declared.changes.EditedRoutine.{EditedRoutine}
use Rattle.lgx_edit.specs.Texts.{base_of, cancelled}
use Rattle.lgx_edit.specs.EditsView.{EditsView}
use Rattle.lgx_edit.specs.Seen.{view_of}
use Rattle.lgx_edit.proofs.Tied.{tied-cancel, tied-along, book-along, cancelled-book, changed_items}
use Rattle.lgx_edit.proofs.Commanded.{commanded}
use Rattle.lgx_edit.proofs.edits.ProgramEdits.cancel.Goals as goal

pub invariant_of-self : goal.invariant_of-self
invariant_of-self c =
    let items = c.self.inside.routines.items in
    let done : c.cancel_all.new.routines ≡ map cancelled items = c.cancel_all.ensures ∙ ap (λ (xs : List EditedRoutine). map cancelled xs) c.deref_mut.ensures.value in
    tied-along c.self.inside.name c.self.inside.main (with_items c.self.inside.routines c.cancel_all.new.routines).items (map cancelled items)
    c.clear.new.self.items [] c.cancel.new.self.roles (roles.cancel c.self.inside.versions.roles)
    (changed_items cancelled c.self.inside.routines c.cancel_all.new.routines done) c.clear.ensures.items c.cancel.ensures.roles
    (tied-cancel c.self.inside.name c.self.inside.main c.self.inside.routines.items c.self.inside.accepted.items c.self.inside.owner c.self.inside.versions.roles c.self.invariant)

pub returns : goal.returns
returns c =
    let items = c.self.inside.routines.items in
    let done : c.cancel_all.new.routines ≡ map cancelled items = c.cancel_all.ensures ∙ ap (λ (xs : List EditedRoutine). map cancelled xs) c.deref_mut.ensures.value in
    let book : Book = record (view_of c.self.inside).book { merged = map base_of items; accepted = []; owner = None; testing = false } in
    let new : EditsView = view_of (record c.self.inside { routines = with_items c.self.inside.routines c.cancel_all.new.routines; accepted = c.clear.new.self; owner = None; versions = c.cancel.new.self }) in
    commanded cancel c.args.lane (view_of c.self.inside) c.args.self.now new book c.self.view_is c.in_ok-may_edit.ensures refl
    (book-along c.self.inside.name c.self.inside.main (with_items c.self.inside.routines c.cancel_all.new.routines).items (map cancelled items)
    c.clear.new.self.items [] c.cancel.new.self.roles (roles.cancel c.self.inside.versions.roles)
    (changed_items cancelled c.self.inside.routines c.cancel_all.new.routines done) c.clear.ensures.items c.cancel.ensures.roles
    ∙ cancelled-book c.self.inside.name c.self.inside.main c.self.inside.routines.items c.self.inside.accepted.items c.self.inside.owner c.self.inside.versions.roles)
    (ap (λ (r : roles.Roles). r.held) c.cancel.ensures.roles)
