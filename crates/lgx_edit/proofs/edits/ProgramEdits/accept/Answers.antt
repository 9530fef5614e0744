-- The book that is left is the one that is meant, and its versions are tied to it.
use Rattle.std.proofs.Common.{◌≡◌, ◌+◌, ◌<◌, List, length, slice_set, Result, Ok, Some, None, refl, sym, ap, subst, ◌∙◌}
use Rattle.std.specs.List.{position_from}
use Rattle.spec_base.specs.FirstCause.{some_or}
use Rattle.lgx_num.specs.Name.{same}
use Rattle.std.specs.Prelude.{map}
use Rattle.spec_language.specs.Checked.{CheckScope}
use Rattle.spec_machine.specs.Commands.{AcceptCommand, accept_command}
use Rattle.spec_machine.specs.declared.reply.EditFault.{EditFault}
use Rattle.spec_machine.specs.declared.reply.EditFault.TheVariants.{E2}
use Rattle.spec_base.proofs.Binds.{ok_inj}
use Rattle.spec_machine.specs.Edits.{Book, scope_of, other_owner, routine_named}
use Rattle.lgx_versions.specs.Roles.{Roles}
use Rattle.lgx_edit.specs.declared.changes.EditedRoutine.{EditedRoutine}
use Rattle.lgx_edit.specs.Texts.{base_of}
use Rattle.lgx_edit.specs.EditsView.{EditsView}
use Rattle.lgx_edit.specs.Seen.{book_with, view_of}
use Rattle.lgx_edit.specs.Accepting.{accept_at}
use Rattle.lgx_edit.specs.CheckedBooks.{AreTextsChecked, IsBookChecked}
use Rattle.lgx_edit.specs.Drafts.{scope_against, IsBookOf, with_draft}
use Rattle.lgx_edit.proofs.Accepted.{Drafted, drafted-for, accept-found, some_edit, tied-now, accepted-along, accepted-book}
use Rattle.lgx_edit.proofs.edits.ProgramEdits.accept.Goals as goal

pub drafted-requires-clause-checked : goal.drafted-requires-clause-checked
drafted-requires-clause-checked c =
    let e = c.self.inside in
    let a = c.args.against.now in
    let checked : IsBookChecked a.tags.now.declarations a.tasks.now a.program (view_of e).book =
    subst (λ (v : EditsView). IsBookChecked a.tags.now.declarations a.tasks.now a.program v.book) (sym c.self.view_is) c.requires.checked in
    subst (λ (xs : List EditedRoutine). AreTextsChecked (scope_against a xs) (map base_of xs)) (sym c.as_slice-2.ensures.value) checked.base

pub invariant_of-self-2 : goal.invariant_of-self-2
invariant_of-self-2 c =
    let e = c.self.inside in
    let within : c.in_ok-routine.routine < length e.routines.items = subst (λ (xs : List EditedRoutine). c.in_ok-routine.routine < length xs) c.as_slice.ensures.value c.in_ok-routine.ensures.within in
    let drafted : Drafted c.args.against.now e.main c.in_ok-routine.routine e.routines.items e.accepted.items c.command.inside.edits c.in_ok-draft.draft =
    drafted-for c.args.against.now e.main c.in_ok-routine.routine e.routines.items c.as_slice-2.result.now e.accepted.items c.as_slice-3.result.now c.command.inside.edits c.as_slice-4.result.now c.in_ok-draft.draft
    c.as_slice-2.ensures.value c.as_slice-3.ensures.value c.as_slice-4.ensures (c.in_ok-draft.ensures.answer, c.in_ok-draft.ensures.draft) in
    tied-now e.name e.main e.routines.items e.accepted.items e.owner e.versions.roles c.in_ok-routine.routine c.index_mut.result.now c.index_mut.ensures.value within
    c.args.lane c.command.inside.edits c.in_ok-draft.draft drafted.1 c.append.new.self.items c.add.new.self.roles
    c.in_ok-append.ensures.items c.add.ensures.roles c.self.invariant (some_edit (length c.command.inside.edits) c.command.invariant)

pub returns : goal.returns
returns c =
    let e = c.self.inside in
    let a = c.args.against.now in
    let r = c.in_ok-routine.routine in
    let within : r < length e.routines.items = subst (λ (xs : List EditedRoutine). r < length xs) c.as_slice.ensures.value c.in_ok-routine.ensures.within in
    let drafted : Drafted a e.main r e.routines.items e.accepted.items c.command.inside.edits c.in_ok-draft.draft =
    drafted-for a e.main r e.routines.items c.as_slice-2.result.now e.accepted.items c.as_slice-3.result.now c.command.inside.edits c.as_slice-4.result.now c.in_ok-draft.draft
    c.as_slice-2.ensures.value c.as_slice-3.ensures.value c.as_slice-4.ensures (c.in_ok-draft.ensures.answer, c.in_ok-draft.ensures.draft) in
    let b : Book = (view_of e).book in
    let scope : CheckScope = scope_of a.tags.now.declarations a.tasks.now a.program b in
    let command : AcceptCommand = accept_command c.command.inside.program c.command.inside.routine c.command.inside.edits in
    let of : IsBookOf b e.routines.items e.accepted.items = record { bases = refl; mergeds = refl; kept = refl } in
    let owner : other_owner b c.args.lane ≡ None = sym c.in_default.ensures in
    let named : Ok r ≡ routine_named b command.routine =
    c.in_ok-routine.ensures.named ∙ ap (λ (xs : List EditedRoutine). some_or (position_from (λ t. same t.name c.command.inside.routine) 0 (map base_of xs)) E2) c.as_slice.ensures.value in
    let meant : accept_at scope c.args.lane command b ≡ Ok (with_draft c.args.lane r b c.in_ok-draft.draft) =
    accept-found a c.args.lane r command b (with_draft c.args.lane r b c.in_ok-draft.draft) scope named (drafted.0 b c.args.lane of owner) in
    let new : Book = book_with e.name e.main (slice_set e.routines.items r (record c.index_mut.result.now { merged = Some c.in_ok-draft.draft.text })) c.append.new.self.items (Some c.args.lane) c.add.new.self.roles in
    let new_is : with_draft c.args.lane r b c.in_ok-draft.draft ≡ new =
    sym (accepted-along e.name e.main e.routines.items e.accepted.items e.owner e.versions.roles r c.index_mut.result.now c.index_mut.ensures.value within
    c.args.lane c.command.inside.edits c.in_ok-draft.draft drafted.1 c.append.new.self.items c.add.new.self.roles c.in_ok-append.ensures.items c.add.ensures.roles
    ∙ accepted-book e.name e.main e.routines.items e.accepted.items e.owner e.versions.roles r c.index_mut.result.now c.index_mut.ensures.value within
    c.args.lane c.command.inside.edits c.in_ok-draft.draft drafted.1) in
    let now = c.args.self.now in (
      ap (λ (x : AcceptCommand). accept_at (scope_of a.tags.now.declarations a.tasks.now a.program now.book) c.args.lane x now.book) (sym c.command.view_is)
          ∙ (ap (λ (v : EditsView). accept_at (scope_of a.tags.now.declarations a.tasks.now a.program v.book) c.args.lane command v.book) (sym c.self.view_is)
          ∙ (meant ∙ ap (λ (x : Book). let ok : Result Book EditFault = Ok x in ok) new_is)),
      ok_inj c.in_ok-add.field-0 (e.versions.roles.newest + 1) c.in_ok-add.ensures.number ∙ sym (ap (λ (q : Roles). q.newest) c.add.ensures.roles),
      ap (λ (q : Roles). q.held) c.add.ensures.roles ∙ ap (λ (v : EditsView). v.versions.roles.held) c.self.view_is,
    )
