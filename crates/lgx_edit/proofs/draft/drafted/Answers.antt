-- Each cause in its order, and what is made if there is none.
use Rattle.std.proofs.Common.{◌≡◌, List, ◌++◌, map, length, Ok, Err, sym, ap, subst, ◌∙◌}
use Rattle.std.specs.List.{position_from}
use Rattle.std.specs.Global.{Vec}
use Rattle.std.proofs.lemmas.Result.{err_from_is_err_and}
use Rattle.lgx_rung.specs.Tree.{Source}
use Rattle.spec_language.specs.Checked.{checked}
use Rattle.spec_machine.specs.declared.reply.EditFault.TheVariants.{E5, E6, E8, E9}
use Rattle.spec_machine.specs.Edits.{Book, Change, merged, is_misplaced, routine_at, ok_or_cause, accept_in}
use Rattle.lgx_edit.specs.declared.changes.KeptEdit.{KeptEdit}
use Rattle.lgx_edit.specs.declared.shared.SharedText.{SharedText}
use Rattle.lgx_edit.specs.Shared.{checkeds}
use Rattle.lgx_edit.specs.Texts.{base_of, text_of}
use Rattle.lgx_edit.specs.Answering.{AnswersAs}
use Rattle.lgx_edit.specs.Drafts.{change_kept, changes_so_far, scope_against, with_draft}
use Rattle.lgx_edit.proofs.Accepted.{so_far_new}
use Rattle.lgx_edit.proofs.Drafting.{book_over, over, base_count, misplaced, taken_again, unread, unchecked, crowded, accepted}
use Rattle.lgx_edit.proofs.draft.drafted.Goals as goal

pub returns-in-Some-clause-answer : goal.returns-in-Some-clause-answer
returns-in-Some-clause-answer c =
    let routines = c.args.routines.now in
    let x = c.index-routines-routine.result in
    let rungs : c.len-rungs.result ≡ length (routine_at (map base_of routines) c.args.routine).source =
    c.len-rungs.ensures ∙ base_count routines c.args.routine x c.requires.within in
    λ b lane is owner.
    over b routines c.args.accepted.now is (λ (w : Book). accept_in (scope_against c.args.against.now routines) lane c.args.routine c.args.edits.now w ≡ Err (E5 c.in-Some.k))
    (misplaced (scope_against c.args.against.now routines) lane c.args.routine c.args.edits.now (book_over b routines c.args.accepted.now) owner c.in-Some.k
    (c.in-Some.ensures ∙ ap (λ n. position_from (is_misplaced n) 0 c.args.edits.now) rungs))

pub returns-in-Some-first_again-clause-answer : goal.returns-in-Some-first_again-clause-answer
returns-in-Some-first_again-clause-answer c =
    let routines = c.args.routines.now in
    let x = c.index-routines-routine.result in
    let rungs : c.len-rungs.result ≡ length (routine_at (map base_of routines) c.args.routine).source =
    c.len-rungs.ensures ∙ base_count routines c.args.routine x c.requires.within in
    λ b lane is owner.
    over b routines c.args.accepted.now is (λ (w : Book). accept_in (scope_against c.args.against.now routines) lane c.args.routine c.args.edits.now w ≡ Err (E6 c.in-Some-first_again.k))
    (taken_again (scope_against c.args.against.now routines) lane c.args.routine c.args.edits.now (book_over b routines c.args.accepted.now) owner
    (c.in_default.ensures ∙ ap (λ n. position_from (is_misplaced n) 0 c.args.edits.now) rungs) c.in-Some-first_again.k c.in-Some-first_again.ensures)

pub returns-in_err-new-clause-answer : goal.returns-in_err-new-clause-answer
returns-in_err-new-clause-answer c =
    let routines = c.args.routines.now in
    let x = c.index-routines-routine.result in
    let rungs : c.len-rungs.result ≡ length (routine_at (map base_of routines) c.args.routine).source =
    c.len-rungs.ensures ∙ base_count routines c.args.routine x c.requires.within in
    let p = err_from_is_err_and c.from_residual.result c.from_residual.ensures.1 in
    λ b lane is owner. rw (p.1, p.2)
    (over b routines c.args.accepted.now is (λ (w : Book). AnswersAs (with_draft lane c.args.routine w) (accept_in (scope_against c.args.against.now routines) lane c.args.routine c.args.edits.now w) (Err c.in_err-new.field-0.0))
    (unread (scope_against c.args.against.now routines) lane c.args.routine c.args.edits.now (book_over b routines c.args.accepted.now) owner
    (c.in_default.ensures ∙ ap (λ n. position_from (is_misplaced n) 0 c.args.edits.now) rungs) c.in_default-first_again.ensures
    (with_draft lane c.args.routine (book_over b routines c.args.accepted.now)) (λ (kept : Vec KeptEdit). map change_kept kept.items) c.in_err-new.field-0.0 c.in_err-new.ensures.answer))

pub returns-in_err-text-clause-answer : goal.returns-in_err-text-clause-answer
returns-in_err-text-clause-answer c =
    let routines = c.args.routines.now in
    let r = c.args.routine in
    let x = c.index-routines-routine.result in
    let scope = scope_against c.args.against.now routines in
    let rungs : c.len-rungs.result ≡ length (routine_at (map base_of routines) r).source =
    c.len-rungs.ensures ∙ base_count routines r x c.requires.within in
    let changes : List Change = map change_kept c.in_ok-new.new.items in
    let news : changes_so_far r c.as_slice.result.now ≡ changes =
    ap (changes_so_far r) c.as_slice.ensures.value ∙ so_far_new r c.in_ok-new.new.items c.in_ok-new.ensures.routine in
    let sources : merged (routine_at (map base_of routines) r).source (changes_so_far r c.args.accepted.now ++ changes_so_far r c.as_slice.result.now)
    ≡ merged (routine_at (map base_of routines) r).source (changes_so_far r c.args.accepted.now ++ changes) =
    ap (λ (cs : List Change). merged (routine_at (map base_of routines) r).source (changes_so_far r c.args.accepted.now ++ cs)) news in
    let p = err_from_is_err_and c.from_residual-in_err-text.result c.from_residual-in_err-text.ensures.1 in
    λ b lane is owner. rw (p.1, p.2)
    (over b routines c.args.accepted.now is (λ (w : Book). AnswersAs (with_draft lane r w) (accept_in scope lane r c.args.edits.now w) (Err c.in_err-text.field-0.0))
    (unchecked scope lane r c.args.edits.now (book_over b routines c.args.accepted.now) owner
    (c.in_default.ensures ∙ ap (λ n. position_from (is_misplaced n) 0 c.args.edits.now) rungs) c.in_default-first_again.ensures
    changes c.in_ok-new.ensures.answer (with_draft lane r (book_over b routines c.args.accepted.now)) (λ (t : SharedText). checkeds t.rungs) c.in_err-text.field-0.0
    (subst (λ (s : List Source). AnswersAs (λ (t : SharedText). checkeds t.rungs) (ok_or_cause (checked scope s) E8) (Err c.in_err-text.field-0.0)) sources c.in_err-text.ensures.answer)))

pub returns-then-not-has_room-clause-answer : goal.returns-then-not-has_room-clause-answer
returns-then-not-has_room-clause-answer c =
    let routines = c.args.routines.now in
    let r = c.args.routine in
    let x = c.index-routines-routine.result in
    let scope = scope_against c.args.against.now routines in
    let rungs : c.len-rungs.result ≡ length (routine_at (map base_of routines) r).source =
    c.len-rungs.ensures ∙ base_count routines r x c.requires.within in
    let changes : List Change = map change_kept c.in_ok-new.new.items in
    let news : changes_so_far r c.as_slice.result.now ≡ changes =
    ap (changes_so_far r) c.as_slice.ensures.value ∙ so_far_new r c.in_ok-new.new.items c.in_ok-new.ensures.routine in
    let sources : merged (routine_at (map base_of routines) r).source (changes_so_far r c.args.accepted.now ++ changes_so_far r c.as_slice.result.now)
    ≡ merged (routine_at (map base_of routines) r).source (changes_so_far r c.args.accepted.now ++ changes) =
    ap (λ (cs : List Change). merged (routine_at (map base_of routines) r).source (changes_so_far r c.args.accepted.now ++ cs)) news in
    λ b lane is owner.
    over b routines c.args.accepted.now is (λ (w : Book). accept_in scope lane r c.args.edits.now w ≡ Err E9)
    (crowded scope lane r c.args.edits.now (book_over b routines c.args.accepted.now) owner
    (c.in_default.ensures ∙ ap (λ n. position_from (is_misplaced n) 0 c.args.edits.now) rungs) c.in_default-first_again.ensures
    changes c.in_ok-new.ensures.answer (text_of c.in_ok-text.text)
    (ap (λ (s : List Source). ok_or_cause (checked scope s) E8) (sym sources) ∙ c.in_ok-text.ensures.answer)
    c.in_ok-text.ensures.name (c.in_ok-text.ensures.source ∙ sources)
    (sym c.has_room.ensures ∙ c.if-not-has_room.true))

pub returns-clause-answer : goal.returns-clause-answer
returns-clause-answer c =
    let routines = c.args.routines.now in
    let r = c.args.routine in
    let x = c.index-routines-routine.result in
    let scope = scope_against c.args.against.now routines in
    let rungs : c.len-rungs.result ≡ length (routine_at (map base_of routines) r).source =
    c.len-rungs.ensures ∙ base_count routines r x c.requires.within in
    let changes : List Change = map change_kept c.in_ok-new.new.items in
    let news : changes_so_far r c.as_slice.result.now ≡ changes =
    ap (changes_so_far r) c.as_slice.ensures.value ∙ so_far_new r c.in_ok-new.new.items c.in_ok-new.ensures.routine in
    let sources : merged (routine_at (map base_of routines) r).source (changes_so_far r c.args.accepted.now ++ changes_so_far r c.as_slice.result.now)
    ≡ merged (routine_at (map base_of routines) r).source (changes_so_far r c.args.accepted.now ++ changes) =
    ap (λ (cs : List Change). merged (routine_at (map base_of routines) r).source (changes_so_far r c.args.accepted.now ++ cs)) news in
    λ b lane is owner.
    over b routines c.args.accepted.now is (λ (w : Book). accept_in scope lane r c.args.edits.now w ≡ Ok (with_draft lane r w (record { edits = c.in_ok-new.new; text = c.in_ok-text.text; program = c.in_ok-program.program })))
    (accepted scope lane r c.args.edits.now (book_over b routines c.args.accepted.now) owner
    (c.in_default.ensures ∙ ap (λ n. position_from (is_misplaced n) 0 c.args.edits.now) rungs) c.in_default-first_again.ensures
    changes c.in_ok-new.ensures.answer (text_of c.in_ok-text.text)
    (ap (λ (s : List Source). ok_or_cause (checked scope s) E8) (sym sources) ∙ c.in_ok-text.ensures.answer)
    c.in_ok-text.ensures.name (c.in_ok-text.ensures.source ∙ sources)
    (sym c.has_room.ensures ∙ c.if-not-has_room.false))

pub returns-clause-draft : goal.returns-clause-draft
returns-clause-draft c =
    let r = c.args.routine in
    record {
      routine = c.in_ok-new.ensures.routine;
      count = c.in_ok-new.ensures.count;
      name = c.in_ok-text.ensures.name;
      source = c.in_ok-text.ensures.source
          ∙ ap (λ (cs : List Change). merged (routine_at (map base_of c.args.routines.now) r).source (changes_so_far r c.args.accepted.now ++ cs))
          (ap (changes_so_far r) c.as_slice.ensures.value ∙ so_far_new r c.in_ok-new.new.items c.in_ok-new.ensures.routine);
      program = c.in_ok-program.ensures;
    }
