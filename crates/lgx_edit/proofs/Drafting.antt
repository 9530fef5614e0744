-- An accept, cause by cause.
use Rattle.std.proofs.Common.{◌≡◌, ℕ, ◌<◌, get_or, Bool, true, false, List, ◌++◌, map, Option, Some, None, Result, Ok, Err, sym, ap, subst, ◌∙◌}
use Rattle.std.specs.Prelude.{flat_map, nat_le, slice_set, length}
use Rattle.std.specs.List.{position_from}
use Rattle.std.proofs.lemmas.List.{get_or-map, length-map}
use Rattle.spec_base.specs.declared.limits.TheConstants.{MAX_PROGRAM_INSTRUCTIONS}
use Rattle.spec_base.specs.FirstCause.{◌>>=◌, unless}
use Rattle.lgx_rung.specs.Tree.{Source}
use Rattle.spec_scan.specs.Position.{Rungs}
use Rattle.spec_language.specs.Checked.{CheckScope, checked}
use Rattle.spec_machine.specs.declared.event.RungEdit.{RungEdit}
use Rattle.spec_machine.specs.declared.reply.EditFault.{EditFault}
use Rattle.spec_machine.specs.declared.reply.EditFault.TheVariants.{E3, E5, E6, E8, E9}
use Rattle.spec_machine.specs.Project as machine
use Rattle.spec_machine.specs.Edits.{Book, Change, AcceptedEdit, no_routine, routine_at, none_or, ok_or_cause, other_owner, is_misplaced, taken_by, first_again, changes_of, changes_in, merged, instruction_count, with_changes, accept_in}
use Rattle.lgx_edit.specs.declared.changes.KeptEdit.{KeptEdit}
use Rattle.lgx_edit.specs.declared.changes.EditedRoutine.{EditedRoutine}
use Rattle.lgx_edit.specs.declared.error.EditError.{EditError}
use Rattle.lgx_edit.specs.declared.error.EditError.TheVariants.{Edit, Memory}
use Rattle.lgx_edit.specs.Answering.{AnswersAs}
use Rattle.lgx_edit.specs.Shared.{RungPair}
use Rattle.lgx_edit.specs.Texts.{base_of, merged_of, accepted_of}
use Rattle.lgx_edit.specs.Drafts.{IsBookOf}

-- the book with these routines and accepted edits
abbrev pub book_over : Book → List EditedRoutine → List KeptEdit → Book
book_over b routines accepted = record b { base = map base_of routines; merged = map merged_of routines; accepted = map accepted_of accepted }

pub over : (b : Book) (routines : List EditedRoutine) (accepted : List KeptEdit) → IsBookOf b routines accepted
    → (P : Book → Type 0) → P (book_over b routines accepted) → P b
over b routines accepted is P p =
    subst P
    (ap (λ (x : List machine.RoutineText). record b { base = x; merged = map merged_of routines; accepted = map accepted_of accepted }) (sym is.bases)
    ∙ (ap (λ (x : List machine.RoutineText). record b { merged = x; accepted = map accepted_of accepted }) (sym is.mergeds)
    ∙ ap (λ (x : List AcceptedEdit). record b { accepted = x }) (sym is.kept))) p

module _ (scope : CheckScope) (lane r : ℕ) (edits : List RungEdit) (b : Book) (owner : other_owner b lane ≡ None) where
  abbrev pub the_misplaced : Option ℕ
  the_misplaced = position_from (is_misplaced (length (routine_at b.base r).source)) 0 edits

  abbrev pub the_again : Option ℕ
  the_again = first_again 0 (flat_map taken_by (changes_in b r)) edits

  abbrev pub the_source : List Change → List Source
  the_source changes = merged (routine_at b.base r).source (changes_in b r ++ changes)

  abbrev after_check : List Change → Rungs → Result Book EditFault
  after_check changes rungs =
      unless (nat_le (instruction_count (with_changes lane r changes (the_source changes) rungs b).merged) MAX_PROGRAM_INSTRUCTIONS) E9
      >>= λ _. Ok (with_changes lane r changes (the_source changes) rungs b)

  abbrev after_reading : List Change → Result Book EditFault
  after_reading changes = ok_or_cause (checked scope (the_source changes)) E8 >>= after_check changes

  abbrev pub whole : Result Book EditFault
  whole = accept_in scope lane r edits b

  owned : whole ≡ (none_or the_misplaced E5 >>= λ _. none_or the_again E6 >>= λ _. changes_of 0 edits >>= after_reading)
  owned = ap (λ (o : Option ℕ). none_or o E3 >>= λ _. none_or the_misplaced E5 >>= λ _. none_or the_again E6 >>= λ _. changes_of 0 edits >>= after_reading) owner

  pub misplaced : (k : ℕ) → Some k ≡ the_misplaced → whole ≡ Err (E5 k)
  misplaced k e = owned ∙ ap (λ (o : Option ℕ). none_or o E5 >>= λ _. none_or the_again E6 >>= λ _. changes_of 0 edits >>= after_reading) (sym e)

  module _ (placed : None ≡ the_misplaced) where
    all_placed : whole ≡ (none_or the_again E6 >>= λ _. changes_of 0 edits >>= after_reading)
    all_placed = owned ∙ ap (λ (o : Option ℕ). none_or o E5 >>= λ _. none_or the_again E6 >>= λ _. changes_of 0 edits >>= after_reading) (sym placed)

    pub taken_again : (k : ℕ) → Some k ≡ the_again → whole ≡ Err (E6 k)
    taken_again k e = all_placed ∙ ap (λ (o : Option ℕ). none_or o E6 >>= λ _. changes_of 0 edits >>= after_reading) (sym e)

    module _ (once : None ≡ the_again) where
      all_once : whole ≡ (changes_of 0 edits >>= after_reading)
      all_once = all_placed ∙ ap (λ (o : Option ℕ). none_or o E6 >>= λ _. changes_of 0 edits >>= after_reading) (sym once)

      -- edits that aren't read
      pub unread : {A B : Type 0} (seen : A → Book) (kept : B → List Change) (answer : EditError) → AnswersAs kept (changes_of 0 edits) (Err answer) → AnswersAs seen whole (Err answer)
      unread seen kept (Edit f) a = all_once ∙ ap (λ (c : Result (List Change) EditFault). c >>= after_reading) a
      unread seen kept Memory a = tt

      module _ (changes : List Change) (read : changes_of 0 edits ≡ Ok changes) where
        all_read : whole ≡ (ok_or_cause (checked scope (the_source changes)) E8 >>= after_check changes)
        all_read = all_once ∙ ap (λ (c : Result (List Change) EditFault). c >>= after_reading) read

        -- merged rungs that aren't checked
        pub unchecked : {A B : Type 0} (seen : A → Book) (rungs : B → Rungs) (answer : EditError)
            → AnswersAs rungs (ok_or_cause (checked scope (the_source changes)) E8) (Err answer) → AnswersAs seen whole (Err answer)
        unchecked seen rungs (Edit f) a = all_read ∙ ap (λ (c : Result Rungs EditFault). c >>= after_check changes) a
        unchecked seen rungs Memory a = tt

        module _ (text : machine.RoutineText) (is_checked : ok_or_cause (checked scope (the_source changes)) E8 ≡ Ok text.checked)
            (name : text.name ≡ (routine_at b.merged r).name) (source : text.source ≡ the_source changes) where
          text_is : record (routine_at b.merged r) { source = the_source changes; checked = text.checked } ≡ text
          text_is =
              ap (λ (s : List Source). let t : machine.RoutineText = record { name = (routine_at b.merged r).name; source = s; checked = text.checked } in t) (sym source)
              ∙ ap (λ (n : List ℕ). let t : machine.RoutineText = record { name = n; source = text.source; checked = text.checked } in t) (sym name)

          the_end : Bool → Result Book EditFault
          the_end x = unless x E9 >>= λ _. Ok (with_changes lane r changes (the_source changes) text.checked b)

          all_checked : whole ≡ the_end (nat_le (instruction_count (slice_set b.merged r text)) MAX_PROGRAM_INSTRUCTIONS)
          unfolding the_end
          all_checked =
              all_read ∙ (ap (λ (c : Result Rungs EditFault). c >>= after_check changes) is_checked
              ∙ ap (λ (t : machine.RoutineText). unless (nat_le (instruction_count (slice_set b.merged r t)) MAX_PROGRAM_INSTRUCTIONS) E9 >>= λ _. Ok (with_changes lane r changes (the_source changes) text.checked b)) text_is)

          pub crowded : nat_le (instruction_count (slice_set b.merged r text)) MAX_PROGRAM_INSTRUCTIONS ≡ false → whole ≡ Err E9
          unfolding the_end
          crowded e = all_checked ∙ ap the_end e

          pub accepted : nat_le (instruction_count (slice_set b.merged r text)) MAX_PROGRAM_INSTRUCTIONS ≡ true
              → whole ≡ Ok (with_changes lane r changes text.source text.checked b)
          unfolding the_end
          accepted e = all_checked ∙ (ap the_end e ∙ ap (λ (s : List Source). let ok : Result Book EditFault = Ok (with_changes lane r changes s text.checked b) in ok) (sym source))

-- the base text of a routine that is there
pub base_there : (routines : List EditedRoutine) (r : ℕ) (x : EditedRoutine) → r < length routines → routine_at (map base_of routines) r ≡ base_of (get_or routines r x)
base_there routines r x h = get_or-map base_of routines r x no_routine h

pub base_count : (routines : List EditedRoutine) (r : ℕ) (x : EditedRoutine) → r < length routines → length (get_or routines r x).base.rungs ≡ length (routine_at (map base_of routines) r).source
base_count routines r x h =
    sym (length-map (get_or routines r x).base.rungs (λ (rung : RungPair). rung.source)) ∙ ap (λ (t : machine.RoutineText). length t.source) (sym (base_there routines r x h))
