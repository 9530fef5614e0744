-- What an accept leaves: book and versions stay tied, and the book is the one that is meant.
use Rattle.std.proofs.Common.{◌≡◌, ℕ, ◌+◌, ◌<◌, Bool, true, false, cond, List, [], ◌∷◌, ◌++◌, map, length, get_or, set, Option, Some, None, Result, Ok, refl, sym, ap, subst, ◌∙◌, eqb-true, eq-eqb, arith}
use Rattle.std.specs.Prelude.{nat_eq, nat_lt, nat_le, filter_map}
use Rattle.std.specs.List.{cons_option}
use Rattle.std.proofs.lemmas.Bool.{false≢true, and_parts}
use Rattle.std.proofs.lemmas.Bool.Decides.{nat_tests}
use Rattle.std.proofs.lemmas.List.{append-nil, map-append, map-set, length-map, length-append, get_or-set_same, get_or-set_other}
use Rattle.std.proofs.lemmas.List.Elements.{filter_map-append}
use Rattle.std.proofs.Math.Seq.{map-set_same}
use Rattle.spec_machine.specs.Project as machine
use Rattle.spec_machine.specs.declared.event.RungEdit.{RungEdit}
use Rattle.spec_base.specs.declared.limits.TheConstants.{MAX_EDITS}
use Rattle.spec_base.specs.FirstCause.{◌>>=◌}
use Rattle.spec_language.specs.Checked.{CheckScope}
use Rattle.spec_machine.specs.Commands.{AcceptCommand, is_edit_count}
use Rattle.spec_machine.specs.declared.reply.EditFault.{EditFault}
use Rattle.spec_machine.specs.Edits.{Book, Change, AcceptedEdit, routine_named, other_owner, accept_in, change_in, merged, no_routine, routine_at}
use Rattle.lgx_prog.specs.FlatProgram.{Program, IsFlatProgram}
use Rattle.lgx_versions.specs.declared.slots.Version.{Version}
use Rattle.lgx_versions.specs.Roles.{Roles, add}
use Rattle.lgx_edit.specs.declared.shared.SharedText.{SharedText}
use Rattle.lgx_edit.specs.declared.changes.KeptEdit.{KeptEdit}
use Rattle.lgx_edit.specs.declared.changes.EditedRoutine.{EditedRoutine}
use Rattle.lgx_edit.specs.declared.draft.Draft.{Draft}
use Rattle.lgx_edit.specs.Shared.{sources, checkeds}
use Rattle.lgx_edit.specs.Texts.{text_of, base_of, merged_of, accepted_of}
use Rattle.lgx_edit.specs.EditsView.{rungs_of, AreTied}
use Rattle.lgx_edit.specs.Seen.{book_with}
use Rattle.lgx_edit.specs.Drafts.{change_kept, edit_of, AreInRoutine, changes_so_far, routines_with, scope_against, IsBookOf, with_draft, IsDraft}
use Rattle.lgx_edit.specs.declared.draft.Against.{Against}
use Rattle.lgx_edit.specs.Accepting.{accept_at}

-- ---- changes of one routine

same_routine : (r : ℕ) (cs : List Change) → filter_map (change_in r) (map (edit_of r) cs) ≡ cs
same_routine r [] = refl
same_routine r (c ∷ cs) =
    ap (λ (b : Bool). cons_option (cond b (Some c) None) (filter_map (change_in r) (map (edit_of r) cs))) (eq-eqb r r refl)
    ∙ ap (λ (xs : List Change). c ∷ xs) (same_routine r cs)

other_routine : (n r : ℕ) (cs : List Change) → nat_eq r n ≡ false → filter_map (change_in n) (map (edit_of r) cs) ≡ []
other_routine n r [] e = refl
other_routine n r (c ∷ cs) e =
    ap (λ (b : Bool). cons_option (cond b (Some c) None) (filter_map (change_in n) (map (edit_of r) cs))) e ∙ other_routine n r cs e

-- the accepted changes of a routine with those of new edits
so_far_more : (n : ℕ) (ks es : List KeptEdit) → changes_so_far n (ks ++ es) ≡ changes_so_far n ks ++ changes_so_far n es
so_far_more n ks es =
    ap (filter_map (change_in n)) (map-append accepted_of ks es) ∙ filter_map-append (change_in n) (map accepted_of ks) (map accepted_of es)

pub so_far_new : (r : ℕ) (es : List KeptEdit) → AreInRoutine r es → changes_so_far r es ≡ map change_kept es
so_far_new r es all = ap (filter_map (change_in r)) all ∙ same_routine r (map change_kept es)

so_far_other : (n r : ℕ) (es : List KeptEdit) → AreInRoutine r es → nat_eq r n ≡ false → changes_so_far n es ≡ []
so_far_other n r es all e = ap (filter_map (change_in n)) all ∙ other_routine n r (map change_kept es) e

-- ---- a routine with other merged rungs

module _ (xs : List EditedRoutine) (r : ℕ) (x : EditedRoutine) (there : x ≡ get_or xs r x) (within : r < length xs) (text : SharedText) where
  abbrev now : List EditedRoutine
  now = set xs r (record x { merged = Some text })

  pub base_kept : map base_of now ≡ map base_of xs
  base_kept = map-set_same base_of xs r (record x { merged = Some text }) x (ap base_of there)

  pub merged_now : map merged_of now ≡ routines_with r text xs
  merged_now = map-set merged_of xs r (record x { merged = Some text })

-- ---- an accept

module _ (name : List ℕ) (main : ℕ) (xs : List EditedRoutine) (ks : List KeptEdit) (owner : Option ℕ) (roles : Roles)
    (r : ℕ) (x : EditedRoutine) (there : x ≡ get_or xs r x) (within : r < length xs) (lane : ℕ) (edits : List RungEdit) (d : Draft)
    (draft : IsDraft main r xs ks edits d) where
  abbrev new_book : Book
  new_book = book_with name main (now xs r x there within d.text) (ks ++ d.edits.items) (Some lane) (add d.program roles)

  bases : map base_of (now xs r x there within d.text) ≡ map base_of xs
  bases = base_kept xs r x there within d.text

  mergeds : map merged_of (now xs r x there within d.text) ≡ routines_with r d.text xs
  mergeds = merged_now xs r x there within d.text

  text_is : text_of d.text ≡ record (routine_at (map merged_of xs) r) { source = sources d.text.rungs; checked = checkeds d.text.rungs }
  text_is = ap (λ (n : List ℕ). let t : machine.RoutineText = record { name = n; source = sources d.text.rungs; checked = checkeds d.text.rungs } in t) draft.name

  accepted_is : map accepted_of (ks ++ d.edits.items) ≡ map accepted_of ks ++ map (edit_of r) (map change_kept d.edits.items)
  accepted_is = map-append accepted_of ks d.edits.items ∙ ap (λ (es : List AcceptedEdit). map accepted_of ks ++ es) draft.routine

  pub accepted-book : new_book ≡ with_draft lane r (book_with name main xs ks owner roles) d
  accepted-book =
      ap (λ (b : List machine.RoutineText). record new_book { base = b }) bases
      ∙ (ap (λ (m : List machine.RoutineText). record new_book { base = map base_of xs; merged = m }) (mergeds ∙ ap (λ (t : machine.RoutineText). set (map merged_of xs) r t) text_is)
      ∙ ap (λ (es : List AcceptedEdit). record new_book { base = map base_of xs; merged = set (map merged_of xs) r (record (routine_at (map merged_of xs) r) { source = sources d.text.rungs; checked = checkeds d.text.rungs }); accepted = es }) accepted_is)

  texts_now : AreTied (book_with name main xs ks owner roles) roles → (n : ℕ) → n < length (map base_of (now xs r x there within d.text))
      → (routine_at (map merged_of (now xs r x there within d.text)) n).source ≡ merged (routine_at (map base_of (now xs r x there within d.text)) n).source (changes_so_far n (ks ++ d.edits.items))
  texts_now t n h =
      ap (λ (m : List machine.RoutineText). (routine_at m n).source) mergeds
      ∙ (by_place (nat_eq r n) refl
      ∙ ap (λ (b : List machine.RoutineText). merged (routine_at b n).source (changes_so_far n (ks ++ d.edits.items))) (sym bases))
    where
      count : r < length (map merged_of xs)
      count = subst (λ (k : ℕ). r < k) (sym (length-map xs merged_of)) within

      by_place : (b : Bool) → nat_eq r n ≡ b → (routine_at (routines_with r d.text xs) n).source ≡ merged (routine_at (map base_of xs) n).source (changes_so_far n (ks ++ d.edits.items))
      by_place true e =
          let here : r ≡ n = eqb-true r n e in
          let P : ℕ → Type 0 = λ k. (routine_at (routines_with r d.text xs) k).source ≡ merged (routine_at (map base_of xs) k).source (changes_so_far k (ks ++ d.edits.items)) in
          subst P here
          (ap (λ (t : machine.RoutineText). t.source) (get_or-set_same (map merged_of xs) r (text_of d.text) no_routine count)
          ∙ (draft.source
          ∙ ap (λ (cs : List Change). merged (routine_at (map base_of xs) r).source cs)
          (ap (λ (cs : List Change). changes_so_far r ks ++ cs) (sym (so_far_new r d.edits.items draft.routine)) ∙ sym (so_far_more r ks d.edits.items))))
      by_place false e =
          ap (λ (t : machine.RoutineText). t.source) (get_or-set_other (map merged_of xs) r n (text_of d.text) no_routine (λ (same : n ≡ r). false≢true (sym e ∙ eq-eqb r n (sym same))))
          ∙ (t.texts n (subst (λ (b : List machine.RoutineText). n < length b) bases h)
          ∙ ap (λ (cs : List Change). merged (routine_at (map base_of xs) n).source cs)
          (sym (so_far_more n ks d.edits.items ∙ (ap (λ (cs : List Change). changes_so_far n ks ++ cs) (so_far_other n r d.edits.items draft.routine e) ∙ append-nil (changes_so_far n ks)))))

  pub accepted-tied : AreTied (book_with name main xs ks owner roles) roles → 0 < length edits → AreTied new_book (add d.program roles)
  accepted-tied t some = record {
    number = refl;
    newest = refl;
    testing = refl;
    base = subst (λ (b : List machine.RoutineText). IsFlatProgram roles.base.program (rungs_of main b)) (sym bases) t.base;
    merged = λ v e. subst (λ (p : Program). IsFlatProgram p (rungs_of main (map merged_of (now xs r x there within d.text)))) (ap program_of (let same : version ≡ v = cc e in same))
        (subst (λ (m : List machine.RoutineText). IsFlatProgram d.program (rungs_of main m)) (sym mergeds) draft.program);
    last = λ v e. sym (ap number_of (let same : version ≡ v = cc e in same));
    accepted = sym (some_accepted (map accepted_of (ks ++ d.edits.items)) many);
    tested = λ h. refl;
    main = subst (λ (b : List machine.RoutineText). main < length b) (sym bases) t.main;
    few = subst (λ (b : List machine.RoutineText). length b < 4294967296) (sym bases) t.few;
    texts = texts_now t;
  }
    where
      version : Version
      version = record { number = roles.newest + 1; program = d.program }

      program_of : Version → Program
      program_of v = v.program

      number_of : Version → ℕ
      number_of v = v.number

      many : 0 < length (map accepted_of (ks ++ d.edits.items))
      many = let count = draft.count in simp (length-map, length-append) (omega arith)

      some_accepted : (es : List AcceptedEdit) → 0 < length es → nat_lt 0 (length es) ≡ true
      some_accepted es h = grind arith

  -- the same of the vectors and versions that were made
  pub accepted-along : (es : List KeptEdit) (q : Roles) → es ≡ ks ++ d.edits.items → q ≡ add d.program roles
      → book_with name main (now xs r x there within d.text) es (Some lane) q ≡ new_book
  accepted-along es q e f =
      ap (λ (ls : List KeptEdit). book_with name main (now xs r x there within d.text) ls (Some lane) q) e
      ∙ ap (λ (o : Roles). book_with name main (now xs r x there within d.text) (ks ++ d.edits.items) (Some lane) o) f

  pub tied-now : (es : List KeptEdit) (q : Roles) → es ≡ ks ++ d.edits.items → q ≡ add d.program roles
      → AreTied (book_with name main xs ks owner roles) roles → 0 < length edits
      → AreTied (book_with name main (now xs r x there within d.text) es (Some lane) q) q
  tied-now es q e f t some =
      subst (λ (b : Book). AreTied b q) (sym (accepted-along es q e f))
      (subst (λ (o : Roles). AreTied new_book o) (sym f) (accepted-tied t some))

-- what a draft of these slices says, said of the vectors
abbrev pub Drafted : Against → ℕ → ℕ → List EditedRoutine → List KeptEdit → List RungEdit → Draft → Type 0
Drafted a main r xs ks edits d =
    ((b : Book) (lane : ℕ) → IsBookOf b xs ks → other_owner b lane ≡ None → accept_in (scope_against a xs) lane r edits b ≡ Ok (with_draft lane r b d))
    × IsDraft main r xs ks edits d

pub drafted-for : (a : Against) (main r : ℕ) (xs ys : List EditedRoutine) (ks ls : List KeptEdit) (edits es : List RungEdit) (d : Draft)
    → ys ≡ xs → ls ≡ ks → es ≡ edits → Drafted a main r ys ls es d → Drafted a main r xs ks edits d
drafted-for a main r xs ys ks ls edits es d e f g h =
    subst (λ (zs : List EditedRoutine). Drafted a main r zs ks edits d) e
    (subst (λ (ms : List KeptEdit). Drafted a main r ys ms edits d) f
    (subst (λ (gs : List RungEdit). Drafted a main r ys ls gs d) g h))

-- the routine and the owner of the accept are found first
pub accept-found : (a : Against) (lane r : ℕ) (command : AcceptCommand) (b book : Book) (scope : CheckScope) → Ok r ≡ routine_named b command.routine
    → accept_in scope lane r command.edits b ≡ Ok book → accept_at scope lane command b ≡ Ok book
accept-found a lane r command b book scope named e =
    ap (λ (n : Result ℕ EditFault). n >>= λ k. accept_in scope lane k command.edits b) (sym named) ∙ e

pub some_edit : (n : ℕ) → is_edit_count n ≡ true → 0 < n
some_edit n h = let least : nat_le 1 n ≡ true = (and_parts (nat_le 1 n) (nat_le n MAX_EDITS) h).0 in grind (arith, nat_tests)
