-- A program without edits.
use Rattle.std.proofs.Common.{◌≡◌, ℕ, ◌<◌, length, List, [], ◌∷◌, ◌++◌, map, None, refl, sym, ap, ◌∙◌, subst}
use Rattle.std.proofs.lemmas.Bool.{false≢true}
use Rattle.std.proofs.lemmas.Option.{none-some}
use Rattle.spec_machine.specs.Project as machine
use Rattle.spec_machine.specs.Edits.{book_of}
use Rattle.lgx_prog.specs.FlatProgram.{Program, IsFlatProgram}
use Rattle.lgx_versions.specs.Roles.{only_base}
use Rattle.lgx_edit.specs.declared.texts.RoutineText.{RoutineText}
use Rattle.lgx_edit.specs.declared.changes.EditedRoutine.{EditedRoutine}
use Rattle.lgx_edit.specs.Texts.{routine_of, base_of, merged_of}
use Rattle.lgx_edit.specs.EditsView.{AreTied, rungs_of}
use Rattle.lgx_edit.specs.Seen.{book_with}
use Rattle.lgx_edit.proofs.Tied.{texts_alone}
use Rattle.std.proofs.lemmas.List.{length-map, map-append}

module _ (name : List ℕ) (main : ℕ) (rs : List RoutineText) (edited : List EditedRoutine) (program : Program)
    (base_is : map base_of edited ≡ map routine_of rs) (merged_is : map merged_of edited ≡ map routine_of rs) where
  count : length (map base_of edited) ≡ length rs
  count = ap (λ (xs : List machine.RoutineText). length xs) base_is ∙ length-map rs routine_of

  pub new-tied : IsFlatProgram program (rungs_of main (map base_of edited)) → main < length rs → length rs < 4294967296
      → AreTied (book_with name main edited [] None (only_base program)) (only_base program)
  new-tied flat within few = record {
    number = refl;
    newest = refl;
    testing = refl;
    base = flat;
    merged = λ v e. absurd (none-some v e);
    last = λ v e. absurd (none-some v e);
    accepted = refl;
    tested = λ h. absurd (false≢true h);
    main = subst (λ (n : ℕ). main < n) (sym count) within;
    few = subst (λ (n : ℕ). n < 4294967296) (sym count) few;
    texts = λ n h. texts_alone (map base_of edited) (map merged_of edited) (merged_is ∙ sym base_is) n;
  }

  pub new-book : book_with name main edited [] None (only_base program) ≡ book_of (record { name = name; routines = map routine_of rs; main = main })
  new-book =
      ap (λ (x : List machine.RoutineText). record (book_with name main edited [] None (only_base program)) { base = x }) base_is
      ∙ ap (λ (x : List machine.RoutineText). record (book_with name main edited [] None (only_base program)) { base = map routine_of rs; merged = x }) merged_is

pub one-more : {A : Type 0} (f : A → machine.RoutineText) (xs : List A) (x : A) (ys : List machine.RoutineText) (y : machine.RoutineText) → map f xs ≡ ys → f x ≡ y
    → map f (xs ++ x ∷ []) ≡ ys ++ y ∷ []
one-more f xs x ys y e g =
    map-append f xs (x ∷ [])
    ∙ (ap (λ (zs : List machine.RoutineText). zs ++ f x ∷ []) e ∙ ap (λ (z : machine.RoutineText). ys ++ z ∷ []) g)
