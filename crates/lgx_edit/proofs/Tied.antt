-- Book and versions stay tied.
use Rattle.std.proofs.Common.{◌≡◌, ℕ, ◌<◌, Bool, true, false, cond, List, [], ◌∷◌, map, length, Option, Some, None, is_some, refl, sym, ap, ◌∙◌, subst}
use Rattle.std.specs.Prelude.{IsTrue, IsSome, unwrap_or}
use Rattle.std.proofs.lemmas.Bool.{false≢true}
use Rattle.std.proofs.lemmas.Option.{none-some}
use Rattle.std.proofs.lemmas.List.{length-map, with_items_is}
use Rattle.std.specs.Global.{Vec}
use Rattle.std.specs.Vec.{with_items}
use Rattle.spec_machine.specs.Project as machine
use Rattle.spec_machine.specs.Edits.{Book, merged, routine_at, selected_number}
use Rattle.lgx_prog.specs.FlatProgram.{IsFlatProgram}
use Rattle.lgx_versions.specs.declared.slots.Version.{Version}
use Rattle.lgx_versions.specs.Roles.{Roles, selected, select, assemble, cancel, hold, drop_hold}
use Rattle.lgx_edit.specs.declared.changes.KeptEdit.{KeptEdit}
use Rattle.lgx_edit.specs.declared.changes.EditedRoutine.{EditedRoutine}
use Rattle.lgx_edit.specs.Texts.{base_of, merged_of, assembled, cancelled}
use Rattle.lgx_versions.specs.View.{VersionsView}
use Rattle.lgx_edit.specs.declared.edits.ProgramEdits.TheInside.{Inside}
use Rattle.lgx_edit.specs.EditsView.{EditsView, rungs_of, AreTied, RunsSelected, IsHeldNow}
use Rattle.lgx_edit.specs.Seen.{book_with, view_of, IsTied}
use Rattle.lgx_edit.proofs.Merges.{merged-none}

-- ---- what is selected

pub selected-runs : (b : Book) (r : Roles) → AreTied b r → RunsSelected (selected r).program b
selected-runs b r t = subst (λ (x : Bool). IsFlatProgram (selected r).program (rungs_of b.main (cond x b.merged b.base))) t.testing (by_testing r.testing r.merged refl refl)
  where
    by_testing : (x : Bool) (m : Option Version) → r.testing ≡ x → r.merged ≡ m
        → IsFlatProgram (cond x (unwrap_or m r.base) r.base).program (rungs_of b.main (cond x b.merged b.base))
    by_testing true None e e' = absurd (false≢true (sym (ap (λ (o : Option Version). is_some o) e') ∙ t.tested e))
    by_testing true (Some v) e e' = t.merged v e'
    by_testing false m e e' = t.base

pub selected-number : (b : Book) (r : Roles) → AreTied b r → (selected r).number ≡ selected_number b
selected-number b r t = by_testing r.testing r.merged refl refl ∙ ap (λ (x : Bool). cond x b.newest b.number) t.testing
  where
    by_testing : (x : Bool) (m : Option Version) → r.testing ≡ x → r.merged ≡ m
        → (cond x (unwrap_or m r.base) r.base).number ≡ cond x b.newest b.number
    by_testing true None e e' = absurd (false≢true (sym (ap (λ (o : Option Version). is_some o) e') ∙ t.tested e))
    by_testing true (Some v) e e' = t.last v e'
    by_testing false m e e' = t.number

-- ---- the texts after assemble and cancel

pub assembled-base : (xs : List EditedRoutine) → map base_of (map assembled xs) ≡ map merged_of xs
assembled-base [] = refl
assembled-base (x ∷ xs) = ap (λ (ys : List machine.RoutineText). merged_of x ∷ ys) (assembled-base xs)

pub assembled-merged : (xs : List EditedRoutine) → map merged_of (map assembled xs) ≡ map merged_of xs
assembled-merged [] = refl
assembled-merged (x ∷ xs) = ap (λ (ys : List machine.RoutineText). merged_of x ∷ ys) (assembled-merged xs)

pub cancelled-base : (xs : List EditedRoutine) → map base_of (map cancelled xs) ≡ map base_of xs
cancelled-base [] = refl
cancelled-base (x ∷ xs) = ap (λ (ys : List machine.RoutineText). base_of x ∷ ys) (cancelled-base xs)

pub cancelled-merged : (xs : List EditedRoutine) → map merged_of (map cancelled xs) ≡ map base_of xs
cancelled-merged [] = refl
cancelled-merged (x ∷ xs) = ap (λ (ys : List machine.RoutineText). base_of x ∷ ys) (cancelled-merged xs)

as_many_bases : (f : EditedRoutine → EditedRoutine) (xs : List EditedRoutine) → length (map base_of (map f xs)) ≡ length (map base_of xs)
as_many_bases f xs = length-map (map f xs) base_of ∙ (length-map xs f ∙ sym (length-map xs base_of))

-- without accepted edits the merged rungs are the base
pub texts_alone : (base merged' : List machine.RoutineText) → merged' ≡ base → (n : ℕ) → (routine_at merged' n).source ≡ merged (routine_at base n).source []
texts_alone base merged' e n = ap (λ (ys : List machine.RoutineText). (routine_at ys n).source) e ∙ sym (merged-none (routine_at base n).source)

-- ---- other roles

module _ (name : List ℕ) (main : ℕ) (xs : List EditedRoutine) (accepted : List KeptEdit) (owner : Option ℕ) (r : Roles) where
  abbrev pub Tied : Type 0
  Tied = AreTied (book_with name main xs accepted owner r) r

  pub tied-select : (x : Bool) → Tied → (IsTrue x → IsSome r.merged) → AreTied (book_with name main xs accepted owner (select x r)) (select x r)
  tied-select x t tested = record { number = refl; newest = refl; testing = refl; base = t.base; merged = t.merged; last = t.last; accepted = t.accepted; tested = tested; main = t.main; few = t.few; texts = t.texts }

  pub tied-hold : Tied → AreTied (book_with name main xs accepted owner (hold r)) (hold r)
  tied-hold t = record { number = refl; newest = refl; testing = refl; base = t.base; merged = t.merged; last = t.last; accepted = t.accepted; tested = t.tested; main = t.main; few = t.few; texts = t.texts }

  pub tied-drop_hold : Tied → AreTied (book_with name main xs accepted owner (drop_hold r)) (drop_hold r)
  tied-drop_hold t = record { number = refl; newest = refl; testing = refl; base = t.base; merged = t.merged; last = t.last; accepted = t.accepted; tested = t.tested; main = t.main; few = t.few; texts = t.texts }

  pub tied-assemble : Tied → IsSome r.merged → AreTied (book_with name main (map assembled xs) [] None (assemble r)) (assemble r)
  tied-assemble t some = record {
    number = refl;
    newest = refl;
    testing = refl;
    base = subst (λ (routines : List machine.RoutineText). IsFlatProgram (unwrap_or r.merged r.base).program (rungs_of main routines)) (sym (assembled-base xs)) (by_merged r.merged refl some);
    merged = λ v e. absurd (none-some v e);
    last = λ v e. absurd (none-some v e);
    accepted = refl;
    tested = λ h. absurd (false≢true h);
    main = subst (λ (n : ℕ). main < n) (sym (as_many_bases assembled xs)) t.main;
    few = subst (λ (n : ℕ). n < 4294967296) (sym (as_many_bases assembled xs)) t.few;
    texts = λ n h. texts_alone (map base_of (map assembled xs)) (map merged_of (map assembled xs)) (assembled-merged xs ∙ sym (assembled-base xs)) n;
  }
    where
      by_merged : (m : Option Version) → r.merged ≡ m → IsSome m → IsFlatProgram (unwrap_or m r.base).program (rungs_of main (map merged_of xs))
      by_merged None e h = absurd (false≢true h)
      by_merged (Some v) e h = t.merged v e

  pub tied-cancel : Tied → AreTied (book_with name main (map cancelled xs) [] None (cancel r)) (cancel r)
  tied-cancel t = record {
    number = refl;
    newest = refl;
    testing = refl;
    base = subst (λ (routines : List machine.RoutineText). IsFlatProgram r.base.program (rungs_of main routines)) (sym (cancelled-base xs)) t.base;
    merged = λ v e. absurd (none-some v e);
    last = λ v e. absurd (none-some v e);
    accepted = refl;
    tested = λ h. absurd (false≢true h);
    main = subst (λ (n : ℕ). main < n) (sym (as_many_bases cancelled xs)) t.main;
    few = subst (λ (n : ℕ). n < 4294967296) (sym (as_many_bases cancelled xs)) t.few;
    texts = λ n h. texts_alone (map base_of (map cancelled xs)) (map merged_of (map cancelled xs)) (cancelled-merged xs ∙ sym (cancelled-base xs)) n;
  }

  pub assembled-book : Tied → IsSome r.merged → book_with name main (map assembled xs) [] None (assemble r)
      ≡ record (book_with name main xs accepted owner r) { base = map merged_of xs; number = r.newest; accepted = []; owner = None; testing = false }
  assembled-book t some =
      ap (λ (y : List machine.RoutineText). record (book_with name main (map assembled xs) [] None (assemble r)) { base = y }) (assembled-base xs)
      ∙ (ap (λ (y : List machine.RoutineText). record (book_with name main (map assembled xs) [] None (assemble r)) { base = map merged_of xs; merged = y }) (assembled-merged xs)
      ∙ ap (λ (n : ℕ). record (book_with name main xs accepted owner r) { base = map merged_of xs; number = n; accepted = []; owner = None; testing = false }) (by_merged r.merged refl some))
    where
      by_merged : (m : Option Version) → r.merged ≡ m → IsSome m → (unwrap_or m r.base).number ≡ r.newest
      by_merged None e h = absurd (false≢true h)
      by_merged (Some v) e h = t.last v e

  pub cancelled-book : book_with name main (map cancelled xs) [] None (cancel r)
      ≡ record (book_with name main xs accepted owner r) { merged = map base_of xs; accepted = []; owner = None; testing = false }
  cancelled-book =
      ap (λ (y : List machine.RoutineText). record (book_with name main (map cancelled xs) [] None (cancel r)) { base = y }) (cancelled-base xs)
      ∙ ap (λ (y : List machine.RoutineText). record (book_with name main (map cancelled xs) [] None (cancel r)) { base = map base_of xs; merged = y }) (cancelled-merged xs)

-- ---- what was made is what was meant

pub book-along : (name : List ℕ) (main : ℕ) (xs ys : List EditedRoutine) (ks ls : List KeptEdit) (r q : Roles) → xs ≡ ys → ks ≡ ls → r ≡ q
    → book_with name main xs ks None r ≡ book_with name main ys ls None q
book-along name main xs ys ks ls r q e f g =
    ap (λ (x : List EditedRoutine). book_with name main x ks None r) e
    ∙ (ap (λ (x : List KeptEdit). book_with name main ys x None r) f ∙ ap (λ (x : Roles). book_with name main ys ls None x) g)

pub tied-along : (name : List ℕ) (main : ℕ) (xs ys : List EditedRoutine) (ks ls : List KeptEdit) (r q : Roles) → xs ≡ ys → ks ≡ ls → r ≡ q
    → AreTied (book_with name main ys ls None q) q → AreTied (book_with name main xs ks None r) r
tied-along name main xs ys ks ls r q e f g t =
    subst (λ (b : Book). AreTied b r) (sym (book-along name main xs ys ks ls r q e f g))
    (subst (λ (x : Roles). AreTied (book_with name main ys ls None q) x) (sym g) t)

-- each routine is changed, in its place in the vector
pub changed_items : (f : EditedRoutine → EditedRoutine) (v : Vec EditedRoutine) (ws : List EditedRoutine) → ws ≡ map f v.items
    → (with_items v ws).items ≡ map f v.items
changed_items f v ws e = with_items_is v ws (ap (λ (xs : List EditedRoutine). length xs) e ∙ (length-map v.items f ∙ sym v.ok.0)) ∙ e

-- ---- a hold

pub held-now : (e : Inside) (new : VersionsView) (before : EditsView) → IsTied e → view_of e ≡ before → new.roles ≡ hold e.versions.roles
    → IsHeldNow before (view_of (record e { versions = new }))
held-now e new before t is held = subst (λ (b : EditsView). IsHeldNow b (view_of (record e { versions = new }))) is (record {
  book = ap (λ (r : Roles). book_with e.name e.main e.routines.items e.accepted.items e.owner r) held;
  roles = held;
  numbered = selected-number (view_of e).book e.versions.roles t;
  runs = selected-runs (view_of e).book e.versions.roles t;
})
