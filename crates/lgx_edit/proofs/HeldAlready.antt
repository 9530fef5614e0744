-- The selected version is held already.
use Rattle.std.proofs.Common.{◌≡◌, ◌≢◌, ℕ, ◌<◌, List, length, get_or, Option, Some, None, sym, ap, ◌∙◌, subst}
use Rattle.std.specs.Prelude.{IfSome, IfNone}
use Rattle.std.proofs.lemmas.List.{get_or-map}
use Rattle.spec_machine.specs.Edits.{Book, book_at, selected_number}
use Rattle.lgx_versions.specs.declared.slots.Version.{Version}
use Rattle.lgx_versions.specs.Roles.{selected}
use Rattle.lgx_versions.specs.View.{number_of}
use Rattle.lgx_edit.specs.declared.edits.ProgramEdits.TheInside.{Inside}
use Rattle.lgx_edit.specs.EditsView.{EditsView, RunsSelected, books, held_at}
use Rattle.lgx_edit.specs.HeldAgain.{IsHeldAgain, HoldsAgain}
use Rattle.lgx_edit.specs.Seen.{view_of, IsTied}
use Rattle.lgx_edit.proofs.Tied.{selected-runs, selected-number}
use Rattle.lgx_edit.proofs.OfAll.{book-there}

pub if_some-both : {A : Type 0} (o : Option A) {P Q R : A → Type 0} → IfSome o P → IfSome o Q → ((x : A) → P x → Q x → R x) → IfSome o R
if_some-both None p q f = tt
if_some-both (Some x) p q f = f x p q

pub if_none-then : {A : Type 0} (o : Option A) {P Q : Type 0} → IfNone o P → (P → Q) → IfNone o Q
if_none-then None p f = f p
if_none-then (Some x) p f = tt

-- ---- of one program

pub held-again : (e : Inside) (before : EditsView) (n : ℕ) → IsTied e → view_of e ≡ before → e.versions.roles.held ≡ Some (selected e.versions.roles) → n ≡ (selected e.versions.roles).number
    → IsHeldAgain n before
held-again e before n t is held number = subst (λ (b : EditsView). IsHeldAgain n b) is (record {
  held = held;
  numbered = sym number;
  selects = number ∙ selected-number (view_of e).book e.versions.roles t;
  runs = selected-runs (view_of e).book e.versions.roles t;
})

pub held-other : (e : Inside) (before : EditsView) → IsTied e → view_of e ≡ before → number_of e.versions.roles.held ≢ Some (selected e.versions.roles).number
    → number_of before.versions.roles.held ≢ Some (selected_number before.book)
held-other e before t is apart = subst (λ (b : EditsView). number_of b.versions.roles.held ≢ Some (selected_number b.book)) is
    (λ same. apart (same ∙ ap (λ (k : ℕ). Some k) (sym (selected-number (view_of e).book e.versions.roles t))))

-- ---- among all

module _ (all now : List EditsView) (n : ℕ) (old : EditsView) (is : all ≡ now) (within : n < length now) (there : old ≡ get_or all n old) where
  held-there : held_at now n ≡ old.versions.roles.held
  held-there =
      ap (λ (w : List EditsView). held_at w n) (sym is)
      ∙ (get_or-map (λ (e : EditsView). e.versions.roles.held) all n old None (subst (λ (w : List EditsView). n < length w) (sym is) within)
      ∙ ap (λ (e : EditsView). e.versions.roles.held) (sym there))

  pub holds-again : (number : ℕ) → IsHeldAgain number old → HoldsAgain n number now
  holds-again number h = let same = sym (book-there all now n old is within there) in record {
    version = selected old.versions.roles;
    held = held-there ∙ h.held;
    numbered = h.numbered;
    selects = h.selects ∙ ap selected_number same;
    runs = subst (λ (b : Book). RunsSelected (selected old.versions.roles).program b) same h.runs;
  }

  pub holds-other : number_of old.versions.roles.held ≢ Some (selected_number old.book) → number_of (held_at now n) ≢ Some (selected_number (book_at (books now) n))
  holds-other apart e =
      apart (ap (λ (o : Option Version). number_of o) (sym held-there) ∙ (e ∙ ap (λ (b : Book). Some (selected_number b)) (book-there all now n old is within there)))
