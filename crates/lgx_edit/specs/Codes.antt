-- How edits are told apart: each record is stored as its fields.
use Rattle.std.specs.Prelude.{◌≡◌, ℕ, Bool, List, Option, refl, ◌⊎◌}
use Rattle.std.proofs.Common.{inl, inr}
use Rattle.std.specs.Coded.{Coded, code_by, coded×, coded⊎, coded_ℕ, coded_bool, coded_list, coded_option}
use Rattle.lgx_rung.specs.declared.ins.Ins.{Ins}
use Rattle.lgx_rung.specs.Tree.{Tree, Source, SourceIns}
use Rattle.lgx_rung.specs.Coding.{coded_tree}
use Rattle.spec_machine.specs.Project.{RoutineText}
use Rattle.spec_machine.specs.Edits.{Change, Replaced, Inserted, Deleted, AcceptedEdit, Book}
use Rattle.lgx_versions.specs.View.{VersionsView}
use Rattle.lgx_edit.specs.EditsView.{EditsView}
use Rattle.lgx_edit.specs.Merging.{AroundView}

abbrev pub routine_code : Coded SourceIns → Coded Ins → Coded RoutineText
routine_code c d =
    code_by (List ℕ × (List Source × List (Tree Ins)))
    (coded× (coded_list coded_ℕ) (coded× (coded_list (coded_tree c)) (coded_list (coded_tree d))))
    (λ r. (r.name, (r.source, r.checked)))
    (λ p. record { name = p.0; source = p.1.0; checked = p.1.1 })
    (λ _. refl)

-- a change as one of three: a number with a rung twice, and a number
abbrev pub Stored : Type 0
Stored = (ℕ × Source) ⊎ ((ℕ × Source) ⊎ ℕ)

abbrev pub stored : Change → Stored
stored (Replaced i new) = inl (i, new)
stored (Inserted i new) = inr (inl (i, new))
stored (Deleted i) = inr (inr i)

abbrev pub restored : Stored → Change
restored (inl p) = Replaced p.0 p.1
restored (inr (inl p)) = Inserted p.0 p.1
restored (inr (inr i)) = Deleted i

abbrev pub restored-stored : (c : Change) → restored (stored c) ≡ c
restored-stored (Replaced i new) = refl
restored-stored (Inserted i new) = refl
restored-stored (Deleted i) = refl

abbrev pub change_code : Coded SourceIns → Coded Change
change_code c =
    code_by Stored
    (coded⊎ (coded× coded_ℕ (coded_tree c)) (coded⊎ (coded× coded_ℕ (coded_tree c)) coded_ℕ))
    stored restored restored-stored

abbrev pub accepted_code : Coded SourceIns → Coded AcceptedEdit
accepted_code c =
    code_by (ℕ × Change) (coded× coded_ℕ (change_code c))
    (λ e. (e.routine, e.change)) (λ p. record { routine = p.0; change = p.1 }) (λ _. refl)

-- a book as its texts, and the rest
abbrev pub BookTexts : Type 0
BookTexts = List RoutineText × (List RoutineText × List AcceptedEdit)

abbrev pub BookRest : Type 0
BookRest = (List ℕ × ℕ) × ((ℕ × ℕ) × (Option ℕ × Bool))

abbrev pub texts_code : Coded SourceIns → Coded Ins → Coded BookTexts
texts_code c d =
    coded× (coded_list (routine_code c d)) (coded× (coded_list (routine_code c d)) (coded_list (accepted_code c)))

abbrev pub rest_code : Coded BookRest
rest_code =
    coded× (coded× (coded_list coded_ℕ) coded_ℕ) (coded× (coded× coded_ℕ coded_ℕ) (coded× (coded_option coded_ℕ) coded_bool))

abbrev pub book_code : Coded SourceIns → Coded Ins → Coded Book
book_code c d =
    code_by (BookTexts × BookRest) (coded× (texts_code c d) rest_code)
    (λ b. ((b.base, (b.merged, b.accepted)), ((b.name, b.main), ((b.number, b.newest), (b.owner, b.testing)))))
    (λ p. record {
      name = p.1.0.0;
      main = p.1.0.1;
      base = p.0.0;
      merged = p.0.1.0;
      accepted = p.0.1.1;
      number = p.1.1.0.0;
      newest = p.1.1.0.1;
      owner = p.1.1.1.0;
      testing = p.1.1.1.1;
    })
    (λ _. refl)

abbrev pub view_code : Coded SourceIns → Coded Ins → Coded VersionsView → Coded EditsView
view_code c d versions =
    code_by (Book × VersionsView) (coded× (book_code c d) versions)
    (λ e. (e.book, e.versions)) (λ p. record { book = p.0; versions = p.1 }) (λ _. refl)

abbrev pub around_code : Coded SourceIns → Coded AroundView
around_code c =
    code_by (List Source × Option (List Source))
    (coded× (coded_list (coded_tree c)) (coded_option (coded_list (coded_tree c))))
    (λ a. (a.before, a.instead)) (λ p. record { before = p.0; instead = p.1 }) (λ _. refl)
