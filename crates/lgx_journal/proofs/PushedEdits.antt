-- Edits that are written one after another.
use Rattle.std.proofs.Common.{◌≡◌, ℕ, ◌+◌, ◌<◌, List, [], ◌∷◌, ◌++◌, length, drop, take, get_or, true, append_assoc, refl, ap, sym, ◌∙◌}
use Rattle.std.specs.List.{flat_map, list_all}
use Rattle.std.proofs.lemmas.Bool.{and_from}
use Rattle.std.proofs.lemmas.List.{at_drop_more, take_more}
use Rattle.std.proofs.lemmas.List.Folds.{list_all-append}
use Rattle.spec_machine.specs.declared.event.RungEdit.{RungEdit}
use Rattle.lgx_journal.specs.Written.{is_kept_edit}

-- one edit more is written
pub part_written : (f : RungEdit → List ℕ) (old now : List ℕ) (edits : List RungEdit) (i : ℕ) (e : RungEdit) → i < length edits → e ≡ get_or edits i e → now ≡ old ++ f e → now ++ flat_map f (drop (i + 1) edits) ≡ old ++ flat_map f (drop i edits)
part_written f old now edits i e lt is made =
    ap (λ text. text ++ flat_map f (drop (i + 1) edits)) made
    ∙ append_assoc old (f e) (flat_map f (drop (i + 1) edits))
    ∙ ap (λ rest. old ++ rest) (ap (λ d. f d ++ flat_map f (drop (i + 1) edits)) is ∙ sym (at_drop_more (λ ys. flat_map f ys) edits i e lt))

pub parts_kept : (edits : List RungEdit) (i : ℕ) (e : RungEdit) → i < length edits → e ≡ get_or edits i e → list_all is_kept_edit (take i edits) ≡ true → is_kept_edit e ≡ true → list_all is_kept_edit (take (i + 1) edits) ≡ true
parts_kept edits i e lt is before one =
    ap (list_all is_kept_edit) (take_more edits i e lt)
    ∙ list_all-append is_kept_edit (take i edits) (get_or edits i e ∷ [])
    ∙ and_from _ _ before (and_from _ _ (ap is_kept_edit (sym is) ∙ one) refl)
