-- Edits are read one by one.
use Rattle.std.proofs.Common.{◌≡◌, ℕ, ◌+◌, ◌<◌, ◌≤◌, List, [], ◌∷◌, ◌++◌, length, get_or, drop, Result, Ok, Err, refl, ap, sym, ◌∙◌, append_assoc}
use Rattle.std.proofs.lemmas.List.{append-nil, drop_more, drop_all}
use Rattle.spec_base.specs.FirstCause.{◌>>=◌}
use Rattle.spec_machine.specs.declared.event.RungEdit.{RungEdit}
use Rattle.spec_machine.specs.declared.reply.EditFault.{EditFault}
use Rattle.spec_machine.specs.Edits.{Change, change_of, changes_of}
use Rattle.lgx_edit.specs.declared.error.EditError.{EditError}
use Rattle.lgx_edit.specs.declared.error.EditError.TheVariants.{Edit, Memory}
use Rattle.lgx_edit.specs.Texts.{change_of as seen_change}
use Rattle.lgx_edit.specs.Answering.{AnswersAs}

-- these changes, and then those of the other edits
abbrev pub with_rest : List Change → Result (List Change) EditFault → Result (List Change) EditFault
with_rest done rest = rest >>= λ cs. Ok (done ++ cs)

module _ (k : ℕ) (es : List RungEdit) (e : RungEdit) (done : List Change) (h : k < length es) (is : e ≡ get_or es k e) where
  first_is : changes_of k (drop k es) ≡ changes_of k (e ∷ drop (k + 1) es)
  first_is = ap (changes_of k) (drop_more es k e h ∙ ap (λ (x : RungEdit). x ∷ drop (k + 1) es) (sym is))

  pub one_read : (c : Change) → change_of k e ≡ Ok c → with_rest done (changes_of k (drop k es)) ≡ with_rest (done ++ c ∷ []) (changes_of (k + 1) (drop (k + 1) es))
  one_read c read =
      ap (with_rest done) (first_is ∙ ap (λ (r : Result Change EditFault). r >>= λ x. changes_of (k + 1) (drop (k + 1) es) >>= λ cs. Ok (x ∷ cs)) read)
      ∙ by_rest (changes_of (k + 1) (drop (k + 1) es))
    where
      by_rest : (rest : Result (List Change) EditFault) → with_rest done (rest >>= λ cs. Ok (c ∷ cs)) ≡ with_rest (done ++ c ∷ []) rest
      by_rest (Ok cs) = ap (λ (xs : List Change). let r : Result (List Change) EditFault = Ok xs in r) (sym (append_assoc done (c ∷ []) cs))
      by_rest (Err f) = refl

  one_refused : (f : EditFault) → change_of k e ≡ Err f → with_rest done (changes_of k (drop k es)) ≡ Err f
  one_refused f refused = ap (with_rest done) (first_is ∙ ap (λ (r : Result Change EditFault). r >>= λ x. changes_of (k + 1) (drop (k + 1) es) >>= λ cs. Ok (x ∷ cs)) refused)

  -- an edit that isn't read ends the reading
  pub reading_ends : {A : Type 0} (seen : A → List Change) (answer : EditError) (meant : Result (List Change) EditFault)
      → meant ≡ with_rest done (changes_of k (drop k es)) → AnswersAs seen_change (change_of k e) (Err answer) → AnswersAs seen meant (Err answer)
  reading_ends seen (Edit f) meant m a = m ∙ one_refused f a
  reading_ends seen Memory meant m a = tt

pub all_read : (k : ℕ) (es : List RungEdit) (done : List Change) → length es ≤ k → with_rest done (changes_of k (drop k es)) ≡ Ok done
all_read k es done h =
    ap (λ (xs : List RungEdit). with_rest done (changes_of k xs)) (drop_all k es h)
    ∙ ap (λ (xs : List Change). let r : Result (List Change) EditFault = Ok xs in r) (append-nil done)
