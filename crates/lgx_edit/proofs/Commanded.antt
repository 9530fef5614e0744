-- What a command that isn't refused leaves.
use Rattle.std.proofs.Common.{◌≡◌, ℕ, Bool, true, false, if◌then◌else◌, Result, Ok, Err, refl, sym, ap, ◌∙◌, subst}
use Rattle.spec_base.specs.FirstCause.{◌>>=◌, unless}
use Rattle.spec_machine.specs.declared.reply.EditFault.{EditFault}
use Rattle.spec_machine.specs.declared.reply.EditFault.TheVariants.{E3, E10, E11, E12}
use Rattle.spec_machine.specs.Edits.{Book, none_or, other_owner, has_accepted, test, untest}
use Rattle.lgx_edit.specs.EditsView.{EditsView, may_edit, on_book, AnswersBook}

edits_on : (change : Book → Result Book EditFault) (lane : ℕ) (b : Book) → Ok (tt {0}) ≡ may_edit lane b → on_book change lane b ≡ change b
edits_on change lane b h = by_cause (none_or (other_owner b lane) E3) (unless (has_accepted b) E10) h
  where
    by_cause : (p q : Result Bool EditFault) → Ok (tt {0}) ≡ (p >>= λ _. q >>= λ _. Ok (tt {0})) → (p >>= λ _. q >>= λ _. change b) ≡ change b
    by_cause (Ok x) (Ok y) e = refl
    by_cause (Ok x) (Err f) e = cc
    by_cause (Err f) q e = cc

-- edits are accepted where they may be edited
pub accepted_there : (lane : ℕ) (b : Book) → Ok (tt {0}) ≡ may_edit lane b → has_accepted b ≡ true
accepted_there lane b h = by_cause (none_or (other_owner b lane) E3) (has_accepted b) h
  where
    by_cause : (p : Result Bool EditFault) (x : Bool) → Ok (tt {0}) ≡ (p >>= λ _. unless x E10 >>= λ _. Ok (tt {0})) → x ≡ true
    by_cause (Ok y) true e = refl
    by_cause (Ok y) false e = cc
    by_cause (Err f) x e = cc

pub commanded : (change : Book → Result Book EditFault) (lane : ℕ) (now old new : EditsView) (book : Book) → now ≡ old
    → Ok (tt {0}) ≡ may_edit lane old.book → change now.book ≡ Ok book → new.book ≡ book
    → new.versions.roles.held ≡ now.versions.roles.held → AnswersBook (on_book change lane old.book) old new (Ok (tt {0}))
commanded change lane now old new book is may changed same held =
    subst (λ (r : Result Book EditFault). AnswersBook r old new (Ok (tt {0}))) (sym (edits_on change lane old.book may ∙ (ap (λ (e : EditsView). change e.book) (sym is) ∙ changed)))
    (refl, same, held ∙ ap (λ (e : EditsView). e.versions.roles.held) is)

pub test-ok : (b : Book) → b.testing ≡ false → test b ≡ Ok (record b { testing = true })
test-ok b e = ap (λ (x : Bool). if x then Err E11 else Ok (record b { testing = true })) e

pub untest-ok : (b : Book) → b.testing ≡ true → untest b ≡ Ok (record b { testing = false })
untest-ok b e = ap (λ (x : Bool). if x then Ok (record b { testing = false }) else Err E12) e
