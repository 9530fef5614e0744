-- The programs' rungs are those that were checked, and a book keeps them so.
use Rattle.std.proofs.Common.{◌≡◌, ℕ, ◌+◌, List, [], ◌∷◌, ◌++◌, length, map, Result, Ok, Err, refl, sym, subst, arith}
use Rattle.std.specs.List.{AllByRecursion as Each, enumerate_from}
use Rattle.spec_language.specs.declared.names.TaskName.{TaskName}
use Rattle.spec_language.specs.Declarations.{Declarations}
use Rattle.spec_machine.specs.declared.reply.EditFault.{EditFault}
use Rattle.spec_machine.specs.Commands.{AcceptCommand}
use Rattle.spec_machine.specs.Edits.{Book, Edited, book_of, accept, on_accepted}
use Rattle.lgx_edit.specs.declared.error.EditError.{EditError}
use Rattle.lgx_edit.specs.declared.error.EditError.TheVariants.{Edit, Memory}
use Rattle.lgx_edit.specs.declared.texts.ProgramText.{ProgramText}
use Rattle.lgx_edit.specs.Texts.{program_of}
use Rattle.lgx_edit.specs.EditsView.{EditsView, books, Leaves}
use Rattle.lgx_edit.specs.Accepting.{LeavesAccepted}
use Rattle.lgx_edit.specs.CheckedBooks.{IsBookChecked, AreChecked}
use Rattle.lgx_edit.proofs.CheckedBooks.{KeepsChecked, accept-keeps_checked}
use Rattle.test_edits.specs.Programs.{IsProgram, ArePrograms}

-- ---- commands

module _ (tags : Declarations) (tasks : List TaskName) (old new : List EditsView) (before : AreChecked tags tasks (books old)) where
  same-checked : new ≡ old → AreChecked tags tasks (books new)
  same-checked same = subst (λ (all : List EditsView). AreChecked tags tasks (books all)) (sym same) before

  -- a command on what is accepted, refused or not
  pub left-checked : (change : Book → Result Book EditFault) (lane : ℕ) (name : List ℕ) (answer : Result (Unit {0}) EditFault) → KeepsChecked change
      → Leaves (on_accepted change (books old) lane name) old new answer → AreChecked tags tasks (books new)
  left-checked change lane name answer keeps left = go (on_accepted change (books old) lane name) refl left
    where
      go : (r : Result Edited EditFault) → on_accepted change (books old) lane name ≡ r → Leaves r old new answer → AreChecked tags tasks (books new)
      go (Ok e) is l = subst (λ (bs : List Book). AreChecked tags tasks bs) (sym l.1) (keeps tags tasks lane name (books old) e is before)
      go (Err f) is l = same-checked l.1

  -- an accept, refused, out of memory or not
  pub accepted-checked : (lane : ℕ) (command : AcceptCommand) (answer : Result ℕ EditError)
      → LeavesAccepted (accept tags tasks (books old) lane command) old new answer → AreChecked tags tasks (books new)
  accepted-checked lane command (Ok n) l = accept-keeps_checked tags tasks lane command (books old) _ l.0 before
  accepted-checked lane command (Err (Edit f)) l = same-checked l.1
  accepted-checked lane command (Err Memory) l = same-checked l

-- ---- the programs at first

-- one more
more-numbered : {A : Type 0} (P : ℕ → A → Type 0) (k n : ℕ) (xs : List A) (x : A) → n ≡ k + length xs → Each (λ e. P e.0 e.1) (enumerate_from k xs) → P n x
    → Each (λ e. P e.0 e.1) (enumerate_from k (xs ++ x ∷ []))
more-numbered P k n [] x is h p = let here : n ≡ k = omega arith in (subst (λ m. P m x) here p, tt)
more-numbered P k n (y ∷ ys) x is h p = (h.0, more-numbered P (k + 1) n ys x (omega arith) h.1 p)

-- each seen as another
numbered-map : {A B : Type 0} (P : ℕ → B → Type 0) (f : A → B) (k : ℕ) (xs : List A) → Each (λ e. P e.0 (f e.1)) (enumerate_from k xs)
    → Each (λ e. P e.0 e.1) (enumerate_from k (map f xs))
numbered-map P f k [] h = tt
numbered-map P f k (x ∷ xs) h = (h.0, numbered-map P f (k + 1) xs h.1)

pub one-more : (tags : Declarations) (n : ℕ) (programs : List ProgramText) (p : ProgramText) → n ≡ length programs → ArePrograms tags programs → IsProgram tags n p → ArePrograms tags (programs ++ p ∷ [])
one-more tags n programs p is h new = more-numbered (IsProgram tags) 0 n programs p (omega arith) h new

pub made-checked : (tags : Declarations) (programs : List ProgramText) (bs : List Book) → bs ≡ map (λ p. book_of (program_of p)) programs → ArePrograms tags programs → AreChecked tags [] bs
made-checked tags programs bs made h =
    subst (λ (all : List Book). AreChecked tags [] all) (sym made)
    (numbered-map (IsBookChecked tags []) (λ p. book_of (program_of p)) 0 programs h)
