-- What writes in turn do to known bytes.
use Rattle.std.proofs.Common.{◌≡◌, ℕ, List, ◌++◌, ◌-◌, length, take, drop, sym, ap, ◌∙◌, subst, append_assoc, take-append-drop}
use Rattle.std.proofs.Math.Seq.{take-append_seam}
use Rattle.std.proofs.lemmas.List.{take_rest}
use Rattle.std.proofs.KnownBytes.{Appends-trans, Appends-kept}
use Rattle.std.specs.declared.option.Option.{Option}
use Rattle.std.specs.Io.KnownBytes.{Appends, Keeps}
use Rattle.lgx_io.specs.Sink.{AppendsPart}

-- `done` is written, and `rest` is what is left of all
abbrev pub IsWritten : Option (List ℕ) → Option (List ℕ) → List ℕ → List ℕ → Type 0
IsWritten old new all rest = (done : List ℕ) × (all ≡ done ++ rest) × Appends old new done

-- a write took n bytes of the rest
pub IsWritten-more : (a b c : Option (List ℕ)) (all rest : List ℕ) (n : ℕ) → IsWritten a b all rest → Appends b c (take n rest)
    → IsWritten a c all (take (length rest - n) (drop n rest))
IsWritten-more a b c all rest n (done, split, held) more =
    (done ++ take n rest, split ∙ ap (λ l. done ++ l) (sym (take-append-drop n rest)) ∙ sym (append_assoc done (take n rest) (drop n rest)) ∙ ap (λ l. (done ++ take n rest) ++ l) (sym (take_rest rest n)), Appends-trans a b c done (take n rest) held more)

-- if a write failed, nothing is added
pub IsWritten-kept : (a b c : Option (List ℕ)) (all rest : List ℕ) → IsWritten a b all rest → Keeps b c → IsWritten a c all rest
IsWritten-kept a b c all rest (done, split, held) kept = (done, split, Appends-kept a b c done held kept)

-- what is written is a first part of all
pub AppendsPart-of_written : (a b : Option (List ℕ)) (all rest : List ℕ) → IsWritten a b all rest → AppendsPart a b all
AppendsPart-of_written a b all rest (done, split, held) =
    let front : take (length done) all ≡ done = ap (take (length done)) split ∙ take-append_seam done rest in
    (length done, subst (Appends a b) (sym front) held)
