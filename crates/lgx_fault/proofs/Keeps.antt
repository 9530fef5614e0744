-- To keep the last faults at each note is to keep the last of all.
use Rattle.std.proofs.Common.{◌≡◌, ℕ, ◌+◌, ◌-◌, List, [], ◌∷◌, ◌++◌, length, drop, sym, ◌∙◌, ap, arith, append_assoc, length-append, length-drop}
use Rattle.std.proofs.lemmas.List.{drop-append-le, drop-drop, append-nil}
use Rattle.spec_base.specs.declared.limits.TheConstants.{FAULT_LOG_LENGTH}
use Rattle.spec_tables.specs.declared.fault.Fault.{Fault}
use Rattle.lgx_fault.specs.Kept.{last_faults, after_notes, HoldsTheLast}

-- one fault more
pub last_faults-note : (all : List Fault) (f : Fault) → last_faults (last_faults all ++ f ∷ []) ≡ last_faults (all ++ f ∷ [])
last_faults-note all f =
    let k = length all - FAULT_LOG_LENGTH in
    let whole = all ++ f ∷ [] in
    let e : last_faults all ++ f ∷ [] ≡ drop k whole = sym (drop-append-le k all (f ∷ []) (omega arith)) in
    let n : length whole ≡ length all + 1 = length-append all (f ∷ []) in
    ap last_faults e ∙ ap (λ m. drop m (drop k whole)) (ap (λ m. m - FAULT_LOG_LENGTH) (length-drop k whole ∙ ap (λ m. m - k) n))
    ∙ drop-drop (length all + 1 - k - FAULT_LOG_LENGTH) k whole
    ∙ ap (λ m. drop m whole) (total (length all))
    ∙ ap (λ m. drop (m - FAULT_LOG_LENGTH) whole) (sym n)
  where
    total : (m : ℕ) → (m - FAULT_LOG_LENGTH) + (m + 1 - (m - FAULT_LOG_LENGTH) - FAULT_LOG_LENGTH) ≡ m + 1 - FAULT_LOG_LENGTH
    total m = omega arith

-- a log that holds the last of some faults holds, after further ones, the last of all
after-all : (all more : List Fault) → after_notes (last_faults all) more ≡ last_faults (all ++ more)
after-all all [] = ap last_faults (sym (append-nil all))
after-all all (f ∷ fs) = ap (λ held. after_notes held fs) (last_faults-note all f) ∙ after-all (all ++ f ∷ []) fs ∙ ap last_faults (append_assoc all (f ∷ []) fs)

pub holds_the_last : HoldsTheLast
holds_the_last all = after-all [] all
