-- What differs is computed.
use Rattle.std.proofs.Common.{◌≡◌, ℕ, zero, suc, ◌≤◌, ℤ, Bool, true, false, List, [], ◌∷◌, take, ap, refl, arith}
use Rattle.std.specs.Prelude.{pos}
use Rattle.spec_link.specs.Links.{words_out, words_answered}
use Rattle.test_cases.specs.ChangeCases.{joined}
use Rattle.test_cases.proofs.change_cases.packets_are_broken.Goals as goal

-- whether the first word is 0
abbrev is_zero_first : List ℤ → Bool
is_zero_first (pos zero ∷ xs) = true
is_zero_first _ = false

-- before the first event the output's words are 0
never_there : (i : ℕ) → i ≤ 0 → (pos 7 ∷ pos 9 ∷ []) ≡ words_answered joined.a (take i []) (words_out joined) → ⊥
never_there zero few is = cc (ap is_zero_first is)
never_there (suc i) few is = absurd (omega arith)

pub returns-clause-torn : goal.returns-clause-torn
returns-clause-torn c = λ h. cc h

pub returns-clause-made_up : goal.returns-clause-made_up
returns-clause-made_up c = λ h. (let found = h 0 (pos 7 ∷ pos 9 ∷ []) refl in never_there found.0 found.1 found.2)

pub returns-clause-older : goal.returns-clause-older
returns-clause-older c = λ (h : 1 ≤ 0). absurd (omega arith)
