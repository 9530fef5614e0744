-- The row of a word: it is this one, or it is further on.
use Rattle.std.proofs.Common.{◌≡◌, ℕ, List, Bool, true, false, if◌then◌else◌, refl, ap, sym, ◌∙◌}
use Rattle.std.specs.Str.{bytes_eq}
use Rattle.std.proofs.lemmas.Slice.Eq.{bytes_eq-Decides}
use Rattle.logix_run.specs.Words.{Command}

pub here : (word key : List ℕ) (command this rest : Command)
    → word ≡ key → command ≡ this → command ≡ (if bytes_eq word key then this else rest)
here word key command this rest is said = said ∙ sym (ap (λ b. if b then this else rest) ((bytes_eq-Decides word key).1 is))

differs : (a b : List ℕ) → (a ≡ b → ⊥) → bytes_eq a b ≡ false
differs a b not = go (bytes_eq a b) refl
  where
    go : (r : Bool) → bytes_eq a b ≡ r → bytes_eq a b ≡ false
    go true is = absurd (not ((bytes_eq-Decides a b).0 is))
    go false is = is

pub past : (word key : List ℕ) (command this rest : Command)
    → (word ≡ key → ⊥) → command ≡ rest → command ≡ (if bytes_eq word key then this else rest)
past word key command this rest not said = said ∙ sym (ap (λ b. if b then this else rest) (differs word key not))
