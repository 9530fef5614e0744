-- An event of a list in two parts, and what is clear.
use Rattle.std.proofs.Common.{◌≡◌, false, List, [], ◌∷◌, ◌++◌, refl, sym, ◌∙◌, ap}
use Rattle.spec_machine.specs.declared.event.Event.{Event}
use Rattle.spec_machine.specs.Machine.{step, run_from, run}
use Rattle.spec_machine.specs.Project.{Project}
use Rattle.spec_machine.specs.State.{State, start}
use Rattle.spec_lanes.proofs.Appended.{run_over}
use Rattle.spec_explore.specs.declared.question.Question.{Question}
use Rattle.spec_explore.specs.Questions.{holds_some}
use Rattle.spec_explore.specs.Layers.{AreClear}

-- an event stands in the first part, or in the second
pub data Stands (before : List Event) (e : Event) (after es ds : List Event) : Type 0 where
  InFirst : (rest : List Event) → es ≡ before ++ e ∷ rest → Stands before e after es ds
  InSecond : (made : List Event) → before ≡ es ++ made → ds ≡ made ++ e ∷ after → Stands before e after es ds

first_is : (x y : Event) (xs ys : List Event) → x ∷ xs ≡ y ∷ ys → (x ≡ y) × (xs ≡ ys)
first_is x y xs ys h = (cc h, cc h)

one_more : (x y : Event) (before : List Event) (e : Event) (after es ds : List Event) → y ≡ x → Stands before e after es ds → Stands (x ∷ before) e after (y ∷ es) ds
one_more x y before e after es ds same (InFirst rest h) = InFirst rest (ap (λ z. z ∷ es) same ∙ ap (λ (xs : List Event). x ∷ xs) h)
one_more x y before e after es ds same (InSecond made b d) = InSecond made (ap (λ (xs : List Event). x ∷ xs) b ∙ ap (λ z. z ∷ es ++ made) (sym same)) d

pub stands_in : (before : List Event) (e : Event) (after es ds : List Event) → es ++ ds ≡ before ++ e ∷ after → Stands before e after es ds
stands_in before e after [] ds h = InSecond before refl h
stands_in [] e after (x ∷ es) ds h = let same = first_is x e (es ++ ds) after h in InFirst es (ap (λ z. z ∷ es) same.0)
stands_in (b ∷ before) e after (x ∷ es) ds h =
    let same = first_is x b (es ++ ds) (before ++ e ∷ after) h in
    one_more b x before e after es ds same.0 (stands_in before e after es ds same.1)

-- each of events that are clear
clear_from : (p : Project) (q : Question) (s : State) (made : List Event) (e : Event) (after : List Event) → AreClear p q s (made ++ e ∷ after) → holds_some p q (step (run_from s made) e) ≡ false
clear_from p q s [] e after h = h.0
clear_from p q s (x ∷ made) e after h = clear_from p q (step s x).state made e after h.1

pub clear_at : (p : Project) (q : Question) (es made : List Event) (e : Event) (after : List Event) → AreClear p q (run p es) (made ++ e ∷ after) → holds_some p q (step (run p (es ++ made)) e) ≡ false
clear_at p q es made e after h = ap (λ (s : State). holds_some p q (step s e)) (run_over (start p) es made) ∙ clear_from p q (run p es) made e after h
