-- A step with its tick, or without one.
use Rattle.std.proofs.Common.{◌≡◌, ℕ, ◌%◌, cond, List, [], ◌∷◌, ◌++◌, sym, ◌∙◌, ap, append_assoc}
use Rattle.std.proofs.lemmas.Bool.{eq-eqb, ne_eqb}
use Rattle.spec_machine.specs.declared.event.Event.{Event}
use Rattle.spec_machine.specs.declared.event.Event.TheVariants.{Cpu, Tick}
use Rattle.spec_lanes.specs.Turns.{paced_step}

pub with_tick : (events : List Event) (pace n m : ℕ) → n ≡ m → n % pace ≡ 0 → (events ++ Cpu ∷ []) ++ Tick ∷ [] ≡ events ++ paced_step pace m
with_tick events pace n m same due =
    append_assoc events (Cpu ∷ []) (Tick ∷ [])
    ∙ ap (λ (es : List Event). events ++ es) (sym (ap (λ b. cond b (Cpu ∷ Tick ∷ []) (Cpu ∷ [])) (eq-eqb (m % pace) 0 (ap (λ k. k % pace) (sym same) ∙ due))))

pub without_tick : (events : List Event) (pace n m : ℕ) → n ≡ m → (n % pace ≡ 0 → ⊥) → events ++ Cpu ∷ [] ≡ events ++ paced_step pace m
without_tick events pace n m same none =
    ap (λ (es : List Event). events ++ es) (sym (ap (λ b. cond b (Cpu ∷ Tick ∷ []) (Cpu ∷ [])) (ne_eqb (m % pace) 0 (λ e. none (ap (λ k. k % pace) same ∙ e)))))
