-- The runs of a journal expand to its events.
use Rattle.std.proofs.Common.{◌≡◌, ℕ, ◌+◌, List, [], ◌∷◌, ◌++◌, Bool, true, false, cond, replicate, refl, sym, ap, ◌∙◌, add-one, true≢false}
use Rattle.spec_machine.specs.declared.event.Event.{Event}
use Rattle.spec_machine.specs.declared.event.Event.TheVariants.{Cpu, Tick, Act}
use Rattle.spec_text.specs.declared.script.EventRun.{EventRun}
use Rattle.spec_text.specs.JournalText.{events_of, runs_on, before_runs, joined}

pub same_event : (e f : Event) → runs_on e f ≡ true → f ≡ e
same_event Cpu Cpu h = refl
same_event Tick Tick h = refl
same_event Cpu Tick h = absurd (true≢false (sym h))
same_event Cpu (Act l a) h = absurd (true≢false (sym h))
same_event Tick Cpu h = absurd (true≢false (sym h))
same_event Tick (Act l a) h = absurd (true≢false (sym h))
same_event (Act l a) f h = absurd (true≢false (sym h))

once_more : (n : ℕ) (e : Event) → replicate (n + 1) e ≡ e ∷ replicate n e
once_more n e = ap (λ k. replicate k e) (add-one n)

more : (e : Event) (r : EventRun) (rs : List EventRun) (b : Bool) → (b ≡ true → r.event ≡ e) → events_of (cond b (record r { count = r.count + 1 } ∷ rs) (record { event = e; count = 1 } ∷ r ∷ rs)) ≡ e ∷ events_of (r ∷ rs)
more e r rs true h =
    ap (λ xs. xs ++ events_of rs) (once_more r.count r.event) ∙ ap (λ x. x ∷ events_of (r ∷ rs)) (h refl)
more e r rs false h = refl

before : (e : Event) (rs : List EventRun) → events_of (before_runs e rs) ≡ e ∷ events_of rs
before e [] = refl
before e (r ∷ rs) = more e r rs (runs_on e r.event) (same_event e r.event)

pub runs_expand : (journal : List Event) → events_of (joined journal) ≡ journal
runs_expand [] = refl
runs_expand (e ∷ es) = before e (joined es) ∙ ap (λ xs. e ∷ xs) (runs_expand es)
