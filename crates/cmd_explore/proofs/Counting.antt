-- Events of a kind, counted run by run.
use Rattle.std.proofs.Common.{◌≡◌, ℕ, zero, suc, ◌+◌, ◌<◌, List, [], ◌∷◌, length, take, get_or, replicate, count_by, Bool, true, false, cond, refl, sym, ap, ap₂, ◌∙◌, arith}
use Rattle.std.proofs.lemmas.List.Sums.{sum_by-append, sum_by-cons, sum_by_more}
use Rattle.spec_machine.specs.declared.event.Event.{Event}
use Rattle.spec_machine.specs.declared.event.Event.TheVariants.{Cpu}
use Rattle.spec_text.specs.declared.script.EventRun.{EventRun}
use Rattle.spec_text.specs.JournalText.{events_of, joined}
use Rattle.spec_text.proofs.JoinedRuns.{runs_expand}
use Rattle.cmd_explore.specs.Counts.{run_count, runs_count}

-- what stands in a journal after its runs
pub no_run : EventRun
no_run = record { event = Cpu; count = 0 }

-- ---- equal events

first : (p : Event → Bool) (e : Event) (es : List Event) → count_by p (e ∷ es) ≡ cond (p e) 1 0 + count_by p es
first p e es = sum_by-cons (λ x. cond (p x) 1 0) e es

all : (p : Event → Bool) (e : Event) → p e ≡ true → (n : ℕ) → count_by p (replicate n e) ≡ n
all p e is zero = refl
all p e is (suc n) =
    let more : count_by p (replicate (suc n) e) ≡ 1 + count_by p (replicate n e) = first p e (replicate n e) ∙ ap (λ b. cond b 1 0 + count_by p (replicate n e)) is in
    let rest = all p e is n in
    omega arith

none : (p : Event → Bool) (e : Event) → p e ≡ false → (n : ℕ) → count_by p (replicate n e) ≡ 0
none p e is zero = refl
none p e is (suc n) =
    let more : count_by p (replicate (suc n) e) ≡ 0 + count_by p (replicate n e) = first p e (replicate n e) ∙ ap (λ b. cond b 1 0 + count_by p (replicate n e)) is in
    let rest = none p e is n in
    omega arith

in_run : (p : Event → Bool) (r : EventRun) (b : Bool) → p r.event ≡ b → count_by p (replicate r.count r.event) ≡ cond b r.count 0
in_run p r true is = all p r.event is r.count
in_run p r false is = none p r.event is r.count

-- ---- runs

in_runs : (p : Event → Bool) (rs : List EventRun) → count_by p (events_of rs) ≡ runs_count p rs
in_runs p [] = refl
in_runs p (r ∷ rs) =
    let both : count_by p (events_of (r ∷ rs)) ≡ count_by p (replicate r.count r.event) + count_by p (events_of rs) = sum_by-append (λ x. cond (p x) 1 0) (replicate r.count r.event) (events_of rs) in
    let here : count_by p (replicate r.count r.event) ≡ run_count p r = in_run p r (p r.event) refl in
    let rest = in_runs p rs in
    let whole : runs_count p (r ∷ rs) ≡ run_count p r + runs_count p rs = sum_by-cons (run_count p) r rs in
    both ∙ ap₂ (λ (a b : ℕ). a + b) here rest ∙ sym whole

-- the count of a journal is that of its runs
pub runs_tell : (p : Event → Bool) (journal : List Event) → runs_count p (joined journal) ≡ count_by p journal
runs_tell p journal = sym (in_runs p (joined journal)) ∙ ap (count_by p) (runs_expand journal)

-- with one run more
pub one_more_run : (p : Event → Bool) (rs : List EventRun) (i : ℕ) → i < length rs → runs_count p (take (i + 1) rs) ≡ runs_count p (take i rs) + run_count p (get_or rs i no_run)
one_more_run p rs i below = sum_by_more (run_count p) rs i no_run below
