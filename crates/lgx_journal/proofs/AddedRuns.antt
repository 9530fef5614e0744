-- A run put after the runs of a journal.
use Rattle.std.proofs.Common.{◌≡◌, ℕ, zero, suc, ◌+◌, ◌≤◌, List, [], ◌∷◌, ◌++◌, length, length-append, Bool, true, false, cond, nat_le, nat_eq, replicate, refl, sym, ap, subst, ◌∙◌, add-one, arith, true≢false}
use Rattle.std.proofs.lemmas.Bool.{and_parts, eqb-true}
use Rattle.std.proofs.lemmas.List.{length-replicate}
use Rattle.spec_machine.specs.declared.event.Event.{Event}
use Rattle.spec_machine.specs.declared.event.Event.TheVariants.{Cpu, Tick, Act}
use Rattle.spec_text.specs.declared.script.EventRun.{EventRun}
use Rattle.spec_text.specs.JournalText.{events_of, runs_on, before_runs, joined}
use Rattle.spec_text.proofs.JoinedRuns.{same_event, runs_expand}
use Rattle.lgx_journal.specs.Journals.{is_run, after_runs, last_count}

-- ---- equal events are one run

joined_same : (e : Event) → runs_on e e ≡ true → (n : ℕ) → joined (replicate (suc n) e) ≡ record { event = e; count = suc n } ∷ []
joined_same e h zero = refl
joined_same e h (suc n) =
    ap (before_runs e) (joined_same e h n) ∙ rw h (ap (λ (k : ℕ). record { event = e; count = k } ∷ []) (add-one (suc n)))

joined_once : (e : Event) (n : ℕ) → n ≡ 1 → joined (replicate n e) ≡ record { event = e; count = n } ∷ []
joined_once e n h = subst (λ (k : ℕ). joined (replicate k e) ≡ record { event = e; count = k } ∷ []) (sym h) refl

joined_one : (e : Event) (n : ℕ) → is_run (record { event = e; count = n }) ≡ true → joined (replicate n e) ≡ record { event = e; count = n } ∷ []
joined_one e zero h = absurd (true≢false (sym h))
joined_one Cpu (suc n) h = joined_same Cpu refl n
joined_one Tick (suc n) h = joined_same Tick refl n
joined_one (Act l a) (suc n) h = joined_once (Act l a) (suc n) (eqb-true (suc n) 1 (and_parts (nat_le 1 (suc n)) (nat_eq (suc n) 1) h).1)

-- ---- an event before runs, and a run after them

before_none : (x : Event) (r : EventRun) (b : Bool) → runs_on x r.event ≡ b → before_runs x (r ∷ []) ≡ after_runs (before_runs x []) r
before_none x r true h =
    simp h (ap (λ (e : Event). record { event = e; count = r.count + 1 } ∷ []) (same_event x r.event h) ∙ ap (λ (n : ℕ). record { event = x; count = n } ∷ []) (omega arith))
before_none x r false h = simp h

before_one : (x : Event) (q r : EventRun) (b c : Bool) → runs_on x q.event ≡ b → runs_on q.event r.event ≡ c → before_runs x (after_runs (q ∷ []) r) ≡ after_runs (before_runs x (q ∷ [])) r
before_one x q r true true h k = simp (h, k) (ap (λ (n : ℕ). record q { count = n } ∷ []) (omega arith))
before_one x q r true false h k = simp (h, k)
before_one x q r false true h k = simp (h, k)
before_one x q r false false h k = simp (h, k)

before_two : (x : Event) (q p r : EventRun) (qs : List EventRun) (b : Bool) → runs_on x q.event ≡ b → before_runs x (after_runs (q ∷ p ∷ qs) r) ≡ after_runs (before_runs x (q ∷ p ∷ qs)) r
before_two x q p r qs true h = simp h
before_two x q p r qs false h = simp h

before_after : (x : Event) (rs : List EventRun) (r : EventRun) → before_runs x (after_runs rs r) ≡ after_runs (before_runs x rs) r
before_after x [] r = before_none x r (runs_on x r.event) refl
before_after x (q ∷ []) r = before_one x q r (runs_on x q.event) (runs_on q.event r.event) refl refl
before_after x (q ∷ p ∷ qs) r = before_two x q p r qs (runs_on x q.event) refl

joined_after : (es : List Event) (r : EventRun) → is_run r ≡ true → joined (es ++ replicate r.count r.event) ≡ after_runs (joined es) r
joined_after [] r h = joined_one r.event r.count h
joined_after (x ∷ es) r h = ap (before_runs x) (joined_after es r h) ∙ before_after x (joined es) r

-- ---- the events of runs, and their runs

again : (rs : List EventRun) (r : EventRun) → joined (events_of rs) ≡ rs → is_run r ≡ true → after_runs rs r ≡ joined (events_of rs ++ replicate r.count r.event)
again rs r j h = ap (λ (qs : List EventRun). after_runs qs r) (sym j) ∙ sym (joined_after (events_of rs) r h)

pub events_added : (rs : List EventRun) (r : EventRun) → joined (events_of rs) ≡ rs → is_run r ≡ true → events_of (after_runs rs r) ≡ events_of rs ++ replicate r.count r.event
events_added rs r j h = ap events_of (again rs r j h) ∙ runs_expand (events_of rs ++ replicate r.count r.event)

pub runs_added : (rs : List EventRun) (r : EventRun) → joined (events_of rs) ≡ rs → is_run r ≡ true → joined (events_of (after_runs rs r)) ≡ after_runs rs r
runs_added rs r j h = ap joined (events_added rs r j h) ∙ sym (again rs r j h)

pub length_added : (rs : List EventRun) (r : EventRun) → joined (events_of rs) ≡ rs → is_run r ≡ true → length (events_of (after_runs rs r)) ≡ length (events_of rs) + r.count
length_added rs r j h =
    ap length (events_added rs r j h) ∙ length-append (events_of rs) (replicate r.count r.event) ∙ ap (λ (n : ℕ). length (events_of rs) + n) (length-replicate r.count r.event)

-- ---- how many runs there are

shorter : (x : Event) (rs : List EventRun) → length (before_runs x rs) ≤ length rs + 1
shorter x [] = omega arith
shorter x (r ∷ rs) = by_case (runs_on x r.event)
  where
    by_case : (b : Bool) → length (cond b (record r { count = r.count + 1 } ∷ rs) (record { event = x; count = 1 } ∷ r ∷ rs)) ≤ length (r ∷ rs) + 1
    by_case true = omega arith
    by_case false = omega arith

joined_length : (es : List Event) → length (joined es) ≤ length es
joined_length [] = omega arith
joined_length (x ∷ es) = let a = shorter x (joined es) in let b = joined_length es in omega arith

pub few_runs : (rs : List EventRun) → joined (events_of rs) ≡ rs → length rs ≤ length (events_of rs)
few_runs rs j = subst (λ (qs : List EventRun). length qs ≤ length (events_of rs)) j (joined_length (events_of rs))

pub last_few : (rs : List EventRun) → last_count rs ≤ length (events_of rs)
last_few [] = omega arith
last_few (q ∷ []) = omega (arith, length-append (replicate q.count q.event) [], length-replicate q.count q.event)
last_few (q ∷ p ∷ qs) = omega (arith, last_few (p ∷ qs), length-append (replicate q.count q.event) (events_of (p ∷ qs)))
