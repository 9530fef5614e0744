-- A run put after the runs of a journal, as it keeps them.
use Rattle.std.proofs.Common.{◌≡◌, ℕ, zero, suc, ◌+◌, ◌<◌, ◌≤◌, ◌^◌, List, [], ◌∷◌, ◌++◌, length, length-append, true, false, ◌&&◌, nat_le, replicate, slice_set, slice_index_or, Option, Some, None, IsTrue, refl, sym, ap, subst, ◌∙◌, arith, true≢false}
use Rattle.std.proofs.lemmas.List.{get_or_append_left, get_or-map, get_or_read, length-map}
use Rattle.std.proofs.Math.Seq.{get_or-append_seam}
use Rattle.std.proofs.lemmas.Bool.{and_from, le-leb}
use Rattle.spec_base.specs.declared.limits.TheConstants.{MAX_EVENTS}
use Rattle.spec_machine.specs.declared.event.Event.{Event}
use Rattle.spec_machine.specs.declared.event.Event.TheVariants as event
use Rattle.spec_machine.specs.Events.{is_action}
use Rattle.spec_text.specs.declared.script.EventRun.{EventRun}
use Rattle.spec_text.specs.JournalText.{events_of, runs_on, joined}
use Rattle.lgx_journal.specs.declared.runs.Run.{Run}
use Rattle.lgx_journal.specs.declared.runs.Run.TheVariants.{Cpu, Tick, Act}
use Rattle.lgx_journal.specs.Journals.{is_run, after_runs, last_count}
use Rattle.lgx_journal.specs.Runs.{run_in, runs_in, count_of, last_count_of, join_of, after_last, with_last, IsAmong, AreAmong, AreRuns}
use Rattle.lgx_journal.proofs.AddedRuns.{events_added, runs_added, length_added, few_runs, last_few}

-- ---- the last run

pub put_alone : (rs : List Run) (r : Run) → length rs ≡ 0 → rs ++ r ∷ [] ≡ with_last rs r
put_alone [] r h = refl
put_alone (q ∷ qs) r h = absurd (omega arith)

pub put_joined : (rs : List Run) (i : ℕ) (q r p : Run) → suc i ≡ length rs → q ≡ slice_index_or rs i q → join_of q r ≡ Some p → slice_set rs i p ≡ with_last rs r
put_joined [] i q r p h e k = absurd (omega arith)
put_joined (x ∷ []) zero q r p h e k = sym (ap (λ (y : Run). after_last x r (join_of y r)) (sym e) ∙ ap (after_last x r) k)
put_joined (x ∷ []) (suc i) q r p h e k = absurd (omega arith)
put_joined (x ∷ y ∷ rs) zero q r p h e k = absurd (omega arith)
put_joined (x ∷ y ∷ rs) (suc i) q r p h e k = ap (λ (xs : List Run). x ∷ xs) (put_joined (y ∷ rs) i q r p (omega arith) e k)

pub put_apart : (rs : List Run) (i : ℕ) (q r : Run) → suc i ≡ length rs → q ≡ slice_index_or rs i q → join_of q r ≡ None → rs ++ r ∷ [] ≡ with_last rs r
put_apart [] i q r h e k = absurd (omega arith)
put_apart (x ∷ []) zero q r h e k = sym (ap (λ (y : Run). after_last x r (join_of y r)) (sym e) ∙ ap (after_last x r) k)
put_apart (x ∷ []) (suc i) q r h e k = absurd (omega arith)
put_apart (x ∷ y ∷ rs) zero q r h e k = absurd (omega arith)
put_apart (x ∷ y ∷ rs) (suc i) q r h e k = ap (λ (xs : List Run). x ∷ xs) (put_apart (y ∷ rs) i q r (omega arith) e k)

pub last_count_at : (rs : List Run) (i : ℕ) (q : Run) → suc i ≡ length rs → q ≡ slice_index_or rs i q → count_of q ≡ last_count_of rs
last_count_at [] i q h e = absurd (omega arith)
last_count_at (p ∷ []) zero q h e = ap count_of e
last_count_at (p ∷ []) (suc i) q h e = absurd (omega arith)
last_count_at (p ∷ r ∷ rs) zero q h e = absurd (omega arith)
last_count_at (p ∷ r ∷ rs) (suc i) q h e = last_count_at (r ∷ rs) i q (omega arith) e

count_in : (acts : List Event) (r : Run) → count_of r ≡ (run_in acts r).count
count_in acts (Cpu n) = refl
count_in acts (Tick n) = refl
count_in acts (Act k) = refl

pub last_count_in : (acts : List Event) (rs : List Run) → last_count_of rs ≡ last_count (runs_in acts rs)
last_count_in acts [] = refl
last_count_in acts (q ∷ []) = count_in acts q
last_count_in acts (q ∷ p ∷ qs) = last_count_in acts (p ∷ qs)

-- ---- what the runs say, with one more

none_before : (x e : Event) → IsTrue (is_action e) → runs_on x e ≡ false
none_before x event.Cpu h = absurd (true≢false (sym h))
none_before x event.Tick h = absurd (true≢false (sym h))
none_before event.Cpu (event.Act l a) h = refl
none_before event.Tick (event.Act l a) h = refl
none_before (event.Act m b) (event.Act l a) h = refl

none_after : (e x : Event) → IsTrue (is_action e) → runs_on e x ≡ false
none_after event.Cpu x h = absurd (true≢false (sym h))
none_after event.Tick x h = absurd (true≢false (sym h))
none_after (event.Act l a) x h = refl

apart : (q r : EventRun) → runs_on q.event r.event ≡ false → q ∷ r ∷ [] ≡ after_runs (q ∷ []) r
apart q r h = rw h refl

put_two : (acts : List Event) (q r : Run) → IsAmong acts q → IsAmong acts r → runs_in acts (after_last q r (join_of q r)) ≡ after_runs (run_in acts q ∷ []) (run_in acts r)
put_two acts (Cpu n) (Cpu m) h k = refl
put_two acts (Cpu n) (Tick m) h k = refl
put_two acts (Cpu n) (Act j) h k = apart (run_in acts (Cpu n)) (run_in acts (Act j)) (none_before event.Cpu (slice_index_or acts j event.Cpu) k.1)
put_two acts (Tick n) (Cpu m) h k = refl
put_two acts (Tick n) (Tick m) h k = refl
put_two acts (Tick n) (Act j) h k = apart (run_in acts (Tick n)) (run_in acts (Act j)) (none_before event.Tick (slice_index_or acts j event.Cpu) k.1)
put_two acts (Act i) (Cpu m) h k = apart (run_in acts (Act i)) (run_in acts (Cpu m)) (none_after (slice_index_or acts i event.Cpu) event.Cpu h.1)
put_two acts (Act i) (Tick m) h k = apart (run_in acts (Act i)) (run_in acts (Tick m)) (none_after (slice_index_or acts i event.Cpu) event.Tick h.1)
put_two acts (Act i) (Act j) h k = apart (run_in acts (Act i)) (run_in acts (Act j)) (none_after (slice_index_or acts i event.Cpu) (slice_index_or acts j event.Cpu) h.1)

put_in : (acts : List Event) (rs : List Run) (r : Run) → AreAmong acts rs → IsAmong acts r → runs_in acts (with_last rs r) ≡ after_runs (runs_in acts rs) (run_in acts r)
put_in acts [] r h k = refl
put_in acts (q ∷ []) r h k = put_two acts q r h.0 k
put_in acts (q ∷ p ∷ qs) r h k = ap (λ (xs : List EventRun). run_in acts q ∷ xs) (put_in acts (p ∷ qs) r h.1 k)

two_among : (acts : List Event) (q r : Run) → IsAmong acts q → IsAmong acts r → AreAmong acts (after_last q r (join_of q r))
two_among acts (Cpu n) (Cpu m) h k = (tt, tt)
two_among acts (Tick n) (Tick m) h k = (tt, tt)
two_among acts (Cpu n) (Tick m) h k = (h, (k, tt))
two_among acts (Cpu n) (Act j) h k = (h, (k, tt))
two_among acts (Tick n) (Cpu m) h k = (h, (k, tt))
two_among acts (Tick n) (Act j) h k = (h, (k, tt))
two_among acts (Act i) r h k = (h, (k, tt))

put_among : (acts : List Event) (rs : List Run) (r : Run) → AreAmong acts rs → IsAmong acts r → AreAmong acts (with_last rs r)
put_among acts [] r h k = (k, tt)
put_among acts (q ∷ []) r h k = two_among acts q r h.0 k
put_among acts (q ∷ p ∷ qs) r h k = (h.0, put_among acts (p ∷ qs) r h.1 k)

two_long : (q r : Run) (o : Option Run) → 1 ≤ length (after_last q r o)
two_long q r (Some p) = omega arith
two_long q r None = omega arith

longer : (rs : List Run) (r : Run) → length rs ≤ length (with_last rs r)
longer [] r = omega arith
longer (q ∷ []) r = omega (arith, two_long q r (join_of q r))
longer (q ∷ p ∷ qs) r = omega (arith, longer (p ∷ qs) r)

-- ---- one more action

act_apart : (q : Run) (k : ℕ) → join_of q (Act k) ≡ None
act_apart (Cpu n) k = refl
act_apart (Tick n) k = refl
act_apart (Act i) k = refl

act_longer : (rs : List Run) (k : ℕ) → length (with_last rs (Act k)) ≡ length rs + 1
act_longer [] k = omega arith
act_longer (q ∷ []) k = ap (λ (o : Option Run). length (after_last q (Act k) o)) (act_apart q k) ∙ omega arith
act_longer (q ∷ p ∷ qs) k = omega (arith, act_longer (p ∷ qs) k)

same_act : (acts : List Event) (e : Event) (k : ℕ) → k < length acts → slice_index_or (acts ++ e ∷ []) k event.Cpu ≡ slice_index_or acts k event.Cpu
same_act acts e k h = get_or_append_left acts (e ∷ []) event.Cpu k h

run_stays : (acts : List Event) (e : Event) (r : Run) → IsAmong acts r → run_in (acts ++ e ∷ []) r ≡ run_in acts r
run_stays acts e (Cpu n) h = refl
run_stays acts e (Tick n) h = refl
run_stays acts e (Act k) h = ap (λ (x : Event). record { event = x; count = 1 }) (same_act acts e k h.0)

runs_stay : (acts : List Event) (e : Event) (rs : List Run) → AreAmong acts rs → runs_in (acts ++ e ∷ []) rs ≡ runs_in acts rs
runs_stay acts e [] h = refl
runs_stay acts e (r ∷ rs) h = ap (λ (x : EventRun). x ∷ runs_in (acts ++ e ∷ []) rs) (run_stays acts e r h.0) ∙ ap (λ (xs : List EventRun). run_in acts r ∷ xs) (runs_stay acts e rs h.1)

still_among : (acts : List Event) (e : Event) (r : Run) → IsAmong acts r → IsAmong (acts ++ e ∷ []) r
still_among acts e (Cpu n) h = tt
still_among acts e (Tick n) h = tt
still_among acts e (Act k) h = (omega (arith, h.0, length-append acts (e ∷ [])), subst (λ (x : Event). IsTrue (is_action x)) (sym (same_act acts e k h.0)) h.1)

all_among : (acts : List Event) (e : Event) (rs : List Run) → AreAmong acts rs → AreAmong (acts ++ e ∷ []) rs
all_among acts e [] h = tt
all_among acts e (r ∷ rs) h = (still_among acts e r h.0, all_among acts e rs h.1)

new_act : (acts : List Event) (e : Event) → slice_index_or (acts ++ e ∷ []) (length acts) event.Cpu ≡ e
new_act acts e = get_or-append_seam acts e [] event.Cpu

new_among : (acts : List Event) (e : Event) → IsTrue (is_action e) → IsAmong (acts ++ e ∷ []) (Act (length acts))
new_among acts e h = (omega (arith, length-append acts (e ∷ [])), subst (λ (x : Event). IsTrue (is_action x)) (sym (new_act acts e)) h)

new_run : (acts : List Event) (e : Event) → run_in (acts ++ e ∷ []) (Act (length acts)) ≡ record { event = e; count = 1 }
new_run acts e = ap (λ (x : Event). record { event = x; count = 1 }) (new_act acts e)

-- ---- the runs of a journal, with a run put after them

pub record ArePut (acts : List Event) (rs : List Run) (more : List Event) (qs : List Run) (r : EventRun) : Type 0 where
  pub are : AreRuns more qs
  pub events : events_of (runs_in more qs) ≡ events_of (runs_in acts rs) ++ replicate r.count r.event

are_put : (acts : List Event) (rs : List Run) (more : List Event) (qs : List Run) (r : EventRun) → AreRuns acts rs → AreAmong more qs → length more ≤ length qs → runs_in more qs ≡ after_runs (runs_in acts rs) r
    → is_run r ≡ true → length (events_of (runs_in acts rs)) + r.count ≤ MAX_EVENTS → ArePut acts rs more qs r
are_put acts rs more qs r a among long is h few =
    let seen = runs_in acts rs in
    let count : length (events_of (runs_in more qs)) ≡ length (events_of seen) + r.count = ap (λ (xs : List EventRun). length (events_of xs)) is ∙ length_added seen r a.joined h in
    record {
      are = record {
        among = among;
        joined = rw is (runs_added seen r a.joined h);
        few = omega (arith, count, few);
        fewer = long;
      };
      events = ap events_of is ∙ events_added seen r a.joined h;
    }

pub count_put : (acts : List Event) (rs : List Run) (r : Run) → AreRuns acts rs → IsAmong acts r → is_run (run_in acts r) ≡ true → length (events_of (runs_in acts rs)) + (run_in acts r).count ≤ MAX_EVENTS
    → ArePut acts rs acts (with_last rs r) (run_in acts r)
count_put acts rs r a k h few =
    are_put acts rs acts (with_last rs r) (run_in acts r) a (put_among acts rs r a.among k) (omega (arith, a.fewer, longer rs r)) (put_in acts rs r a.among k) h few

pub act_put : (acts : List Event) (rs : List Run) (e : Event) → AreRuns acts rs → IsTrue (is_action e) → length (events_of (runs_in acts rs)) + 1 ≤ MAX_EVENTS
    → ArePut acts rs (acts ++ e ∷ []) (with_last rs (Act (length acts))) (record { event = e; count = 1 })
act_put acts rs e a h few =
    let more = acts ++ e ∷ [] in
    let r = Act (length acts) in
    let is : runs_in more (with_last rs r) ≡ after_runs (runs_in acts rs) (record { event = e; count = 1 }) =
    put_in more rs r (all_among acts e rs a.among) (new_among acts e h) ∙ ap (λ (xs : List EventRun). after_runs xs (run_in more r)) (runs_stay acts e rs a.among) ∙ ap (after_runs (runs_in acts rs)) (new_run acts e) in
    are_put acts rs more (with_last rs r) (record { event = e; count = 1 }) a (put_among more rs r (all_among acts e rs a.among) (new_among acts e h)) (omega (arith, a.fewer, act_longer rs (length acts), length-append acts (e ∷ []))) is (once e h) few
  where
    once : (x : Event) → IsTrue (is_action x) → is_run (record { event = x; count = 1 }) ≡ true
    once event.Cpu k = refl
    once event.Tick k = refl
    once (event.Act l b) k = refl

pub act_put_at : (acts more : List Event) (rs qs : List Run) (n : ℕ) (e : Event) → AreRuns acts rs → IsTrue (is_action e) → length (events_of (runs_in acts rs)) + 1 ≤ MAX_EVENTS → more ≡ acts ++ e ∷ [] → n ≡ length acts → qs ≡ with_last rs (Act n)
    → ArePut acts rs more qs (record { event = e; count = 1 })
act_put_at acts more rs qs n e a h few added number is =
    let r : EventRun = record { event = e; count = 1 } in
    subst (λ (ys : List Run). ArePut acts rs more ys r) (sym (is ∙ ap (λ (k : ℕ). with_last rs (Act k)) number))
    (subst (λ (xs : List Event). ArePut acts rs xs (with_last rs (Act (length acts))) r) (sym added) (act_put acts rs e a h few))

-- ---- a run by its place

pub run_there : (acts : List Event) (rs : List Run) (i : ℕ) (d : EventRun) (r : Run) → i < length rs → r ≡ slice_index_or rs i r → run_in acts r ≡ slice_index_or (runs_in acts rs) i d
run_there acts rs i d r h e = ap (run_in acts) e ∙ sym (get_or-map (run_in acts) rs i r d h)

pub among_there : (acts : List Event) (rs : List Run) (i : ℕ) (r : Run) → AreAmong acts rs → i < length rs → r ≡ slice_index_or rs i r → IsAmong acts r
among_there acts [] i r a h e = absurd (omega arith)
among_there acts (q ∷ qs) zero r a h e = subst (IsAmong acts) (sym e) a.0
among_there acts (q ∷ qs) (suc i) r a h e = among_there acts qs i r a.1 (omega arith) e

-- ---- a journal with these runs, by its events

pub put_fits : (acts : List Event) (rs : List Run) (n : ℕ) → length (events_of (runs_in acts rs)) + n ≤ MAX_EVENTS → last_count_of rs + n < 2 ^ 32
put_fits acts rs n few = omega (arith, few, last_count_in acts rs, last_few (runs_in acts rs))

pub few_acts : (acts : List Event) (rs : List Run) → AreRuns acts rs → length acts ≤ MAX_EVENTS
few_acts acts rs a = omega (arith, a.fewer, length-map rs (run_in acts), few_runs (runs_in acts rs) a.joined, a.few)

pub few_places : (acts : List Event) (rs : List Run) → AreRuns acts rs → length rs ≤ MAX_EVENTS
few_places acts rs a = omega (arith, length-map rs (run_in acts), few_runs (runs_in acts rs) a.joined, a.few)

joined_is : (acts : List Event) (rs : List Run) (es : List Event) → AreRuns acts rs → events_of (runs_in acts rs) ≡ es → runs_in acts rs ≡ joined es
joined_is acts rs es a seen = sym a.joined ∙ ap joined seen

pub places : (acts : List Event) (rs : List Run) (es : List Event) → AreRuns acts rs → events_of (runs_in acts rs) ≡ es → length rs ≡ length (joined es)
places acts rs es a seen = sym (length-map rs (run_in acts)) ∙ ap length (joined_is acts rs es a seen)

pub found : (acts : List Event) (rs : List Run) (es : List Event) (i : ℕ) (r : Run) (d : EventRun) → AreRuns acts rs → events_of (runs_in acts rs) ≡ es → i < length (joined es) → r ≡ slice_index_or rs i r
    → run_in acts r ≡ slice_index_or (joined es) i d
found acts rs es i r d a seen h e =
    run_there acts rs i d r (omega (arith, h, places acts rs es a seen)) e ∙ ap (λ (xs : List EventRun). slice_index_or xs i d) (joined_is acts rs es a seen)

pub act_found : (acts : List Event) (rs : List Run) (es : List Event) (i k : ℕ) (r : Run) → AreRuns acts rs → events_of (runs_in acts rs) ≡ es → i < length (joined es) → r ≡ slice_index_or rs i r → r ≡ Act k → k < length acts
act_found acts rs es i k r a seen h e is = (subst (IsAmong acts) is (among_there acts rs i r a.among (omega (arith, h, places acts rs es a seen)) e)).0

pub act_event : (acts : List Event) (rs : List Run) (es : List Event) (i k : ℕ) (r : Run) (x : Event) (d : EventRun) → AreRuns acts rs → events_of (runs_in acts rs) ≡ es → i < length (joined es) → r ≡ slice_index_or rs i r → r ≡ Act k
    → x ≡ slice_index_or acts k x → record { event = x; count = 1 } ≡ slice_index_or (joined es) i d
act_event acts rs es i k r x d a seen h e is there =
    ap (λ (y : Event). record { event = y; count = 1 }) (get_or_read acts k x (act_found acts rs es i k r a seen h e is) there event.Cpu) ∙ ap (run_in acts) (sym is) ∙ found acts rs es i r d a seen h e

pub one_run : (n : ℕ) → 0 < n → (nat_le 1 n && true) ≡ true
one_run n h = and_from _ _ (le-leb 1 n (omega arith)) refl
