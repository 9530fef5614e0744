-- What each lane did, told by the lanes' numbers.
use Rattle.std.proofs.Common.{◌≡◌, ℕ, zero, suc, ◌+◌, ◌<◌, ◌≤◌, List, [], ◌∷◌, length, get_or, take, map, refl, sym, ◌∙◌, ap, subst, arith}
use Rattle.std.specs.Prelude.{sum, sum_by}
use Rattle.std.specs.List.{AllZip, enumerate_from}
use Rattle.std.proofs.lemmas.List.{length-map, length-take-le}
use Rattle.std.proofs.lemmas.List.FromFn.{length-enumerate_from}
use Rattle.std.proofs.lemmas.List.Sums.{sum_by-cons}
use Rattle.std.proofs.lemmas.Slice.Zip.{AllZip-long}
use Rattle.spec_machine.specs.declared.event.Event.{Event}
use Rattle.spec_text.specs.declared.script.Timed.{Timed}
use Rattle.spec_schedule.specs.Partial.{Made, made_by, LaneDid, LanesDid}

-- ---- place by place

abbrev pub DidFrom : List Event → ℕ → List ℕ → List (List Timed) → Type 0
DidFrom journal n counts lists = AllZip (λ count lane. LaneDid journal lane.0 count lane.1) counts (enumerate_from n lists)

at_from : (journal : List Event) (n : ℕ) (counts : List ℕ) (lists : List (List Timed)) → DidFrom journal n counts lists → (i : ℕ) → i < length lists → LaneDid journal (n + i) (get_or counts i 0) (get_or lists i [])
at_from journal n counts [] h i l = absurd (omega arith)
at_from journal n [] (x ∷ xs) h i l = absurd h
at_from journal n (c ∷ cs) (x ∷ xs) h zero l = subst (λ k. LaneDid journal k c x) (let e : n ≡ n + 0 = omega arith in e) h.0
at_from journal n (c ∷ cs) (x ∷ xs) h (suc i) l =
    subst (λ k. LaneDid journal k (get_or cs i 0) (get_or xs i [])) (let e : n + 1 + i ≡ n + suc i = omega arith in e) (at_from journal (n + 1) cs xs h.1 i (omega arith))

from_each : (journal : List Event) (n : ℕ) (counts : List ℕ) (lists : List (List Timed)) → length counts ≡ length lists → ((i : ℕ) → i < length lists → LaneDid journal (n + i) (get_or counts i 0) (get_or lists i [])) → DidFrom journal n counts lists
from_each journal n [] [] e each = tt
from_each journal n [] (x ∷ xs) e each = absurd (omega arith)
from_each journal n (c ∷ cs) [] e each = absurd (omega arith)
from_each journal n (c ∷ cs) (x ∷ xs) e each = (
  subst (λ k. LaneDid journal k c x) (let e : n + 0 ≡ n = omega arith in e) (each 0 (omega arith)),
  from_each journal (n + 1) cs xs (omega arith) (λ i l. subst (λ k. LaneDid journal k (get_or cs i 0) (get_or xs i [])) (let e : n + suc i ≡ n + 1 + i = omega arith in e) (each (suc i) (omega arith))),
)

pub did_long : (journal : List Event) (counts : List ℕ) (lists : List (List Timed)) → LanesDid journal counts lists → length counts ≡ length lists
did_long journal counts lists h =
    let a = AllZip-long (λ count lane. LaneDid journal lane.0 count lane.1) counts (enumerate_from 0 lists) h in
    let b = length-enumerate_from 0 lists in
    omega arith

pub did_at : (journal : List Event) (counts : List ℕ) (lists : List (List Timed)) → LanesDid journal counts lists → (i : ℕ) → i < length lists → LaneDid journal i (get_or counts i 0) (get_or lists i [])
did_at journal counts lists h i l =
    subst (λ k. LaneDid journal k (get_or counts i 0) (get_or lists i [])) (let e : 0 + i ≡ i = omega arith in e) (at_from journal 0 counts lists h i l)

pub did_from : (journal : List Event) (counts : List ℕ) (lists : List (List Timed)) → length counts ≡ length lists → ((i : ℕ) → i < length lists → LaneDid journal i (get_or counts i 0) (get_or lists i [])) → LanesDid journal counts lists
did_from journal counts lists e each =
    from_each journal 0 counts lists e (λ i l. subst (λ k. LaneDid journal k (get_or counts i 0) (get_or lists i [])) (let e : i ≡ 0 + i = omega arith in e) (each i l))

-- ---- counts

-- as many actions as the count
pub did_count : (journal : List Event) (lane count : ℕ) (list : List Timed) → LaneDid journal lane count list → length (made_by lane 0 journal) ≡ count
did_count journal lane count list h =
    sym (length-map (made_by lane 0 journal) (λ (m : Made). m.action))
    ∙ (ap (λ (xs : List _). length xs) h.order ∙ (length-map (take count list) (λ (t : Timed). t.action) ∙ length-take-le count list h.enough))

-- the counts together are at most the lengths together
pub few_counts : (journal : List Event) (n : ℕ) (counts : List ℕ) (lists : List (List Timed)) → DidFrom journal n counts lists → sum counts ≤ sum_by (λ list. length list) lists
few_counts journal n [] [] h = omega arith
few_counts journal n [] (x ∷ xs) h = absurd h
few_counts journal n (c ∷ cs) [] h = absurd h
few_counts journal n (c ∷ cs) (x ∷ xs) h =
    let a = sum_by-cons (λ (k : ℕ). k) c cs in
    let b = sum_by-cons (λ (list : List Timed). length list) x xs in
    let e = h.0.enough in
    let more = few_counts journal (n + 1) cs xs h.1 in
    omega arith

-- if they are as many, each is
pub whole_counts : (journal : List Event) (n : ℕ) (counts : List ℕ) (lists : List (List Timed)) → DidFrom journal n counts lists → sum counts ≡ sum_by (λ list. length list) lists → counts ≡ map (λ list. length list) lists
whole_counts journal n [] [] h e = refl
whole_counts journal n [] (x ∷ xs) h e = absurd h
whole_counts journal n (c ∷ cs) [] h e = absurd h
whole_counts journal n (c ∷ cs) (x ∷ xs) h e =
    let a = sum_by-cons (λ (k : ℕ). k) c cs in
    let b = sum_by-cons (λ (list : List Timed). length list) x xs in
    let enough = h.0.enough in
    let few = few_counts journal (n + 1) cs xs h.1 in
    let here : c ≡ length x = omega arith in
    let rest : sum cs ≡ sum_by (λ list. length list) xs = omega arith in
    ap (λ (k : ℕ). k ∷ cs) here ∙ ap (λ (ks : List ℕ). length x ∷ ks) (whole_counts journal (n + 1) cs xs h.1 rest)
