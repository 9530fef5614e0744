-- Each step of the keeper keeps the rule.
use Rattle.std.proofs.Common.{◌≡◌, ◌≢◌, ℕ, zero, suc, List, [], ◌∷◌, ◌++◌, set, true, false, true≢false, refl, sym, ap, ◌∙◌, subst, ⊎_elim, append_assoc}
use Rattle.std.proofs.lemmas.List.{append-nil}
use mathlib.Core.List.{IsPrefix}
use mathlib.Core.Option.{some, some-ne-none, some-injective}
use lib.ListN.{get_elem?}
use Rattle.spec_machine.specs.declared.event.Event.{Event}
use Rattle.atomic_table.specs.Table.{State, keeps as stays, Allows, Splits, Joins}
use Rattle.atomic_table.proofs.Lists.{at_set, at_snoc, set_again}
use Rattle.lgx_history.specs.declared.rule.Known.{Known}
use Rattle.lgx_history.specs.Seats.{knower, seer, with_seen, IsBeginning, AreBeginnings, HasGoneOn}

pub prefix_same : {A : Type 0} (xs ys : List A) → xs ≡ ys → IsPrefix xs ys
prefix_same xs ys e = ([], append-nil xs ∙ e)

pub prefix_trans : {A : Type 0} (xs ys zs : List A) → IsPrefix xs ys → IsPrefix ys zs → IsPrefix xs zs
prefix_trans xs ys zs p q = (p.0 ++ q.0, sym (append_assoc xs p.0 q.0) ∙ (ap (λ w. w ++ q.0) p.1 ∙ q.1))

each_set : (all : List Event) (keeps : ℕ) (views : List Known) (by : ℕ) (w : Known)
    → ((j : ℕ) (u : Known) → j ≢ by → get_elem? views j ≡ some u → IsBeginning all keeps j u) → IsBeginning all keeps by w
    → (j : ℕ) (u : Known) → get_elem? (set views by w) j ≡ some u → IsBeginning all keeps j u
each_set all keeps views by w others mine j u e =
    ⊎_elim
    (λ (x : (j ≡ by) × (w ≡ u)). subst (λ (y : ℕ × Known). IsBeginning all keeps y.0 y.1) (λ i. (sym x.0 i, x.1 i)) mine)
    (λ (x : (j ≢ by) × (get_elem? views j ≡ some u)). others j u x.0 x.1)
    (at_set views by j w u e)

off : false ≡ true → ⊥
off e = true≢false (sym e)

-- a seat that has seen a beginning
seer_begins : (all seen : List Event) (keeps seat : ℕ) → IsPrefix seen all → IsBeginning all keeps seat (seer seen)
seer_begins all seen keeps seat pre = record { keeper = λ k. absurd (off k); seen = pre }

abbrev Holds : State (Unit {0}) Known → Type 0
Holds s = AreBeginnings s.views

-- the first seat is the keeper's, who knows no event yet
pub begins : AreBeginnings (knower [] ∷ [])
begins = record { all = []; keeps = 0; each = one }
  where
    one : (seat : ℕ) (v : Known) → get_elem? (knower [] ∷ []) seat ≡ some v → IsBeginning [] 0 seat v
    one zero v e = subst (IsBeginning [] 0 0) (some-injective _ _ e) (record { keeper = λ _. (refl, refl); seen = ([], refl) })
    one (suc seat) v e = absurd (some-ne-none v (sym e))

-- the keeper goes on to more events
pub goes_on : (by : ℕ) (v : Known) (carried : List (ℕ × Unit {0})) (events : List Event) → v.keeps ≡ true → IsPrefix v.all events
    → (slots word : ℕ) → Allows Holds slots by (v, carried) word (λ n. n) (λ _ after. HasGoneOn events v after)
goes_on by v carried events keeps pre slots word s h len at small =
    let mine = h.each by v at in
    let is = mine.keeper keeps in
    let grown : IsPrefix h.all events = subst (λ l. IsPrefix l events) is.1 pre in (
      knower events,
      stays,
      tt,
      record {
        all = events;
        keeps = h.keeps;
        each = each_set events h.keeps s.views by (knower events)
            (λ j u apart e. let b = h.each j u e in record { keeper = λ k. absurd (apart ((b.keeper k).0 ∙ sym is.0)); seen = prefix_trans u.seen h.all events b.seen grown })
            (record { keeper = λ _. (is.0, refl); seen = (events, refl) });
      },
      record { keeper = refl; seen = subst (IsPrefix v.seen) (sym is.1) mine.seen },
    )

-- the keeper gives a seat that has seen all
pub gives : (by : ℕ) (v : Known) → v.keeps ≡ true → Splits Holds by v v (seer v.all)
gives by v keeps s h at =
    let all : v.all ≡ h.all = ((h.each by v at).keeper keeps).1 in
    record {
      all = h.all;
      keeps = h.keeps;
      each = λ j u e. ⊎_elim
          (λ was. h.each j u (subst (λ l. get_elem? l j ≡ some u) (set_again s.views by v at) was))
          (λ (same : seer v.all ≡ u). subst (IsBeginning h.all h.keeps j) same (seer_begins h.all v.all h.keeps j (prefix_same v.all h.all all)))
          (at_snoc (set s.views by v) (seer v.all) u j e);
    }

-- a seat takes in what another has seen
pub takes_in : (by : ℕ) (v : Known) (other : ℕ) (u : Known) → Joins Holds by v other u (with_seen v u.seen) (seer [])
takes_in by v other u s h at apart there =
    let w = with_seen v u.seen in
    let mine = h.each by v at in
    let theirs = ⊎_elim (λ (t : (other ≡ by) × (w ≡ u)). absurd (apart t.0)) (λ (t : (other ≢ by) × (get_elem? s.views other ≡ some u)). h.each other u t.1) (at_set s.views by other w u there) in
    record {
      all = h.all;
      keeps = h.keeps;
      each = each_set h.all h.keeps (set s.views by w) other (seer [])
          (λ j x _ e. each_set h.all h.keeps s.views by w (λ i y _ e'. h.each i y e') (record { keeper = mine.keeper; seen = theirs.seen }) j x e)
          (seer_begins h.all [] h.keeps other (h.all, refl));
    }
