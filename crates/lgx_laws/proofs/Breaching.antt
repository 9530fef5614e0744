-- The breach of a trace as a function tells where all laws are kept, and which breach it is.
use Rattle.std.proofs.Common.{◌≡◌, ℕ, zero, suc, ◌+◌, ◌<◌, ◌≤◌, Bool, true, false, cond, List, [], ◌∷◌, length, Option, Some, None, refl, sym, ◌∙◌, ap, subst, arith, true≢false}
use Rattle.std.specs.Prelude.{slice_index_or, take, not, find}
use Rattle.std.proofs.lemmas.Bool.{and_from, and_parts, and_left, and_right, not_from_true}
use Rattle.std.proofs.lemmas.List.{take_all}
use Rattle.spec_schedule.specs.declared.trace.TraceEvent.{TraceEvent}
use Rattle.spec_schedule.specs.Counting.{CountedEvent, counted_events}
use Rattle.spec_laws.specs.CountedBack.{each_with_past}
use Rattle.lgx_laws.specs.declared.error.Law.{Law}
use Rattle.lgx_laws.specs.declared.error.Law.TheVariants.{Regions, Copies, Watchdogs, Releases, Starts, Triggers, Scans, Modes, Edits, Numbers}
use Rattle.lgx_laws.specs.Laws.{Roster, laws, rank, keeps_at, keeps, KeepsAll, IsBreach, Breach, broken_at, breach_from, breach}
use Rattle.lgx_laws.proofs.Back.{events_take, events_length, keeps_front}

-- ---- laws by their rank

pub at_rank : (law : Law) → slice_index_or laws (rank law) Regions ≡ law
at_rank Regions = refl
at_rank Copies = refl
at_rank Watchdogs = refl
at_rank Releases = refl
at_rank Starts = refl
at_rank Triggers = refl
at_rank Scans = refl
at_rank Modes = refl
at_rank Edits = refl
at_rank Numbers = refl

rank_within : (law : Law) → rank law < length laws
rank_within Regions = omega arith
rank_within Copies = omega arith
rank_within Watchdogs = omega arith
rank_within Releases = omega arith
rank_within Starts = omega arith
rank_within Triggers = omega arith
rank_within Scans = omega arith
rank_within Modes = omega arith
rank_within Edits = omega arith
rank_within Numbers = omega arith

rank_at : (i : ℕ) → i < length laws → rank (slice_index_or laws i Regions) ≡ i
rank_at zero l = refl
rank_at (suc zero) l = refl
rank_at (suc (suc zero)) l = refl
rank_at (suc (suc (suc zero))) l = refl
rank_at (suc (suc (suc (suc zero)))) l = refl
rank_at (suc (suc (suc (suc (suc zero))))) l = refl
rank_at (suc (suc (suc (suc (suc (suc zero)))))) l = refl
rank_at (suc (suc (suc (suc (suc (suc (suc zero))))))) l = refl
rank_at (suc (suc (suc (suc (suc (suc (suc (suc zero)))))))) l = refl
rank_at (suc (suc (suc (suc (suc (suc (suc (suc (suc zero))))))))) l = refl
rank_at (suc (suc (suc (suc (suc (suc (suc (suc (suc (suc i)))))))))) l = absurd (omega arith)

same_rank : (law other : Law) → rank law ≡ rank other → law ≡ other
same_rank law other h = sym (at_rank law) ∙ (ap (λ i. slice_index_or laws i Regions) h ∙ at_rank other)

-- what is found stands at a place before which nothing passes
record Found (p : Law → Bool) (xs : List Law) (law : Law) : Type 0 where
  pub place : ℕ
  pub within : place < length xs
  pub is : slice_index_or xs place Regions ≡ law
  pub passes : p law ≡ true
  pub before : (j : ℕ) → j < place → p (slice_index_or xs j Regions) ≡ false

found : (p : Law → Bool) (xs : List Law) (law : Law) → find p xs ≡ Some law → Found p xs law
found p [] law h = absurd (cc h)
found p (x ∷ xs) law h = go (λ k. found p xs law k) (p x) refl h
  where
    go : (find p xs ≡ Some law → Found p xs law) → (b : Bool) → p x ≡ b → cond b (Some x) (find p xs) ≡ Some law → Found p (x ∷ xs) law
    go later true is k =
        let same : x ≡ law = cc in
        record { place = 0; within = omega arith; is = same; passes = subst (λ y. p y ≡ true) same is; before = λ j l. absurd (omega arith) }
    go later false is k =
        let rest = later k in
        let w = rest.within in
        record { place = suc rest.place; within = omega arith; is = rest.is; passes = rest.passes; before = earlier is rest }
      where
        earlier : p x ≡ false → (rest : Found p xs law) (j : ℕ) → j < suc rest.place → p (slice_index_or (x ∷ xs) j Regions) ≡ false
        earlier is rest zero l = is
        earlier is rest (suc j) l = rest.before j (omega arith)

not_found : (p : Law → Bool) (xs : List Law) → find p xs ≡ None → (i : ℕ) → i < length xs → p (slice_index_or xs i Regions) ≡ false
not_found p [] h i l = absurd (omega arith)
not_found p (x ∷ xs) h i l = go (λ k j m. not_found p xs k j m) (p x) refl h i l
  where
    go : (find p xs ≡ None → (j : ℕ) → j < length xs → p (slice_index_or xs j Regions) ≡ false) → (b : Bool) → p x ≡ b → cond b (Some x) (find p xs) ≡ None → (i : ℕ) → i < suc (length xs) → p (slice_index_or (x ∷ xs) i Regions) ≡ false
    go later true is k i l = absurd (cc k)
    go later false is k zero l = is
    go later false is k (suc i) l = later k i (omega arith)

none_found : (p : Law → Bool) (xs : List Law) → ((law : Law) → p law ≡ false) → find p xs ≡ None
none_found p [] h = refl
none_found p (x ∷ xs) h = ap (λ b. cond b (Some x) (find p xs)) (h x) ∙ none_found p xs h

un_not : (b c : Bool) → not b ≡ c → b ≡ not c
un_not true c h = un_true c h
  where
    un_true : (c : Bool) → false ≡ c → true ≡ not c
    un_true true h = sym h
    un_true false h = refl
un_not false c h = un_false c h
  where
    un_false : (c : Bool) → true ≡ c → false ≡ not c
    un_false true h = refl
    un_false false h = sym h

-- ---- at one place

-- the law is broken there, and each of a lesser rank is kept
pub record IsLeast (r : Roster) (past : List CountedEvent) (x : CountedEvent) (law : Law) : Type 0 where
  pub broken : keeps_at law r past x ≡ false
  pub lesser : (k : Law) → rank k < rank law → keeps_at k r past x ≡ true

module _ (r : Roster) (past : List CountedEvent) (x : CountedEvent) where
  abbrev fails : Law → Bool
  fails law = not (keeps_at law r past x)

  pub least_there : (law : Law) → broken_at r past x ≡ Some law → IsLeast r past x law
  least_there law h =
      let f = found fails laws law h in
      let same : rank law ≡ f.place = ap rank (sym f.is) ∙ rank_at f.place f.within in
      record {
        broken = un_not (keeps_at law r past x) true f.passes;
        lesser = λ k l. subst (λ y. keeps_at y r past x ≡ true) (at_rank k) (un_not (keeps_at (slice_index_or laws (rank k) Regions) r past x) false (f.before (rank k) (omega arith)));
      }

  pub all_there : broken_at r past x ≡ None → (law : Law) → keeps_at law r past x ≡ true
  all_there h law = subst (λ y. keeps_at y r past x ≡ true) (at_rank law) (un_not (keeps_at (slice_index_or laws (rank law) Regions) r past x) false (not_found fails laws h (rank law) (rank_within law)))

  pub none_there : ((law : Law) → keeps_at law r past x ≡ true) → broken_at r past x ≡ None
  none_there h = none_found fails laws (λ law. not_from_true (keeps_at law r past x) (h law))

-- ---- place by place

abbrev All : Roster → List CountedEvent → List CountedEvent → Type 0
All r past xs = (law : Law) → each_with_past (keeps_at law r) past xs ≡ true

abbrev next_of : Roster → ℕ → List CountedEvent → CountedEvent → List CountedEvent → Option Law → Option Breach
next_of r at past x xs o = elim o [ Some law ↦ Some (record { law = law; at = at }) | None ↦ breach_from r (at + 1) (x ∷ past) xs ]

all_kept : (r : Roster) (at : ℕ) (past xs : List CountedEvent) → breach_from r at past xs ≡ None → All r past xs
all_kept r at past [] h law = refl
all_kept r at past (x ∷ xs) h law = go (λ k. all_kept r (at + 1) (x ∷ past) xs k law) (broken_at r past x) refl h
  where
    go : (breach_from r (at + 1) (x ∷ past) xs ≡ None → each_with_past (keeps_at law r) (x ∷ past) xs ≡ true) → (o : Option Law) → broken_at r past x ≡ o → next_of r at past x xs o ≡ None → each_with_past (keeps_at law r) past (x ∷ xs) ≡ true
    go later (Some other) is k = absurd (cc k)
    go later None is k = and_from (keeps_at law r past x) _ (all_there r past x is law) (later k)

none_broken : (r : Roster) (at : ℕ) (past xs : List CountedEvent) → All r past xs → breach_from r at past xs ≡ None
none_broken r at past [] h = refl
none_broken r at past (x ∷ xs) h =
    ap (next_of r at past x xs) (none_there r past x (λ law. (and_parts (keeps_at law r past x) (each_with_past (keeps_at law r) (x ∷ past) xs) (h law)).0))
    ∙ none_broken r (at + 1) (x ∷ past) xs (λ law. (and_parts (keeps_at law r past x) (each_with_past (keeps_at law r) (x ∷ past) xs) (h law)).1)

-- the breach is so many places on
record IsAhead (r : Roster) (at : ℕ) (past xs : List CountedEvent) (b : Breach) : Type 0 where
  pub ahead : ℕ
  pub is_at : b.at ≡ at + ahead
  pub there : ahead < length xs
  pub before : All r past (take ahead xs)
  pub broken : each_with_past (keeps_at b.law r) past (take (suc ahead) xs) ≡ false
  pub lesser : (k : Law) → rank k < rank b.law → each_with_past (keeps_at k r) past (take (suc ahead) xs) ≡ true

is_ahead : (r : Roster) (at : ℕ) (past xs : List CountedEvent) (b : Breach) → breach_from r at past xs ≡ Some b → IsAhead r at past xs b
is_ahead r at past [] b h = absurd (cc h)
is_ahead r at past (x ∷ xs) b h = go (λ k. is_ahead r (at + 1) (x ∷ past) xs b k) (broken_at r past x) refl h
  where
    go : (breach_from r (at + 1) (x ∷ past) xs ≡ Some b → IsAhead r (at + 1) (x ∷ past) xs b) → (o : Option Law) → broken_at r past x ≡ o → next_of r at past x xs o ≡ Some b → IsAhead r at past (x ∷ xs) b
    go later (Some law) is k =
        let same : record { law = law; at = at } ≡ b = cc in
        let l = least_there r past x law is in
        subst (λ (c : Breach). IsAhead r at past (x ∷ xs) c) same (record {
          ahead = 0;
          is_at = omega arith;
          there = omega arith;
          before = λ k. refl;
          broken = and_left (keeps_at law r past x) _ l.broken;
          lesser = λ k below. and_from (keeps_at k r past x) true (l.lesser k below) refl;
        })
    go later None is k =
        let rest = later k in
        let a = rest.is_at in
        let t = rest.there in
        record {
          ahead = suc rest.ahead;
          is_at = omega arith;
          there = omega arith;
          before = λ law. and_from (keeps_at law r past x) _ (all_there r past x is law) (rest.before law);
          broken = and_right (keeps_at b.law r past x) _ rest.broken;
          lesser = λ law below. and_from (keeps_at law r past x) _ (all_there r past x is law) (rest.lesser law below);
        }

-- ---- of a trace

module _ (r : Roster) (trace : List TraceEvent) where
  pub none_is_kept : (breach r trace ≡ None → KeepsAll r trace) × (KeepsAll r trace → breach r trace ≡ None)
  none_is_kept = ((λ h. all_kept r 0 [] (counted_events r.table trace) h), (λ h. none_broken r 0 [] (counted_events r.table trace) h))

  is_breach : (b : Breach) → breach r trace ≡ Some b → IsBreach r trace b.law b.at
  is_breach b h =
      let a = is_ahead r 0 [] (counted_events r.table trace) b h in
      let e = a.is_at in
      let same : b.at ≡ a.ahead = omega arith in
      let more : b.at + 1 ≡ suc a.ahead = omega arith in
      let t = a.there in
      let n = events_length r.table trace in
      record {
        there = omega arith;
        before = λ law. ap (each_with_past (keeps_at law r) []) (ap (λ k. counted_events r.table (take k trace)) same ∙ events_take r.table trace a.ahead) ∙ a.before law;
        broken = ap (each_with_past (keeps_at b.law r) []) (ap (λ k. counted_events r.table (take k trace)) more ∙ events_take r.table trace (suc a.ahead)) ∙ a.broken;
        lesser = λ law below. ap (each_with_past (keeps_at law r) []) (ap (λ k. counted_events r.table (take k trace)) more ∙ events_take r.table trace (suc a.ahead)) ∙ a.lesser law below;
      }

  not_before : (law : Law) (at : ℕ) (other : Law) (later : ℕ) → IsBreach r trace law at → IsBreach r trace other later → at < later → ⊥
  not_before law at other later one two h =
      true≢false (sym (keeps_front law r trace (at + 1) later (omega arith) (two.before law)) ∙ one.broken)

  same_at : (law : Law) (at : ℕ) (other : Law) (later : ℕ) → IsBreach r trace law at → IsBreach r trace other later → at ≡ later
  same_at law at other later one two =
      let a : (at < later) → ⊥ = not_before law at other later one two in
      let b : (later < at) → ⊥ = not_before other later law at two one in
      nat_same at later a b
    where
      nat_same : (m n : ℕ) → (m < n → ⊥) → (n < m → ⊥) → m ≡ n
      nat_same m n a b = grind arith

  same_law : (law other : Law) (at : ℕ) → IsBreach r trace law at → IsBreach r trace other at → law ≡ other
  same_law law other at one two =
      let a : (rank law < rank other) → ⊥ = λ l. true≢false (sym (two.lesser law l) ∙ one.broken) in
      let b : (rank other < rank law) → ⊥ = λ l. true≢false (sym (one.lesser other l) ∙ two.broken) in
      same_rank law other (nat_same (rank law) (rank other) a b)
    where
      nat_same : (m n : ℕ) → (m < n → ⊥) → (n < m → ⊥) → m ≡ n
      nat_same m n a b = grind arith

  not_all : (law : Law) (at : ℕ) → IsBreach r trace law at → KeepsAll r trace → ⊥
  not_all law at one h =
      let there = one.there in
      let whole = take_all (length trace) trace (let l : length trace ≤ length trace = omega arith in l) in
      true≢false (sym (keeps_front law r trace (at + 1) (length trace) (omega arith) (ap (λ xs. keeps law r xs) whole ∙ h law)) ∙ one.broken)

  told : (b : Breach) → IsBreach r trace b.law b.at → (o : Option Breach) → breach r trace ≡ o → o ≡ Some b
  told b is None h = absurd (not_all b.law b.at is (none_is_kept.0 h))
  told b is (Some x) h = same x b (is_breach x h) is
    where
      same : (x b : Breach) → IsBreach r trace x.law x.at → IsBreach r trace b.law b.at → Some x ≡ Some b
      same x b one two =
          let at = same_at x.law x.at b.law b.at one two in
          let law = same_law x.law b.law b.at (subst (λ n. IsBreach r trace x.law n) at one) two in
          ap (λ n. Some (record { law = x.law; at = n })) at ∙ ap (λ n. Some (record { law = n; at = b.at })) law

  pub some_is_breach : (b : Breach) → (breach r trace ≡ Some b → IsBreach r trace b.law b.at) × (IsBreach r trace b.law b.at → breach r trace ≡ Some b)
  some_is_breach b = ((λ h. is_breach b h), (λ is. told b is (breach r trace) refl))
