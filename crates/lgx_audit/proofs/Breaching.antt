-- The breach of a trace as a function tells what is legal, and which breach it is.
use Rattle.std.proofs.Common.{◌≡◌, ℕ, zero, suc, ◌+◌, ◌<◌, ◌≤◌, Bool, true, false, List, [], ◌∷◌, ◌++◌, length, length-append, Option, Some, None, refl, sym, ◌∙◌, ap, subst, append_assoc, arith, true≢false}
use Rattle.std.specs.Prelude.{take}
use Rattle.std.specs.List.{AllByRecursion as Each}
use Rattle.std.proofs.lemmas.Bool.{and_from, and_parts}
use Rattle.std.proofs.lemmas.List.{take_at, take_all}
use Rattle.spec_schedule.specs.declared.trace.Table.{Table}
use Rattle.spec_schedule.specs.declared.trace.TraceEvent.{TraceEvent}
use Rattle.spec_schedule.specs.Counting.{counted_events}
use Rattle.spec_schedule.specs.Legal.{Legal, each_from, keeps_turn, gives_way}
use Rattle.lgx_audit.specs.TraceTable.{AreInTable}
use Rattle.lgx_audit.specs.Along.{IsWithin}
use Rattle.lgx_audit.specs.Breaches.{keeps, IsBreach, Breach, least, broken_by, breach_from, breach}
use Rattle.lgx_audit.proofs.Judged.{none_below, one_below, two_below}
use Rattle.lgx_audit.proofs.LegalParts.{legal_front, legal_take, all_within}

-- ---- the laws of one trace

keeps_all : (table : Table) (xs : List TraceEvent) → Legal table xs → (k : ℕ) → keeps k table xs ≡ true
keeps_all table xs h zero = refl
keeps_all table xs h (suc zero) = h.priority
keeps_all table xs h (suc (suc zero)) = and_from _ _ h.turns h.ticks
keeps_all table xs h (suc (suc (suc zero))) = h.versions
keeps_all table xs h (suc (suc (suc (suc k)))) = refl

unbroken : (table : Table) (xs : List TraceEvent) → Legal table xs → broken_by table xs ≡ None
unbroken table xs h =
    ap (λ b. least b (keeps 2 table xs) (keeps 3 table xs)) (keeps_all table xs h 1)
    ∙ ap (λ b. least true b (keeps 3 table xs)) (keeps_all table xs h 2)
    ∙ ap (λ b. least true true b) (keeps_all table xs h 3)

all_kept : (a b c : Bool) → least a b c ≡ None → (a ≡ true) × (b ≡ true) × (c ≡ true)
all_kept true true true h = (refl, refl, refl)
all_kept true true false h = absurd (cc h)
all_kept true false c h = absurd (cc h)
all_kept false b c h = absurd (cc h)

legal_of : (table : Table) (xs : List TraceEvent) → broken_by table xs ≡ None → Legal table xs
legal_of table xs h =
    let k = all_kept (keeps 1 table xs) (keeps 2 table xs) (keeps 3 table xs) h in
    let two = and_parts (each_from (keeps_turn table) (counted_events table xs)) (each_from (gives_way table) (counted_events table xs)) k.1 in
    record { priority = k.0; turns = two.0; ticks = two.1; versions = k.2 }

-- the least law is broken, and each below it is kept
record IsLeast (table : Table) (xs : List TraceEvent) (law : ℕ) : Type 0 where
  pub broken : keeps law table xs ≡ false
  pub lesser : (k : ℕ) → k < law → keeps k table xs ≡ true

least_of : (table : Table) (xs : List TraceEvent) (a b c : Bool) (law : ℕ) → keeps 1 table xs ≡ a → keeps 2 table xs ≡ b → keeps 3 table xs ≡ c → least a b c ≡ Some law → IsLeast table xs law
least_of table xs false b c law i j k h = subst (λ l. IsLeast table xs l) (let same : 1 ≡ law = cc in same) (record { broken = i; lesser = none_below (λ n. keeps n table xs ≡ true) refl })
least_of table xs true false c law i j k h = subst (λ l. IsLeast table xs l) (let same : 2 ≡ law = cc in same) (record { broken = j; lesser = one_below (λ n. keeps n table xs ≡ true) refl i })
least_of table xs true true false law i j k h = subst (λ l. IsLeast table xs l) (let same : 3 ≡ law = cc in same) (record { broken = k; lesser = two_below (λ n. keeps n table xs ≡ true) refl i j })
least_of table xs true true true law i j k h = absurd (cc h)

-- ---- event by event

take_one : (xs : List TraceEvent) (e : TraceEvent) (es : List TraceEvent) (n : ℕ) → n ≡ length xs → take (n + 1) (xs ++ e ∷ es) ≡ xs ++ e ∷ []
take_one [] e es zero h = refl
take_one [] e es (suc n) h = absurd (omega arith)
take_one (x ∷ xs) e es zero h = absurd (omega arith)
take_one (x ∷ xs) e es (suc n) h = ap (λ k. take k (x ∷ xs ++ e ∷ es)) (let z : suc n + 1 ≡ suc (n + 1) = omega arith in z) ∙ ap (λ ys. x ∷ ys) (take_one xs e es n (omega arith))

abbrev WithinAll : Table → List TraceEvent → Type 0
WithinAll table xs = Each (IsWithin (length table.tasks)) xs

goes_on : (before es : List TraceEvent) (e : TraceEvent) → before ++ e ∷ es ≡ (before ++ e ∷ []) ++ es
goes_on before es e = sym (append_assoc before (e ∷ []) es)

abbrev next_of : Table → List TraceEvent → TraceEvent → List TraceEvent → Option ℕ → Option Breach
next_of table before e es o = elim o [ Some law ↦ Some (record { law = law; at = length before }) | None ↦ breach_from table (before ++ e ∷ []) es ]

-- without a breach all is legal
stays_legal : (table : Table) (before es : List TraceEvent) → Legal table before → breach_from table before es ≡ None → Legal table (before ++ es)
stays_legal table before [] legal h = subst (λ (xs : List TraceEvent). Legal table xs) (sym (append_nil before)) legal
  where
    append_nil : (xs : List TraceEvent) → xs ++ [] ≡ xs
    append_nil [] = refl
    append_nil (x ∷ xs) = ap (λ ys. x ∷ ys) (append_nil xs)
stays_legal table before (e ∷ es) legal h = go (λ legal' k. stays_legal table (before ++ e ∷ []) es legal' k) (broken_by table (before ++ e ∷ [])) refl h
  where
    go : (Legal table (before ++ e ∷ []) → breach_from table (before ++ e ∷ []) es ≡ None → Legal table ((before ++ e ∷ []) ++ es)) → (o : Option ℕ) → broken_by table (before ++ e ∷ []) ≡ o → next_of table before e es o ≡ None → Legal table (before ++ e ∷ es)
    go rest (Some law) is k = absurd (cc k)
    go rest None is k = subst (λ (xs : List TraceEvent). Legal table xs) (sym (goes_on before es e)) (rest (legal_of table (before ++ e ∷ []) is) k)

-- where all is legal there is none
no_breach : (table : Table) (before es : List TraceEvent) → WithinAll table (before ++ es) → Legal table (before ++ es) → breach_from table before es ≡ None
no_breach table before [] within h = refl
no_breach table before (e ∷ es) within h =
    let all = subst (λ (xs : List TraceEvent). WithinAll table xs) (goes_on before es e) within in
    let legal = subst (λ (xs : List TraceEvent). Legal table xs) (goes_on before es e) h in
    ap (next_of table before e es) (unbroken table (before ++ e ∷ []) (legal_front table (before ++ e ∷ []) es all legal)) ∙ no_breach table (before ++ e ∷ []) es all legal

-- what is told is a breach
is_breach : (table : Table) (before es : List TraceEvent) (b : Breach) → Legal table before → breach_from table before es ≡ Some b → IsBreach table (before ++ es) b.law b.at
is_breach table before [] b legal h = absurd (cc h)
is_breach table before (e ∷ es) b legal h = go (λ legal' k. is_breach table (before ++ e ∷ []) es b legal' k) (broken_by table (before ++ e ∷ [])) refl h
  where
    here : (law : ℕ) → broken_by table (before ++ e ∷ []) ≡ Some law → IsBreach table (before ++ e ∷ es) law (length before)
    here law is =
        let l = least_of table (before ++ e ∷ []) _ _ _ law refl refl refl is in
        let one = take_one before e es (length before) refl in
        let long = length-append before (e ∷ es) in
        record {
          there = omega arith;
          before = subst (λ (xs : List TraceEvent). Legal table xs) (sym (take_at before (e ∷ es) (length before) refl)) legal;
          broken = ap (keeps law table) one ∙ l.broken;
          lesser = λ k below. ap (keeps k table) one ∙ l.lesser k below;
        }

    go : (Legal table (before ++ e ∷ []) → breach_from table (before ++ e ∷ []) es ≡ Some b → IsBreach table ((before ++ e ∷ []) ++ es) b.law b.at) → (o : Option ℕ) → broken_by table (before ++ e ∷ []) ≡ o → next_of table before e es o ≡ Some b → IsBreach table (before ++ e ∷ es) b.law b.at
    go rest (Some law) is k =
        let same : record { law = law; at = length before } ≡ b = cc in
        subst (λ (x : Breach). IsBreach table (before ++ e ∷ es) x.law x.at) same (here law is)
    go rest None is k =
        subst (λ (xs : List TraceEvent). IsBreach table xs b.law b.at) (sym (goes_on before es e)) (rest (legal_of table (before ++ e ∷ []) is) k)

-- ---- there is one breach

module _ (table : Table) (trace : List TraceEvent) (known : AreInTable table trace) where
  not_before : (law at other later : ℕ) → IsBreach table trace law at → IsBreach table trace other later → at < later → ⊥
  not_before law at other later one two h =
      true≢false (sym (keeps_all table (take (at + 1) trace) (legal_take table trace (at + 1) later known (omega arith) two.before) law) ∙ one.broken)

  not_below : (law other at : ℕ) → IsBreach table trace law at → IsBreach table trace other at → law < other → ⊥
  not_below law other at one two h = true≢false (sym (two.lesser law h) ∙ one.broken)

  same_at : (law at other later : ℕ) → IsBreach table trace law at → IsBreach table trace other later → at ≡ later
  same_at law at other later one two =
      let a : (at < later) → ⊥ = not_before law at other later one two in
      let b : (later < at) → ⊥ = not_before other later law at two one in
      nat_same at later a b
    where
      nat_same : (m n : ℕ) → (m < n → ⊥) → (n < m → ⊥) → m ≡ n
      nat_same m n a b = grind arith

  same_law : (law other at : ℕ) → IsBreach table trace law at → IsBreach table trace other at → law ≡ other
  same_law law other at one two =
      let a : (law < other) → ⊥ = not_below law other at one two in
      let b : (other < law) → ⊥ = not_below other law at two one in
      nat_same law other a b
    where
      nat_same : (m n : ℕ) → (m < n → ⊥) → (n < m → ⊥) → m ≡ n
      nat_same m n a b = grind arith

  not_legal : (law at : ℕ) → IsBreach table trace law at → Legal table trace → ⊥
  not_legal law at one h =
      let long : length trace ≤ length trace = omega arith in
      let there = one.there in
      true≢false (sym (keeps_all table (take (at + 1) trace) (legal_take table trace (at + 1) (length trace) known (omega arith) (subst (λ (xs : List TraceEvent). Legal table xs) (sym (take_all (length trace) trace long)) h)) law) ∙ one.broken)

  first_legal : Legal table []
  first_legal = record { priority = refl; turns = refl; ticks = refl; versions = refl }

  within : WithinAll table trace
  within = subst (λ (xs : List TraceEvent). WithinAll table xs) (take_all (length trace) trace (let l : length trace ≤ length trace = omega arith in l)) (all_within table trace (length trace) known)

  pub none_is_legal : (breach table trace ≡ None → Legal table trace) × (Legal table trace → breach table trace ≡ None)
  none_is_legal = ((λ h. stays_legal table [] trace first_legal h), (λ h. no_breach table [] trace within h))

  told : (b : Breach) → IsBreach table trace b.law b.at → (o : Option Breach) → breach table trace ≡ o → o ≡ Some b
  told b is None h = absurd (not_legal b.law b.at is (none_is_legal.0 h))
  told b is (Some x) h = same x b (is_breach table [] trace x first_legal h) is
    where
      same : (x b : Breach) → IsBreach table trace x.law x.at → IsBreach table trace b.law b.at → Some x ≡ Some b
      same x b one two =
          let at = same_at x.law x.at b.law b.at one two in
          let law = same_law x.law b.law b.at (subst (λ n. IsBreach table trace x.law n) at one) two in
          ap (λ n. Some (record { law = x.law; at = n })) at ∙ ap (λ n. Some (record { law = n; at = b.at })) law

  pub some_is_breach : (b : Breach) → (breach table trace ≡ Some b → IsBreach table trace b.law b.at) × (IsBreach table trace b.law b.at → breach table trace ≡ Some b)
  some_is_breach b = ((λ h. is_breach table [] trace b first_legal h), (λ is. told b is (breach table trace) refl))

-- without a breach all is legal, also where the trace isn't one of the table
pub legal_without : (table : Table) (trace : List TraceEvent) → breach table trace ≡ None → Legal table trace
legal_without table trace h = stays_legal table [] trace (record { priority = refl; turns = refl; ticks = refl; versions = refl }) h
