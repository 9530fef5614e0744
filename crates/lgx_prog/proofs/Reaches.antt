-- The search for called routines finds what the definition reaches.
use Rattle.std.specs.Prelude.{◌≡◌, ℕ, zero, suc, ◌+◌, ◌<◌, ◌≤◌, ◌⊎◌, Bool, true, false, cond, not, ◌&&◌, ◌||◌, nat_eq, nat_lt, List, [], ◌∷◌, ◌++◌, length, filter, fold, replicate, slice_index_or, slice_set, refl}
use Rattle.std.specs.List.{list_any, range_with_len, sum_by}
use Rattle.std.proofs.Common.{sym, ap, subst, ◌∙◌, arith, eqb-true, eq-eqb, ltb-true, inl, inr, get_or, length-set}
use Rattle.std.proofs.lemmas.Bool.{or_left, or_right, or_cases, and_parts, not-true, eqb-false, lt-ltb}
use Rattle.std.proofs.lemmas.List.{length-replicate, length_push, get_or_push, get_or_append_left, get_or-set_same, get_or-set_other}
use Rattle.std.proofs.lemmas.List.Sums.{sum_by-set, sum_by-cons}
use Rattle.spec_base.proofs.Lists.{same_truth}
use Rattle.spec_scan.specs.Position.{Rungs, ProgramRungs, routine_rungs}
use Rattle.spec_scan.specs.Prescan.{calls, is_called, reached_by, reached}
use Rattle.lgx_prog.specs.Search.{Found, with_found}
use Rattle.lgx_prog.proofs.Searching.{Has, any_at, any_from, into_filter, from_filter, into_range, from_range, filter_same, has_end, has_before, place_of}
use Rattle.spec_base.proofs.Numbers.{le_cases}

-- ---- marks

abbrev pub Mark : List Bool → ℕ → Type 0
Mark marks n = slice_index_or marks n false ≡ true

abbrev bit : Bool → ℕ
bit true = 1
bit false = 0

bits_le : (marks : List Bool) → sum_by bit marks ≤ length marks
bits_le [] = omega arith
bits_le (m ∷ ms) = omega (arith, sum_by-cons bit m ms, one m, bits_le ms)
  where
    one : (b : Bool) → bit b ≤ 1
    one true = omega arith
    one false = omega arith

no_bits : (n : ℕ) → sum_by bit (replicate n false) ≡ 0
no_bits zero = refl
no_bits (suc n) = no_bits n

no_marks : (n k : ℕ) → slice_index_or (replicate n false) k false ≡ false
no_marks zero k = refl
no_marks (suc n) zero = refl
no_marks (suc n) (suc k) = no_marks n k

mark_below : (marks : List Bool) (n : ℕ) → Mark marks n → n < length marks
mark_below [] n h = absurd (cc h)
mark_below (m ∷ ms) zero h = omega arith
mark_below (m ∷ ms) (suc n) h = omega (arith, mark_below ms n h)

-- ---- what is reached

calls_there : (routines : List Rungs) (r n : ℕ) → Has n (calls (slice_index_or routines r [])) → r < length routines
calls_there [] r n h = absurd (cc h)
calls_there (x ∷ xs) zero n h = omega arith
calls_there (x ∷ xs) (suc r) n h = omega (arith, calls_there xs r n h)

module _ (program : ProgramRungs) where
  abbrev number : ℕ
  number = length program.routines

  abbrev callees : ℕ → List ℕ
  callees r = calls (routine_rungs program r)

  into_level : (k n : ℕ) → n < number → (list_any (nat_eq n) (reached_by k program) || is_called program (reached_by k program) n) ≡ true → Has n (reached_by (suc k) program)
  into_level k n h t = into_filter (λ m. list_any (nat_eq m) (reached_by k program) || is_called program (reached_by k program) m) (range_with_len 0 number) n (into_range 0 number n (omega arith) (omega (arith, h))) t

  from_level : (k n : ℕ) → Has n (reached_by (suc k) program) → (list_any (nat_eq n) (reached_by k program) || is_called program (reached_by k program) n) ≡ true
  from_level k n h = (from_filter (λ m. list_any (nat_eq m) (reached_by k program) || is_called program (reached_by k program) m) (range_with_len 0 number) n h).1

  pub level_next : (k n : ℕ) → n < number → Has n (reached_by k program) → Has n (reached_by (suc k) program)
  level_next k n h r = into_level k n h (or_left (list_any (nat_eq n) (reached_by k program)) _ r)

  pub level_call : (k r n : ℕ) → n < number → Has r (reached_by k program) → Has n (callees r) → Has n (reached_by (suc k) program)
  level_call k r n h p c = into_level k n h (or_right (list_any (nat_eq n) (reached_by k program)) _ (any_at (λ m. list_any (nat_eq n) (callees m)) (reached_by k program) r p c))

  pub level_later : (k m n : ℕ) → m ≤ k → n < number → Has n (reached_by m program) → Has n (reached_by k program)
  level_later zero m n h b r =
      let none : m ≡ zero = omega arith in
      subst (λ (i : ℕ). Has n (reached_by i program)) none r
  level_later (suc k) m n h b r = go (le_cases m k h) (λ q. level_later k m n q b r)
    where
      go : (m ≤ k) ⊎ (m ≡ suc k) → (m ≤ k → Has n (reached_by k program)) → Has n (reached_by (suc k) program)
      go (inl q) more = level_next k n b (more q)
      go (inr q) more = subst (λ (i : ℕ). Has n (reached_by i program)) q r

  -- ---- a search in progress

  -- The first i routines that were found are examined. What was found is marked and the other way round; each was reached
  -- by no more calls than were found before it; and what the examined ones call is found.
  pub record Searched (i : ℕ) (s : Found) : Type 0 where
    pub size : length s.marks ≡ number
    pub count : sum_by bit s.marks ≡ length s.found
    pub main : Mark s.marks program.main
    pub has : (n : ℕ) → Mark s.marks n → Has n s.found
    pub level : (j : ℕ) → j < length s.found → Has (get_or s.found j 0) (reached_by j program)
    pub closed : (j n : ℕ) → j < i → j < length s.found → n < number → Has n (callees (get_or s.found j 0)) → Mark s.marks n

  -- what one more call keeps, where routine r, the one found as number i, calls n
  pub record OneFound (i r n : ℕ) (old new : Found) : Type 0 where
    searched : Searched i new
    examined : get_or new.found i 0 ≡ r
    there : i < length new.found
    marked : n < number → Mark new.marks n
    stays : (m : ℕ) → Mark old.marks m → Mark new.marks m

  set_mark : (marks : List Bool) (n m : ℕ) → n < length marks → Mark marks m → Mark (slice_set marks n true) m
  set_mark marks n m h p = go (nat_eq m n) refl
    where
      go : (b : Bool) → nat_eq m n ≡ b → Mark (slice_set marks n true) m
      go true e = subst (λ (k : ℕ). Mark (slice_set marks n true) k) (sym (eqb-true m n e)) (get_or-set_same marks n true false h)
      go false e = get_or-set_other marks n m true false (eqb-false m n e) ∙ p

  mark_either : (marks : List Bool) (n m : ℕ) → Mark (slice_set marks n true) m → (m ≡ n) ⊎ Mark marks m
  mark_either marks n m p = go (nat_eq m n) refl
    where
      go : (b : Bool) → nat_eq m n ≡ b → (m ≡ n) ⊎ Mark marks m
      go true e = inl (eqb-true m n e)
      go false e = inr (sym (get_or-set_other marks n m true false (eqb-false m n e)) ∙ p)

  abbrev found_now : Found → ℕ → Found
  found_now s n = record { marks = slice_set s.marks n true; found = s.found ++ n ∷ [] }

  last_or_before : (j k : ℕ) → j < k + 1 → (j < k) ⊎ (j ≡ k)
  last_or_before j k h = grind arith

  module _ (i r n : ℕ) (s : Found) (known : Searched i s) (there : i < length s.found) (here : get_or s.found i 0 ≡ r) (call : Has n (callees r)) where
    new_one : n < length s.marks → slice_index_or s.marks n false ≡ false → OneFound i r n s (found_now s n)
    new_one b free = record {
      searched = record {
        size = length-set s.marks n true ∙ known.size;
        count = counted;
        main = set_mark s.marks n program.main b known.main;
        has = λ m p. go_has m (mark_either s.marks n m p);
        level = λ j p. go_level j (last_or_before j (length s.found) (subst (λ (k : ℕ). j < k) (length_push s.found n) p));
        closed = λ j m p q c d. set_mark s.marks n m b (known.closed j m p (omega arith) c (subst (λ (k : ℕ). Has m (callees k)) (get_or_append_left s.found (n ∷ []) 0 j (omega arith)) d));
      };
      examined = get_or_append_left s.found (n ∷ []) 0 i there ∙ here;
      there = omega (arith, length_push s.found n);
      marked = λ p. get_or-set_same s.marks n true false b;
      stays = λ m p. set_mark s.marks n m b p;
    }
      where
        below : n < number
        below = subst (λ (k : ℕ). n < k) known.size b

        counted : sum_by bit (slice_set s.marks n true) ≡ length (s.found ++ n ∷ [])
        counted =
            let sum = sum_by-set bit s.marks n true false b in
            let none : bit (get_or s.marks n false) ≡ 0 = ap bit free in
            omega (arith, sum, none, known.count, length_push s.found n)

        go_has : (m : ℕ) → (m ≡ n) ⊎ Mark s.marks m → Has m (s.found ++ n ∷ [])
        go_has m (inl e) = subst (λ (k : ℕ). Has k (s.found ++ n ∷ [])) (sym e) (has_end s.found n)
        go_has m (inr p) = has_before s.found m n (known.has m p)

        reach : Has n (reached_by (suc i) program)
        reach = level_call i r n below (subst (λ (k : ℕ). Has k (reached_by i program)) here (known.level i there)) call

        go_level : (j : ℕ) → (j < length s.found) ⊎ (j ≡ length s.found) → Has (get_or (s.found ++ n ∷ []) j 0) (reached_by j program)
        go_level j (inl q) = subst (λ (k : ℕ). Has k (reached_by j program)) (sym (get_or_append_left s.found (n ∷ []) 0 j q)) (known.level j q)
        go_level j (inr q) = subst (λ (k : ℕ). Has (get_or (s.found ++ n ∷ []) k 0) (reached_by k program)) (sym q) (subst (λ (k : ℕ). Has k (reached_by (length s.found) program)) (sym (get_or_push s.found n 0 (length s.found) refl)) (level_later (length s.found) (suc i) n (omega arith) below reach))

    old_one : (nat_lt n (length s.marks) && not (slice_index_or s.marks n false)) ≡ false → OneFound i r n s s
    old_one t = record { searched = known; examined = here; there = there; marked = λ p. is_marked (nat_lt n (length s.marks)) (slice_index_or s.marks n false) refl t (subst (λ (k : ℕ). n < k) (sym known.size) p); stays = λ m p. p }
      where
        is_marked : (a b : Bool) → nat_lt n (length s.marks) ≡ a → (a && not b) ≡ false → n < length s.marks → b ≡ true
        is_marked true true e q h = refl
        is_marked true false e q h = absurd (cc q)
        is_marked false b e q h = absurd (cc (e, lt-ltb n (length s.marks) h))

    pub found_keeps : OneFound i r n s (with_found s n)
    found_keeps = go (nat_lt n (length s.marks) && not (slice_index_or s.marks n false)) refl
      where
        go : (b : Bool) → (nat_lt n (length s.marks) && not (slice_index_or s.marks n false)) ≡ b → OneFound i r n s (cond b (found_now s n) s)
        go true t = let parts = and_parts (nat_lt n (length s.marks)) (not (slice_index_or s.marks n false)) t in new_one (ltb-true n (length s.marks) parts.0) (not-true (slice_index_or s.marks n false) parts.1)
        go false t = old_one t

  -- ---- all the calls of a routine

  pub record AllFound (i r : ℕ) (ns : List ℕ) (old new : Found) : Type 0 where
    searched : Searched i new
    marked : (n : ℕ) → Has n ns → n < number → Mark new.marks n
    stays : (m : ℕ) → Mark old.marks m → Mark new.marks m
    examined : get_or new.found i 0 ≡ r
    there : i < length new.found

  all_found : (i r : ℕ) (ns : List ℕ) (s : Found) → Searched i s → i < length s.found → get_or s.found i 0 ≡ r → ((n : ℕ) → Has n ns → Has n (callees r)) → AllFound i r ns s (fold with_found s ns)
  all_found i r [] s known there here sub = record { searched = known; marked = λ n h. absurd (cc h); stays = λ m p. p; examined = here; there = there }
  all_found i r (n ∷ ns) s known there here sub =
      let one = found_keeps i r n s known there here (sub n (or_left (nat_eq n n) _ (eq-eqb n n refl))) in
      let more = all_found i r ns (with_found s n) one.searched one.there one.examined (λ m h. sub m (or_right (nat_eq m n) _ h)) in
      record {
        searched = more.searched;
        marked = λ m h b. go m b one.marked more.marked more.stays (or_cases (nat_eq m n) _ h);
        stays = λ m p. more.stays m (one.stays m p);
        examined = more.examined;
        there = more.there;
      }
    where
      go : (m : ℕ) → m < number → (n < number → Mark (with_found s n).marks n) → ((k : ℕ) → Has k ns → k < number → Mark (fold with_found (with_found s n) ns).marks k) → ((k : ℕ) → Mark (with_found s n).marks k → Mark (fold with_found (with_found s n) ns).marks k) → (nat_eq m n ≡ true) ⊎ Has m ns → Mark (fold with_found (with_found s n) ns).marks m
      go m b first others stays (inl e) =
          let same : m ≡ n = eqb-true m n e in
          stays m (subst (λ (k : ℕ). Mark (with_found s n).marks k) (sym same) (first (subst (λ (k : ℕ). k < number) same b)))
      go m b first others stays (inr h) = others m h b

  pub examined_one : (i r : ℕ) (s : Found) → Searched i s → i < length s.found → get_or s.found i 0 ≡ r → Searched (i + 1) (fold with_found s (callees r))
  examined_one i r s known there here =
      let all = all_found i r (callees r) s known there here (λ n h. h) in
      record {
        size = all.searched.size;
        count = all.searched.count;
        main = all.searched.main;
        has = all.searched.has;
        level = all.searched.level;
        closed = λ j n p q b c. go all j n q b c (last_or_before j i p);
      }
    where
      go : AllFound i r (callees r) s (fold with_found s (callees r)) → (j n : ℕ) → j < length (fold with_found s (callees r)).found → n < number → Has n (callees (get_or (fold with_found s (callees r)).found j 0)) → (j < i) ⊎ (j ≡ i) → Mark (fold with_found s (callees r)).marks n
      go all j n q b c (inl p) = all.searched.closed j n p q b c
      go all j n q b c (inr e) =
          let same : get_or (fold with_found s (callees r)).found j 0 ≡ r = ap (λ (k : ℕ). get_or (fold with_found s (callees r)).found k 0) e ∙ all.examined in
          all.marked n (subst (λ (k : ℕ). Has n (callees k)) same c) b

  pub examined_none : (i : ℕ) (s : Found) → Searched i s → length s.found ≤ i → Searched (i + 1) s
  examined_none i s known none = record {
    size = known.size;
    count = known.count;
    main = known.main;
    has = known.has;
    level = known.level;
    closed = λ j n p q b c. known.closed j n (omega arith) q b c;
  }

  -- ---- its beginning and its end

  abbrev pub unsearched : Found
  unsearched = record { marks = replicate number false; found = [] }

  pub begins : program.main < number → Searched 0 (with_found unsearched program.main)
  begins h = go (nat_lt program.main (length (replicate number false)) && not (slice_index_or (replicate number false) program.main false)) (test h)
    where
      below : program.main < length (replicate number false)
      below = subst (λ (k : ℕ). program.main < k) (sym (length-replicate number false)) h

      test : program.main < number → (nat_lt program.main (length (replicate number false)) && not (slice_index_or (replicate number false) program.main false)) ≡ true
      test b = ap (λ t. t && not (slice_index_or (replicate number false) program.main false)) (lt-ltb program.main (length (replicate number false)) below) ∙ ap not (no_marks number program.main)

      only : (n : ℕ) → (n ≡ program.main) ⊎ Mark (replicate number false) n → Has n (program.main ∷ [])
      only n (inl e) = or_left (nat_eq n program.main) _ (eq-eqb n program.main e)
      only n (inr p) = absurd (cc (p, no_marks number n))

      go : (b : Bool) → b ≡ true → Searched 0 (cond b (found_now unsearched program.main) unsearched)
      go false t = absurd (cc t)
      go true t = record {
        size = length-set (replicate number false) program.main true ∙ length-replicate number false;
        count = counted;
        main = get_or-set_same (replicate number false) program.main true false below;
        has = λ n p. only n (mark_either (replicate number false) program.main n p);
        level = λ j p. go_level j p;
        closed = λ j n p. absurd (omega arith);
      }
        where
          counted : sum_by bit (slice_set (replicate number false) program.main true) ≡ 1
          counted =
              let sum = sum_by-set bit (replicate number false) program.main true false below in
              let none : bit (get_or (replicate number false) program.main false) ≡ 0 = ap bit (no_marks number program.main) in
              omega (arith, sum, none, no_bits number)

          go_level : (j : ℕ) → j < 1 → Has (get_or (program.main ∷ []) j 0) (reached_by j program)
          go_level zero p = or_left (nat_eq program.main program.main) _ (eq-eqb program.main program.main refl)
          go_level (suc j) p = absurd (omega arith)

  module _ (i : ℕ) (s : Found) (known : Searched i s) (done : length s.found ≤ i) where
    marked_calls : (r n : ℕ) → n < number → Mark s.marks r → Has n (callees r) → Mark s.marks n
    marked_calls r n b p c =
        let at = place_of s.found r (known.has r p) in
        known.closed at.0 n (omega (arith, at.1)) at.1 b (subst (λ (k : ℕ). Has n (callees k)) (sym at.2) c)

    complete : (k n : ℕ) → n < number → Has n (reached_by k program) → Mark s.marks n
    complete zero n b h = go (or_cases (nat_eq n program.main) _ h)
      where
        go : (nat_eq n program.main ≡ true) ⊎ Has n [] → Mark s.marks n
        go (inl e) = subst (λ (m : ℕ). Mark s.marks m) (sym (eqb-true n program.main e)) known.main
        go (inr e) = absurd (cc e)
    complete (suc k) n b h = go (or_cases (list_any (nat_eq n) (reached_by k program)) _ (from_level k n h)) (λ m c q. complete k m c q)
      where
        go : (list_any (nat_eq n) (reached_by k program) ≡ true) ⊎ (is_called program (reached_by k program) n ≡ true) → ((m : ℕ) → m < number → Has m (reached_by k program) → Mark s.marks m) → Mark s.marks n
        go (inl q) more = more n b q
        go (inr q) more =
            let caller = any_from (λ r. list_any (nat_eq n) (callees r)) (reached_by k program) q in
            marked_calls caller.0 n b (more caller.0 (calls_there program.routines caller.0 n caller.2) caller.1) caller.2

    sound : (n : ℕ) → n < number → Mark s.marks n → Has n (reached_by number program)
    sound n b p =
        let at = place_of s.found n (known.has n p) in
        let few : length s.found ≤ number = omega (arith, known.count, bits_le s.marks, known.size) in
        subst (λ (k : ℕ). Has k (reached_by number program)) at.2 (level_later number at.0 (get_or s.found at.0 0) (omega (arith, at.1)) (subst (λ (k : ℕ). k < number) (sym at.2) b) (known.level at.0 at.1))

  ends_at : (n : ℕ) → number ≡ suc n → (i : ℕ) (s : Found) → Searched i s → length s.found ≤ i → filter (λ k. slice_index_or s.marks k false) (range_with_len 0 number) ≡ reached_by (suc n) program
  ends_at n e i s known done =
      filter_same (λ k. slice_index_or s.marks k false) (λ k. list_any (nat_eq k) (reached_by n program) || is_called program (reached_by n program) k) (range_with_len 0 number) (λ k h. same k (from_range 0 number k h))
    where
      same : (k : ℕ) → k < 0 + number → slice_index_or s.marks k false ≡ (list_any (nat_eq k) (reached_by n program) || is_called program (reached_by n program) k)
      same k h = same_truth (slice_index_or s.marks k false) _ (λ p. from_level n k (subst (λ (m : ℕ). Has k (reached_by m program)) e (sound i s known done k (omega (arith, h)) p))) (λ q. complete i s known done (suc n) k (omega (arith, h)) (into_level n k (omega (arith, h)) q))

  -- a search that has examined all that it found has found what the main routine reaches
  pub ends : (i : ℕ) (s : Found) → program.main < number → Searched i s → length s.found ≤ i → filter (λ k. slice_index_or s.marks k false) (range_with_len 0 (length s.marks)) ≡ reached program
  ends i s h known done = ap (λ (k : ℕ). filter (λ m. slice_index_or s.marks m false) (range_with_len 0 k)) known.size ∙ go number refl h
    where
      go : (k : ℕ) → number ≡ k → program.main < k → filter (λ m. slice_index_or s.marks m false) (range_with_len 0 number) ≡ reached_by k program
      go zero e b = absurd (omega arith)
      go (suc k) e b = ends_at k e i s known done

  -- all of them are examined where as many were as there are routines
  pub all_examined : (s : Found) → Searched number s → length s.found ≤ number
  all_examined s known = omega (arith, known.count, bits_le s.marks, known.size)
