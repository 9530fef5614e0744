-- Edits of different rungs don't meet: what one edit after another makes of a rung is what those of its number make of it.
use Rattle.std.proofs.Common.{◌≡◌, ℕ, zero, suc, ◌+◌, Bool, true, false, cond, List, [], ◌∷◌, ◌++◌, length, Option, Some, None, refl, sym, ◌∙◌, ap, arith}
use Rattle.std.specs.Prelude.{◌<◌, flat_map, filter_map, fold, map, nat_eq, slice_index_or, option_to_list, if◌then◌else◌}
use Rattle.std.specs.List.{cons_option, enumerate_from}
use Rattle.std.proofs.lemmas.Bool.{eq-eqb, ne_eqb}
use Rattle.std.proofs.lemmas.List.{append-nil, append_assoc}
use Rattle.lgx_rung.specs.Tree.{Source}
use Rattle.spec_machine.specs.Edits.{Change, Replaced, Inserted, Deleted, put_before, put_instead, around}
use Rattle.spec_legal.specs.EditByEdit.{Spot, untouched, spots, edited, spot_of, edited_at, rungs_at, MergesEdits}

-- ---- one spot

-- an edit as far as it is of spot i, and all of them
abbrev edited_if : ℕ → Spot → Change → Spot
edited_if i s c = cond (nat_eq (spot_of c) i) (edited c s) s

abbrev spot_after : List Change → ℕ → Spot → Spot
spot_after changes i s = fold (edited_if i) s changes

abbrev all_after : List Change → ℕ → List Spot → List Spot
all_after changes i ss = map (λ x. spot_after changes x.0 x.1) (enumerate_from i ss)

-- an edit of another spot changes nothing here
elsewhere : (c : Change) (n i : ℕ) (s : Spot) → spot_of c ≡ n → (n ≡ i → ⊥) → edited_if i s c ≡ s
elsewhere c n i s e other = ap (λ (b : Bool). cond b (edited c s) s) (ap (λ m. nat_eq m i) e ∙ ne_eqb n i other)

here : (c : Change) (i : ℕ) (s : Spot) → spot_of c ≡ i → edited_if i s c ≡ edited c s
here c i s e = ap (λ (b : Bool). cond b (edited c s) s) (eq-eqb (spot_of c) i e)

-- ---- all spots

-- those behind the spot of an edit stay as they are
behind : (c : Change) (changes : List Change) (n i : ℕ) (ss : List Spot) → spot_of c ≡ n → n < i → all_after changes i ss ≡ all_after (c ∷ changes) i ss
behind c changes n i [] e l = refl
behind c changes n i (s ∷ ss) e l =
    ap (λ (x : Spot). spot_after changes i x ∷ all_after changes (i + 1) ss) (sym (elsewhere c n i s e (λ h. absurd (omega arith))))
    ∙ ap (λ (xs : List Spot). spot_after (c ∷ changes) i s ∷ xs) (behind c changes n (i + 1) ss e (omega arith))

one_edit : (c : Change) (changes : List Change) (n i k : ℕ) (ss : List Spot) → spot_of c ≡ n → n ≡ i + k → all_after changes i (edited_at k c ss) ≡ all_after (c ∷ changes) i ss
one_edit c changes n i k [] e l = refl
one_edit c changes n i zero (s ∷ ss) e l =
    ap (λ (x : Spot). spot_after changes i x ∷ all_after changes (i + 1) ss) (sym (here c i s (e ∙ (let z : n ≡ i = omega arith in z))))
    ∙ ap (λ (xs : List Spot). spot_after (c ∷ changes) i s ∷ xs) (behind c changes n (i + 1) ss e (omega arith))
one_edit c changes n i (suc k) (s ∷ ss) e l =
    ap (λ (x : Spot). spot_after changes i x ∷ all_after changes (i + 1) (edited_at k c ss)) (sym (elsewhere c n i s e (λ h. absurd (omega arith))))
    ∙ ap (λ (xs : List Spot). spot_after (c ∷ changes) i s ∷ xs) (one_edit c changes n (i + 1) k ss e (omega arith))

none_after : (i : ℕ) (ss : List Spot) → ss ≡ all_after [] i ss
none_after i [] = refl
none_after i (s ∷ ss) = ap (λ (xs : List Spot). s ∷ xs) (none_after (i + 1) ss)

-- the edits of each spot by themselves
spot_by_spot : (changes : List Change) (ss : List Spot) → fold (λ xs c. edited_at (spot_of c) c xs) ss changes ≡ all_after changes 0 ss
spot_by_spot [] ss = none_after 0 ss
spot_by_spot (c ∷ changes) ss = spot_by_spot changes (edited_at (spot_of c) c ss) ∙ one_edit c changes (spot_of c) 0 (spot_of c) ss refl (omega arith)

-- ---- the rungs at one

-- what stands at a spot whose inserted rungs are these
abbrev spot : List Source → Option Source → Option Source → Spot
spot inserted rung replacement = record { inserted = inserted; rung = rung; replacement = replacement }

-- the spot's edits are of one kind or of another spot
insert_more : (xs : List Source) (new : Source) (ys : List Source) (zs : List Source) → (xs ++ new ∷ []) ++ (ys ++ zs) ≡ xs ++ ((new ∷ ys) ++ zs)
insert_more xs new ys zs = append_assoc xs (new ∷ []) (ys ++ zs)

-- with no rung there is nothing to take
abbrev AfterTaken : List Change → ℕ → Option Source → List Source → Type 0
AfterTaken changes i o xs = rungs_at (spot_after changes i (spot xs None o)) ≡ xs ++ (filter_map (put_before i) changes ++ option_to_list o)

taken_on : (changes : List Change) (i : ℕ) (xs : List Source) (o : Option Source) → AfterTaken changes i o xs
taken_on [] i xs o = refl
taken_on (Inserted k new ∷ changes) i xs o = go (nat_eq k i) (λ ys. taken_on changes i ys o)
  where
    go : (b : Bool) → ((ys : List Source) → AfterTaken changes i o ys) → rungs_at (spot_after changes i (cond b (spot (xs ++ new ∷ []) None o) (spot xs None o))) ≡ xs ++ (cons_option (if b then Some new else None) (filter_map (put_before i) changes) ++ option_to_list o)
    go true later = later (xs ++ new ∷ []) ∙ insert_more xs new (filter_map (put_before i) changes) (option_to_list o)
    go false later = later xs
taken_on (Replaced k new ∷ changes) i xs o = go (nat_eq k i) (taken_on changes i xs o)
  where
    go : (b : Bool) → AfterTaken changes i o xs → rungs_at (spot_after changes i (cond b (spot xs None o) (spot xs None o))) ≡ xs ++ (filter_map (put_before i) changes ++ option_to_list o)
    go true later = later
    go false later = later
taken_on (Deleted k ∷ changes) i xs o = go (nat_eq k i) (taken_on changes i xs o)
  where
    go : (b : Bool) → AfterTaken changes i o xs → rungs_at (spot_after changes i (cond b (spot xs None o) (spot xs None o))) ≡ xs ++ (filter_map (put_before i) changes ++ option_to_list o)
    go true later = later
    go false later = later

-- the first that takes the rung says what comes in its place
abbrev instead : ℕ → Source → List Change → List Source
instead i rung changes = slice_index_or (filter_map (put_instead i) changes) 0 (rung ∷ [])

abbrev AfterStanding : List Change → ℕ → Source → List Source → Type 0
AfterStanding changes i rung xs = rungs_at (spot_after changes i (spot xs (Some rung) None)) ≡ xs ++ (filter_map (put_before i) changes ++ instead i rung changes)

standing_on : (changes : List Change) (i : ℕ) (xs : List Source) (rung : Source) → AfterStanding changes i rung xs
standing_on [] i xs rung = refl
standing_on (Inserted k new ∷ changes) i xs rung = go (nat_eq k i) (λ ys. standing_on changes i ys rung)
  where
    go : (b : Bool) → ((ys : List Source) → AfterStanding changes i rung ys) → rungs_at (spot_after changes i (cond b (spot (xs ++ new ∷ []) (Some rung) None) (spot xs (Some rung) None))) ≡ xs ++ (cons_option (if b then Some new else None) (filter_map (put_before i) changes) ++ instead i rung changes)
    go true later = later (xs ++ new ∷ []) ∙ insert_more xs new (filter_map (put_before i) changes) (instead i rung changes)
    go false later = later xs
standing_on (Replaced k new ∷ changes) i xs rung = go (nat_eq k i) (standing_on changes i xs rung)
  where
    go : (b : Bool) → AfterStanding changes i rung xs → rungs_at (spot_after changes i (cond b (spot xs None (Some new)) (spot xs (Some rung) None))) ≡ xs ++ (filter_map (put_before i) changes ++ slice_index_or (cons_option (if b then Some (new ∷ []) else None) (filter_map (put_instead i) changes)) 0 (rung ∷ []))
    go true later = taken_on changes i xs (Some new)
    go false later = later
standing_on (Deleted k ∷ changes) i xs rung = go (nat_eq k i) (standing_on changes i xs rung)
  where
    go : (b : Bool) → AfterStanding changes i rung xs → rungs_at (spot_after changes i (cond b (spot xs None None) (spot xs (Some rung) None))) ≡ xs ++ (filter_map (put_before i) changes ++ slice_index_or (cons_option (if b then Some [] else None) (filter_map (put_instead i) changes)) 0 (rung ∷ []))
    go true later = taken_on changes i xs None
    go false later = later

-- ---- all rungs

-- from rung i on
from_rung : (changes : List Change) (i : ℕ) (base : List Source) → flat_map rungs_at (all_after changes i (spots base)) ≡ flat_map (around changes) (enumerate_from i base) ++ filter_map (put_before (i + length base)) changes
from_rung changes i [] =
    append-nil (rungs_at (spot_after changes i (untouched None)))
    ∙ (taken_on changes i [] None
    ∙ (append-nil (filter_map (put_before i) changes) ∙ ap (λ n. filter_map (put_before n) changes) (let z : i ≡ i + 0 = omega arith in z)))
from_rung changes i (rung ∷ base) =
    ap (λ (xs : List Source). xs ++ flat_map rungs_at (all_after changes (i + 1) (spots base))) (standing_on changes i [] rung)
    ∙ (ap (λ (xs : List Source). around changes (i, rung) ++ xs) (from_rung changes (i + 1) base)
    ∙ (sym (append_assoc (around changes (i, rung)) (flat_map (around changes) (enumerate_from (i + 1) base)) (filter_map (put_before (i + 1 + length base)) changes))
    ∙ ap (λ n. (around changes (i, rung) ++ flat_map (around changes) (enumerate_from (i + 1) base)) ++ filter_map (put_before n) changes) (let z : i + 1 + length base ≡ i + suc (length base) = omega arith in z)))

pub merges-edits : MergesEdits
merges-edits base changes =
    sym (ap (flat_map rungs_at) (spot_by_spot changes (spots base))
    ∙ (from_rung changes 0 base ∙ ap (λ n. flat_map (around changes) (enumerate_from 0 base) ++ filter_map (put_before n) changes) (let z : 0 + length base ≡ length base = omega arith in z)))
