-- Runs, one after another.
use Rattle.std.proofs.Common.{◌≡◌, ℕ, suc, ◌+◌, ◌<◌, Bool, true, false, cond, nat_le, List, [], ◌∷◌, ◌++◌, length, take, drop, Option, Some, refl, sym, ap, ◌∙◌, append_assoc, eqb, true≢false, arith}
use Rattle.lgx_picture.specs.declared.marks.Mark.{Mark}
use Rattle.lgx_picture.specs.declared.scale.Scale.{Scale}
use Rattle.lgx_picture.specs.declared.sizes.TheConstants.{GAP}
use Rattle.lgx_picture.specs.Marks.{first_x, joined, runs_of, run_text, next_x, run_texts}
use Rattle.lgx_picture.specs.Runs.{close_after, first_run}

-- ---- where the next run begins

next_by : (b : Bool) (m n : Mark) (run : List Mark) (others : List (List Mark)) → next_x (cond b ((m ∷ n ∷ run) ∷ others) ((m ∷ []) ∷ (n ∷ run) ∷ others)) ≡ Some m.x
next_by true m n run others = refl
next_by false m n run others = refl

next_joined : (m : Mark) (others : List (List Mark)) → next_x (joined m others) ≡ Some m.x
next_joined m [] = refl
next_joined m ([] ∷ others) = refl
next_joined m ((n ∷ run) ∷ others) = next_by (nat_le n.x (m.x + GAP)) m n run others

next_of : (ms : List Mark) → next_x (runs_of ms) ≡ first_x ms
next_of [] = refl
next_of (m ∷ ms) = next_joined m (runs_of ms)

-- ---- the first run

cut_by : (b : Bool) (m n : Mark) (ns : List Mark) (k : ℕ) → runs_of (n ∷ ns) ≡ (n ∷ take k ns) ∷ runs_of (drop k ns)
    → cond b ((m ∷ n ∷ take k ns) ∷ runs_of (drop k ns)) ((m ∷ []) ∷ (n ∷ take k ns) ∷ runs_of (drop k ns)) ≡ (m ∷ take (cond b (k + 1) 0) (n ∷ ns)) ∷ runs_of (drop (cond b (k + 1) 0) (n ∷ ns))
cut_by true m n ns k ih = let e : k + 1 ≡ suc k = omega arith in rw e refl
cut_by false m n ns k ih = ap (λ rs. (m ∷ []) ∷ rs) (sym ih)

run_cut : (m : Mark) (ms : List Mark) → runs_of (m ∷ ms) ≡ (m ∷ take (close_after m.x ms) ms) ∷ runs_of (drop (close_after m.x ms) ms)
run_cut m [] = refl
run_cut m (n ∷ ns) =
    ap (joined m) (run_cut n ns) ∙ cut_by (nat_le n.x (m.x + GAP)) m n ns (close_after n.x ns) (run_cut n ns)

run_split : (ms : List Mark) → 0 < length ms → runs_of ms ≡ take (first_run ms) ms ∷ runs_of (drop (first_run ms) ms)
run_split [] h = absurd (omega arith)
run_split (m ∷ ms) h = let e : close_after m.x ms + 1 ≡ suc (close_after m.x ms) = omega arith in rw e (run_cut m ms)

pub texts_split : (scale : Scale) (top : ℕ) (ms : List Mark) → 0 < length ms
    → run_texts scale top (runs_of ms) ≡ run_text scale top (first_x (drop (first_run ms) ms)) (take (first_run ms) ms) ++ run_texts scale top (runs_of (drop (first_run ms) ms))
texts_split scale top ms h =
    let rest = drop (first_run ms) ms in
    ap (run_texts scale top) (run_split ms h) ∙ ap (λ x. run_text scale top x (take (first_run ms) ms) ++ run_texts scale top (runs_of rest)) (next_of rest)

-- ---- a run that is written

pub some_marks : (r : Bool) (ms : List Mark) → r ≡ eqb (length ms) 0 → r ≡ false → 0 < length ms
some_marks r [] e f = absurd (true≢false (sym e ∙ f))
some_marks r (m ∷ ms) e f = omega arith

pub one_run_more : (scale : Scale) (top : ℕ) (old new : List ℕ) (ms : List Mark) (count : ℕ) (run after : List Mark) (x : Option ℕ)
    → 0 < length ms → count ≡ first_run ms → run ≡ take count ms → after ≡ drop count ms → x ≡ first_x after → new ≡ old ++ run_text scale top x run
    → new ++ run_texts scale top (runs_of after) ≡ old ++ run_texts scale top (runs_of ms)
one_run_more scale top old new ms count run after x some h a b d e =
    let split = append_assoc old (run_text scale top (first_x (drop (first_run ms) ms)) (take (first_run ms) ms)) (run_texts scale top (runs_of (drop (first_run ms) ms))) in
    rw e (rw d (rw a (rw b (rw h (split ∙ ap (λ t. old ++ t) (sym (texts_split scale top ms some)))))))
