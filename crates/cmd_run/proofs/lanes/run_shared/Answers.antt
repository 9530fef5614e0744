use Rattle.std.proofs.Common.{◌≡◌, ◌<◌, ℕ, List, ◌++◌, length, take, drop, vec_len, slice_index_or, subst, ◌∙◌, arith}
use Rattle.std.proofs.Math.Seq.{take-append_seam}
use Rattle.cmd_run.proofs.lanes.run_shared.Goals as goal

-- what was lent stands where it stood
whole_again : {A : Type 0} (front rest : List A) (n : ℕ) → length front ≡ n → take n (front ++ rest) ≡ front
whole_again front rest n is = subst (λ k. take k (front ++ rest) ≡ front) is (take-append_seam front rest)

pub run_lanes-requires-after_bounds : goal.run_lanes-requires-after_bounds
run_lanes-requires-after_bounds g c = λ κs bounds i d below.
    let inside : i < vec_len c.in_ok-shared.passes = omega (arith, c.as_mut_slice.ensures.len) in
    let h = c.in_ok-shared.ensures.counts i d inside in
    rw c.as_mut_slice.ensures.value (omega (arith, h.0), omega (arith, h.1), h.2, h.3)

pub returns-clause-ran : goal.returns-clause-ran
returns-clause-ran g c =
    let len : length c.run_lanes.new.passes ≡ c.in_ok-shared.passes.len = omega (arith, c.run_lanes.ensures.len, c.as_mut_slice.ensures.len) in
    let back = whole_again c.run_lanes.new.passes (drop (length c.run_lanes.new.passes) c.in_ok-shared.passes.items) c.in_ok-shared.passes.len len in
    c.close.ensures.ran.1 (λ i d below. rw back (λ ends short.
    let inside : i < length c.as_mut_slice.result.now = omega (arith, c.as_mut_slice.ensures.len) in
    let turns = c.run_lanes.ensures.ran i d inside ends short in
    let same = c.run_lanes.ensures.same i d inside in
    omega (arith, turns, same.1, same.2)))

pub close-requires-clause-lanes : goal.close-requires-clause-lanes
close-requires-clause-lanes g c = λ i d below.
    let len : length c.run_lanes.new.passes ≡ c.in_ok-shared.passes.len = omega (arith, c.run_lanes.ensures.len, c.as_mut_slice.ensures.len) in
    let back = whole_again c.run_lanes.new.passes (drop (length c.run_lanes.new.passes) c.in_ok-shared.passes.items) c.in_ok-shared.passes.len len in
    let inside : i < length c.as_mut_slice.result.now = omega (arith, c.as_mut_slice.ensures.len) in
    let same = c.run_lanes.ensures.same i d inside in
    let first : (slice_index_or c.as_mut_slice.result.now i d).lane ≡ i = rw c.as_mut_slice.ensures.value (c.in_ok-shared.ensures.lanes i d below) in
    rw back (same.0 ∙ first)
