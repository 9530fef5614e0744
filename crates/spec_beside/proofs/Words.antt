-- Timers, counters and RES change no byte outside their own.
use Rattle.std.specs.Prelude.{not}
use Rattle.std.specs.Int.{w32}
use Rattle.std.proofs.Common.{◌≡◌, ℕ, ◌+◌, ◌*◌, ◌<◌, ◌≤◌, inl, inr, Bool, true, false, if◌then◌else◌, List, ℤ, pos, get_or, Option, Some, None, refl, ◌∙◌, arith}
use Rattle.lgx_num.specs.declared.number.Kind.TheVariants.{Bool as KBool}
use Rattle.lgx_num.specs.declared.number.Kind.TheVariants.{Dint}
use Rattle.lgx_num.specs.Number.{signed_bytes}
use Rattle.lgx_num.specs.Number.{int_eq, least, greatest}
use Rattle.lgx_num.proofs.Images.{splice_before, splice_behind}
use Rattle.lgx_rung.specs.declared.op.Op.{Op}
use Rattle.lgx_rung.specs.declared.op.Op.TheVariants.{Ton, Rto, Tof, Ctu, Ctd}
use Rattle.spec_scan.specs.Arguments.{bit_number}
use Rattle.spec_scan.specs.StatusWords.{en_bit, tt_bit, dn_bit, cu_bit, cd_bit, ov_bit, un_bit, status, put_status, put_dint, put_acc, put_last_tick, acc, is_reached, reset}
use Rattle.spec_scan.specs.Timers.{has_negative, accumulated, counted_on, with_done_on, count_on, counted_off, with_done_off, count_off, timer}
use Rattle.spec_scan.specs.Counters.{one_up, one_down, with_done, counter}
use Rattle.spec_beside.specs.Misses.{IsBeside}
use Rattle.spec_beside.proofs.Beside.{written_beside}

abbrev pub Same : ℕ → List ℕ → List ℕ → Type 0
Same b after image = get_or after b 0 ≡ get_or image b 0

abbrev pub SameSome : ℕ → Option (List ℕ) → List ℕ → Type 0
SameSome b None image = Unit {0}
SameSome b (Some after) image = Same b after image

-- a block of `size` bytes at `at`, which byte b is beside
module _ (at size b : ℕ) (beside : IsBeside at (at + size) b) where
  pub status_same : (k : ℕ) (v : Bool) (image : List ℕ) → k < 32 → 4 ≤ size → Same b (put_status at k v image) image
  status_same k v image few room = go beside
    where
      go : IsBeside at (at + size) b → Same b (put_status at k v image) image
      go (inl before) = written_beside KBool image (8 * at + k) (bit_number v) b (inl (omega arith))
      go (inr after) = written_beside KBool image (8 * at + k) (bit_number v) b (inr (omega arith))

  pub dint_same : (off : ℕ) (v : ℤ) (image : List ℕ) → off + 4 ≤ size → Same b (put_dint (at + off) v image) image
  dint_same off v image room = go beside
    where
      go : IsBeside at (at + size) b → Same b (put_dint (at + off) v image) image
      go (inl before) = splice_before image (at + off) (signed_bytes w32 v) b (omega arith)
      go (inr after) = let l : at + off + 4 ≤ b = omega arith in splice_behind image (at + off) (signed_bytes w32 v) b l

  if_same : (c : Bool) (x y image : List ℕ) → Same b x image → Same b y image → Same b (if c then x else y) image
  if_same true x y image h k = h
  if_same false x y image h k = k

  -- RES
  pub reset_same : 12 ≤ size → (on : Bool) (image : List ℕ) → Same b (reset at on image) image
  reset_same room true image = first (put_acc at (pos 0) image) ∙ dint_same 8 (pos 0) image (omega arith)
    where
      first : (i : List ℕ) → Same b (put_dint at (pos 0) i) i
      first i = go beside
        where
          go : IsBeside at (at + size) b → Same b (put_dint at (pos 0) i) i
          go (inl before) = splice_before i at (signed_bytes w32 (pos 0)) b before
          go (inr after) = let l : at + 4 ≤ b = omega arith in splice_behind i at (signed_bytes w32 (pos 0)) b l
  reset_same room false image = refl

  module _ (room : 12 ≤ size) where
    put_same : (k : ℕ) (v : Bool) (i : List ℕ) → k < 32 → Same b (put_status at k v i) i
    put_same k v i few = status_same k v i few (omega arith)

    acc_same : (v : ℤ) (i : List ℕ) → Same b (put_acc at v i) i
    acc_same v i = dint_same 8 v i (omega arith)

    -- counters
    up_same : (image : List ℕ) → Same b (one_up at image) image
    up_same image = if_same (int_eq (acc image at) (greatest Dint)) _ _ image (put_same ov_bit true _ (omega arith) ∙ acc_same (least Dint) image) (acc_same _ image)

    down_same : (image : List ℕ) → Same b (one_down at image) image
    down_same image = if_same (int_eq (acc image at) (least Dint)) _ _ image (put_same un_bit true _ (omega arith) ∙ acc_same (greatest Dint) image) (acc_same _ image)

    done_same : (x image : List ℕ) → Same b x image → Same b (with_done at x) image
    done_same x image h = put_same dn_bit (is_reached x at) x (omega arith) ∙ h

    pub counter_same : (op : Op) (on : Bool) (image : List ℕ) → Same b (counter op at on image) image
    counter_same Ctu true image = done_same _ image (if_same (status image at cu_bit) image _ image refl (up_same (put_status at cu_bit true image) ∙ put_same cu_bit true image (omega arith)))
    counter_same Ctu false image = done_same _ image (put_same cu_bit false image (omega arith))
    counter_same Ctd true image = done_same _ image (if_same (status image at cd_bit) image _ image refl (down_same (put_status at cd_bit true image) ∙ put_same cd_bit true image (omega arith)))
    counter_same Ctd false image = done_same _ image (put_same cd_bit false image (omega arith))
    counter_same _ on image = refl

  -- timers
  module _ (room : 16 ≤ size) where
    bit_same : (k : ℕ) (v : Bool) (i : List ℕ) → k < 32 → Same b (put_status at k v i) i
    bit_same k v i few = status_same k v i few (omega arith)

    sum_same : (v : ℤ) (i : List ℕ) → Same b (put_acc at v i) i
    sum_same v i = dint_same 8 v i (omega arith)

    tick_same : (now : ℕ) (i : List ℕ) → Same b (put_last_tick at now i) i
    tick_same now i = dint_same 12 (pos now) i (omega arith)

    on_same : (now : ℕ) (image : List ℕ) → Same b (counted_on at now image) image
    on_same now image = if_same (not (status image at en_bit)) _ _ image (bit_same en_bit true image (omega arith)) (if_same (not (status image at dn_bit)) _ image image (sum_same (accumulated image at now) image) refl)

    off_same : (now : ℕ) (image : List ℕ) → Same b (counted_off at now image) image
    off_same now image = if_same (status image at en_bit) _ _ image (bit_same en_bit false image (omega arith)) (sum_same (accumulated image at now) image)

    done_on_same : (x : List ℕ) → Same b (with_done_on at x) x
    done_on_same x = bit_same dn_bit (is_reached x at) _ (omega arith) ∙ bit_same tt_bit (not (is_reached x at)) x (omega arith)

    done_off_same : (x : List ℕ) → Same b (with_done_off at x) x
    done_off_same x = if_same (is_reached x at) _ _ x (bit_same dn_bit false _ (omega arith) ∙ bit_same tt_bit false x (omega arith)) (bit_same tt_bit true x (omega arith))

    some_same : (c : Bool) (x image : List ℕ) → Same b x image → SameSome b (if c then None else Some x) image
    some_same true x image h = tt
    some_same false x image h = h

    count_on_same : (now : ℕ) (image : List ℕ) → SameSome b (count_on at now image) image
    count_on_same now image = some_same (has_negative image at) _ image (done_on_same _ ∙ (tick_same now (counted_on at now image) ∙ on_same now image))

    count_off_same : (now : ℕ) (image : List ℕ) → SameSome b (count_off at now image) image
    count_off_same now image = go (not (status image at dn_bit))
      where
        go : (c : Bool) → SameSome b (if c then Some (put_status at en_bit false (put_status at tt_bit false image)) else (if has_negative image at then None else Some (with_done_off at (put_last_tick at now (counted_off at now image))))) image
        go true = bit_same en_bit false _ (omega arith) ∙ bit_same tt_bit false image (omega arith)
        go false = some_same (has_negative image at) _ image (done_off_same _ ∙ (tick_same now (counted_off at now image) ∙ off_same now image))

    pub timer_same : (op : Op) (on : Bool) (now : ℕ) (image : List ℕ) → SameSome b (timer op at on now image) image
    timer_same Ton true now image = count_on_same now image
    timer_same Ton false now image = sum_same (pos 0) _ ∙ (bit_same en_bit false _ (omega arith) ∙ (bit_same tt_bit false _ (omega arith) ∙ bit_same dn_bit false image (omega arith)))
    timer_same Rto true now image = count_on_same now image
    timer_same Rto false now image = bit_same en_bit false _ (omega arith) ∙ bit_same tt_bit false image (omega arith)
    timer_same Tof true now image = tick_same now _ ∙ (sum_same (pos 0) _ ∙ (bit_same en_bit true _ (omega arith) ∙ (bit_same tt_bit false _ (omega arith) ∙ bit_same dn_bit true image (omega arith))))
    timer_same Tof false now image = count_off_same now image
    timer_same _ on now image = refl
