-- Timers, counters and RES make the same of images that are the same but at bytes which the timer or counter has nothing of.
use Rattle.std.specs.Prelude.{not, ◌||◌, ◌+ℤ◌, ◌-ℤ◌, int_le, int_lt, negsuc, ⊤}
use Rattle.std.specs.Int.{w32, int_min, int_max}
use Rattle.std.proofs.Common.{◌≡◌, ℕ, ◌+◌, ◌*◌, ◌/◌, ◌<◌, ◌≤◌, inl, inr, Bool, true, false, if◌then◌else◌, List, ℤ, pos, Option, Some, None, refl, ◌∙◌, ap, subst, arith}
use Rattle.lgx_num.specs.declared.number.Kind.TheVariants.{Bool as KBool, Dint}
use Rattle.lgx_num.specs.Number.{signed_bytes, signed_of, int_eq, least, greatest}
use Rattle.lgx_rung.specs.declared.op.Op.{Op}
use Rattle.lgx_rung.specs.declared.op.Op.TheVariants.{Ton, Rto, Tof, Ctu, Ctd}
use Rattle.spec_scan.specs.Arguments.{is_one, bit_number}
use Rattle.spec_scan.specs.StatusWords.{en_bit, tt_bit, dn_bit, cu_bit, cd_bit, ov_bit, un_bit, status, put_status, dint, put_dint, pre, acc, last_tick, put_last_tick, is_reached, reset}
use Rattle.spec_scan.specs.Timers.{has_negative, accumulated, add_ticks, counted_on, with_done_on, count_on, counted_off, with_done_off, count_off, timer}
use Rattle.spec_scan.specs.Counters.{one_up, one_down, with_done, counter}
use Rattle.spec_beside.specs.Misses.{IsBeside}
use Rattle.spec_readers.specs.Reads.{AreSameBut}
use Rattle.spec_readers.proofs.Images.{splice_same, write_same, Spares, piece_same, number_same}

module _ (T : ℕ → Type 0) where
  abbrev Same : List ℕ → List ℕ → Type 0
  Same x y = AreSameBut T x y

  abbrev pub SameSome : Option (List ℕ) → Option (List ℕ) → Type 0
  SameSome (Some x) (Some y) = Same x y
  SameSome None None = ⊤
  SameSome _ _ = ⊥

  if_same : (c d : Bool) (x y u v : List ℕ) → c ≡ d → Same x y → Same u v → Same (if c then x else u) (if d then y else v)
  if_same true true x y u v e h k = h
  if_same false false x y u v e h k = k
  if_same true false x y u v e h k = absurd (cc e)
  if_same false true x y u v e h k = absurd (cc e)

  if_some : (c d : Bool) (x y u v : Option (List ℕ)) → c ≡ d → SameSome x y → SameSome u v → SameSome (if c then x else u) (if d then y else v)
  if_some true true x y u v e h k = h
  if_some false false x y u v e h k = k
  if_some true false x y u v e h k = absurd (cc e)
  if_some false true x y u v e h k = absurd (cc e)

  put_same : (at k : ℕ) (v w : Bool) (x y : List ℕ) → v ≡ w → Same x y → Same (put_status at k v x) (put_status at k w y)
  put_same at k v w x y e h = subst (λ (u : Bool). Same (put_status at k v x) (put_status at k u y)) e (write_same T KBool x y (8 * at + k) (bit_number v) h)

  dint_put : (at : ℕ) (v w : ℤ) (x y : List ℕ) → v ≡ w → Same x y → Same (put_dint at v x) (put_dint at w y)
  dint_put at v w x y e h = subst (λ (u : ℤ). Same (put_dint at v x) (put_dint at u y)) e (splice_same T x y at (signed_bytes w32 v) h)

  -- RES reads nothing
  pub reset_same : (at : ℕ) (on : Bool) (x y : List ℕ) → Same x y → Same (reset at on x) (reset at on y)
  reset_same at true x y h = dint_put at (pos 0) (pos 0) _ _ refl (dint_put (at + 8) (pos 0) (pos 0) x y refl h)
  reset_same at false x y h = h

  -- a block of `size` bytes at `at`
  module _ (at size : ℕ) (spares : Spares T at (at + size)) (room : 12 ≤ size) where
    bit_spares : (k : ℕ) → k < 32 → Spares T ((8 * at + k) / 8) ((8 * at + k) / 8 + 1)
    bit_spares k few b t = go (spares b t)
      where
        go : IsBeside at (at + size) b → IsBeside ((8 * at + k) / 8) ((8 * at + k) / 8 + 1) b
        go (inl before) = inl (omega arith)
        go (inr after) = inr (omega arith)

    status_same : (k : ℕ) (x y : List ℕ) → k < 32 → Same x y → status x at k ≡ status y at k
    status_same k x y few h = ap is_one (number_same T KBool x y (8 * at + k) h (bit_spares k few))

    dint_same : (off : ℕ) (x y : List ℕ) → off + 4 ≤ size → Same x y → dint x (at + off) ≡ dint y (at + off)
    dint_same off x y few h = ap (signed_of w32) (piece_same T x y at (at + size) (at + off) 4 h spares (omega arith) (omega arith))

    acc_same : (x y : List ℕ) → Same x y → acc x at ≡ acc y at
    acc_same x y h = dint_same 8 x y (omega arith) h

    pre_same : (x y : List ℕ) → Same x y → pre x at ≡ pre y at
    pre_same x y h = dint_same 4 x y (omega arith) h

    reached_same : (x y : List ℕ) → Same x y → is_reached x at ≡ is_reached y at
    reached_same x y h = ap (λ (p : ℤ). int_le p (acc x at)) (pre_same x y h) ∙ ap (λ (a : ℤ). int_le (pre y at) a) (acc_same x y h)

    -- ---- counters

    up_same : (x y : List ℕ) → Same x y → Same (one_up at x) (one_up at y)
    up_same x y h =
        if_same (int_eq (acc x at) (greatest Dint)) (int_eq (acc y at) (greatest Dint)) _ _ _ _ (ap (λ (a : ℤ). int_eq a (greatest Dint)) (acc_same x y h))
        (put_same at ov_bit true true _ _ refl (dint_put (at + 8) (least Dint) (least Dint) x y refl h))
        (dint_put (at + 8) (acc x at +ℤ pos 1) (acc y at +ℤ pos 1) x y (ap (λ (a : ℤ). a +ℤ pos 1) (acc_same x y h)) h)

    down_same : (x y : List ℕ) → Same x y → Same (one_down at x) (one_down at y)
    down_same x y h =
        if_same (int_eq (acc x at) (least Dint)) (int_eq (acc y at) (least Dint)) _ _ _ _ (ap (λ (a : ℤ). int_eq a (least Dint)) (acc_same x y h))
        (put_same at un_bit true true _ _ refl (dint_put (at + 8) (greatest Dint) (greatest Dint) x y refl h))
        (dint_put (at + 8) (acc x at +ℤ negsuc 0) (acc y at +ℤ negsuc 0) x y (ap (λ (a : ℤ). a +ℤ negsuc 0) (acc_same x y h)) h)

    done_same : (x y : List ℕ) → Same x y → Same (with_done at x) (with_done at y)
    done_same x y h = put_same at dn_bit (is_reached x at) (is_reached y at) x y (reached_same x y h) h

    pub counter_same : (op : Op) (on : Bool) (x y : List ℕ) → Same x y → Same (counter op at on x) (counter op at on y)
    counter_same Ctu true x y h =
        done_same _ _ (if_same (status x at cu_bit) (status y at cu_bit) x y _ _ (status_same cu_bit x y (omega arith) h) h (up_same _ _ (put_same at cu_bit true true x y refl h)))
    counter_same Ctu false x y h = done_same _ _ (put_same at cu_bit false false x y refl h)
    counter_same Ctd true x y h =
        done_same _ _ (if_same (status x at cd_bit) (status y at cd_bit) x y _ _ (status_same cd_bit x y (omega arith) h) h (down_same _ _ (put_same at cd_bit true true x y refl h)))
    counter_same Ctd false x y h = done_same _ _ (put_same at cd_bit false false x y refl h)
    counter_same _ on x y h = h

    -- ---- timers

    module _ (more : 16 ≤ size) where
      negative_same : (x y : List ℕ) → Same x y → has_negative x at ≡ has_negative y at
      negative_same x y h =
          ap (λ (p : ℤ). int_lt p (pos 0) || int_lt (acc x at) (pos 0)) (pre_same x y h) ∙ ap (λ (a : ℤ). int_lt (pre y at) (pos 0) || int_lt a (pos 0)) (acc_same x y h)

      tick_same : (x y : List ℕ) → Same x y → last_tick x at ≡ last_tick y at
      tick_same x y h = dint_same 12 x y (omega arith) h

      sum_same : (now : ℕ) (x y : List ℕ) → Same x y → accumulated x at now ≡ accumulated y at now
      sum_same now x y h =
          ap (λ (a : ℤ). int_min (pos 2147483647) (a +ℤ int_max (pos 0) (pos now -ℤ last_tick x at))) (acc_same x y h)
          ∙ ap (λ (t : ℤ). int_min (pos 2147483647) (acc y at +ℤ int_max (pos 0) (pos now -ℤ t))) (tick_same x y h)

      add_same : (now : ℕ) (x y : List ℕ) → Same x y → Same (add_ticks at now x) (add_ticks at now y)
      add_same now x y h = dint_put (at + 8) (accumulated x at now) (accumulated y at now) x y (sum_same now x y h) h

      not_same : (k : ℕ) (x y : List ℕ) → k < 32 → Same x y → not (status x at k) ≡ not (status y at k)
      not_same k x y few h = ap not (status_same k x y few h)

      on_same : (now : ℕ) (x y : List ℕ) → Same x y → Same (counted_on at now x) (counted_on at now y)
      on_same now x y h =
          if_same (not (status x at en_bit)) (not (status y at en_bit)) _ _ _ _ (not_same en_bit x y (omega arith) h) (put_same at en_bit true true x y refl h)
          (if_same (not (status x at dn_bit)) (not (status y at dn_bit)) _ _ x y (not_same dn_bit x y (omega arith) h) (add_same now x y h) h)

      off_same : (now : ℕ) (x y : List ℕ) → Same x y → Same (counted_off at now x) (counted_off at now y)
      off_same now x y h =
          if_same (status x at en_bit) (status y at en_bit) _ _ _ _ (status_same en_bit x y (omega arith) h) (put_same at en_bit false false x y refl h) (add_same now x y h)

      ticked : (now : ℕ) (x y : List ℕ) → Same x y → Same (put_last_tick at now x) (put_last_tick at now y)
      ticked now x y h = dint_put (at + 12) (pos now) (pos now) x y refl h

      done_on_same : (x y : List ℕ) → Same x y → Same (with_done_on at x) (with_done_on at y)
      done_on_same x y h =
          put_same at dn_bit (is_reached x at) (is_reached y at) _ _ (reached_same x y h) (put_same at tt_bit (not (is_reached x at)) (not (is_reached y at)) x y (ap not (reached_same x y h)) h)

      done_off_same : (x y : List ℕ) → Same x y → Same (with_done_off at x) (with_done_off at y)
      done_off_same x y h =
          if_same (is_reached x at) (is_reached y at) _ _ _ _ (reached_same x y h) (put_same at dn_bit false false _ _ refl (put_same at tt_bit false false x y refl h)) (put_same at tt_bit true true x y refl h)

      count_on_same : (now : ℕ) (x y : List ℕ) → Same x y → SameSome (count_on at now x) (count_on at now y)
      count_on_same now x y h =
          if_some (has_negative x at) (has_negative y at) None None (Some _) (Some _) (negative_same x y h) tt (done_on_same _ _ (ticked now _ _ (on_same now x y h)))

      count_off_same : (now : ℕ) (x y : List ℕ) → Same x y → SameSome (count_off at now x) (count_off at now y)
      count_off_same now x y h =
          if_some (not (status x at dn_bit)) (not (status y at dn_bit)) (Some _) (Some _) _ _ (not_same dn_bit x y (omega arith) h)
          (put_same at en_bit false false _ _ refl (put_same at tt_bit false false x y refl h))
          (if_some (has_negative x at) (has_negative y at) None None (Some _) (Some _) (negative_same x y h) tt (done_off_same _ _ (ticked now _ _ (off_same now x y h))))

      pub timer_same : (op : Op) (on : Bool) (now : ℕ) (x y : List ℕ) → Same x y → SameSome (timer op at on now x) (timer op at on now y)
      timer_same Ton true now x y h = count_on_same now x y h
      timer_same Ton false now x y h =
          dint_put (at + 8) (pos 0) (pos 0) _ _ refl (put_same at en_bit false false _ _ refl (put_same at tt_bit false false _ _ refl (put_same at dn_bit false false x y refl h)))
      timer_same Rto true now x y h = count_on_same now x y h
      timer_same Rto false now x y h = put_same at en_bit false false _ _ refl (put_same at tt_bit false false x y refl h)
      timer_same Tof true now x y h =
          ticked now _ _ (dint_put (at + 8) (pos 0) (pos 0) _ _ refl (put_same at en_bit true true _ _ refl (put_same at tt_bit false false _ _ refl (put_same at dn_bit true true x y refl h))))
      timer_same Tof false now x y h = count_off_same now x y h
      timer_same _ on now x y h = h
