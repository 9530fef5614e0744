-- The timer instructions (1756-RM003).
use Rattle.std.specs.Prelude.{ℕ, Bool, true, false, not, ◌||◌, List, ℤ, pos, ◌+ℤ◌, ◌-ℤ◌, if◌then◌else◌, Option, Some, None, int_lt}
use Rattle.std.specs.Int.{int_min, int_max}
use Rattle.lgx_rung.specs.declared.op.Op.{Op}
use Rattle.lgx_rung.specs.declared.op.Op.TheVariants.{Ton, Rto, Tof}
use Rattle.spec_scan.specs.StatusWords.{en_bit, tt_bit, dn_bit, status, put_status, pre, acc, put_acc, last_tick, put_last_tick, is_reached}

-- A timer that has a negative preset or accumulator doesn't count: that is a major fault.
abbrev pub has_negative : List ℕ → ℕ → Bool
has_negative image at = int_lt (pre image at) (pos 0) || int_lt (acc image at) (pos 0)

-- The accumulator with the ticks since the last count. It stays at its greatest value, and time that runs backwards
-- adds nothing.
abbrev pub accumulated : List ℕ → ℕ → ℕ → ℤ
accumulated image at now = int_min (pos 2147483647) (acc image at +ℤ int_max (pos 0) (pos now -ℤ last_tick image at))

abbrev pub add_ticks : ℕ → ℕ → List ℕ → List ℕ
add_ticks at now image = put_acc at (accumulated image at now) image

-- ---- TON and RTO with a true condition (profile)

-- The first of them in a row enables the timer; each later one adds the ticks, until the timer is done.
abbrev pub counted_on : ℕ → ℕ → List ℕ → List ℕ
counted_on at now image =
    if not (status image at en_bit) then put_status at en_bit true image else
    (if not (status image at dn_bit) then add_ticks at now image else image)

-- Done where the accumulator has come up to the preset, and else timing.
abbrev pub with_done_on : ℕ → List ℕ → List ℕ
with_done_on at image = put_status at dn_bit (is_reached image at) (put_status at tt_bit (not (is_reached image at)) image)

abbrev pub count_on : ℕ → ℕ → List ℕ → Option (List ℕ)
count_on at now image =
    if has_negative image at then None else Some (with_done_on at (put_last_tick at now (counted_on at now image)))

-- ---- TOF with a false condition

-- The first of them in a row disables the timer; each later one adds the ticks.
abbrev pub counted_off : ℕ → ℕ → List ℕ → List ℕ
counted_off at now image = if status image at en_bit then put_status at en_bit false image else add_ticks at now image

-- No longer done where the accumulator has come up to the preset, and else timing.
abbrev pub with_done_off : ℕ → List ℕ → List ℕ
with_done_off at image =
    if is_reached image at then put_status at dn_bit false (put_status at tt_bit false image) else put_status at tt_bit true image

-- Where the timer isn't done it doesn't run, and its numbers aren't looked at.
abbrev pub count_off : ℕ → ℕ → List ℕ → Option (List ℕ)
count_off at now image =
    if not (status image at dn_bit) then Some (put_status at en_bit false (put_status at tt_bit false image)) else
    (if has_negative image at then None else Some (with_done_off at (put_last_tick at now (counted_off at now image))))

-- ---- the three timers

-- The image afterwards, or none where the timer is at fault. A false TON clears all three bits and the accumulator; a
-- false RTO keeps the accumulator and whether it is done. A true TOF is done at once, with an accumulator of 0.
abbrev pub timer : Op → ℕ → Bool → ℕ → List ℕ → Option (List ℕ)
timer Ton at true now image = count_on at now image
timer Ton at false now image =
    Some (put_acc at (pos 0) (put_status at en_bit false (put_status at tt_bit false (put_status at dn_bit false image))))
timer Rto at true now image = count_on at now image
timer Rto at false now image = Some (put_status at en_bit false (put_status at tt_bit false image))
timer Tof at true now image =
    Some (put_last_tick at now (put_acc at (pos 0) (put_status at en_bit true (put_status at tt_bit false (put_status at dn_bit true image)))))
timer Tof at false now image = count_off at now image
timer _ at on now image = Some image
