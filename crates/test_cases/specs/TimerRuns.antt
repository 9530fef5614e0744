-- Runs of timers and counters.
use Rattle.std.specs.Prelude.{◌≡◌, [], ◌∷◌, codes, pos, negsuc}
use Rattle.spec_language.specs.declared.types.Base.TheVariants.{Dint}
use Rattle.spec_machine.specs.Project.{Project}
use Rattle.test_cases.specs.Samples.{array, bool, dint, timer, counter, continuous, plain, with_words, input, is_initially, lines, replay}

-- The first execution enables the timer; later ones add the ticks since the last.
abbrev pub timer_over_ticks : Project
timer_over_ticks = plain (timer (codes "t") ∷ []) (continuous (codes "TON(t,?,?);" ∷ []) ∷ []) (is_initially (codes "t.PRE") (pos 5) ∷ []) (codes "t.ACC" ∷ codes "t.DN" ∷ [])

abbrev pub TimerOverTicks : Type 0
TimerOverTicks = replay timer_over_ticks (lines (codes "mode run"
    ∷ codes "cpu 3"
    ∷ codes "tick 3"
    ∷ codes "cpu 3"
    ∷ codes "tick 6"
    ∷ codes "cpu 3"
    ∷ codes "end"
    ∷ []))
    ≡ lines (codes "0 0 reply 31 ok"
    ∷ codes "0 1 begin T P 0"
    ∷ codes "3 4 begin T P 0"
    ∷ codes "3 5 set t.ACC 3"
    ∷ codes "9 7 begin T P 0"
    ∷ codes "9 8 set t.ACC 9"
    ∷ codes "9 8 set t.DN 1"
    ∷ codes "end 9 9 run lost 0"
    ∷ [])

-- RTO keeps its ticks while its condition is false.
abbrev pub retentive_timer : Project
retentive_timer = with_words (dint (codes "Local:1:I") ∷ timer (codes "t") ∷ []) (continuous (codes "XIC(Local:1:I.0)RTO(t,?,?);" ∷ []) ∷ []) (input (codes "In") (codes "Local:1:I") ∷ []) (is_initially (codes "Local:1:I") (pos 1) ∷ is_initially (codes "t.PRE") (pos 5) ∷ []) (codes "t.ACC" ∷ codes "t.DN" ∷ [])

abbrev pub RetentiveTimer : Type 0
RetentiveTimer = replay retentive_timer (lines (codes "mode run"
    ∷ codes "cpu 4"
    ∷ codes "tick 3"
    ∷ codes "cpu 4"
    ∷ codes "@0 in In 0 0"
    ∷ codes "cpu 4"
    ∷ codes "tick 10"
    ∷ codes "@0 in In 0 1"
    ∷ codes "cpu 4"
    ∷ codes "tick 2"
    ∷ codes "cpu 4"
    ∷ codes "tick 3"
    ∷ codes "cpu 4"
    ∷ codes "end"
    ∷ []))
    ≡ lines (codes "0 0 reply 31 ok"
    ∷ codes "0 1 begin T P 0"
    ∷ codes "3 5 begin T P 0"
    ∷ codes "3 7 set t.ACC 3"
    ∷ codes "3 8 reply 0 ok"
    ∷ codes "3 9 begin T P 0"
    ∷ codes "13 12 reply 0 ok"
    ∷ codes "13 13 begin T P 0"
    ∷ codes "15 17 begin T P 0"
    ∷ codes "15 19 set t.ACC 5"
    ∷ codes "15 19 set t.DN 1"
    ∷ codes "18 21 begin T P 0"
    ∷ codes "end 18 24 run lost 0"
    ∷ [])

-- TOF is done at once and no longer done when its condition has been false for the preset.
abbrev pub off_delay : Project
off_delay = with_words (dint (codes "Local:1:I") ∷ timer (codes "t") ∷ []) (continuous (codes "XIC(Local:1:I.0)TOF(t,?,?);" ∷ []) ∷ []) (input (codes "In") (codes "Local:1:I") ∷ []) (is_initially (codes "Local:1:I") (pos 1) ∷ is_initially (codes "t.PRE") (pos 5) ∷ []) (codes "t.ACC" ∷ codes "t.TT" ∷ codes "t.DN" ∷ [])

abbrev pub OffDelay : Type 0
OffDelay = replay off_delay (lines (codes "mode run"
    ∷ codes "cpu 4"
    ∷ codes "@0 in In 0 0"
    ∷ codes "tick 2"
    ∷ codes "cpu 4"
    ∷ codes "tick 3"
    ∷ codes "cpu 4"
    ∷ codes "tick 2"
    ∷ codes "cpu 8"
    ∷ codes "tick 2"
    ∷ codes "cpu 4"
    ∷ codes "end"
    ∷ []))
    ≡ lines (codes "0 0 reply 31 ok"
    ∷ codes "0 0 set t.ACC 5"
    ∷ codes "0 1 begin T P 0"
    ∷ codes "0 3 set t.ACC 0"
    ∷ codes "0 3 set t.DN 1"
    ∷ codes "0 4 reply 0 ok"
    ∷ codes "2 5 begin T P 0"
    ∷ codes "2 7 set t.TT 1"
    ∷ codes "5 9 begin T P 0"
    ∷ codes "5 11 set t.ACC 3"
    ∷ codes "7 13 begin T P 0"
    ∷ codes "7 15 set t.ACC 5"
    ∷ codes "7 15 set t.TT 0"
    ∷ codes "7 15 set t.DN 0"
    ∷ codes "7 17 begin T P 0"
    ∷ codes "9 21 begin T P 0"
    ∷ codes "end 9 24 run lost 0"
    ∷ [])

-- A timer with a negative preset is at fault.
abbrev pub negative_preset : Project
negative_preset = plain (timer (codes "t") ∷ []) (continuous (codes "TON(t,?,?);" ∷ []) ∷ []) (is_initially (codes "t.PRE") (negsuc 0) ∷ []) (codes "t.EN" ∷ [])

abbrev pub NegativePreset : Type 0
NegativePreset = replay negative_preset (lines (codes "mode run"
    ∷ codes "cpu 3"
    ∷ codes "end"
    ∷ []))
    ≡ lines (codes "0 0 reply 31 ok"
    ∷ codes "0 1 begin T P 0"
    ∷ codes "0 2 fault major 4/34 T P"
    ∷ codes "end 0 3 faulted lost 0"
    ∷ [])

-- A timer that last counted at a later tick, as a copy may have it, gains nothing.
abbrev pub time_backwards : Project
time_backwards = plain (array (codes "w") Dint 4 ∷ timer (codes "t") ∷ []) (continuous (codes "COP(w[0],t,1)TON(t,?,?);" ∷ []) ∷ []) (is_initially (codes "w[0]") (negsuc 2147483647) ∷ is_initially (codes "w[1]") (pos 5) ∷ is_initially (codes "w[2]") (pos 1) ∷ is_initially (codes "w[3]") (pos 100) ∷ []) (codes "t.ACC" ∷ codes "t.DN" ∷ [])

abbrev pub TimeBackwards : Type 0
TimeBackwards = replay time_backwards (lines (codes "mode run"
    ∷ codes "cpu 5"
    ∷ codes "end"
    ∷ []))
    ≡ lines (codes "0 0 reply 31 ok"
    ∷ codes "0 1 begin T P 0"
    ∷ codes "0 3 set t.ACC 1"
    ∷ codes "end 0 5 run lost 0"
    ∷ [])

-- Behind the greatest value comes the least, with the overflow bit; the first scan counts nothing.
abbrev pub counter_rollover : Project
counter_rollover = plain (counter (codes "c") ∷ []) (continuous (codes "XIO(S:FS)CTU(c,?,?);" ∷ []) ∷ []) (is_initially (codes "c.PRE") (pos 10) ∷ is_initially (codes "c.ACC") (pos 2147483647) ∷ []) (codes "c.ACC" ∷ codes "c.OV" ∷ codes "c.DN" ∷ [])

abbrev pub CounterRollover : Type 0
CounterRollover = replay counter_rollover (lines (codes "mode run"
    ∷ codes "cpu 7"
    ∷ codes "end"
    ∷ []))
    ≡ lines (codes "0 0 reply 31 ok"
    ∷ codes "0 1 begin T P 0"
    ∷ codes "0 3 set c.DN 1"
    ∷ codes "0 5 begin T P 0"
    ∷ codes "0 7 set c.ACC -2147483648"
    ∷ codes "0 7 set c.OV 1"
    ∷ codes "0 7 set c.DN 0"
    ∷ codes "end 0 7 run lost 0"
    ∷ [])

-- Behind the least value comes the greatest, with the underflow bit; RES clears both numbers.
abbrev pub count_down : Project
count_down = plain (bool (codes "a") ∷ counter (codes "c") ∷ []) (continuous (codes "XIO(S:FS)CTD(c,?,?)XIC(a)RES(c);" ∷ []) ∷ []) (is_initially (codes "a") (pos 1) ∷ is_initially (codes "c.ACC") (negsuc 2147483647) ∷ []) (codes "c.ACC" ∷ codes "c.UN" ∷ codes "c.DN" ∷ [])

abbrev pub CountDown : Type 0
CountDown = replay count_down (lines (codes "mode run"
    ∷ codes "cpu 11"
    ∷ codes "end"
    ∷ []))
    ≡ lines (codes "0 0 reply 31 ok"
    ∷ codes "0 1 begin T P 0"
    ∷ codes "0 7 begin T P 0"
    ∷ codes "0 9 set c.ACC 2147483647"
    ∷ codes "0 9 set c.UN 1"
    ∷ codes "0 9 set c.DN 1"
    ∷ codes "0 11 set c.ACC 0"
    ∷ codes "0 11 set c.UN 0"
    ∷ codes "0 11 set c.DN 0"
    ∷ codes "end 0 11 run lost 0"
    ∷ [])
