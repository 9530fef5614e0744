-- The lines of a script, one by one.
use Rattle.std.proofs.Common.{◌≡◌, ℕ, zero, suc, ◌+◌, ◌<◌, List, [], ◌∷◌, ◌++◌, length, length-append, replicate, Bool, true, false, cond, not, ◌&&◌, nat_lt, nat_le, Option, Some, None, Result, Ok, Err, IfOk, IsTrue, sum_by, slice_set, slice_index_or, refl, sym, ap, subst, ◌∙◌, arith}
use Rattle.std.specs.List.{last_or}
use Rattle.std.proofs.lemmas.List.{replicate-append-replicate, length-replicate}
use Rattle.std.proofs.lemmas.List.Folds.{sum_by-replicate}
use Rattle.std.proofs.lemmas.List.Sums.{sum_by-set}
use Rattle.spec_text.specs.declared.script.Timed.{Timed}
use Rattle.spec_text.specs.declared.script.JournalCode.{JournalCode}
use Rattle.spec_text.specs.declared.script.JournalCode.TheVariants.{J1, J2, J3, J4, J5}
use Rattle.spec_base.specs.declared.limits.TheConstants.{MAX_ACTIONS, OWN_LANE}
use Rattle.spec_base.specs.FirstCause.{◌>>=◌, unless, some_or}
use Rattle.spec_text.specs.TextLines.{words}
use Rattle.spec_text.specs.JournalText.{is_line}
use Rattle.spec_text.specs.Scripts.{Script, script, actions_in, is_out, last_tick, is_script}
use Rattle.spec_text.specs.ScriptText.{LaneAction, bare, header_of, read_header, lane_action_of, with_lane_action, last_at, read_lane_line, script_of, at_or_zero}
use Rattle.spec_text.proofs.KeptScripts.{scripts_are_kept}
use Rattle.lgx_journal.specs.Reading.{lane_fault}

-- ---- lanes

pub replicate_more : {A : Type 0} (n : ℕ) (x : A) → replicate n x ++ x ∷ [] ≡ replicate (n + 1) x
replicate_more n x = replicate-append-replicate n 1 x

-- an element doesn't depend on what stands for a missing one
pub item_default : (xs : List (List Timed)) (i : ℕ) (d e : List Timed) → i < length xs → slice_index_or xs i d ≡ slice_index_or xs i e
item_default [] i d e h = absurd (omega arith)
item_default (x ∷ xs) zero d e h = refl
item_default (x ∷ xs) (suc i) d e h = item_default xs i d e (omega arith)

-- what is set last stays
pub set_twice : (xs : List (List Timed)) (i : ℕ) (y z : List Timed) → slice_set (slice_set xs i y) i z ≡ slice_set xs i z
set_twice [] i y z = refl
set_twice (x ∷ xs) zero y z = refl
set_twice (x ∷ xs) (suc i) y z = ap (λ ys. x ∷ ys) (set_twice xs i y z)

-- what stands there already is set again
pub set_again : (xs : List (List Timed)) (i : ℕ) (y d : List Timed) → y ≡ slice_index_or xs i d → i < length xs → slice_set xs i y ≡ xs
set_again [] i y d e h = absurd (omega arith)
set_again (x ∷ xs) zero y d e h = ap (λ z. z ∷ xs) e
set_again (x ∷ xs) (suc i) y d e h = ap (λ ys. x ∷ ys) (set_again xs i y d e (omega arith))

pub bare_actions : (steps pace n : ℕ) (lanes : List (List Timed)) → lanes ≡ replicate n [] → actions_in (script steps pace lanes) ≡ 0
bare_actions steps pace n lanes e =
    let none = ap (λ ls. sum_by (λ (lane : List Timed). length lane) ls) e ∙ sum_by-replicate (λ (lane : List Timed). length lane) n [] in
    omega (arith, none)

pub actions_more : (steps pace : ℕ) (lanes : List (List Timed)) (i : ℕ) (t : Timed) → i < length lanes → actions_in (script steps pace (slice_set lanes i (slice_index_or lanes i [] ++ t ∷ []))) ≡ actions_in (script steps pace lanes) + 1
actions_more steps pace lanes i t h =
    let len = λ (lane : List Timed). length lane in
    search (arith, sum_by-set len lanes i (slice_index_or lanes i [] ++ t ∷ []) [] h, length-append (slice_index_or lanes i []) (t ∷ []))

-- the last action of a lane
pub last_at_end : (lane : List Timed) (i : ℕ) (t : Timed) → suc i ≡ length lane → t ≡ slice_index_or lane i t → t.at ≡ at_or_zero (last_or None lane)
last_at_end lane i t = go None lane i
  where
    go : (o : Option Timed) (ts : List Timed) (j : ℕ) → suc j ≡ length ts → t ≡ slice_index_or ts j t → t.at ≡ at_or_zero (last_or o ts)
    go o [] j h e = absurd (omega arith)
    go o (x ∷ []) zero h e = ap (λ (y : Timed). y.at) e
    go o (x ∷ []) (suc j) h e = absurd (omega arith)
    go o (x ∷ y ∷ ts) zero h e = absurd (omega arith)
    go o (x ∷ y ∷ ts) (suc j) h e = go (Some x) (y ∷ ts) j (omega arith) e

pub last_of_none : (lane : List Timed) → length lane ≡ 0 → 0 ≡ at_or_zero (last_or None lane)
last_of_none [] h = refl
last_of_none (t ∷ ts) h = absurd (omega arith)

-- ---- the first line

abbrev when_within : Bool → Script → Result Script JournalCode
when_within b s = do
  _ ← unless b J4
  Ok s

abbrev by_header : Bool → Option Script → Result Script JournalCode
by_header fits o = do
  _ ← unless fits J1
  s ← some_or o J1
  when_within (not (is_out s.steps) && not (is_out s.pace) && nat_le (length s.lanes) OWN_LANE) s

-- a first line of the right form, whether its numbers are within their limits or not
header_when : (line : List ℕ) (steps pace lanes : ℕ) (b : Bool) → is_line line ≡ true → header_of (words line) ≡ Some (bare steps pace lanes) → (not (is_out steps) && not (is_out pace) && nat_le lanes OWN_LANE) ≡ b
    → read_header line ≡ when_within b (bare steps pace lanes)
header_when line steps pace lanes b fits is within =
    ap (λ c. by_header c (header_of (words line))) fits ∙ ap (by_header true) is
    ∙ ap (λ n. when_within (not (is_out steps) && not (is_out pace) && nat_le n OWN_LANE) (bare steps pace lanes)) (length-replicate lanes [])
    ∙ ap (λ c. when_within c (bare steps pace lanes)) within

pub header_within : (line : List ℕ) (steps pace lanes : ℕ) (made : List (List Timed)) → is_line line ≡ true → Some (bare steps pace lanes) ≡ header_of (words line) → (not (is_out steps) && not (is_out pace) && nat_le lanes OWN_LANE) ≡ true → made ≡ replicate lanes []
    → read_header line ≡ Ok (script steps pace made)
header_within line steps pace lanes made fits is within empty = header_when line steps pace lanes true fits (sym is) within ∙ ap (λ ls. Ok (script steps pace ls)) (sym empty)

pub header_beyond : (line : List ℕ) (steps pace lanes : ℕ) → is_line line ≡ true → Some (bare steps pace lanes) ≡ header_of (words line) → (not (is_out steps) && not (is_out pace) && nat_le lanes OWN_LANE) ≡ false → read_header line ≡ Err J4
header_beyond line steps pace lanes fits is beyond = header_when line steps pace lanes false fits (sym is) beyond

-- ---- a line

none_is_some : {A : Type 0} {x : A} → None ≡ Some x → ⊥
none_is_some e = cc

same_cause : {x y : JournalCode} → Some x ≡ Some y → x ≡ y
same_cause e = cc

abbrev checks : Bool → Bool → Bool → Bool → Script → Result Script JournalCode
checks a b c d s = do
  _ ← unless a J2
  _ ← unless b J4
  _ ← unless c J3
  _ ← unless d J5
  Ok s

abbrev by_checks : Bool → Bool → Bool → Bool → Option JournalCode
by_checks a b c d = cond a (cond b (cond c (cond d None (Some J5)) (Some J3)) (Some J4)) (Some J2)

checks_fault : (a b c d : Bool) (s : Script) (code : JournalCode) → by_checks a b c d ≡ Some code → checks a b c d s ≡ Err code
checks_fault true true true true s code f = absurd (none_is_some f)
checks_fault true true true false s code f = ap Err (same_cause f)
checks_fault true true false d s code f = ap Err (same_cause f)
checks_fault true false c d s code f = ap Err (same_cause f)
checks_fault false b c d s code f = ap Err (same_cause f)

checks_fit : (a b c d : Bool) (s : Script) → by_checks a b c d ≡ None → checks a b c d s ≡ Ok s
checks_fit true true true true s f = refl
checks_fit true true true false s f = absurd (none_is_some (sym f))
checks_fit true true false d s f = absurd (none_is_some (sym f))
checks_fit true false c d s f = absurd (none_is_some (sym f))
checks_fit false b c d s f = absurd (none_is_some (sym f))

abbrev after_length : Bool → Option LaneAction → Script → Result Script JournalCode
after_length b o s = do
  _ ← unless b J1
  action ← some_or o J1
  checks (nat_lt action.lane (length s.lanes)) (nat_lt (actions_in s) MAX_ACTIONS) (nat_le action.timed.at (last_tick s)) (nat_le (last_at s action.lane) action.timed.at) (with_lane_action s action)

line_checks : (s : Script) (line : List ℕ) (t : LaneAction) → is_line line ≡ true → lane_action_of line ≡ Some t → read_lane_line s line ≡ after_length true (Some t) s
line_checks s line t h e = ap (λ b. after_length b (lane_action_of line) s) h ∙ ap (λ o. after_length true o s) e

pub line_faults : (s : Script) (line : List ℕ) (t : LaneAction) (code : JournalCode) → is_line line ≡ true → lane_action_of line ≡ Some t → lane_fault s t.lane t.timed.at ≡ Some code → read_lane_line s line ≡ Err code
line_faults s line t code h e f =
    line_checks s line t h e ∙ checks_fault (nat_lt t.lane (length s.lanes)) (nat_lt (actions_in s) MAX_ACTIONS) (nat_le t.timed.at (last_tick s)) (nat_le (last_at s t.lane) t.timed.at) (with_lane_action s t) code f

pub line_fits : (s : Script) (line : List ℕ) (t : LaneAction) → is_line line ≡ true → lane_action_of line ≡ Some t → lane_fault s t.lane t.timed.at ≡ None → read_lane_line s line ≡ Ok (with_lane_action s t)
line_fits s line t h e f =
    line_checks s line t h e ∙ checks_fit (nat_lt t.lane (length s.lanes)) (nat_lt (actions_in s) MAX_ACTIONS) (nat_le t.timed.at (last_tick s)) (nat_le (last_at s t.lane) t.timed.at) (with_lane_action s t) f

-- ---- the whole

if_ok_is : {A E : Type 0} (P : A → Type 0) (r : Result A E) (x : A) → r ≡ Ok x → IfOk r P → P x
if_ok_is P r x e h = subst (λ o. IfOk o P) e h

pub read_is_script : (bytes : List ℕ) (s : Script) → script_of bytes ≡ Ok s → IsTrue (is_script s)
read_is_script bytes s e = if_ok_is (λ s. IsTrue (is_script s)) (script_of bytes) s e (scripts_are_kept bytes)
