-- What a text is read to is a script: its numbers are in range, and no action waits for a tick after the last.
use Rattle.std.proofs.Common.{◌≡◌, ℕ, zero, suc, ◌+◌, ◌*◌, ◌<◌, ◌≤◌, List, [], ◌∷◌, ◌++◌, Bool, true, false, cond, not, ◌&&◌, Option, Some, None, Result, Ok, Err, IfOk, IfSome, IsTrue, length, replicate, sum_by, slice_set, slice_index_or, nat_le, nat_lt, refl, sym, ap, subst, ◌∙◌, arith}
use Rattle.std.specs.List.{list_all}
use Rattle.std.specs.Str.{bytes_eq}
use Rattle.std.specs.Prelude.{codes}
use Rattle.std.proofs.lemmas.Bool.{and_from, and_parts, ltb-true, leb-true, le-leb}
use Rattle.std.proofs.lemmas.List.{length-set, length-append}
use Rattle.std.proofs.lemmas.List.Folds.{list_all-append, sum_by-replicate}
use Rattle.std.proofs.lemmas.List.Sums.{sum_by-set}
use Rattle.spec_base.specs.declared.limits.TheConstants.{MAX_SCRIPT_STEPS, MAX_ACTIONS, OWN_LANE}
use Rattle.spec_text.specs.declared.script.Timed.{Timed}
use Rattle.spec_text.specs.declared.script.JournalCode.{JournalCode}
use Rattle.spec_text.specs.declared.script.JournalCode.TheVariants.{J1, J2, J3, J4, J5}
use Rattle.spec_text.specs.declared.script.JournalFault.{JournalFault}
use Rattle.spec_base.specs.FirstCause.{◌>>=◌, unless, some_or}
use Rattle.spec_text.specs.TextLines.{lines, is_skipped, words, unsigned_of}
use Rattle.spec_text.specs.JournalText.{is_end, is_line, refused}
use Rattle.spec_text.specs.Scripts.{Script, is_out, actions_in, last_tick, is_script}
use Rattle.spec_text.specs.ScriptText.{bare_of, header_of, read_header, LaneAction, lane_action_of, lane_at, with_lane_action, last_at, read_lane_line, lanes_from, script_from, script_of}

-- no action of a lane waits for a tick after this one
abbrev in_time : ℕ → List Timed → Bool
in_time last lane = list_all (λ t. nat_le t.at last) lane

record Kept (s : Script) : Type 0 where
  pub steps : not (is_out s.steps) ≡ true
  pub pace : not (is_out s.pace) ≡ true
  pub lanes : length s.lanes ≤ OWN_LANE
  pub actions : actions_in s ≤ MAX_ACTIONS
  pub ats : list_all (in_time (last_tick s)) s.lanes ≡ true

-- ---- first causes

pub unless_keeps : {B : Type 0} (b : Bool) (e : JournalCode) (f : Bool → Result B JournalCode) (P : B → Type 0) → (b ≡ true → IfOk (f true) P) → IfOk (unless b e >>= f) P
unless_keeps true e f P h = h refl
unless_keeps false e f P h = tt

pub some_keeps : {A B : Type 0} (o : Option A) (e : JournalCode) (f : A → Result B JournalCode) (Q : A → Type 0) (P : B → Type 0) → IfSome o Q → ((x : A) → Q x → IfOk (f x) P) → IfOk (some_or o e >>= f) P
some_keeps None e f Q P q h = tt
some_keeps (Some x) e f Q P q h = h x q

-- ---- the first line

abbrev IsBare : Script → Type 0
IsBare s = (n : ℕ) × (s.lanes ≡ replicate n [])

bare_of_bare : (b : Bool) (o p q : Option ℕ) → IfSome (cond b (bare_of o p q) None) IsBare
bare_of_bare false o p q = tt
bare_of_bare true None p q = tt
bare_of_bare true (Some steps) None q = tt
bare_of_bare true (Some steps) (Some pace) None = tt
bare_of_bare true (Some steps) (Some pace) (Some n) = (n, refl)

header_bare : (ws : List (List ℕ)) → IfSome (header_of ws) IsBare
header_bare [] = tt
header_bare (a ∷ []) = tt
header_bare (a ∷ b ∷ []) = tt
header_bare (a ∷ b ∷ c ∷ []) = tt
header_bare (a ∷ b ∷ c ∷ d ∷ []) = bare_of_bare (bytes_eq a (codes "run")) (unsigned_of b) (unsigned_of c) (unsigned_of d)
header_bare (a ∷ b ∷ c ∷ d ∷ e ∷ ws) = tt

all_empty : (last n : ℕ) → list_all (in_time last) (replicate n []) ≡ true
all_empty last zero = refl
all_empty last (suc n) = all_empty last n

none_in : (s : Script) (n : ℕ) → s.lanes ≡ replicate n [] → actions_in s ≡ n * 0
none_in s n e = ap (λ ls. sum_by (λ (lane : List Timed). length lane) ls) e ∙ sum_by-replicate (λ (lane : List Timed). length lane) n []

kept_header : (s : Script) → IsBare s → (not (is_out s.steps) && not (is_out s.pace) && nat_le (length s.lanes) OWN_LANE) ≡ true → Kept s
kept_header s (n, e) h =
    record { steps = (and_parts _ _ (and_parts _ _ h).0).0; pace = (and_parts _ _ (and_parts _ _ h).0).1; lanes = leb-true (length s.lanes) OWN_LANE (and_parts _ _ h).1; actions = search (arith, none_in s n e); ats = ap (λ ls. list_all (in_time (last_tick s)) ls) e ∙ all_empty (last_tick s) n }

header_keeps : (line : List ℕ) → IfOk (read_header line) Kept
header_keeps line =
    unless_keeps (is_line line) J1 _ Kept (λ l. some_keeps (header_of (words line)) J1 _ IsBare Kept (header_bare (words line)) (λ s b. unless_keeps (not (is_out s.steps) && not (is_out s.pace) && nat_le (length s.lanes) OWN_LANE) J4 (λ u. Ok s) Kept (kept_header s b)))

-- ---- the other lines

pub some_plain : {A : Type 0} (o : Option A) → IfSome o (λ x. Unit {0})
some_plain None = tt
some_plain (Some x) = tt

list_all_set : {A : Type 0} (p : A → Bool) (xs : List A) (i : ℕ) (y : A) → p y ≡ true → list_all p xs ≡ true → list_all p (slice_set xs i y) ≡ true
list_all_set p [] i y h k = k
list_all_set p (x ∷ xs) zero y h k = and_from _ _ h (and_parts (p x) (list_all p xs) k).1
list_all_set p (x ∷ xs) (suc i) y h k = and_from _ _ (and_parts (p x) (list_all p xs) k).0 (list_all_set p xs i y h (and_parts (p x) (list_all p xs) k).1)

list_all_get : {A : Type 0} (p : A → Bool) (xs : List A) (i : ℕ) (d : A) → p d ≡ true → list_all p xs ≡ true → p (slice_index_or xs i d) ≡ true
list_all_get p [] i d h k = h
list_all_get p (x ∷ xs) zero d h k = (and_parts (p x) (list_all p xs) k).0
list_all_get p (x ∷ xs) (suc i) d h k = list_all_get p xs i d h (and_parts (p x) (list_all p xs) k).1

lane_in_time : (s : Script) (t : LaneAction) → Kept s → nat_le t.timed.at (last_tick s) ≡ true → in_time (last_tick s) (lane_at s t.lane ++ t.timed ∷ []) ≡ true
lane_in_time s t k h =
    list_all-append (λ x. nat_le x.at (last_tick s)) (lane_at s t.lane) (t.timed ∷ []) ∙ and_from _ _ (list_all_get (in_time (last_tick s)) s.lanes t.lane [] refl k.ats) (and_from _ _ h refl)

one_more : (s : Script) (t : LaneAction) → t.lane < length s.lanes → actions_in (with_lane_action s t) ≡ actions_in s + 1
one_more s t h =
    let len = λ (lane : List Timed). length lane in
    search (arith, sum_by-set len s.lanes t.lane (lane_at s t.lane ++ t.timed ∷ []) [] h, length-append (lane_at s t.lane) (t.timed ∷ []))

kept_lane_action : (s : Script) (t : LaneAction) → Kept s → t.lane < length s.lanes → actions_in s < MAX_ACTIONS → nat_le t.timed.at (last_tick s) ≡ true → Kept (with_lane_action s t)
kept_lane_action s t k l a h =
    record { steps = k.steps; pace = k.pace; lanes = subst (λ n. n ≤ OWN_LANE) (sym (length-set s.lanes t.lane (lane_at s t.lane ++ t.timed ∷ []))) k.lanes; actions = search (arith, one_more s t l, a); ats = list_all_set (in_time (last_tick s)) s.lanes t.lane (lane_at s t.lane ++ t.timed ∷ []) (lane_in_time s t k h) k.ats }

lane_line_keeps : (s : Script) (line : List ℕ) → Kept s → IfOk (read_lane_line s line) Kept
lane_line_keeps s line k =
    unless_keeps (is_line line) J1 _ Kept (λ l. some_keeps (lane_action_of line) J1 _ (λ t. Unit {0}) Kept (some_plain (lane_action_of line)) (λ t u. unless_keeps (nat_lt t.lane (length s.lanes)) J2 _ Kept (λ lane. unless_keeps (nat_lt (actions_in s) MAX_ACTIONS) J4 _ Kept (λ few. unless_keeps (nat_le t.timed.at (last_tick s)) J3 _ Kept (λ due. unless_keeps (nat_le (last_at s t.lane) t.timed.at) J5 (λ u. Ok (with_lane_action s t)) Kept (λ next. kept_lane_action s t k (ltb-true t.lane (length s.lanes) lane) (ltb-true (actions_in s) MAX_ACTIONS few) due))))))

-- ---- the text

-- what follows a line that is read, one that may be the end, and one that may be skipped; `keep` is for the later lines
module _ (n : ℕ) (s : Script) (l : List ℕ) (ls : List (List ℕ)) (keep : (s' : Script) → Kept s' → IfOk (lanes_from (n + 1) s' ls) Kept) where
  line_keeps : (r : Result Script JournalCode) → IfOk r Kept → let o : Result Script JournalFault = elim r [ Err code ↦ refused n code | Ok s' ↦ lanes_from (n + 1) s' ls ] in IfOk o Kept
  line_keeps (Err code) h = tt
  line_keeps (Ok s') h = keep s' h

  end_keeps : (b : Bool) → Kept s → let o : Result Script JournalFault = elim b [ true ↦ Ok s | false ↦ elim (read_lane_line s l) [ Err code ↦ refused n code | Ok s' ↦ lanes_from (n + 1) s' ls ] ] in IfOk o Kept
  end_keeps true k = k
  end_keeps false k = line_keeps (read_lane_line s l) (lane_line_keeps s l k)

  skip_keeps : (b : Bool) → Kept s → let o : Result Script JournalFault = elim b [ true ↦ lanes_from (n + 1) s ls | false ↦ elim (is_end l && is_line l) [ true ↦ Ok s | false ↦ elim (read_lane_line s l) [ Err code ↦ refused n code | Ok s' ↦ lanes_from (n + 1) s' ls ] ] ] in IfOk o Kept
  skip_keeps true k = keep s k
  skip_keeps false k = end_keeps (is_end l && is_line l) k

lanes_keep : (n : ℕ) (s : Script) (ls : List (List ℕ)) → Kept s → IfOk (lanes_from n s ls) Kept
lanes_keep n s [] k = tt
lanes_keep n s (l ∷ ls) k = skip_keeps n s l ls (λ s' k'. lanes_keep (n + 1) s' ls k') (is_skipped l) k

module _ (n : ℕ) (l : List ℕ) (ls : List (List ℕ)) (keep : IfOk (script_from (n + 1) ls) Kept) where
  first_keeps : (r : Result Script JournalCode) → IfOk r Kept → let o : Result Script JournalFault = elim r [ Err code ↦ refused n code | Ok s ↦ lanes_from (n + 1) s ls ] in IfOk o Kept
  first_keeps (Err code) h = tt
  first_keeps (Ok s) h = lanes_keep (n + 1) s ls h

  skip_first : (b : Bool) → let o : Result Script JournalFault = elim b [ true ↦ script_from (n + 1) ls | false ↦ elim (read_header l) [ Err code ↦ refused n code | Ok s ↦ lanes_from (n + 1) s ls ] ] in IfOk o Kept
  skip_first true = keep
  skip_first false = first_keeps (read_header l) (header_keeps l)

script_keeps : (n : ℕ) (ls : List (List ℕ)) → IfOk (script_from n ls) Kept
script_keeps n [] = tt
script_keeps n (l ∷ ls) = skip_first n l ls (script_keeps (n + 1) ls) (is_skipped l)

-- ---- as one test

is_kept : (s : Script) → Kept s → IsTrue (is_script s)
is_kept s k =
    and_from _ _ (and_from _ _ (and_from _ _ (and_from _ _ k.steps k.pace) (le-leb (length s.lanes) OWN_LANE k.lanes)) (le-leb (actions_in s) MAX_ACTIONS k.actions)) k.ats

if_ok : {A E : Type 0} {P Q : A → Type 0} (r : Result A E) → ((x : A) → P x → Q x) → IfOk r P → IfOk r Q
if_ok (Ok x) f h = f x h
if_ok (Err e) f h = tt

pub scripts_are_kept : (bytes : List ℕ) → IfOk (script_of bytes) (λ s. IsTrue (is_script s))
scripts_are_kept bytes = if_ok {P = Kept} {Q = λ s. IsTrue (is_script s)} (script_of bytes) is_kept (script_keeps 1 (lines bytes))
