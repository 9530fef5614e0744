-- What follows from an answer.
use Rattle.std.proofs.Common.{◌≡◌, ◌≢◌, ◌⊎◌, ◌<◌, inl, inr, arith, ℕ, List, length, Option, Some, IfSome, refl, sym, ap, ◌∙◌, subst}
use Rattle.std.specs.Io.KnownBytes.{Appends}
use Rattle.spec_base.specs.declared.limits.TheConstants.{MAX_FILE_BYTES}
use Rattle.lgx_io.specs.declared.files.ReadCause.TheVariants as cause
use Rattle.lgx_io.specs.Sink.{FaultsRose}
use Rattle.lgx_answer.specs.declared.status.Verdict.{Verdict}
use Rattle.lgx_answer.specs.Endings.{Ending}
use Rattle.lgx_answer.specs.Endings as ending
use Rattle.lgx_answer.specs.Plan.{Texts, Plan, Say, Read, OneOf}
use Rattle.lgx_answer.specs.Answered.{Change, Told, Failures, Call, call_with, Came, Gains, AddsOf, Writes, Misses, RunsOut, Answered}
use Rattle.lgx_answer.specs.Laws.{Reaches, Comes, IsSure, FollowsPlan}

-- ---- a leaf

says_only : (v : Verdict) (texts : Texts) (t : Told) (f : Change Failures) (h : Change (Option (List ℕ))) (w : Change ℕ) (s : Ending) (said : Verdict) → s ≡ ending.Said said → Writes v texts (call_with t f h w s) → (said ≡ v) × AddsOf h texts
says_only v texts t f h w (ending.Said x) said is wr =
    let same : x ≡ said = cc is in
    (sym same ∙ wr.0, wr.1)
says_only v texts t f h w ending.ReadFault said is wr = absurd wr
says_only v texts t f h w ending.WriteFault said is wr = absurd (cc is)
says_only v texts t f h w ending.Memory said is wr = absurd (cc is)
says_only v texts t f h w ending.TooLong said is wr = absurd wr

leaf_rose : (v : Verdict) (texts : Texts) (t : Told) (f : Change Failures) (h : Change (Option (List ℕ))) (w : Change ℕ) (s : Ending) → s ≡ ending.WriteFault → Writes v texts (call_with t f h w s) → FaultsRose w.old w.new
leaf_rose v texts t f h w (ending.Said x) is wr = absurd (cc is)
leaf_rose v texts t f h w ending.ReadFault is wr = absurd wr
leaf_rose v texts t f h w ending.WriteFault is wr = wr.1
leaf_rose v texts t f h w ending.Memory is wr = absurd (cc is)
leaf_rose v texts t f h w ending.TooLong is wr = absurd wr

leaf_same : (v : Verdict) (texts : Texts) (t : Told) (f : Change Failures) (h : Change (Option (List ℕ))) (w : Change ℕ) (s : Ending) → s ≢ ending.WriteFault → Writes v texts (call_with t f h w s) → w.new ≡ w.old
leaf_same v texts t f h w (ending.Said x) other wr = wr.2
leaf_same v texts t f h w ending.ReadFault other wr = absurd wr
leaf_same v texts t f h w ending.WriteFault other wr = absurd (other refl)
leaf_same v texts t f h w ending.Memory other wr = wr.1
leaf_same v texts t f h w ending.TooLong other wr = absurd wr

leaf_read : (v : Verdict) (texts : Texts) (t : Told) (f : Change Failures) (h : Change (Option (List ℕ))) (w : Change ℕ) (s : Ending) → (s ≡ ending.ReadFault) ⊎ (s ≡ ending.TooLong) → Writes v texts (call_with t f h w s) → ⊥
leaf_read v texts t f h w (ending.Said x) (inl is) wr = cc is
leaf_read v texts t f h w (ending.Said x) (inr is) wr = cc is
leaf_read v texts t f h w ending.ReadFault is wr = wr
leaf_read v texts t f h w ending.WriteFault (inl is) wr = cc is
leaf_read v texts t f h w ending.WriteFault (inr is) wr = cc is
leaf_read v texts t f h w ending.Memory (inl is) wr = cc is
leaf_read v texts t f h w ending.Memory (inr is) wr = cc is
leaf_read v texts t f h w ending.TooLong is wr = wr

leaf_comes : (v : Verdict) (texts : Texts) (t : Told) (f : Change Failures) (h : Change (Option (List ℕ))) (w : Change ℕ) (s wanted : Ending) → wanted ≡ ending.Said v → (FaultsRose w.old w.new → ⊥) → Writes v texts (call_with t f h w s) → (s ≡ wanted) ⊎ (s ≡ ending.Memory)
leaf_comes v texts t f h w (ending.Said x) wanted is unfailed wr = inl (ap (λ z. ending.Said z) wr.0 ∙ sym is)
leaf_comes v texts t f h w ending.ReadFault wanted is unfailed wr = absurd wr
leaf_comes v texts t f h w ending.WriteFault wanted is unfailed wr = absurd (unfailed wr.1)
leaf_comes v texts t f h w ending.Memory wanted is unfailed wr = inr refl
leaf_comes v texts t f h w ending.TooLong wanted is unfailed wr = absurd wr

-- ---- a file that didn't come

misses_said : (name : List ℕ) (t : Told) (f : Change Failures) (h : Change (Option (List ℕ))) (w : Change ℕ) (s : Ending) (said : Verdict) → s ≡ ending.Said said → Misses name (call_with t f h w s) → ⊥
misses_said name t f h w (ending.Said x) said is m = m
misses_said name t f h w ending.ReadFault said is m = cc is
misses_said name t f h w ending.WriteFault said is m = m
misses_said name t f h w ending.Memory said is m = cc is
misses_said name t f h w ending.TooLong said is m = cc is

misses_rose : (name : List ℕ) (t : Told) (f : Change Failures) (h : Change (Option (List ℕ))) (w : Change ℕ) (s : Ending) → s ≡ ending.WriteFault → Misses name (call_with t f h w s) → ⊥
misses_rose name t f h w (ending.Said x) is m = m
misses_rose name t f h w ending.ReadFault is m = cc is
misses_rose name t f h w ending.WriteFault is m = m
misses_rose name t f h w ending.Memory is m = cc is
misses_rose name t f h w ending.TooLong is m = cc is

misses_comes : (name bytes : List ℕ) (t : Told) (f : Change Failures) (h : Change (Option (List ℕ))) (w : Change ℕ) (s wanted : Ending) → t name ≡ Some bytes → (Gains f name cause.Failed → ⊥) → (MAX_FILE_BYTES < length bytes → wanted ≡ ending.TooLong) → Misses name (call_with t f h w s) → (s ≡ wanted) ⊎ (s ≡ ending.Memory)
misses_comes name bytes t f h w (ending.Said x) wanted is unfailed long m = absurd m
misses_comes name bytes t f h w ending.ReadFault wanted is unfailed long m = absurd (unfailed m)
misses_comes name bytes t f h w ending.WriteFault wanted is unfailed long m = absurd m
misses_comes name bytes t f h w ending.Memory wanted is unfailed long m = inr refl
misses_comes name bytes t f h w ending.TooLong wanted is unfailed long m =
    let P : Option (List ℕ) → Type 0 = λ o. IfSome o (λ contents. MAX_FILE_BYTES < length contents) in
    inl (sym (long (subst P is m.1)))

came_told : (told : Told) (name bytes given : List ℕ) → Came told name bytes → told name ≡ Some given → bytes ≡ given
came_told told name bytes given came is =
    let P : Option (List ℕ) → Type 0 = λ o. IfSome o (λ contents. bytes ≡ contents) in
    subst P is came.whole

-- ---- memory that ran out before one of some plans was known

out_only : (call : Call) (other : Ending) → RunsOut call → call.answer ≡ other → other ≡ ending.Memory
out_only call other out is = sym is ∙ out.answer

out_said : (call : Call) (said : Verdict) → RunsOut call → call.answer ≡ ending.Said said → ⊥
out_said call said out is = cc (out_only call (ending.Said said) out is)

out_written : (call : Call) → RunsOut call → call.answer ≡ ending.WriteFault → ⊥
out_written call out is = cc (out_only call ending.WriteFault out is)

-- ---- the laws

pub only_if : (plan : Plan) (call : Call) (said : Verdict) → Answered plan call → call.answer ≡ ending.Said said → Reaches call.told plan said (AddsOf call.held)
only_if (Say v texts) call said a is = says_only v texts call.told call.failures call.held call.faults call.answer said is a.0
only_if (Read name next) call said (inl (m, silent)) is =
    absurd (misses_said name call.told call.failures call.held call.faults call.answer said is m)
only_if (Read name next) call said (inr (bytes, came, more)) is = (bytes, came, only_if (next bytes) call said more is)
only_if (OneOf A plans) call said (inl out) is = absurd (out_said call said out is)
only_if (OneOf A plans) call said (inr (x, more)) is = (x, only_if (plans x) call said more is)

pub only_write_fault : (plan : Plan) (call : Call) → Answered plan call → call.answer ≡ ending.WriteFault → FaultsRose call.faults.old call.faults.new
only_write_fault (Say v texts) call a is = leaf_rose v texts call.told call.failures call.held call.faults call.answer is a.0
only_write_fault (Read name next) call (inl (m, silent)) is =
    absurd (misses_rose name call.told call.failures call.held call.faults call.answer is m)
only_write_fault (Read name next) call (inr (bytes, came, more)) is = only_write_fault (next bytes) call more is
only_write_fault (OneOf A plans) call (inl out) is = absurd (out_written call out is)
only_write_fault (OneOf A plans) call (inr (x, more)) is = only_write_fault (plans x) call more is

pub is_write_fault : (plan : Plan) (call : Call) → Answered plan call → call.answer ≢ ending.WriteFault → call.faults.new ≡ call.faults.old
is_write_fault (Say v texts) call a other = leaf_same v texts call.told call.failures call.held call.faults call.answer other a.0
is_write_fault (Read name next) call (inl (m, silent)) other = silent.faults
is_write_fault (Read name next) call (inr (bytes, came, more)) other = is_write_fault (next bytes) call more other
is_write_fault (OneOf A plans) call (inl out) other = out.silent.faults
is_write_fault (OneOf A plans) call (inr (x, more)) other = is_write_fault (plans x) call more other

pub silent_at_read_fault : (plan : Plan) (call : Call) → Answered plan call → call.answer ≡ ending.ReadFault → call.held.new ≡ call.held.old
silent_at_read_fault (Say v texts) call a is =
    absurd (leaf_read v texts call.told call.failures call.held call.faults call.answer (inl is) a.0)
silent_at_read_fault (Read name next) call (inl (m, silent)) is = silent.held
silent_at_read_fault (Read name next) call (inr (bytes, came, more)) is = silent_at_read_fault (next bytes) call more is
silent_at_read_fault (OneOf A plans) call (inl out) is = out.silent.held
silent_at_read_fault (OneOf A plans) call (inr (x, more)) is = silent_at_read_fault (plans x) call more is

pub silent_at_too_long : (plan : Plan) (call : Call) → Answered plan call → call.answer ≡ ending.TooLong → call.held.new ≡ call.held.old
silent_at_too_long (Say v texts) call a is =
    absurd (leaf_read v texts call.told call.failures call.held call.faults call.answer (inr is) a.0)
silent_at_too_long (Read name next) call (inl (m, silent)) is = silent.held
silent_at_too_long (Read name next) call (inr (bytes, came, more)) is = silent_at_too_long (next bytes) call more is
silent_at_too_long (OneOf A plans) call (inl out) is = out.silent.held
silent_at_too_long (OneOf A plans) call (inr (x, more)) is = silent_at_too_long (plans x) call more is

pub if_comes : (plan : Plan) (call : Call) (wanted : Ending) → Answered plan call → Comes call plan wanted → (call.answer ≡ wanted) ⊎ (call.answer ≡ ending.Memory)
if_comes (Say v texts) call wanted a c =
    leaf_comes v texts call.told call.failures call.held call.faults call.answer wanted c.0 c.1 a.0
if_comes (Read name next) call wanted (inl (m, silent)) (bytes, is, unfailed, inl (long, late)) =
    misses_comes name bytes call.told call.failures call.held call.faults call.answer wanted is unfailed (λ l. late) m
if_comes (Read name next) call wanted (inl (m, silent)) (bytes, is, unfailed, inr (short, more)) =
    misses_comes name bytes call.told call.failures call.held call.faults call.answer wanted is unfailed (λ l. absurd (omega (arith, l, short))) m
if_comes (Read name next) call wanted (inr (b, came, more)) (bytes, is, unfailed, inl (long, late)) =
    let same = ap (λ l. length l) (came_told call.told name b bytes came is) in
    absurd (omega (arith, came.short, long, same))
if_comes (Read name next) call wanted (inr (b, came, more)) (bytes, is, unfailed, inr (short, comes)) =
    let P : List ℕ → Type 0 = λ l. Comes call (next l) wanted in
    if_comes (next b) call wanted more (subst P (sym (came_told call.told name b bytes came is)) comes)
if_comes (OneOf A plans) call wanted (inl out) comes = inr out.answer
if_comes (OneOf A plans) call wanted (inr (x, more)) comes = if_comes (plans x) call wanted more (comes x)

pub is_exact : (plan : Plan) (call : Call) (said wanted : Verdict) (text : List ℕ) → Answered plan call → IsSure call.told plan wanted text → call.answer ≡ ending.Said said → (said ≡ wanted) × Appends call.held.old call.held.new text
is_exact (Say v texts) call said wanted text a sure is =
    let all = says_only v texts call.told call.failures call.held call.faults call.answer said is a.0 in
    let P : List ℕ → Type 0 = λ l. Appends call.held.old call.held.new l in
    (all.0 ∙ sym sure.0, subst P (sure.1 all.1.0 all.1.1) all.1.2)
is_exact (Read name next) call said wanted text (inl (m, silent)) sure is =
    absurd (misses_said name call.told call.failures call.held call.faults call.answer said is m)
is_exact (Read name next) call said wanted text (inr (b, came, more)) (bytes, told, sure) is =
    let P : List ℕ → Type 0 = λ l. IsSure call.told (next l) wanted text in
    is_exact (next b) call said wanted text more (subst P (sym (came_told call.told name b bytes came told)) sure) is
is_exact (OneOf A plans) call said wanted text (inl out) sure is = absurd (out_said call said out is)
is_exact (OneOf A plans) call said wanted text (inr (x, more)) sure is = is_exact (plans x) call said wanted text more (sure x) is

pub follows_plan : (plan : Plan) (call : Call) → Answered plan call → FollowsPlan plan call
follows_plan plan call a = record {
  ends = a;
  only = λ said is. only_if plan call said a is;
  comes = λ wanted c. if_comes plan call wanted a c;
  exact = λ said wanted text sure is. is_exact plan call said wanted text a sure is;
  write_fault = only_write_fault plan call a;
  no_write_fault = is_write_fault plan call a;
  silent_at_read_fault = silent_at_read_fault plan call a;
  silent_at_too_long = silent_at_too_long plan call a;
}
