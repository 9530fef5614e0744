-- Lines that values of the watched places show.
use Rattle.std.proofs.Common.{◌≡◌, ℕ, zero, suc, ◌+◌, ℤ, List, [], ◌∷◌, map, take, Bool, true, false, cond, ◌&&◌, Option, Some, None, refl, sym, ◌∙◌, ap, subst, arith}
use Rattle.std.specs.Prelude.{slice_get, IsSomeAnd, IsTrue}
use Rattle.std.specs.List.{position_from, list_all, list_any}
use Rattle.std.proofs.lemmas.Bool.{or_from}
use Rattle.std.proofs.lemmas.Iterator.Adapters.{position_from-zero}
use Rattle.lgx_num.specs.Image.{number}
use Rattle.spec_machine.specs.State.{Answered}
use Rattle.spec_machine.specs.Machine.{TraceEntry}
use Rattle.spec_machine.specs.Project.{Project, Watch}
use Rattle.spec_explore.specs.declared.question.Operand.{Operand}
use Rattle.spec_explore.specs.declared.question.Operand.TheVariants.{Number, Watched}
use Rattle.spec_explore.specs.declared.question.Test.{Test}
use Rattle.spec_explore.specs.declared.question.Never.{Never}
use Rattle.spec_explore.specs.Questions.{number_in, operand, compares, passes, is_asked, holds}
use Rattle.lgx_question.specs.Seen.{value_or_zero, operand_in, passes_in, is_asked_in, holds_in, IsSeen, FirstLinesAreSeen, NoLineIsSeen}

-- ---- what holds of an event's state holds of the values

number_seen : (image : List ℕ) (ws : List Watch) (n : ℕ) → number_in image (slice_get ws n) ≡ value_or_zero (slice_get (map (λ (w : Watch). number image w.place) ws) n)
number_seen image [] n = refl
number_seen image (w ∷ ws) zero = refl
number_seen image (w ∷ ws) (suc n) = number_seen image ws n

module _ (p : Project) (x : Answered TraceEntry) (values : List ℤ) (ended : Option ℕ) (seen : IsSeen p x values ended) where
  value_seen : (n : ℕ) → number_in x.state.image (slice_get p.watches n) ≡ value_or_zero (slice_get values n)
  value_seen n = number_seen x.state.image p.watches n ∙ ap (λ (vs : List ℤ). value_or_zero (slice_get vs n)) (sym seen.values_are)

  operand_seen : (o : Operand) → operand p x.state o ≡ operand_in values o
  operand_seen (Number v) = refl
  operand_seen (Watched n) = value_seen n

  test_seen : (t : Test) → passes p x.state t ≡ passes_in values t
  test_seen t =
      ap (λ v. compares t.comparison v (operand p x.state t.operand)) (value_seen t.watched)
      ∙ ap (λ v. compares t.comparison (value_or_zero (slice_get values t.watched)) v) (operand_seen t.operand)

  tests_seen : (ts : List Test) → list_all (passes p x.state) ts ≡ list_all (passes_in values) ts
  tests_seen [] = refl
  tests_seen (t ∷ ts) = ap (λ b. b && list_all (passes p x.state) ts) (test_seen t) ∙ ap (λ b. passes_in values t && b) (tests_seen ts)

  asked_seen : (o : Option ℕ) → is_asked o x.answer ≡ is_asked_in ended o
  asked_seen None = refl
  asked_seen (Some q) = seen.ended_is q

  line_seen : (l : Never) → holds p x l ≡ holds_in values ended l
  line_seen l = ap (λ b. b && list_all (passes p x.state) l.tests) (asked_seen l.program) ∙ ap (λ b. is_asked_in ended l.program && b) (tests_seen l.tests)

-- ---- the first that passes

-- It stands k places further on; none before it passes.
record IsSpot (g : Never → Bool) (ls : List Never) (i n : ℕ) : Type 0 where
  k : ℕ
  is : n ≡ i + k
  this : IsSomeAnd (slice_get ls k) (λ l. IsTrue (g l))
  none : list_any g (take k ls) ≡ false

module _ (f g : Never → Bool) (same : (l : Never) → g l ≡ f l) where
  spot : (ls : List Never) (i n : ℕ) → position_from f i ls ≡ Some n → IsSpot g ls i n
  spot [] i n h = absurd (let e : None ≡ Some n = h in cc e)
  spot (l ∷ ls) i n h = by (f l) refl h (spot ls (i + 1) n)
    where
      by : (b : Bool) → f l ≡ b → cond b (Some i) (position_from f (i + 1) ls) ≡ Some n → (position_from f (i + 1) ls ≡ Some n → IsSpot g ls (i + 1) n) → IsSpot g (l ∷ ls) i n
      by true e h later = record { k = 0; is = (let s : i ≡ n = cc h in omega arith); this = same l ∙ e; none = refl }
      by false e h later =
          let r = later h in
          record { k = suc r.k; is = (let s = r.is in omega arith); this = r.this; none = or_from (g l) (list_any g (take r.k ls)) (same l ∙ e) r.none }

  no_spot : (ls : List Never) (i : ℕ) → position_from f i ls ≡ None → list_any g ls ≡ false
  no_spot [] i h = refl
  no_spot (l ∷ ls) i h = by (f l) refl h (no_spot ls (i + 1))
    where
      by : (b : Bool) → f l ≡ b → cond b (Some i) (position_from f (i + 1) ls) ≡ None → (position_from f (i + 1) ls ≡ None → list_any g ls ≡ false) → list_any g (l ∷ ls) ≡ false
      by true e h later = absurd (let n : None ≡ Some i = sym h in cc n)
      by false e h later = or_from (g l) (list_any g ls) (same l ∙ e) (later h)

pub first_lines_are_seen : FirstLinesAreSeen
first_lines_are_seen p x values ended q line seen h =
    let f = holds_in values ended in
    let s = spot f (holds p x) (line_seen p x values ended seen) q.lines 0 line (sym (position_from-zero f q.lines) ∙ h) in
    let k : s.k ≡ line = (let e = s.is in omega arith) in
    record {
      this = subst (λ n. IsSomeAnd (slice_get q.lines n) (λ l. IsTrue (holds p x l))) k s.this;
      none_before = subst (λ n. list_any (holds p x) (take n q.lines) ≡ false) k s.none;
    }

pub no_line_is_seen : NoLineIsSeen
no_line_is_seen p x values ended q seen h =
    let f = holds_in values ended in
    no_spot f (holds p x) (line_seen p x values ended seen) q.lines 0 (sym (position_from-zero f q.lines) ∙ h)
