-- Operands between parentheses are read one after another, and then as those of an instruction.
use Rattle.std.proofs.Common.{◌≡◌, ℕ, ◌+◌, ◌-◌, ◌<◌, ◌≤◌, Bool, true, false, List, [], ◌∷◌, ◌++◌, length, reverse, get_or, drop, take, slice_range, refl, ap, sym, ◌∙◌, subst, arith, IsTrue}
use Rattle.std.specs.List.{list_all}
use Rattle.std.proofs.lemmas.Bool.{and_from}
use Rattle.std.proofs.lemmas.List.Folds.{list_all-append}
use Rattle.lgx_rung.specs.declared.op.Op.{Op}
use Rattle.lgx_rung.specs.Joined.{operands_in}
use Rattle.lgx_rung.specs.Tokens.{is_operand, is_blank, in_run, mark, inside_after, tokens_from, Placed, Fork, At, First, Operand, Comma, CloseParen, Named, add_element, instruction, read_tokens}
use Rattle.lgx_rung.specs.Tree.{Source}
use Rattle.lgx_rung.proofs.Joined.{with_some, operand_added}
use Rattle.lgx_neutral.specs.Instructions.{ReadsOperands, ReadsInstruction}
use Rattle.lgx_neutral.specs.Reading.{next}
use Rattle.lgx_neutral.proofs.Runs.{range_more, range_split, range_length, mark_read, run_ended}

-- ---- an operand and the byte after it

comma_read : (len : ℕ) (before : List (List ℕ)) (w : List ℕ) (i j : ℕ) (ts : List Placed) (op : Op) (forks : List Fork) (leg : Source)
    → read_tokens len (record { at = i; token = Operand w } ∷ record { at = j; token = Comma } ∷ ts) (At (next op before) forks leg) ≡ read_tokens len ts (At (next op (before ++ w ∷ [])) forks leg)
comma_read len [] w i j ts op forks leg = refl
comma_read len (x ∷ xs) w i j ts op forks leg = refl

close_read : (len : ℕ) (before : List (List ℕ)) (w : List ℕ) (i j : ℕ) (ts : List Placed) (op : Op) (forks : List Fork) (leg : Source)
    → read_tokens len (record { at = i; token = Operand w } ∷ record { at = j; token = CloseParen } ∷ ts) (At (next op before) forks leg) ≡ read_tokens len ts (add_element forks leg (instruction op (before ++ w ∷ [])))
close_read len [] w i j ts op forks leg = refl
close_read len (x ∷ xs) w i j ts op forks leg = refl

-- the bytes of the run from a place on are passed
abbrev pub RunPassed : List ℕ → ℕ → ℕ → Type 0
RunPassed text at end = tokens_from (drop at text) true at [] ≡ tokens_from (drop end text) true end (reverse (slice_range text at end))

word_read : (text : List ℕ) (at end b : ℕ) → at < end → end < length text → get_or text end 0 ≡ b → in_run true b ≡ false → is_blank b ≡ false → RunPassed text at end
    → tokens_from (drop at text) true at [] ≡ record { at = at; token = Operand (slice_range text at end) } ∷ record { at = end; token = mark b } ∷ tokens_from (drop (end + 1) text) (inside_after true (mark b)) (end + 1) []
word_read text at end b h k e run blank passed =
    let stops : in_run true (get_or text end 0) ≡ false = ap (in_run true) e ∙ run in
    passed
    ∙ run_ended text true at end h (omega arith) (λ _. stops)
    ∙ ap (λ ts. record { at = at; token = Operand (slice_range text at end) } ∷ ts) (mark_read text true end k stops (ap is_blank e ∙ blank))
    ∙ ap (λ c. record { at = at; token = Operand (slice_range text at end) } ∷ record { at = end; token = mark c } ∷ tokens_from (drop (end + 1) text) (inside_after true (mark c)) (end + 1) []) e

-- ---- the operands that are read so far

pub record Progress (text : List ℕ) (from at : ℕ) : Type 0 where
  pub before : List (List ℕ)
  pub ahead : from ≤ at
  pub are : IsTrue (list_all is_operand before)
  pub reads : (len : ℕ) (op : Op) (forks : List Fork) (leg : Source) → read_tokens len (tokens_from (drop from text) true from []) (At (First op) forks leg) ≡ read_tokens len (tokens_from (drop at text) true at []) (At (next op before) forks leg)
  pub joined : (w : List ℕ) → IsTrue (is_operand w) → operands_in (slice_range text from at ++ w) ≡ before ++ w ∷ []

none_between : (text : List ℕ) (from : ℕ) → slice_range text from from ≡ []
none_between text from = let none : from - from ≡ 0 = omega arith in ap (λ n. take n (drop from text)) none

pub begun : (text : List ℕ) (from : ℕ) → Progress text from from
begun text from = record {
  before = [];
  ahead = omega arith;
  are = refl;
  reads = λ len op forks leg. refl;
  joined = λ w h. ap (λ x. operands_in (x ++ w)) (none_between text from) ∙ operand_added [] w h;
}

all_more : (xs : List (List ℕ)) (w : List ℕ) → IsTrue (list_all is_operand xs) → IsTrue (is_operand w) → IsTrue (list_all is_operand (xs ++ w ∷ []))
all_more xs w h k = list_all-append is_operand xs (w ∷ []) ∙ and_from (list_all is_operand xs) (list_all is_operand (w ∷ [])) h (and_from (is_operand w) true k refl)

-- the operands up to the end of one more
with_word : (text : List ℕ) (from at end : ℕ) (p : Progress text from at) → at ≤ end → IsTrue (is_operand (slice_range text at end)) → operands_in (slice_range text from end) ≡ p.before ++ slice_range text at end ∷ []
with_word text from at end p h k = ap operands_in (range_split text from at end p.ahead h) ∙ p.joined (slice_range text at end) k

-- an operand and a comma more
pub went_on : (text : List ℕ) (from at end : ℕ) → Progress text from at → at < end → end < length text → get_or text end 0 ≡ 44 → IsTrue (is_operand (slice_range text at end)) → RunPassed text at end → Progress text from (end + 1)
went_on text from at end p h k e w passed =
    let from_end : from ≤ end = omega (arith, p.ahead) in
    let some : 0 < length (slice_range text from end) = omega (arith, p.ahead, range_length text from end from_end (omega arith)) in
    let more : slice_range text from (end + 1) ≡ slice_range text from end ++ 44 ∷ [] = range_more text from end from_end k ∙ ap (λ b. slice_range text from end ++ b ∷ []) e in
    record {
      before = p.before ++ slice_range text at end ∷ [];
      ahead = omega (arith, p.ahead);
      are = all_more p.before (slice_range text at end) p.are w;
      reads = λ len op forks leg.
          p.reads len op forks leg
          ∙ ap (λ ts. read_tokens len ts (At (next op p.before) forks leg)) (word_read text at end 44 h k e refl refl passed)
          ∙ comma_read len p.before (slice_range text at end) at end (tokens_from (drop (end + 1) text) true (end + 1) []) op forks leg;
      joined = λ v q.
          ap (λ x. operands_in (x ++ v)) more
          ∙ ap operands_in (with_some (slice_range text from end) v some)
          ∙ operand_added (slice_range text from end) v q
          ∙ ap (λ x. x ++ v ∷ []) (with_word text from at end p (omega arith) w);
    }

-- ---- the parenthesis

-- what is known of the operands up to their parenthesis
pub record Closes (text : List ℕ) (from end : ℕ) : Type 0 where
  pub reads : ReadsOperands (slice_range text from end) (tokens_from (drop from text) true from []) (tokens_from (drop (end + 1) text) false (end + 1) [])
  pub are : IsTrue (list_all is_operand (operands_in (slice_range text from end)))

pub closes_after : (text : List ℕ) (from at end : ℕ) → Progress text from at → at < end → end < length text → get_or text end 0 ≡ 41 → IsTrue (is_operand (slice_range text at end)) → RunPassed text at end → Closes text from end
closes_after text from at end p h k e w passed =
    let all = with_word text from at end p (omega arith) w in
    record {
      reads = λ len op forks leg.
          p.reads len op forks leg
          ∙ ap (λ ts. read_tokens len ts (At (next op p.before) forks leg)) (word_read text at end 41 h k e refl refl passed)
          ∙ close_read len p.before (slice_range text at end) at end (tokens_from (drop (end + 1) text) false (end + 1) []) op forks leg
          ∙ ap (λ ws. read_tokens len (tokens_from (drop (end + 1) text) false (end + 1) []) (add_element forks leg (instruction op ws))) (sym all);
      are = ap (list_all is_operand) all ∙ all_more p.before (slice_range text at end) p.are w;
    }

-- a parenthesis right after the first
pub closes_empty : (text : List ℕ) (from : ℕ) → from < length text → get_or text from 0 ≡ 41 → Closes text from from
closes_empty text from k e =
    let none = none_between text from in
    let mark_here : tokens_from (drop from text) true from [] ≡ record { at = from; token = CloseParen } ∷ tokens_from (drop (from + 1) text) false (from + 1) [] =
    mark_read text true from k (ap (in_run true) e) (ap is_blank e)
    ∙ ap (λ c. record { at = from; token = mark c } ∷ tokens_from (drop (from + 1) text) (inside_after true (mark c)) (from + 1) []) e in
    record {
      reads = λ len op forks leg.
          ap (λ ts. read_tokens len ts (At (First op) forks leg)) mark_here
          ∙ ap (λ x. read_tokens len (tokens_from (drop (from + 1) text) false (from + 1) []) (add_element forks leg (instruction op (operands_in x)))) (sym none);
      are = ap (λ x. list_all is_operand (operands_in x)) none;
    }

-- ---- the parenthesis that opens them

pub opened : (text : List ℕ) (inside : Bool) (at end : ℕ) → inside ≡ false → at < length text → get_or text at 0 ≡ 40
    → ReadsOperands (slice_range text (at + 1) end) (tokens_from (drop (at + 1) text) true (at + 1) []) (tokens_from (drop (end + 1) text) false (end + 1) [])
    → ReadsInstruction (slice_range text (at + 1) end) (tokens_from (drop at text) inside at []) (tokens_from (drop (end + 1) text) inside (end + 1) [])
opened text inside at end outside k e reads =
    subst (λ b. ReadsInstruction (slice_range text (at + 1) end) (tokens_from (drop at text) b at []) (tokens_from (drop (end + 1) text) b (end + 1) [])) (sym outside)
    (λ len op forks leg.
    ap (λ ts. read_tokens len ts (At (Named op) forks leg)) (mark_read text false at k (ap (in_run false) e) (ap is_blank e)
    ∙ ap (λ c. record { at = at; token = mark c } ∷ tokens_from (drop (at + 1) text) (inside_after false (mark c)) (at + 1) []) e)
    ∙ reads len op forks leg)
