-- Operands of a kind that lie in an image: where their places and bytes are.
use Rattle.std.proofs.Common.{◌≡◌, ℕ, ◌+◌, ◌<◌, ◌≤◌, ◌⊎◌, inl, inr, List, length, Option, Some, None, option_map, refl, sym, subst, arith}
use Rattle.std.specs.Prelude.{IfSome}
use Rattle.std.specs.List.{All}
use Rattle.std.proofs.lemmas.Bool.{cases_lt}
use Rattle.std.proofs.lemmas.List.{get_or_past}
use Rattle.std.proofs.lemmas.List.Elements.{All-get_or}
use Rattle.lgx_num.specs.declared.place.Operand.{Operand}
use Rattle.lgx_num.specs.declared.place.Operand.TheVariants as operand
use Rattle.lgx_num.specs.Image.{InBounds, bit_of}
use Rattle.lgx_num.specs.Paths.{OperandInBounds}
use Rattle.lgx_num.proofs.Subscripts.{subscripts_stay_in_range}
use Rattle.lgx_rung.specs.declared.op.Op.{Op}
use Rattle.spec_base.specs.declared.limits.TheConstants.{TIMER_BYTES, COUNTER_BYTES}
use Rattle.spec_scan.specs.declared.bound.Arg.{Arg}
use Rattle.spec_scan.specs.declared.bound.Arg.TheVariants as bound
use Rattle.spec_scan.specs.Arguments.{bind, bind_one, cell_at, timer_at, counter_at, block_at, place_of, byte_of}
use Rattle.spec_scan.specs.Executable.{EndsIn, ArgsEndIn}
use Rattle.spec_scan.specs.Fits.{operand_at, OperandsFit, IsPlace, IsTimerPlace, IsCounterPlace, ArgsFit}
use Rattle.spec_scan.proofs.KeptKinds.{args_fit, args_end, bound_at}
use Rattle.spec_scan.specs.ArgBounds.{ArgInBounds, ArgsInBounds}

-- ---- one operand

pub place_lies : (a : Arg) (len : ℕ) → IsPlace a → ArgInBounds a len → InBounds (place_of a) len
place_lies (bound.Cell place) len is lies = lies
place_lies _ len is lies = absurd is

pub timer_lies : (a : Arg) (len : ℕ) → IsTimerPlace a → ArgInBounds a len → byte_of a + TIMER_BYTES ≤ len
timer_lies (bound.Timer at) len is lies = lies
timer_lies _ len is lies = absurd is

pub counter_lies : (a : Arg) (len : ℕ) → IsCounterPlace a → ArgInBounds a len → byte_of a + COUNTER_BYTES ≤ len
counter_lies (bound.Counter at) len is lies = lies
counter_lies _ len is lies = absurd is

-- ---- operands that are bound

pub bound_fit : (image : List ℕ) (operands : List Operand) (o : Option (List Arg)) (op : Op) → o ≡ bind image operands → OperandsFit op operands → IfSome o (λ args. ArgsFit op args)
bound_fit image operands (Some args) op is fit = args_fit image operands args op (sym is) fit
bound_fit image operands None op is fit = tt

pub bound_end : (image : List ℕ) (operands : List Operand) (o : Option (List Arg)) (len : ℕ) → o ≡ bind image operands → All (EndsIn len) operands → IfSome o (λ args. ArgsEndIn len args)
bound_end image operands (Some args) len is ends = args_end image operands args len (sym is) ends
bound_end image operands None len is ends = tt

-- ---- where they lie

lies : (image : List ℕ) (o : Operand) → OperandInBounds o (length image) → IfSome (bind_one image o) (λ a. ArgInBounds a (length image))
lies image (operand.Number n) h = tt
lies image (operand.Cell p) h = go (bit_of image p) refl
  where
    go : (at : Option ℕ) → bit_of image p ≡ at → IfSome (option_map (cell_at p.kind) at) (λ a. ArgInBounds a (length image))
    go (Some to) e = h.1 to (subscripts_stay_in_range image p to e)
    go None e = tt
lies image (operand.Timer p) h = go (bit_of image p) refl
  where
    go : (at : Option ℕ) → bit_of image p ≡ at → IfSome (option_map timer_at at) (λ a. ArgInBounds a (length image))
    go (Some to) e = omega (arith, h.1 to (subscripts_stay_in_range image p to e))
    go None e = tt
lies image (operand.Counter p) h = go (bit_of image p) refl
  where
    go : (at : Option ℕ) → bit_of image p ≡ at → IfSome (option_map counter_at at) (λ a. ArgInBounds a (length image))
    go (Some to) e = omega (arith, h.1 to (subscripts_stay_in_range image p to e))
    go None e = tt
lies image (operand.Block b) h = go (bit_of image b.path) refl
  where
    go : (at : Option ℕ) → bit_of image b.path ≡ at → IfSome (option_map (block_at b) at) (λ a. ArgInBounds a (length image))
    go (Some to) e = let both = h.1.1 to (subscripts_stay_in_range image b.path to e) in (h.0, omega (arith, both.0), omega (arith, both.0, both.1))
    go None e = tt
lies image _ h = tt

-- after the last operand stands a blank
operand_lies : (operands : List Operand) (i len : ℕ) → All (λ o. OperandInBounds o len) operands → OperandInBounds (operand_at operands i) len
operand_lies operands i len h = go (cases_lt i (length operands))
  where
    go : (i < length operands) ⊎ (length operands ≤ i) → OperandInBounds (operand_at operands i) len
    go (inl within) = All-get_or (λ o. OperandInBounds o len) operands i operand.Blank within h
    go (inr past) = subst (λ o. OperandInBounds o len) (sym (get_or_past operands i operand.Blank past)) tt

-- operands that lie in an image lie there with their places worked out
pub bound_lie : (image : List ℕ) (operands : List Operand) (args : List Arg) → bind image operands ≡ Some args → All (λ o. OperandInBounds o (length image)) operands → ArgsInBounds args (length image)
bound_lie image operands args is h i =
    subst (λ (o : Option Arg). IfSome o (λ a. ArgInBounds a (length image))) (bound_at image operands args i is) (lies image (operand_at operands i) (operand_lies operands i (length image) h))
