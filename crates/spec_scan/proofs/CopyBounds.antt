-- Where a copy lies when it begins, and where one element of it does.
use Rattle.std.proofs.Common.{◌≡◌, ℕ, zero, suc, ◌+◌, ◌-◌, ◌*◌, ◌/◌, ◌^◌, ◌<◌, ◌≤◌, List, length, ℤ, Option, Some, None, arith}
use Rattle.std.proofs.Math.Nat.{suc-mul, mul-le-mul_right, div-mul-le_self}
use Rattle.spec_base.specs.declared.limits.TheConstants.{MAX_IMAGE_BYTES}
use Rattle.lgx_rung.specs.declared.op.Op.{Op}
use Rattle.lgx_rung.specs.declared.op.Op.TheVariants.{Fll}
use Rattle.spec_scan.specs.declared.bound.Arg.{Arg}
use Rattle.spec_scan.specs.declared.bound.Arg.TheVariants.{Number, Cell, Timer, Counter, Block, FlagOf, Other}
use Rattle.spec_scan.specs.declared.bound.Copying.{Copying}
use Rattle.spec_scan.specs.Arguments.{arg, byte_of, size_of, room_of}
use Rattle.spec_scan.specs.Copies.{elements, elements_in, copy_of}
use Rattle.spec_scan.specs.Executable.{ArgEndsIn}
use Rattle.spec_scan.specs.Fits.{IsFillSize, AreIntegers}
use Rattle.spec_scan.specs.ArgBounds.{ArgInBounds, ArgsInBounds}
use Rattle.spec_scan.specs.CopyBounds.{SourceInBounds, CopyInBounds, BlocksInBounds}

-- ---- one element of those that are left

pub element_lies : (at left size len : ℕ) → 0 < left → at + left * size ≤ len → at + size ≤ len
element_lies at zero size len some lies = absurd (omega arith)
element_lies at (suc others) size len some lies = let more : suc others * size ≡ others * size + size = suc-mul others size in omega arith

pub source_fits : (fill : Option ℤ) (c : Copying) (len : ℕ) → 0 < c.left → len ≤ MAX_IMAGE_BYTES → SourceInBounds fill c len → c.source + c.size < 2 ^ 32
source_fits None c len some room lies =
    let ends : c.source + c.size ≤ len = element_lies c.source c.left c.size len some lies in omega arith
source_fits (Some v) c len some room lies =
    let ends : c.source + c.size ≤ 2 ^ 32 - 1 = element_lies c.source c.left c.size (2 ^ 32 - 1) some (omega (arith, lies.1)) in omega arith

-- ---- all that a copy begins with

whole_elements : (left room size : ℕ) → left ≤ room / size → left * size ≤ room
whole_elements left room size few =
    let most : left * size ≤ room / size * size = mul-le-mul_right size few in
    let whole : room / size * size ≤ room = div-mul-le_self room size in
    omega (arith, most, whole)

room_lies : (a : Arg) (len bytes : ℕ) → ArgInBounds a len → ArgEndsIn len a → bytes ≤ room_of a → byte_of a + bytes ≤ len
room_lies (Number n) len bytes lies ends within = omega arith
room_lies (Cell p) len bytes lies ends within = omega arith
room_lies (Timer at) len bytes lies ends within = omega arith
room_lies (Counter at) len bytes lies ends within = omega arith
room_lies (Block at size stop) len bytes lies ends within = omega (arith, lies.0, lies.1, lies.2)
room_lies (FlagOf f) len bytes lies ends within = omega arith
room_lies Other len bytes lies ends within = omega arith

byte_lies : (a : Arg) (len : ℕ) → ArgInBounds a len → byte_of a ≤ len
byte_lies (Number n) len lies = omega arith
byte_lies (Cell p) len lies = omega arith
byte_lies (Timer at) len lies = omega arith
byte_lies (Counter at) len lies = omega arith
byte_lies (Block at size stop) len lies = omega (arith, lies.1)
byte_lies (FlagOf f) len lies = omega arith
byte_lies Other len lies = omega arith

few_for_target : (op : Op) (args : List Arg) (image : List ℕ) → elements op args image ≤ elements_in args (arg args 1)
few_for_target Fll args image = omega arith
few_for_target _ args image = omega arith

target_lies : (op : Op) (args : List Arg) (image : List ℕ) → ArgInBounds (arg args 1) (length image) → ArgEndsIn (length image) (arg args 1) → byte_of (arg args 1) + elements op args image * size_of (arg args 1) ≤ length image
target_lies op args image lies ends =
    room_lies (arg args 1) (length image) (elements op args image * size_of (arg args 1)) lies ends (whole_elements (elements op args image) (room_of (arg args 1)) (size_of (arg args 1)) (few_for_target op args image))

source_lies : (left : ℕ) (args : List Arg) (image : List ℕ) → ArgInBounds (arg args 0) (length image) → ArgEndsIn (length image) (arg args 0) → left ≤ elements_in args (arg args 0) → byte_of (arg args 0) + left * size_of (arg args 1) ≤ length image
source_lies left args image lies ends few =
    room_lies (arg args 0) (length image) (left * size_of (arg args 1)) lies ends (whole_elements left (room_of (arg args 0)) (size_of (arg args 1)) few)

-- the place of a fill's source and all that it stores are in the image, so their sum is a number of 32 bits
sum_fits : (source target bytes len : ℕ) → len ≤ MAX_IMAGE_BYTES → source ≤ len → target + bytes ≤ len → source + bytes < 2 ^ 32
sum_fits source target bytes len room here there = omega arith

integer_size : (a : Arg) → AreIntegers a → IsFillSize (size_of a)
integer_size (Block at size stop) is = is
integer_size _ is = absurd is

start_lies : (op : Op) (args : List Arg) (image : List ℕ) → length image ≤ MAX_IMAGE_BYTES → ArgsInBounds args (length image) → BlocksInBounds op args (length image) → CopyInBounds (copy_of op args image (elements op args image)) (length image)
start_lies Fll args image room lie blocks = record {
  target = target_lies Fll args image (lie 1) (blocks.ends 1);
  source = (integer_size (arg args 1) blocks.fit.1.0, sum_fits (byte_of (arg args 0)) (byte_of (arg args 1)) (elements Fll args image * size_of (arg args 1)) (length image) room (byte_lies (arg args 0) (length image) (lie 0)) (target_lies Fll args image (lie 1) (blocks.ends 1)));
}
start_lies op args image room lie blocks = record {
  target = target_lies op args image (lie 1) (blocks.ends 1);
  source = source_lies (elements op args image) args image (lie 0) (blocks.ends 0) (omega arith);
}

pub copy_lies : (op : Op) (args : List Arg) (image : List ℕ) (c : Copying) → c ≡ copy_of op args image (elements op args image) → length image ≤ MAX_IMAGE_BYTES → ArgsInBounds args (length image) → BlocksInBounds op args (length image) → CopyInBounds c (length image)
copy_lies op args image c is room lie blocks = rw is (start_lies op args image room lie blocks)
