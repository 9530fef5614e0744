-- A step keeps the places of returns in the image.
use Rattle.std.proofs.Common.{◌≡◌, ℕ, zero, suc, ◌-◌, ◌⊎◌, inl, inr, Bool, List, [], ◌∷◌, ◌++◌, length, map, replicate, drop, Option, Some, None, option_map, refl, sym, ap, ◌∙◌, subst, arith}
use Rattle.std.specs.Prelude.{⊤, unwrap_or}
use Rattle.std.specs.List.{All, AllByRecursion as Each}
use Rattle.lgx_num.specs.declared.place.Flags.{Flags}
use Rattle.lgx_num.specs.declared.place.Operand.{Operand}
use Rattle.lgx_num.specs.declared.place.Operand.TheVariants as operand
use Rattle.lgx_num.specs.declared.place.Path.{Path}
use Rattle.lgx_num.specs.declared.place.Place.{Place}
use Rattle.lgx_num.specs.Image.{InBounds, InBoundsAt, bit_of}
use Rattle.lgx_num.specs.Paths.{OperandInBounds, PathInBounds}
use Rattle.lgx_num.proofs.Subscripts.{subscripts_stay_in_range}
use Rattle.lgx_rung.specs.declared.ins.Ins.{Ins}
use Rattle.lgx_rung.specs.declared.op.Op.{Op}
use Rattle.lgx_rung.specs.declared.op.Op.TheVariants.{Jsr}
use Rattle.lgx_rung.specs.declared.operands.OperandKind.TheVariants.{IntegerPlace, IntegerOrNumber}
use Rattle.lgx_rung.specs.Tree.{Tree, end, one, fork}
use Rattle.spec_scan.specs.declared.bound.Arg.{Arg}
use Rattle.spec_scan.specs.declared.bound.Arg.TheVariants as bound
use Rattle.spec_scan.specs.declared.bound.Copying.{Copying}
use Rattle.spec_scan.specs.Arguments.{bind, bind_one, arg, cell_at, place_of}
use Rattle.spec_scan.specs.Executable.{IsExecutable}
use Rattle.spec_scan.specs.Fits.{IsCell, IsRoutine, AllFit, OperandsFit}
use Rattle.spec_scan.specs.Instructions.{Control, Nothing, Call, Return, Jump, ToggleZone, Up, Down, TriggerTask, StartCopy, MinorFault, MajorFault, Row, row}
use Rattle.spec_scan.specs.Parameters.{count_told, input_count, returns_of}
use Rattle.spec_scan.specs.Position.{ProgramRungs, Frame, Position}
use Rattle.spec_scan.specs.Returns.{ReturnsInBounds, NextIsExecutable, StepsKeepReturns}
use Rattle.spec_scan.specs.Next.{FirstHas}
use Rattle.spec_scan.specs.Scan.{after_row, in_frame, in_frames, in_progress}
use Rattle.spec_scan.proofs.CallOperands.{IsCounted, call_operands}
use Rattle.spec_scan.proofs.KeptKinds.{some_head}
use Rattle.spec_scan.proofs.RowControls.{IsOther, row_asks}

-- ---- places that are bound

abbrev pub ArePlaces : ℕ → List Place → Type 0
ArePlaces len places = Each (λ (p : Place). InBounds p len) places

-- where a path leads that lies in an image
path_lies : (image : List ℕ) (p : Path) (o : Option ℕ) (a : Arg) (len : ℕ) → bit_of image p ≡ o → option_map (cell_at p.kind) o ≡ Some a → PathInBounds p len (λ to. InBoundsAt p.kind to len) → InBounds (place_of a) len
path_lies image p (Some at) a len leads found lies =
    let is : cell_at p.kind at ≡ a = cc found in
    subst (λ (z : Arg). InBounds (place_of z) len) is (lies.1 at (subscripts_stay_in_range image p at leads))
path_lies image p None a len leads found lies = absurd (cc found)

place_lies : (image : List ℕ) (o : Operand) (a : Arg) (len : ℕ) → bind_one image o ≡ Some a → IsCell o → OperandInBounds o len → InBounds (place_of a) len
place_lies image (operand.Cell p) a len found is lies = path_lies image p (bit_of image p) a len refl found lies
place_lies image _ a len found is lies = absurd is

-- after so many inputs the operands are places
returns_lie : (image : List ℕ) (len count more : ℕ) (handed : List Operand) (args : List Arg) → AllFit (replicate count IntegerOrNumber ++ replicate more IntegerPlace) handed → Each (λ o. OperandInBounds o len) handed → bind image handed ≡ Some args → ArePlaces len (map place_of (drop count args))
returns_lie image len zero zero [] args fit lie found =
    let none : [] ≡ args = cc found in
    subst (λ (xs : List Arg). ArePlaces len (map place_of xs)) none tt
returns_lie image len zero zero (o ∷ os) args fit lie found = absurd fit
returns_lie image len zero (suc more) [] args fit lie found = absurd fit
returns_lie image len zero (suc more) (o ∷ os) args fit lie found =
    let h = some_head (bind_one image o) (bind image os) args found in
    subst (λ (xs : List Arg). ArePlaces len (map place_of xs)) (sym h.4) (place_lies image o h.0 len h.2 fit.0 lie.0, returns_lie image len zero more os h.1 fit.1 lie.1 h.3)
returns_lie image len (suc count) more [] args fit lie found = absurd fit
returns_lie image len (suc count) more (o ∷ os) args fit lie found =
    let h = some_head (bind_one image o) (bind image os) args found in
    subst (λ (xs : List Arg). ArePlaces len (map place_of (drop (suc count) xs))) (sym h.4) (returns_lie image len count more os h.1 fit.1 lie.1 h.3)

-- ---- what a row asks for

-- the places of the returns of a call lie in the image
abbrev pub HandsOver : ℕ → Control → Type 0
HandsOver len (Call n inputs returns) = ArePlaces len returns
HandsOver len _ = ⊤

other_hands : (len : ℕ) (d : Control) → IsOther d → HandsOver len d
other_hands len (Call n inputs returns) h = absurd h
other_hands len _ h = tt

-- ---- a JSR that can be executed

counted_lie : (image : List ℕ) (len : ℕ) (operands : List Operand) (args : List Arg) → IsCounted operands → Each (λ o. OperandInBounds o len) operands → bind image operands ≡ Some args → ArePlaces len (returns_of args)
counted_lie image len operands args c lie found =
    let lies : Each (λ o. OperandInBounds o len) (c.routine ∷ operand.Number c.number ∷ c.handed) = subst (λ os. Each (λ o. OperandInBounds o len) os) c.are lie in
    let all : bind image (c.routine ∷ operand.Number c.number ∷ c.handed) ≡ Some args = ap (bind image) (sym c.are) ∙ found in
    let first = some_head (bind_one image c.routine) (bind image (operand.Number c.number ∷ c.handed)) args all in
    let second = some_head (Some (bound.Number c.number)) (bind image c.handed) first.1 first.3 in
    let number : second.0 ≡ bound.Number c.number = cc (sym second.2) in
    let count : input_count args ≡ c.count =
    ap input_count first.4 ∙ ap (λ (xs : List Arg). count_told (arg xs 0)) second.4 ∙ ap count_told number ∙ ap (λ (o : Option ℕ). unwrap_or o 0) c.is_count in
    let rest : returns_of args ≡ map place_of (drop c.count second.1) =
    ap (λ (n : ℕ). map place_of (drop n (drop 2 args))) count ∙ ap (λ (xs : List Arg). map place_of (drop c.count (drop 2 xs))) (first.4 ∙ ap (λ (xs : List Arg). first.0 ∷ xs) second.4) in
    subst (ArePlaces len) (sym rest) (returns_lie image len c.count (length c.handed - c.count) c.handed second.1 c.fit lies.1.1 second.3)

call_lies : (image : List ℕ) (len : ℕ) (operands : List Operand) (args : List Arg) → OperandsFit Jsr operands → Each (λ o. OperandInBounds o len) operands → bind image operands ≡ Some args → ArePlaces len (returns_of args)
call_lies image len operands args fit lie found = go (call_operands operands fit)
  where
    go : ((routine : Operand) × IsRoutine routine × (operands ≡ routine ∷ [])) ⊎ IsCounted operands → ArePlaces len (returns_of args)
    go (inl alone) =
        let all : bind image (alone.0 ∷ []) ≡ Some args = ap (bind image) (sym alone.2) ∙ found in
        let first = some_head (bind_one image alone.0) (Some []) args all in
        let none : first.1 ≡ [] = cc (sym first.3) in
        subst (λ (xs : List Arg). ArePlaces len (returns_of xs)) (sym (first.4 ∙ ap (λ (xs : List Arg). first.0 ∷ xs) none)) tt
    go (inr counted) = counted_lie image len operands args counted lie found

each_of : {A : Type 0} (P : A → Type 0) (xs : List A) → All P xs → Each P xs
each_of P [] h = tt
each_of P (x ∷ xs) h = (h 0 x (omega arith), each_of P xs (λ k d below. h (suc k) d (omega (arith, below))))

pub instruction_hands : (i : Ins) (on : Bool) (now : ℕ) (first : Bool) (frames : List Frame) (flags : Flags) (image : List ℕ) (len : ℕ) → IsExecutable len i → HandsOver len (row i.op i.args on now first frames flags image).control
instruction_hands i on now first frames flags image len can =
    row_asks (HandsOver len) (other_hands len) i.args on now first frames flags image i.op (λ args found. record {
      call = λ is. call_lies image len i.args args (subst (λ (op : Op). OperandsFit op i.args) is can.fit) (each_of (λ o. OperandInBounds o len) i.args can.lie) found;
      trigger = λ is. tt;
      copy = λ is c started. tt;
    })

-- ---- a step

module _ (program : ProgramRungs) (position : Position) (image : List ℕ) (now : ℕ) (first : Bool) (flags : Flags) (len : ℕ) (keep : ReturnsInBounds len position) where
  after_hands : (r : Row) (f : Frame) (outer : List Frame) → ArePlaces len f.returns → Each (λ (g : Frame). ArePlaces len g.returns) outer → HandsOver len r.control → ReturnsInBounds len (after_row program position image now first flags r f outer).position
  after_hands r f outer here others hands = go r.control hands
    where
      go : (control : Control) → HandsOver len control → ReturnsInBounds len (after_row program position image now first flags (record r { control = control }) f outer).position
      go Nothing h = (here, others)
      go (Call n inputs returns) h = (h, (here, others))
      go Return h = (here, others)
      go (Jump label) h = (here, others)
      go ToggleZone h = (here, others)
      go Up h = (here, others)
      go Down h = (here, others)
      go (TriggerTask t) h = (here, others)
      go (StartCopy c) h = (here, others)
      go MinorFault h = (here, others)
      go (MajorFault code) h = keep

  frame_keeps : (f : Frame) (outer : List Frame) (rest : Tree Ins) → FirstHas (IsExecutable len) rest → ArePlaces len f.returns → Each (λ (g : Frame). ArePlaces len g.returns) outer → ReturnsInBounds len (in_frame program position image now first flags f outer rest).position
  frame_keeps f outer (one i rest) can here others =
      let r = row i.op i.args f.cursor.on now first position.frames flags image in
      after_hands r (record f { cursor = record f.cursor { rest = rest; on = r.on } }) outer here others (instruction_hands i f.cursor.on now first position.frames flags image len can)
  frame_keeps f outer end can here others = others
  frame_keeps f outer (fork t legs rest) can here others = others

  frames_keep : (frames : List Frame) → NextIsExecutable len frames → Each (λ (g : Frame). ArePlaces len g.returns) frames → ReturnsInBounds len (in_frames program position image now first flags frames).position
  frames_keep [] can h = tt
  frames_keep (f ∷ outer) can h = frame_keeps f outer f.cursor.rest can h.0 h.1

  step_keeps : (copy : Option Copying) → NextIsExecutable len position.frames → ReturnsInBounds len (in_progress program position image now first flags copy).position
  step_keeps (Some c) can = keep
  step_keeps None can = frames_keep position.frames can keep

pub steps_keep_returns : StepsKeepReturns
steps_keep_returns program position image now first flags len can keep = step_keeps program position image now first flags len keep position.copy can
