-- A place is an operand of a kind exactly where its type is taken.
use Rattle.std.proofs.Common.{◌≡◌, Bool, true, false, not, ◌&&◌, ◌||◌, if◌then◌else◌, List, Result, Ok, Err, refl, ap}
use Rattle.lgx_num.specs.declared.place.Operand.{Operand}
use Rattle.lgx_num.specs.declared.place.Operand.TheVariants as operand
use Rattle.lgx_rung.specs.declared.fault.CheckCode.{CheckCode}
use Rattle.lgx_rung.specs.declared.fault.CheckCode.TheVariants.{C2}
use Rattle.lgx_rung.specs.declared.operands.OperandKind.{OperandKind}
use Rattle.lgx_rung.specs.declared.operands.OperandKind.TheVariants.{BoolPlace, BoolOrFlag, IntegerPlace, IntegerOrNumber, WholeTimer, WholeCounter, TimerOrCounter, CopySource, CopyTarget, FillTarget, QuestionMark, RoutineName, ParameterCount, JumpLabel, OwnLabel, EventTask}
use Rattle.spec_language.specs.declared.types.TypeDecl.{TypeDecl}
use Rattle.spec_language.specs.declared.tag.Found.{Found}
use Rattle.spec_language.specs.Operands.{block_of, is_counter, is_timer, path_of, place_as}
use Rattle.spec_language.specs.Resolution.{is_array}
use Rattle.lgx_check.specs.Taken.{is_taken, operand_as}

kept : (b : Bool) (o : Operand) → b ≡ true → (if b then Ok o else Err C2) ≡ Ok o
kept b o h = ap (λ x. if x then Ok o else Err C2) h

refused : (b : Bool) (o : Operand) → b ≡ false → (if b then Ok o else Err C2) ≡ Err C2
refused b o h = ap (λ x. if x then Ok o else Err C2) h

-- a TIMER or a COUNTER
either : (t c a : Bool) (o p : Operand) → ((t || c) && not a) ≡ true
    → (if t then (if true && not a then Ok o else Err C2) else (if c && not a then Ok p else Err C2)) ≡ Ok (if t then o else p)
either true c false o p h = refl
either true c true o p h = cc
either false true false o p h = refl
either false true true o p h = cc
either false false a o p h = cc

neither : (t c a : Bool) (o p : Operand) → ((t || c) && not a) ≡ false
    → (if t then (if true && not a then Ok o else Err C2) else (if c && not a then Ok p else Err C2)) ≡ Err C2
neither true c false o p h = cc
neither true c true o p h = refl
neither false true false o p h = cc
neither false true true o p h = refl
neither false false a o p h = refl

pub taken_as : (types : List TypeDecl) (kind : OperandKind) (f : Found) → is_taken kind f.of ≡ true → place_as types kind f ≡ Ok (operand_as types kind f)
taken_as types BoolPlace f h = kept _ (operand.Cell (path_of f)) h
taken_as types BoolOrFlag f h = kept _ (operand.Cell (path_of f)) h
taken_as types IntegerPlace f h = kept _ (operand.Cell (path_of f)) h
taken_as types IntegerOrNumber f h = kept _ (operand.Cell (path_of f)) h
taken_as types WholeTimer f h = kept _ (operand.Timer (path_of f)) h
taken_as types WholeCounter f h = kept _ (operand.Counter (path_of f)) h
taken_as types TimerOrCounter f h = either (is_timer f.of.base) (is_counter f.of.base) (is_array f.of) (operand.Timer (path_of f)) (operand.Counter (path_of f)) h
taken_as types CopySource f h = kept _ (operand.Block (block_of types f)) h
taken_as types CopyTarget f h = kept _ (operand.Block (block_of types f)) h
taken_as types FillTarget f h = kept _ (operand.Block (block_of types f)) h
taken_as types QuestionMark f h = cc
taken_as types RoutineName f h = cc
taken_as types ParameterCount f h = cc
taken_as types JumpLabel f h = cc
taken_as types OwnLabel f h = cc
taken_as types EventTask f h = cc

pub not_taken : (types : List TypeDecl) (kind : OperandKind) (f : Found) → is_taken kind f.of ≡ false → place_as types kind f ≡ Err C2
not_taken types BoolPlace f h = refused _ (operand.Cell (path_of f)) h
not_taken types BoolOrFlag f h = refused _ (operand.Cell (path_of f)) h
not_taken types IntegerPlace f h = refused _ (operand.Cell (path_of f)) h
not_taken types IntegerOrNumber f h = refused _ (operand.Cell (path_of f)) h
not_taken types WholeTimer f h = refused _ (operand.Timer (path_of f)) h
not_taken types WholeCounter f h = refused _ (operand.Counter (path_of f)) h
not_taken types TimerOrCounter f h = neither (is_timer f.of.base) (is_counter f.of.base) (is_array f.of) (operand.Timer (path_of f)) (operand.Counter (path_of f)) h
not_taken types CopySource f h = refused _ (operand.Block (block_of types f)) h
not_taken types CopyTarget f h = refused _ (operand.Block (block_of types f)) h
not_taken types FillTarget f h = refused _ (operand.Block (block_of types f)) h
not_taken types QuestionMark f h = refl
not_taken types RoutineName f h = refl
not_taken types ParameterCount f h = refl
not_taken types JumpLabel f h = refl
not_taken types OwnLabel f h = refl
not_taken types EventTask f h = refl
