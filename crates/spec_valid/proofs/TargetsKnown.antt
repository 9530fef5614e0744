-- What checked rungs name as routines and tasks are some of those that they were checked against.
use Rattle.std.specs.Prelude.{◌≡◌, ℕ, Bool, true, false, ◌&&◌, if◌then◌else◌, pos, codes, bytes_eq, position, List, [], ◌∷◌, map, length, filter_map, flat_map, Option, Some, None, option_map, option_and_then, Result, Ok, Err, IsTrue, refl}
use Rattle.std.specs.List.{AllByRecursion as Each, list_all}
use Rattle.std.specs.Result.{result_ok}
use Rattle.std.proofs.Common.{sym, subst, ◌∙◌}
use Rattle.std.proofs.lemmas.Bool.{and_from, lt-ltb}
use Rattle.std.proofs.lemmas.List.Folds.{list_all-append}
use Rattle.lgx_num.specs.Name.{is_name, same}
use Rattle.lgx_num.specs.declared.place.Flag.{Flag}
use Rattle.lgx_num.specs.declared.place.Operand.{Operand}
use Rattle.lgx_num.specs.declared.place.Operand.TheVariants as operand
use Rattle.lgx_num.specs.declared.place.Path.{Path}
use Rattle.lgx_rung.specs.declared.fault.CheckCode.{CheckCode}
use Rattle.lgx_rung.specs.declared.fault.CheckCode.TheVariants.{C2, C11, C12, C15}
use Rattle.lgx_rung.specs.declared.ins.Ins.{Ins}
use Rattle.lgx_rung.specs.declared.operands.OperandKind.{OperandKind}
use Rattle.lgx_rung.specs.declared.operands.OperandKind.TheVariants.{BoolPlace, BoolOrFlag, IntegerPlace, IntegerOrNumber, WholeTimer, WholeCounter, TimerOrCounter, CopySource, CopyTarget, FillTarget, QuestionMark, RoutineName, ParameterCount, JumpLabel, OwnLabel, EventTask}
use Rattle.lgx_rung.specs.OperandTable.{as_count}
use Rattle.lgx_rung.specs.Tree.{Source, SourceIns, instructions}
use Rattle.spec_base.proofs.Binds.{ok_inj, err_not_ok}
use Rattle.spec_base.specs.FirstCause.{some_or}
use Rattle.spec_language.specs.Checked.{CheckScope, Spot, Label, checked, labels, label_of, operand_of, operands_of, settled, instruction_of}
use Rattle.spec_language.specs.Declarations.{Declarations}
use Rattle.spec_language.specs.OperandForm.{Number, fitting, outside, number, flag}
use Rattle.spec_language.specs.Operands.{decimal, paired, path_of, is_bool, is_timer, is_counter, one_place, block_where, place_as, number_as, flag_as, read_as, data_operand, name_operand}
use Rattle.spec_language.specs.Resolution.{is_integer, found}
use Rattle.spec_language.specs.declared.tag.Found.{Found}
use Rattle.spec_language.specs.declared.tag.Scope.{Scope}
use Rattle.spec_language.specs.declared.tag.Scope.TheVariants.{Program}
use Rattle.spec_language.specs.declared.tag.TagCode.{TagCode}
use Rattle.spec_language.specs.declared.types.TypeDecl.{TypeDecl}
use Rattle.spec_language.proofs.OperandBounds.{one_place_ok}
use Rattle.spec_language.proofs.Outlines.{answered_outline}
use Rattle.spec_language.proofs.Reaching.{position_below}
use Rattle.spec_machine.proofs.CheckedWalk.{rungs_have}
use Rattle.spec_machine.specs.ValidProject.{is_known, knows_targets}
use Rattle.spec_scan.specs.Position.{Rungs}
use Rattle.spec_valid.proofs.Lists.{all_pass}

-- ---- data name no routine and no task

module _ (routines tasks : ℕ) where
  abbrev Knows : Operand → Type 0
  Knows o = IsTrue (is_known routines tasks o)

  one_known : (test : Bool) (make : Path → Operand) (f : Found) (o : Operand) → ((p : Path) → Knows (make p))
      → one_place test make f ≡ Ok o → Knows o
  one_known test make f o known p = subst Knows (one_place_ok test make f o p).2 (known (path_of f))

  block_known : (test : Bool) (types : List TypeDecl) (f : Found) (o : Operand) → block_where test types f ≡ Ok o
      → Knows o
  block_known true types f o p = subst Knows (ok_inj _ _ p) refl
  block_known false types f o p = err_not_ok _ _ p

  timer_or_counter_known : (is : Bool) (f : Found) (o : Operand)
      → (if is then one_place true operand.Timer f else one_place (is_counter f.of.base) operand.Counter f) ≡ Ok o
      → Knows o
  timer_or_counter_known true f o p = one_known true operand.Timer f o (λ _. refl) p
  timer_or_counter_known false f o p = one_known (is_counter f.of.base) operand.Counter f o (λ _. refl) p

  place_known : (types : List TypeDecl) (w : OperandKind) (f : Found) (o : Operand) → place_as types w f ≡ Ok o
      → Knows o
  place_known types BoolPlace f o p = one_known (is_bool f.of.base) operand.Cell f o (λ _. refl) p
  place_known types BoolOrFlag f o p = one_known (is_bool f.of.base) operand.Cell f o (λ _. refl) p
  place_known types IntegerPlace f o p = one_known (is_integer f.of) operand.Cell f o (λ _. refl) p
  place_known types IntegerOrNumber f o p = one_known (is_integer f.of) operand.Cell f o (λ _. refl) p
  place_known types WholeTimer f o p = one_known (is_timer f.of.base) operand.Timer f o (λ _. refl) p
  place_known types WholeCounter f o p = one_known (is_counter f.of.base) operand.Counter f o (λ _. refl) p
  place_known types TimerOrCounter f o p = timer_or_counter_known (is_timer f.of.base) f o p
  place_known types CopySource f o p = block_known _ types f o p
  place_known types CopyTarget f o p = block_known _ types f o p
  place_known types FillTarget f o p = block_known _ types f o p
  place_known types _ f o p = err_not_ok _ _ p

  flag_known : (w : OperandKind) (f : Flag) (o : Operand) → flag_as w f ≡ Ok o → Knows o
  flag_known BoolOrFlag f o p = subst Knows (ok_inj _ _ p) refl
  flag_known _ f o p = err_not_ok _ _ p

  number_known : (w : OperandKind) (n : Number) (o : Operand) → number_as w n ≡ Ok o → Knows o
  number_known IntegerOrNumber (fitting n) o p = subst Knows (ok_inj _ _ p) refl
  number_known IntegerOrNumber outside o p = err_not_ok _ _ p
  number_known _ n o p = err_not_ok _ _ p

  data_known : (d : Declarations) (scope : Scope) (w : OperandKind) (text : List ℕ) (o : Operand)
      → data_operand d scope w text ≡ Ok o → Knows o
  data_known d scope w text o p = go (flag text) (number text) (found d scope text) p
    where
      go : (a : Option Flag) (b : Option Number) (r : Result Found TagCode) → read_as d.types w a b r ≡ Ok o → Knows o
      go (Some f) b r q = flag_known w f o q
      go None (Some n) r q = number_known w n o q
      go None None (Ok f) q = place_known d.types w f o q
      go None None (Err code) q = err_not_ok _ _ q

  -- ---- names

  name_known : {A : Type 0} (text : List ℕ) (make : A → Operand) (named : Option A) (cause : CheckCode) (o : Operand)
      → ((a : A) → named ≡ Some a → Knows (make a)) → name_operand text (option_map make named) cause ≡ Ok o → Knows o
  name_known {A} text make named cause o known p = go (is_name text) named known p
    where
      go : (b : Bool) (n : Option A) → ((a : A) → n ≡ Some a → Knows (make a))
          → (if b then some_or (option_map make n) cause else Err C2) ≡ Ok o → Knows o
      go false n k r = err_not_ok _ _ r
      go true None k r = err_not_ok _ _ r
      go true (Some a) k r = subst Knows (ok_inj _ _ r) (k a refl)

-- ---- operands

module _ (s : CheckScope) (ls : List Label) (spot : Spot) where
  abbrev IsKnown : Operand → Type 0
  IsKnown = Knows (length s.routines) (length s.tasks)

  data_names_none : (w : OperandKind) (text : List ℕ) (o : Operand)
      → data_operand s.tags (Program s.program) w text ≡ Ok o → IsKnown o
  data_names_none w text o p = data_known (length s.routines) (length s.tasks) s.tags (Program s.program) w text o p

  operand_known : (w : OperandKind) (text : List ℕ) (o : Operand) → operand_of s ls spot (w, text) ≡ Ok o → IsKnown o
  operand_known RoutineName text o p =
      name_known (length s.routines) (length s.tasks) text operand.Routine (position (λ name. same name text) s.routines) C11 o (λ r e. lt-ltb r (length s.routines) (position_below (λ name. same name text) s.routines r e)) p
  operand_known ParameterCount text o p = go (option_and_then as_count (decimal text)) p
    where
      go : (count : Option ℕ) → some_or (option_map (λ n. operand.Number (pos n)) count) C2 ≡ Ok o → IsKnown o
      go (Some n) r = subst IsKnown (ok_inj _ _ r) refl
      go None r = err_not_ok _ _ r
  operand_known JumpLabel text o p = name_known (length s.routines) (length s.tasks) text (λ l. operand.Label l.rung) (label_of ls text) C12 o (λ _ _. refl) p
  operand_known OwnLabel text o p = name_known (length s.routines) (length s.tasks) text operand.Label (Some spot.rung) C2 o (λ _ _. refl) p
  operand_known EventTask text o p =
      name_known (length s.routines) (length s.tasks) text operand.Task (position (λ t. t.event && same t.name text) s.tasks) C15 o (λ t e. lt-ltb t (length s.tasks) (position_below (λ t. t.event && same t.name text) s.tasks t e)) p
  operand_known QuestionMark text o p = go (bytes_eq text (codes "?")) p
    where
      go : (b : Bool)
          → (if b then Ok operand.Blank else data_operand s.tags (Program s.program) QuestionMark text) ≡ Ok o
          → IsKnown o
      go true r = subst IsKnown (ok_inj _ _ r) refl
      go false r = data_names_none QuestionMark text o r
  operand_known BoolPlace text o p = data_names_none BoolPlace text o p
  operand_known BoolOrFlag text o p = data_names_none BoolOrFlag text o p
  operand_known IntegerPlace text o p = data_names_none IntegerPlace text o p
  operand_known IntegerOrNumber text o p = data_names_none IntegerOrNumber text o p
  operand_known WholeTimer text o p = data_names_none WholeTimer text o p
  operand_known WholeCounter text o p = data_names_none WholeCounter text o p
  operand_known TimerOrCounter text o p = data_names_none TimerOrCounter text o p
  operand_known CopySource text o p = data_names_none CopySource text o p
  operand_known CopyTarget text o p = data_names_none CopyTarget text o p
  operand_known FillTarget text o p = data_names_none FillTarget text o p

  operands_known : (ps : List (OperandKind × List ℕ))
      → Each IsKnown (filter_map result_ok (map (operand_of s ls spot) ps))
  operands_known [] = tt
  operands_known (p ∷ ps) = go (operand_of s ls spot p) refl (operands_known ps)
    where
      go : (r : Result Operand CheckCode) → operand_of s ls spot p ≡ r
          → Each IsKnown (filter_map result_ok (map (operand_of s ls spot) ps))
          → Each IsKnown (filter_map result_ok (r ∷ map (operand_of s ls spot) ps))
      go (Ok o) q rest = (operand_known p.0 p.1 o q, rest)
      go (Err e) q rest = rest

-- ---- instructions

abbrev NamesKnown : ℕ → ℕ → Ins → Type 0
NamesKnown routines tasks i = Each (Knows routines tasks) i.args

instruction_known : (s : CheckScope) (ls : List Label) (spot : Spot) (i : SourceIns) (made : Ins)
    → instruction_of s ls spot i ≡ Ok made → NamesKnown (length s.routines) (length s.tasks) made
instruction_known s ls spot i made p = go (paired i.op i.texts) p
  where
    go : (o : Option (List (OperandKind × List ℕ))) → settled ls spot i (operands_of s ls spot o) ≡ Ok made
        → NamesKnown (length s.routines) (length s.tasks) made
    go None r = subst (NamesKnown (length s.routines) (length s.tasks)) (sym (answered_outline spot i.op _ _ made r).1) tt
    go (Some ps) r = subst (NamesKnown (length s.routines) (length s.tasks)) (sym (answered_outline spot i.op _ _ made r).1) (operands_known s ls spot ps)

-- ---- rungs

all_known : (routines tasks : ℕ) (is : List Ins) → Each (NamesKnown routines tasks) is
    → IsTrue (list_all (λ i. list_all (is_known routines tasks) i.args) is)
all_known routines tasks is h = all_pass (NamesKnown routines tasks) (λ i. list_all (is_known routines tasks) i.args) is (λ i known. all_pass (Knows routines tasks) (is_known routines tasks) i.args (λ o k. k) known) h

rungs_known : (routines tasks : ℕ) (rungs : Rungs) → Each (λ r. Each (NamesKnown routines tasks) (instructions r)) rungs
    → IsTrue (knows_targets routines tasks rungs)
rungs_known routines tasks [] h = refl
rungs_known routines tasks (r ∷ rs) h =
    list_all-append (λ i. list_all (is_known routines tasks) i.args) (instructions r) (flat_map instructions rs)
    ∙ and_from (list_all (λ i. list_all (is_known routines tasks) i.args) (instructions r)) (knows_targets routines tasks rs) (all_known routines tasks (instructions r) h.0) (rungs_known routines tasks rs h.1)

pub checked_know_targets : (scope : CheckScope) (source : List Source) (made : Rungs) → checked scope source ≡ Ok made
    → IsTrue (knows_targets (length scope.routines) (length scope.tasks) made)
checked_know_targets scope source made p =
    rungs_known (length scope.routines) (length scope.tasks) made (rungs_have (instruction_of scope (labels source)) (NamesKnown (length scope.routines) (length scope.tasks)) (instruction_known scope (labels source)) 0 0 source made p)
