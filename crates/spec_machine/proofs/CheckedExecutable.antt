-- Checked rungs are executable over the image of their tags.
use Rattle.std.specs.Prelude.{◌≡◌, ℕ, suc, ◌<◌, ◌≤◌, ◌⊎◌, Bool, true, false, not, ◌&&◌, nat_lt, if◌then◌else◌, pos, codes, bytes_eq, position, List, [], ◌∷◌, ◌++◌, map, length, filter_map, Option, Some, None, is_some, IsTrue, option_map, option_and_then, Result, Ok, Err, refl, ⊤}
use Rattle.std.specs.List.{All, AllByRecursion as Each}
use Rattle.std.specs.Result.{result_ok, result_err}
use Rattle.std.proofs.Common.{sym, ap, ◌∙◌, subst, arith, ltb-true, inl, inr}
use Rattle.std.proofs.lemmas.List.Elements.{All-cons}
use Rattle.lgx_num.specs.Name.{is_name, same}
use Rattle.lgx_num.specs.declared.place.Path.{Path}
use Rattle.lgx_num.specs.declared.place.Flag.{Flag}
use Rattle.lgx_num.specs.declared.place.Operand.{Operand}
use Rattle.lgx_num.specs.declared.place.Operand.TheVariants as operand
use Rattle.lgx_num.specs.Paths.{OperandInBounds}
use Rattle.lgx_rung.specs.declared.op.Op.{Op}
use Rattle.lgx_rung.specs.declared.op.Op.TheVariants.{Jsr}
use Rattle.lgx_rung.specs.declared.fault.CheckCode.{CheckCode}
use Rattle.lgx_rung.specs.declared.fault.CheckCode.TheVariants.{C1, C2, C11, C12, C15}
use Rattle.lgx_rung.specs.Tree.{Tree, Source, SourceIns, instructions}
use Rattle.spec_base.specs.FirstCause.{some_or}
use Rattle.lgx_rung.specs.declared.ins.Ins.{Ins}
use Rattle.spec_language.specs.declared.types.Base.{Base}
use Rattle.spec_language.specs.declared.types.Base.TheVariants.{Bool as OneBit, Sint, Int, Dint, Timer, Counter, User}
use Rattle.spec_language.specs.declared.types.TypeDecl.{TypeDecl}
use Rattle.spec_language.specs.declared.tag.Scope.{Scope}
use Rattle.spec_language.specs.declared.tag.Scope.TheVariants.{Program}
use Rattle.spec_language.specs.declared.tag.TagCode.{TagCode}
use Rattle.spec_language.specs.declared.tag.Found.{Found}
use Rattle.spec_language.specs.Layout.{size_of, single}
use Rattle.spec_language.specs.OperandForm.{Number, fitting, outside, number, flag}
use Rattle.spec_language.specs.Declarations.{Declarations, bytes}
use Rattle.spec_language.specs.Resolution.{is_integer, integer_bits, found}
use Rattle.spec_language.specs.ResolutionLaws.{Sound, LiesIn}
use Rattle.lgx_rung.specs.OperandTable.{as_count, fixed_kinds, operand_kinds}
use Rattle.lgx_rung.proofs.KindCounts.{kinds_counted, handed_over, same_kinds, call_begins, told_again}
use Rattle.std.specs.List.{zip}
use Rattle.lgx_rung.specs.declared.operands.OperandKind.{OperandKind}
use Rattle.lgx_rung.specs.declared.operands.OperandKind.TheVariants.{BoolPlace, BoolOrFlag, IntegerPlace, IntegerOrNumber, WholeTimer, WholeCounter, TimerOrCounter, CopySource, CopyTarget, FillTarget, QuestionMark, RoutineName, ParameterCount, JumpLabel, OwnLabel, EventTask}
use Rattle.spec_language.specs.Operands.{decimal, second_number, paired, count_operand, path_of, is_bool, is_timer, is_counter, one_place, block_where, place_as, number_as, flag_as, found_as, read_as, data_operand, name_operand}
use Rattle.spec_language.specs.Checked.{CheckScope, Spot, Label, labels, label_of, other_faults, operand_of, operands_of, least, settled, instruction_of, checked_from}
use Rattle.spec_base.proofs.Binds.{ok_inj, err_not_ok}
use Rattle.spec_language.specs.CheckedLaws.{OperandsInBounds, CheckedInBounds}
use Rattle.spec_language.proofs.FoundBounds.{found_lies}
use Rattle.spec_language.proofs.OperandBounds.{one_place_ok}
use Rattle.spec_base.specs.declared.limits.TheConstants.{MAX_OPERANDS}
use Rattle.spec_scan.specs.Fits.{operand_at, Fits, AllFit, FitSome, number_told, OperandsFit}
use Rattle.spec_scan.specs.Executable.{EndsIn, IsExecutable, AreExecutable}
use Rattle.spec_language.proofs.Outlines.{paired_kinds, none_least, answered_outline}
use Rattle.spec_machine.specs.ExecutableLaws.{CheckedAreExecutable}
use Rattle.spec_machine.proofs.CheckedWalk.{rungs_have}

-- ---- what an operand is, by what was wanted

abbrev IsGood : ℕ → OperandKind → Operand → Type 0
IsGood len w o = EndsIn len o × Fits w o

one_good : (len : ℕ) (w : OperandKind) (test : Bool) (make : Path → Operand) (f : Found) (o : Operand) → ((p : Path) → IsGood len w (make p)) → one_place test make f ≡ Ok o → IsGood len w o
one_good len w test make f o good p = subst (λ (z : Operand). IsGood len w z) (one_place_ok test make f o p).2 (good (path_of f))

block_good : (types : List TypeDecl) (len : ℕ) (w : OperandKind) (test : Bool) (f : Found) (o : Operand) → LiesIn types len f → (test ≡ true → Fits w (operand.Block (record { path = path_of f; size = size_of types (single f.of.base); stop = f.stop }))) → block_where test types f ≡ Ok o → IsGood len w o
block_good types len w true f o l fits p = subst (λ (z : Operand). IsGood len w z) (ok_inj _ _ p) (l.stop, fits refl)
block_good types len w false f o l fits p = err_not_ok _ _ p

integers : (types : List TypeDecl) (base : Base) → nat_lt 0 (integer_bits base) ≡ true → (size_of types (single base) ≡ 1) ⊎ ((size_of types (single base) ≡ 2) ⊎ (size_of types (single base) ≡ 4))
integers types OneBit p = absurd (omega (arith, ltb-true 0 0 p))
integers types Sint p = inl refl
integers types Int p = inr (inl refl)
integers types Dint p = inr (inr refl)
integers types Timer p = absurd (omega (arith, ltb-true 0 0 p))
integers types Counter p = absurd (omega (arith, ltb-true 0 0 p))
integers types (User i) p = absurd (omega (arith, ltb-true 0 0 p))

timer_or_counter_good : (types : List TypeDecl) (len : ℕ) (f : Found) (o : Operand) → place_as types TimerOrCounter f ≡ Ok o → IsGood len TimerOrCounter o
timer_or_counter_good types len f o p = go (is_timer f.of.base) p
  where
    go : (b : Bool) → (if b then one_place true operand.Timer f else one_place (is_counter f.of.base) operand.Counter f) ≡ Ok o → IsGood len TimerOrCounter o
    go true r = one_good len TimerOrCounter true operand.Timer f o (λ _. (tt, inl tt)) r
    go false r = one_good len TimerOrCounter (is_counter f.of.base) operand.Counter f o (λ _. (tt, inr tt)) r

place_good : (types : List TypeDecl) (len : ℕ) (w : OperandKind) (f : Found) (o : Operand) → LiesIn types len f → place_as types w f ≡ Ok o → IsGood len w o
place_good types len BoolPlace f o l p = one_good len BoolPlace (is_bool f.of.base) operand.Cell f o (λ _. (tt, tt)) p
place_good types len BoolOrFlag f o l p = one_good len BoolOrFlag (is_bool f.of.base) operand.Cell f o (λ _. (tt, tt)) p
place_good types len IntegerPlace f o l p = one_good len IntegerPlace (is_integer f.of) operand.Cell f o (λ _. (tt, tt)) p
place_good types len IntegerOrNumber f o l p = one_good len IntegerOrNumber (is_integer f.of) operand.Cell f o (λ _. (tt, tt)) p
place_good types len WholeTimer f o l p = one_good len WholeTimer (is_timer f.of.base) operand.Timer f o (λ _. (tt, tt)) p
place_good types len WholeCounter f o l p = one_good len WholeCounter (is_counter f.of.base) operand.Counter f o (λ _. (tt, tt)) p
place_good types len TimerOrCounter f o l p = timer_or_counter_good types len f o p
place_good types len CopySource f o l p = block_good types len CopySource (not (is_bool f.of.base)) f o l (λ _. tt) p
place_good types len CopyTarget f o l p = block_good types len CopyTarget (not (is_bool f.of.base)) f o l (λ _. tt) p
place_good types len FillTarget f o l p = block_good types len FillTarget (nat_lt 0 (integer_bits f.of.base)) f o l (integers types f.of.base) p
place_good types len QuestionMark f o l p = err_not_ok _ _ p
place_good types len RoutineName f o l p = err_not_ok _ _ p
place_good types len ParameterCount f o l p = err_not_ok _ _ p
place_good types len JumpLabel f o l p = err_not_ok _ _ p
place_good types len OwnLabel f o l p = err_not_ok _ _ p
place_good types len EventTask f o l p = err_not_ok _ _ p

flag_good : (len : ℕ) (w : OperandKind) (f : Flag) (o : Operand) → flag_as w f ≡ Ok o → IsGood len w o
flag_good len BoolOrFlag f o p = subst (λ (z : Operand). IsGood len BoolOrFlag z) (ok_inj _ _ p) (tt, tt)
flag_good len _ f o p = err_not_ok _ _ p

number_good : (len : ℕ) (w : OperandKind) (n : Number) (o : Operand) → number_as w n ≡ Ok o → IsGood len w o
number_good len IntegerOrNumber (fitting n) o p = subst (λ (z : Operand). IsGood len IntegerOrNumber z) (ok_inj _ _ p) (tt, tt)
number_good len IntegerOrNumber outside o p = err_not_ok _ _ p
number_good len _ n o p = err_not_ok _ _ p

data_good : (d : Declarations) (scope : Scope) (w : OperandKind) (text : List ℕ) (o : Operand) → Sound d → data_operand d scope w text ≡ Ok o → IsGood (bytes d) w o
data_good d scope w text o s p = go (flag text) (number text) p
  where
    place : (r : Result Found TagCode) → found d scope text ≡ r → found_as d.types w r ≡ Ok o → IsGood (bytes d) w o
    place (Ok f) q r = place_good d.types (bytes d) w f o (found_lies d scope text f s q) r
    place (Err code) q r = err_not_ok _ _ r

    go : (a : Option Flag) (b : Option Number) → read_as d.types w a b (found d scope text) ≡ Ok o → IsGood (bytes d) w o
    go (Some f) b r = flag_good (bytes d) w f o r
    go None (Some n) r = number_good (bytes d) w n o r
    go None None r = place (found d scope text) refl r

name_good : {A : Type 0} (len : ℕ) (w : OperandKind) (text : List ℕ) (make : A → Operand) (named : Option A) (cause : CheckCode) (o : Operand) → ((a : A) → IsGood len w (make a)) → name_operand text (option_map make named) cause ≡ Ok o → IsGood len w o
name_good {A} len w text make named cause o good p = go (is_name text) named p
  where
    go : (b : Bool) (n : Option A) → (if b then some_or (option_map make n) cause else Err C2) ≡ Ok o → IsGood len w o
    go false n r = err_not_ok _ _ r
    go true None r = err_not_ok _ _ r
    go true (Some a) r = subst (λ (z : Operand). IsGood len w z) (ok_inj _ _ r) (good a)

operand_good : (s : CheckScope) (ls : List Label) (spot : Spot) (w : OperandKind) (text : List ℕ) (o : Operand) → Sound s.tags → operand_of s ls spot (w, text) ≡ Ok o → IsGood (bytes s.tags) w o
operand_good s ls spot RoutineName text o sound p = name_good (bytes s.tags) RoutineName text operand.Routine (position (λ name. same name text) s.routines) C11 o (λ _. (tt, tt)) p
operand_good s ls spot ParameterCount text o sound p = go (option_and_then as_count (decimal text)) refl p
  where
    go : (count : Option ℕ) → option_and_then as_count (decimal text) ≡ count → some_or (option_map (λ n. operand.Number (pos n)) count) C2 ≡ Ok o → IsGood (bytes s.tags) ParameterCount o
    go (Some n) e r = subst (λ (z : Operand). IsGood (bytes s.tags) ParameterCount z) (ok_inj _ _ r) (tt, subst (λ (c : Option ℕ). IsTrue (is_some c)) (sym (told_again (decimal text) n e)) refl)
    go None e r = err_not_ok _ _ r
operand_good s ls spot JumpLabel text o sound p = name_good (bytes s.tags) JumpLabel text (λ l. operand.Label l.rung) (label_of ls text) C12 o (λ _. (tt, tt)) p
operand_good s ls spot OwnLabel text o sound p = name_good (bytes s.tags) OwnLabel text operand.Label (Some spot.rung) C2 o (λ _. (tt, tt)) p
operand_good s ls spot EventTask text o sound p = name_good (bytes s.tags) EventTask text operand.Task (position (λ t. t.event && same t.name text) s.tasks) C15 o (λ _. (tt, tt)) p
operand_good s ls spot QuestionMark text o sound p = go (bytes_eq text (codes "?")) p
  where
    go : (b : Bool) → (if b then Ok operand.Blank else data_operand s.tags (Program s.program) QuestionMark text) ≡ Ok o → IsGood (bytes s.tags) QuestionMark o
    go true r = subst (λ (z : Operand). IsGood (bytes s.tags) QuestionMark z) (ok_inj _ _ r) (tt, tt)
    go false r = data_good s.tags (Program s.program) QuestionMark text o sound r
operand_good s ls spot BoolPlace text o sound p = data_good s.tags (Program s.program) BoolPlace text o sound p
operand_good s ls spot BoolOrFlag text o sound p = data_good s.tags (Program s.program) BoolOrFlag text o sound p
operand_good s ls spot IntegerPlace text o sound p = data_good s.tags (Program s.program) IntegerPlace text o sound p
operand_good s ls spot IntegerOrNumber text o sound p = data_good s.tags (Program s.program) IntegerOrNumber text o sound p
operand_good s ls spot WholeTimer text o sound p = data_good s.tags (Program s.program) WholeTimer text o sound p
operand_good s ls spot WholeCounter text o sound p = data_good s.tags (Program s.program) WholeCounter text o sound p
operand_good s ls spot TimerOrCounter text o sound p = data_good s.tags (Program s.program) TimerOrCounter text o sound p
operand_good s ls spot CopySource text o sound p = data_good s.tags (Program s.program) CopySource text o sound p
operand_good s ls spot CopyTarget text o sound p = data_good s.tags (Program s.program) CopyTarget text o sound p
operand_good s ls spot FillTarget text o sound p = data_good s.tags (Program s.program) FillTarget text o sound p

-- ---- the operands of an instruction

module _ (s : CheckScope) (ls : List Label) (spot : Spot) where
  -- each operand is what its text stands for
  abbrev AreMade : List OperandKind → List (List ℕ) → List Operand → Type 0
  AreMade [] [] [] = ⊤
  AreMade (w ∷ ws) (t ∷ ts) (o ∷ os) = (operand_of s ls spot (w, t) ≡ Ok o) × AreMade ws ts os
  AreMade _ _ _ = ⊥

  all_made : (ws : List OperandKind) (ts : List (List ℕ)) (more : List CheckCode) → length ws ≡ length ts → (filter_map result_err (map (operand_of s ls spot) (zip ws ts)) ++ more) ≡ [] → AreMade ws ts (filter_map result_ok (map (operand_of s ls spot) (zip ws ts)))
  all_made [] [] more same none = tt
  all_made [] (t ∷ ts) more same none = absurd (cc same)
  all_made (w ∷ ws) [] more same none = absurd (cc same)
  all_made (w ∷ ws) (t ∷ ts) more same none = go (operand_of s ls spot (w, t)) refl none (all_made ws ts more (omega (arith, same)))
    where
      go : (r : Result Operand CheckCode) → operand_of s ls spot (w, t) ≡ r → (filter_map result_err (r ∷ map (operand_of s ls spot) (zip ws ts)) ++ more) ≡ [] → ((filter_map result_err (map (operand_of s ls spot) (zip ws ts)) ++ more) ≡ [] → AreMade ws ts (filter_map result_ok (map (operand_of s ls spot) (zip ws ts)))) → AreMade (w ∷ ws) (t ∷ ts) (filter_map result_ok (r ∷ map (operand_of s ls spot) (zip ws ts)))
      go (Ok o) e left rest = (e, rest left)
      go (Err c) e left rest = absurd (cc left)

  made_length : (ws : List OperandKind) (ts : List (List ℕ)) (os : List Operand) → AreMade ws ts os → length os ≡ length ts
  made_length [] [] [] made = refl
  made_length (w ∷ ws) (t ∷ ts) (o ∷ os) made = ap suc (made_length ws ts os made.1)
  made_length _ _ _ made = absurd made

  made_end : (ws : List OperandKind) (ts : List (List ℕ)) (os : List Operand) → Sound s.tags → AreMade ws ts os → Each (EndsIn (bytes s.tags)) os
  made_end [] [] [] sound made = tt
  made_end (w ∷ ws) (t ∷ ts) (o ∷ os) sound made = ((operand_good s ls spot w t o sound made.0).0, made_end ws ts os sound made.1)
  made_end _ _ _ sound made = absurd made

  made_fit : (ws : List OperandKind) (ts : List (List ℕ)) (os : List Operand) → Sound s.tags → AreMade ws ts os → AllFit ws os
  made_fit [] [] [] sound made = tt
  made_fit (w ∷ ws) (t ∷ ts) (o ∷ os) sound made = ((operand_good s ls spot w t o sound made.0).1, made_fit ws ts os sound made.1)
  made_fit _ _ _ sound made = absurd made

  -- ---- the count of a call tells the same as its text

  count_told : (text : List ℕ) (o : Operand) → count_operand text ≡ Ok o → option_and_then as_count (decimal text) ≡ option_and_then as_count (number_told o)
  count_told text o p = go (option_and_then as_count (decimal text)) refl p
    where
      go : (count : Option ℕ) → option_and_then as_count (decimal text) ≡ count → some_or (option_map (λ n. operand.Number (pos n)) count) C2 ≡ Ok o → count ≡ option_and_then as_count (number_told o)
      go (Some n) e r = sym (told_again (decimal text) n e) ∙ ap (λ (z : Operand). option_and_then as_count (number_told z)) (ok_inj _ _ r)
      go None e r = err_not_ok _ _ r

  second_told : (ws : List OperandKind) (ts : List (List ℕ)) (os : List Operand) → AreMade (RoutineName ∷ ParameterCount ∷ ws) ts os → option_and_then as_count (second_number ts) ≡ option_and_then as_count (number_told (operand_at os 1))
  second_told ws (t ∷ second ∷ ts) (o ∷ count ∷ os) made = count_told second count made.1.0
  second_told ws (t ∷ []) (o ∷ os) made = absurd made.1
  second_told ws (t ∷ second ∷ ts) (o ∷ []) made = absurd made.1
  second_told ws _ _ made = absurd made

  call_told : (ws : List OperandKind) (ts : List (List ℕ)) (os : List Operand) (op : Op) → AreMade ws ts os → operand_kinds op (second_number ts) (length ts) ≡ Some ws → op ≡ Jsr → length (fixed_kinds op) < length ts → option_and_then as_count (second_number ts) ≡ option_and_then as_count (number_told (operand_at os 1))
  call_told ws ts os op made e is more =
      let b = call_begins (second_number ts) (length ts) ws (subst (λ (o : Op). length (fixed_kinds o) < length ts) is more) (subst (λ (o : Op). operand_kinds o (second_number ts) (length ts) ≡ Some ws) is e) in
      second_told b.0 ts os (subst (λ (zs : List OperandKind). AreMade zs ts os) b.1 made)

  -- operands that were made of their texts are such as the table wants them
  made_operands_fit : (ws : List OperandKind) (ts : List (List ℕ)) (os : List Operand) (op : Op) → Sound s.tags → AreMade ws ts os → operand_kinds op (second_number ts) (length ts) ≡ Some ws → OperandsFit op os
  made_operands_fit ws ts os op sound made e =
      let same : operand_kinds op (second_number ts) (length ts) ≡ operand_kinds op (number_told (operand_at os 1)) (length ts) =
      same_kinds op (second_number ts) (number_told (operand_at os 1)) (length ts) (λ hands more. call_told ws ts os op made e (handed_over op hands) more) in
      let kinds : operand_kinds op (number_told (operand_at os 1)) (length os) ≡ Some ws =
      ap (operand_kinds op (number_told (operand_at os 1))) (made_length ws ts os made) ∙ sym same ∙ e in
      subst (λ (o : Option (List OperandKind)). FitSome o os) (sym kinds) (made_fit ws ts os sound made)

all_of : {A : Type 0} (P : A → Type 0) (xs : List A) → Each P xs → All P xs
all_of P [] h = λ k d b. absurd (omega arith)
all_of P (x ∷ xs) h = All-cons P x xs h.0 (all_of P xs h.1)

-- ---- instructions and rungs

-- what checking gives beside that the operands lie in the image
record IsShaped (len : ℕ) (i : Ins) : Type 0 where
  few : length i.args ≤ MAX_OPERANDS
  ends : All (EndsIn len) i.args
  fit : OperandsFit i.op i.args

abbrev AreShaped : ℕ → List (Tree Ins) → Type 0
AreShaped len rungs = Each (λ r. Each (IsShaped len) (instructions r)) rungs

module _ (s : CheckScope) (ls : List Label) (sound : Sound s.tags) where
  instruction_shaped : (spot : Spot) (i : SourceIns) (made : Ins) → instruction_of s ls spot i ≡ Ok made → IsShaped (bytes s.tags) made
  instruction_shaped spot i made p = go (paired i.op i.texts) refl p
    where
      go : (o : Option (List (OperandKind × List ℕ))) → paired i.op i.texts ≡ o → settled ls spot i (operands_of s ls spot o) ≡ Ok made → IsShaped (bytes s.tags) made
      go None q r =
          let a = answered_outline spot i.op [] (least (C1 ∷ other_faults ls spot i)) made r in
          absurd (cc (none_least (C1 ∷ other_faults ls spot i) a.0))
      go (Some ps) q r =
          let a = answered_outline spot i.op _ _ made r in
          let k = paired_kinds i.op i.texts ps q in
          let none : (filter_map result_err (map (operand_of s ls spot) (zip k.0 i.texts)) ++ other_faults ls spot i) ≡ [] =
          subst (λ zs. (filter_map result_err (map (operand_of s ls spot) zs) ++ other_faults ls spot i) ≡ []) k.3 (none_least _ a.0) in
          let args : List Operand = filter_map result_ok (map (operand_of s ls spot) (zip k.0 i.texts)) in
          let are = all_made s ls spot k.0 i.texts (other_faults ls spot i) k.2 none in
          let is : made ≡ record { op = i.op; args = args } = a.1 ∙ ap (λ zs. record { op = i.op; args = filter_map result_ok (map (operand_of s ls spot) zs) }) k.3 in
          subst (λ (z : Ins). IsShaped (bytes s.tags) z) (sym is) (record {
            few = omega (arith, made_length s ls spot k.0 i.texts args are, (kinds_counted i.op (second_number i.texts) (length i.texts) k.0 k.1).1);
            ends = all_of (EndsIn (bytes s.tags)) args (made_end s ls spot k.0 i.texts args sound are);
            fit = made_operands_fit s ls spot k.0 i.texts args i.op sound are k.1;
          })

  rungs_shaped : (rungs : List Source) (made : List (Tree Ins)) → checked_from (instruction_of s ls) 0 0 rungs ≡ Ok made → AreShaped (bytes s.tags) made
  rungs_shaped rungs made p = rungs_have (instruction_of s ls) (IsShaped (bytes s.tags)) instruction_shaped 0 0 rungs made p

-- ---- both

ready_one : (len : ℕ) (is : List Ins) → Each (IsShaped len) is → Each (λ i. Each (λ o. OperandInBounds o len) i.args) is → Each (IsExecutable len) is
ready_one len [] shaped lie = tt
ready_one len (i ∷ is) shaped lie = (record { few = shaped.0.few; lie = all_of (λ o. OperandInBounds o len) i.args lie.0; ends = shaped.0.ends; fit = shaped.0.fit }, ready_one len is shaped.1 lie.1)

ready_all : (len : ℕ) (rungs : List (Tree Ins)) → AreShaped len rungs → Each (OperandsInBounds len) rungs → AreExecutable len rungs
ready_all len [] shaped lie = tt
ready_all len (r ∷ rs) shaped lie = (ready_one len (instructions r) shaped.0 lie.0, ready_all len rs shaped.1 lie.1)

pub checked_ready : CheckedInBounds → CheckedAreExecutable
checked_ready lies scope rungs made sound p = ready_all (bytes scope.tags) made (rungs_shaped scope (labels rungs) sound rungs made p) (lies scope rungs made sound p)
