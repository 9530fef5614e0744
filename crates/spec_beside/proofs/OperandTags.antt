-- Every operand of checked rungs lies in one tag.
use Rattle.std.specs.Prelude.{◌≡◌, ℕ, ◌+◌, ◌*◌, ◌/◌, ◌<◌, ◌≤◌, ◌⊎◌, ◌&&◌, Bool, true, false, not, nat_lt, if◌then◌else◌, pos, codes, bytes_eq, position, List, [], ◌∷◌, map, filter_map, Option, Some, None, option_map, option_and_then, Result, Ok, Err, refl}
use Rattle.std.specs.List.{AllByRecursion as Each}
use Rattle.std.specs.Result.{result_ok}
use Rattle.std.proofs.Common.{sym, subst, arith, inl}
use Rattle.std.proofs.lemmas.Bool.{not-true}
use Rattle.spec_base.specs.declared.limits.TheConstants.{COUNTER_BYTES, TIMER_BYTES}
use Rattle.spec_base.specs.FirstCause.{some_or}
use Rattle.spec_base.proofs.Binds.{err_not_ok, ok_inj}
use Rattle.lgx_num.specs.declared.place.Flag.{Flag}
use Rattle.lgx_num.specs.declared.place.Operand.{Operand}
use Rattle.lgx_num.specs.declared.place.Operand.TheVariants as operand
use Rattle.lgx_num.specs.Name.{is_name, same}
use Rattle.lgx_num.specs.Number.{bytes_in}
use Rattle.lgx_num.specs.Paths.{CanReach}
use Rattle.lgx_rung.specs.declared.fault.CheckCode.{CheckCode}
use Rattle.lgx_rung.specs.declared.fault.CheckCode.TheVariants.{C2, C11, C12, C15}
use Rattle.lgx_rung.specs.declared.ins.Ins.{Ins}
use Rattle.lgx_rung.specs.declared.operands.OperandKind.{OperandKind}
use Rattle.lgx_rung.specs.declared.operands.OperandKind.TheVariants.{BoolPlace, BoolOrFlag, IntegerPlace, IntegerOrNumber, WholeTimer, WholeCounter, TimerOrCounter, CopySource, CopyTarget, FillTarget, QuestionMark, RoutineName, ParameterCount, JumpLabel, OwnLabel, EventTask}
use Rattle.lgx_rung.specs.Tree.{SourceIns}
use Rattle.lgx_rung.specs.OperandTable.{as_count}
use Rattle.spec_language.specs.declared.tag.Found.{Found}
use Rattle.spec_language.specs.declared.tag.Scope.{Scope}
use Rattle.spec_language.specs.declared.tag.Scope.TheVariants.{Program}
use Rattle.spec_language.specs.declared.tag.TagCode.{TagCode}
use Rattle.spec_language.specs.declared.types.DataType.{DataType}
use Rattle.spec_language.specs.Checked.{CheckScope, Label, Spot, instruction_of, label_of, labels, operand_of, operands_of, settled}
use Rattle.spec_language.specs.Declarations.{Declarations, bytes}
use Rattle.spec_language.specs.OperandForm.{Number, fitting, flag, number, outside}
use Rattle.spec_language.specs.Operands.{block_where, count_operand, data_operand, decimal, flag_as, found_as, is_bool, is_counter, is_timer, name_operand, number_as, one_place, paired, path_of, place_as, read_as}
use Rattle.spec_language.specs.Resolution.{found, integer_bits, is_integer, kind_of}
use Rattle.spec_language.specs.ResolutionLaws.{EndsBy, LiesIn, Sound}
use Rattle.spec_language.proofs.FoundBounds.{found_lies}
use Rattle.spec_language.proofs.OperandBounds.{block_room, cell_room, counter_room, integer_kind, no_bool, one_place_ok, timer_room}
use Rattle.spec_language.proofs.Outlines.{answered_outline}
use Rattle.spec_machine.proofs.CheckedWalk.{rungs_have}
use Rattle.spec_beside.specs.InTags.{CheckedInTags, InsInTags, IsInTag, OperandInTag, PathInTag, StepsInTags}
use Rattle.spec_beside.proofs.InTags.{found_in_tag}
use Rattle.spec_beside.proofs.SubscriptTags.{cell_ends, subscripts_in_tags}

-- ---- the bytes of a place

whole_ends : (size stop to : ℕ) → 0 < size → to + 8 * size ≤ 8 * stop → (to < 8 * stop) × (to / 8 + size ≤ stop)
whole_ends size stop to some h = (omega arith, omega arith)

module _ (d : Declarations) (sound : Sound d) where
  -- what is found lies in one tag, and so does each of its subscripts
  abbrev AllInTags : Found → Type 0
  AllInTags f = IsInTag d f × StepsInTags d f.steps

  path_in : (f : Found) (stop : ℕ → ℕ) → AllInTags f → ((to : ℕ) → CanReach f.steps f.at to → (to < 8 * f.stop) × (stop (to / 8) ≤ f.stop)) → PathInTag d (path_of f) stop
  path_in f stop (h, steps) ends = record { tag = h.tag; within = h.within; from = h.from; begins = λ to r. omega (arith, h.stop, (ends to r).0); ends = λ to r. omega (arith, h.stop, (ends to r).1); subscripts = steps }

  -- where a single place can lead, it ends by its tag's end
  leads : (f : Found) → LiesIn d.types (bytes d) f → (of : DataType) → f.of ≡ of → (to : ℕ) → CanReach f.steps f.at to → EndsBy d.types of f.stop to
  leads f l of is to r = subst (λ (t : DataType). EndsBy d.types t f.stop to) is (l.inside to r)

  cell_in : (test : Bool) (f : Found) (o : Operand) → (test ≡ true → (is_bool f.of.base ≡ true) ⊎ (0 < integer_bits f.of.base)) → LiesIn d.types (bytes d) f → AllInTags f → one_place test operand.Cell f ≡ Ok o → OperandInTag d o
  cell_in test f o kinds l h p =
      let a = one_place_ok test operand.Cell f o p in
      subst (OperandInTag d) a.2 (path_in f (λ at. at + bytes_in (kind_of f.of.base)) h (λ to r. cell_ends (kind_of f.of.base) f.stop to (cell_room d.types f.of.base f.stop f.stop to (kinds a.0) (omega arith) (leads f l _ a.1 to r)).1))

  timer_in : (test : Bool) (f : Found) (o : Operand) → (test ≡ true → is_timer f.of.base ≡ true) → LiesIn d.types (bytes d) f → AllInTags f → one_place test operand.Timer f ≡ Ok o → OperandInTag d o
  timer_in test f o kinds l h p =
      let a = one_place_ok test operand.Timer f o p in
      subst (OperandInTag d) a.2 (path_in f (λ at. at + TIMER_BYTES) h (λ to r. whole_ends TIMER_BYTES f.stop to (omega arith) (timer_room d.types f.of.base f.stop f.stop to (kinds a.0) (omega arith) (leads f l _ a.1 to r)).1))

  counter_in : (test : Bool) (f : Found) (o : Operand) → (test ≡ true → is_counter f.of.base ≡ true) → LiesIn d.types (bytes d) f → AllInTags f → one_place test operand.Counter f ≡ Ok o → OperandInTag d o
  counter_in test f o kinds l h p =
      let a = one_place_ok test operand.Counter f o p in
      subst (OperandInTag d) a.2 (path_in f (λ at. at + COUNTER_BYTES) h (λ to r. whole_ends COUNTER_BYTES f.stop to (omega arith) (counter_room d.types f.of.base f.stop f.stop to (kinds a.0) (omega arith) (leads f l _ a.1 to r)).1))

  block_in : (test : Bool) (f : Found) (o : Operand) → (test ≡ true → is_bool f.of.base ≡ false) → LiesIn d.types (bytes d) f → AllInTags f → block_where test d.types f ≡ Ok o → OperandInTag d o
  block_in true f o kinds l h p =
      subst (OperandInTag d) (ok_inj _ _ p) (path_in f (λ at. f.stop) h (λ to r. ((whole_ends _ f.stop to l.filled (block_room d.types f.of.base f.of.dim f.stop to (kinds refl) (l.inside to r)).1).0, omega arith)))
  block_in false f o kinds l h p = err_not_ok _ _ p

  either_in : (f : Found) (o : Operand) → LiesIn d.types (bytes d) f → AllInTags f → place_as d.types TimerOrCounter f ≡ Ok o → OperandInTag d o
  either_in f o l h p = go (is_timer f.of.base) refl p
    where
      go : (b : Bool) → is_timer f.of.base ≡ b → (if b then one_place true operand.Timer f else one_place (is_counter f.of.base) operand.Counter f) ≡ Ok o → OperandInTag d o
      go true q r = timer_in true f o (λ _. q) l h r
      go false q r = counter_in (is_counter f.of.base) f o (λ c. c) l h r

  place_in : (w : OperandKind) (f : Found) (o : Operand) → LiesIn d.types (bytes d) f → AllInTags f → place_as d.types w f ≡ Ok o → OperandInTag d o
  place_in BoolPlace f o l h p = cell_in (is_bool f.of.base) f o (λ c. inl c) l h p
  place_in BoolOrFlag f o l h p = cell_in (is_bool f.of.base) f o (λ c. inl c) l h p
  place_in IntegerPlace f o l h p = cell_in (is_integer f.of) f o (integer_kind f) l h p
  place_in IntegerOrNumber f o l h p = cell_in (is_integer f.of) f o (integer_kind f) l h p
  place_in WholeTimer f o l h p = timer_in (is_timer f.of.base) f o (λ c. c) l h p
  place_in WholeCounter f o l h p = counter_in (is_counter f.of.base) f o (λ c. c) l h p
  place_in TimerOrCounter f o l h p = either_in f o l h p
  place_in CopySource f o l h p = block_in (not (is_bool f.of.base)) f o (not-true (is_bool f.of.base)) l h p
  place_in CopyTarget f o l h p = block_in (not (is_bool f.of.base)) f o (not-true (is_bool f.of.base)) l h p
  place_in FillTarget f o l h p = block_in (nat_lt 0 (integer_bits f.of.base)) f o (no_bool f.of.base) l h p
  place_in _ f o l h p = err_not_ok _ _ p

  -- ---- numbers, flags and names are no places

  flag_in : (w : OperandKind) (f : Flag) (o : Operand) → flag_as w f ≡ Ok o → OperandInTag d o
  flag_in BoolOrFlag f o p = subst (OperandInTag d) (ok_inj _ _ p) tt
  flag_in _ f o p = err_not_ok _ _ p

  number_in : (w : OperandKind) (n : Number) (o : Operand) → number_as w n ≡ Ok o → OperandInTag d o
  number_in IntegerOrNumber (fitting n) o p = subst (OperandInTag d) (ok_inj _ _ p) tt
  number_in IntegerOrNumber outside o p = err_not_ok _ _ p
  number_in _ n o p = err_not_ok _ _ p

  data_in : (scope : Scope) (w : OperandKind) (text : List ℕ) (o : Operand) → data_operand d scope w text ≡ Ok o → OperandInTag d o
  data_in scope w text o p = go (flag text) (number text) p
    where
      place : (r : Result Found TagCode) → found d scope text ≡ r → found_as d.types w r ≡ Ok o → OperandInTag d o
      place (Ok f) q r = place_in w f o (found_lies d scope text f sound q) (found_in_tag d scope text f q, subscripts_in_tags d scope text f sound q) r
      place (Err code) q r = err_not_ok _ _ r

      go : (a : Option Flag) (b : Option Number) → read_as d.types w a b (found d scope text) ≡ Ok o → OperandInTag d o
      go (Some f) b r = flag_in w f o r
      go None (Some n) r = number_in w n o r
      go None None r = place (found d scope text) refl r

  name_in : {A : Type 0} (text : List ℕ) (make : A → Operand) (named : Option A) (cause : CheckCode) (o : Operand) → ((a : A) → OperandInTag d (make a)) → name_operand text (option_map make named) cause ≡ Ok o → OperandInTag d o
  name_in {A} text make named cause o known p = go (is_name text) named p
    where
      go : (b : Bool) (n : Option A) → (if b then some_or (option_map make n) cause else Err C2) ≡ Ok o → OperandInTag d o
      go false n r = err_not_ok _ _ r
      go true None r = err_not_ok _ _ r
      go true (Some a) r = subst (OperandInTag d) (ok_inj _ _ r) (known a)

  count_in : (text : List ℕ) (o : Operand) → count_operand text ≡ Ok o → OperandInTag d o
  count_in text o p = go (option_and_then as_count (decimal text)) p
    where
      go : (count : Option ℕ) → some_or (option_map (λ n. operand.Number (pos n)) count) C2 ≡ Ok o → OperandInTag d o
      go (Some n) r = subst (OperandInTag d) (ok_inj _ _ r) tt
      go None r = err_not_ok _ _ r

-- ---- operands, instructions and rungs

module _ (s : CheckScope) (ls : List Label) (sound : Sound s.tags) where
  mark_in : (spot : Spot) (text : List ℕ) (o : Operand) → operand_of s ls spot (QuestionMark, text) ≡ Ok o → OperandInTag s.tags o
  mark_in spot text o p = go (bytes_eq text (codes "?")) p
    where
      go : (b : Bool) → (if b then Ok operand.Blank else data_operand s.tags (Program s.program) QuestionMark text) ≡ Ok o → OperandInTag s.tags o
      go true r = subst (OperandInTag s.tags) (ok_inj _ _ r) tt
      go false r = data_in s.tags sound (Program s.program) QuestionMark text o r

  operand_in : (spot : Spot) (w : OperandKind) (text : List ℕ) (o : Operand) → operand_of s ls spot (w, text) ≡ Ok o → OperandInTag s.tags o
  operand_in spot RoutineName text o p = name_in s.tags sound text operand.Routine (position (λ name. same name text) s.routines) C11 o (λ _. tt) p
  operand_in spot ParameterCount text o p = count_in s.tags sound text o p
  operand_in spot JumpLabel text o p = name_in s.tags sound text (λ l. operand.Label l.rung) (label_of ls text) C12 o (λ _. tt) p
  operand_in spot OwnLabel text o p = name_in s.tags sound text operand.Label (Some spot.rung) C2 o (λ _. tt) p
  operand_in spot EventTask text o p = name_in s.tags sound text operand.Task (position (λ t. t.event && same t.name text) s.tasks) C15 o (λ _. tt) p
  operand_in spot QuestionMark text o p = mark_in spot text o p
  operand_in spot BoolPlace text o p = data_in s.tags sound (Program s.program) BoolPlace text o p
  operand_in spot BoolOrFlag text o p = data_in s.tags sound (Program s.program) BoolOrFlag text o p
  operand_in spot IntegerPlace text o p = data_in s.tags sound (Program s.program) IntegerPlace text o p
  operand_in spot IntegerOrNumber text o p = data_in s.tags sound (Program s.program) IntegerOrNumber text o p
  operand_in spot WholeTimer text o p = data_in s.tags sound (Program s.program) WholeTimer text o p
  operand_in spot WholeCounter text o p = data_in s.tags sound (Program s.program) WholeCounter text o p
  operand_in spot TimerOrCounter text o p = data_in s.tags sound (Program s.program) TimerOrCounter text o p
  operand_in spot CopySource text o p = data_in s.tags sound (Program s.program) CopySource text o p
  operand_in spot CopyTarget text o p = data_in s.tags sound (Program s.program) CopyTarget text o p
  operand_in spot FillTarget text o p = data_in s.tags sound (Program s.program) FillTarget text o p

  operands_in : (spot : Spot) (ps : List (OperandKind × List ℕ)) → Each (OperandInTag s.tags) (filter_map result_ok (map (operand_of s ls spot) ps))
  operands_in spot [] = tt
  operands_in spot (p ∷ ps) = go (operand_of s ls spot p) refl (operands_in spot ps)
    where
      go : (r : Result Operand CheckCode) → operand_of s ls spot p ≡ r → Each (OperandInTag s.tags) (filter_map result_ok (map (operand_of s ls spot) ps)) → Each (OperandInTag s.tags) (filter_map result_ok (r ∷ map (operand_of s ls spot) ps))
      go (Ok o) q rest = (operand_in spot p.0 p.1 o q, rest)
      go (Err e) q rest = rest

  instruction_in : (spot : Spot) (i : SourceIns) (made : Ins) → instruction_of s ls spot i ≡ Ok made → InsInTags s.tags made
  instruction_in spot i made p = go (paired i.op i.texts) p
    where
      go : (o : Option (List (OperandKind × List ℕ))) → settled ls spot i (operands_of s ls spot o) ≡ Ok made → InsInTags s.tags made
      go None r = subst (InsInTags s.tags) (sym (answered_outline spot i.op _ _ made r).1) tt
      go (Some ps) r = subst (InsInTags s.tags) (sym (answered_outline spot i.op _ _ made r).1) (operands_in spot ps)

pub checked_in_tags : CheckedInTags
checked_in_tags scope rungs made sound p = rungs_have (instruction_of scope (labels rungs)) (InsInTags scope.tags) (instruction_in scope (labels rungs) sound) 0 0 rungs made p
