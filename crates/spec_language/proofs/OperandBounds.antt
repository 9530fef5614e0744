-- Every operand of checked rungs lies in the image.
use Rattle.std.specs.Prelude.{◌≡◌, ℕ, zero, suc, ◌+◌, ◌*◌, ◌<◌, ◌≤◌, Bool, true, false, not, ◌&&◌, nat_lt, ◌⊎◌, if◌then◌else◌, pos, codes, bytes_eq, position, List, [], ◌∷◌, ◌++◌, map, length, filter_map, Option, Some, None, option_map, option_and_then, Result, Ok, Err, refl}
use Rattle.std.specs.Result.{result_ok}
use Rattle.std.proofs.Common.{sym, subst, arith, ltb-true, inl, inr}
use Rattle.std.proofs.lemmas.Bool.{not-true}
use Rattle.lgx_num.specs.Name.{is_name, same}
use Rattle.lgx_num.specs.Image.{IsByteAligned, bits_of}
use Rattle.lgx_num.specs.declared.place.Path.{Path}
use Rattle.lgx_num.specs.declared.place.Flag.{Flag}
use Rattle.lgx_num.specs.declared.place.Operand.{Operand}
use Rattle.lgx_num.specs.declared.place.Operand.TheVariants as operand
use Rattle.lgx_rung.specs.Tree.{Tree, end, one, fork, Legs, last, leg, Source, SourceIns, instructions, leg_instructions}
use Rattle.lgx_rung.specs.declared.fault.CheckCode.{CheckCode}
use Rattle.lgx_rung.specs.declared.fault.CheckCode.TheVariants.{C2, C11, C12, C15}
use Rattle.spec_base.specs.FirstCause.{some_or}
use Rattle.lgx_rung.specs.declared.ins.Ins.{Ins}
use Rattle.spec_language.specs.declared.types.Base.{Base}
use Rattle.spec_language.specs.declared.types.Base.TheVariants.{Bool as OneBit, Sint, Int, Dint, Timer, Counter, User}
use Rattle.spec_language.specs.declared.types.DataType.{DataType}
use Rattle.spec_language.specs.declared.types.TypeDecl.{TypeDecl}
use Rattle.spec_language.specs.declared.tag.Scope.{Scope}
use Rattle.spec_language.specs.declared.tag.Scope.TheVariants.{Program}
use Rattle.spec_language.specs.declared.tag.TagCode.{TagCode}
use Rattle.spec_language.specs.declared.tag.Found.{Found}
use Rattle.spec_language.specs.OperandForm.{Number, fitting, outside, number, flag}
use Rattle.spec_language.specs.Declarations.{Declarations, bytes}
use Rattle.spec_language.specs.Resolution.{is_array, is_integer, integer_bits, kind_of, found}
use Rattle.lgx_rung.specs.OperandTable.{as_count}
use Rattle.lgx_rung.specs.declared.operands.OperandKind.{OperandKind}
use Rattle.lgx_rung.specs.declared.operands.OperandKind.TheVariants.{BoolPlace, BoolOrFlag, IntegerPlace, IntegerOrNumber, WholeTimer, WholeCounter, TimerOrCounter, CopySource, CopyTarget, FillTarget, QuestionMark, RoutineName, ParameterCount, JumpLabel, OwnLabel, EventTask}
use Rattle.spec_language.specs.Operands.{decimal, paired, path_of, is_bool, is_timer, is_counter, one_place, block_where, place_as, number_as, flag_as, found_as, read_as, data_operand, name_operand}
use Rattle.spec_language.specs.Checked.{CheckScope, Spot, Label, labels, label_of, spot_after, operand_of, operands_of, settled, instruction_of, checked_tree, checked_legs, checked_from}
use Rattle.lgx_num.specs.Paths.{BytesInBounds, OperandInBounds}
use Rattle.std.specs.List.{AllByRecursion as Each}
use Rattle.spec_base.specs.declared.limits.TheConstants.{TIMER_BYTES, COUNTER_BYTES}
use Rattle.spec_language.specs.Layout.{size_of, single}
use Rattle.spec_language.specs.ResolutionLaws.{Sound, EndsBy, LiesIn, elements}
use Rattle.spec_language.specs.CheckedLaws.{OperandsInBounds, CheckedInBounds}
use Rattle.spec_base.proofs.Binds.{bind_ok, ok_inj, err_not_ok}
use Rattle.spec_base.proofs.Lists.{each_append}
use Rattle.spec_language.proofs.Outlines.{answered_outline}
use Rattle.spec_language.proofs.FoundBounds.{and_left, and_right, is_single, found_lies}

-- ---- places

-- a place of one bit or number
pub cell_room : (types : List TypeDecl) (base : Base) (stop len at : ℕ) → (is_bool base ≡ true) ⊎ (0 < integer_bits base) → stop ≤ len → EndsBy types (single base) stop at → IsByteAligned (kind_of base) at × (at + bits_of (kind_of base) ≤ 8 * len)
cell_room types OneBit stop len at h t e = (e.0, omega (arith, e.1))
cell_room types Sint stop len at h t e = (e.0, omega (arith, e.1))
cell_room types Int stop len at h t e = (e.0, omega (arith, e.1))
cell_room types Dint stop len at h t e = (e.0, omega (arith, e.1))
cell_room types Timer stop len at (inl q) t e = absurd (cc q)
cell_room types Timer stop len at (inr q) t e = absurd (omega arith)
cell_room types Counter stop len at (inl q) t e = absurd (cc q)
cell_room types Counter stop len at (inr q) t e = absurd (omega arith)
cell_room types (User i) stop len at (inl q) t e = absurd (cc q)
cell_room types (User i) stop len at (inr q) t e = absurd (omega arith)

-- the bytes of a whole TIMER, of a whole COUNTER, and of an element of a block
pub timer_room : (types : List TypeDecl) (base : Base) (stop len at : ℕ) → is_timer base ≡ true → stop ≤ len → EndsBy types (single base) stop at → BytesInBounds TIMER_BYTES len at
timer_room types Timer stop len at q t e = (e.0, omega (arith, e.1))
timer_room types _ stop len at q t e = absurd (cc q)

pub counter_room : (types : List TypeDecl) (base : Base) (stop len at : ℕ) → is_counter base ≡ true → stop ≤ len → EndsBy types (single base) stop at → BytesInBounds COUNTER_BYTES len at
counter_room types Counter stop len at q t e = (e.0, omega (arith, e.1))
counter_room types _ stop len at q t e = absurd (cc q)

pub one_element : (size dim stop at : ℕ) → at + elements dim * (8 * size) ≤ 8 * stop → at + 8 * size ≤ 8 * stop
one_element size zero stop at h = omega (arith, h)
one_element size (suc n) stop at h = omega (arith, h)

pub block_room : (types : List TypeDecl) (base : Base) (dim stop at : ℕ) → is_bool base ≡ false → EndsBy types (record { base = base; dim = dim }) stop at → BytesInBounds (size_of types (single base)) stop at
block_room types OneBit dim stop at q e = absurd (cc q)
block_room types Sint dim stop at q e = (e.0, one_element 1 dim stop at e.1)
block_room types Int dim stop at q e = (e.0, one_element 2 dim stop at e.1)
block_room types Dint dim stop at q e = (e.0, one_element 4 dim stop at e.1)
block_room types Timer dim stop at q e = (e.0, one_element TIMER_BYTES dim stop at e.1)
block_room types Counter dim stop at q e = (e.0, one_element COUNTER_BYTES dim stop at e.1)
block_room types (User i) dim stop at q e = (e.0, one_element (size_of types (single (User i))) dim stop at e.1)

-- ---- operands that are places

pub one_place_ok : (test : Bool) (make : Path → Operand) (f : Found) (o : Operand) → one_place test make f ≡ Ok o → (test ≡ true) × (f.of ≡ single f.of.base) × (make (path_of f) ≡ o)
one_place_ok test make f o p = go (test && not (is_array f.of)) refl p
  where
    go : (b : Bool) → (test && not (is_array f.of)) ≡ b → (if b then Ok (make (path_of f)) else Err C2) ≡ Ok o → (test ≡ true) × (f.of ≡ single f.of.base) × (make (path_of f) ≡ o)
    go true q r = (and_left test _ q, is_single f.of (and_right test _ q), ok_inj _ _ r)
    go false q r = err_not_ok _ _ r

pub cell_lies : (types : List TypeDecl) (len : ℕ) (test : Bool) (f : Found) (o : Operand) → (test ≡ true → (is_bool f.of.base ≡ true) ⊎ (0 < integer_bits f.of.base)) → LiesIn types len f → one_place test operand.Cell f ≡ Ok o → OperandInBounds o len
cell_lies types len test f o kinds l p =
    let a = one_place_ok test operand.Cell f o p in
    subst (λ (z : Operand). OperandInBounds z len) a.2 (l.subscripts, λ to h. cell_room types f.of.base f.stop len to (kinds a.0) l.stop (subst (λ (t : DataType). EndsBy types t f.stop to) a.1 (l.inside to h)))

pub timer_lies : (types : List TypeDecl) (len : ℕ) (test : Bool) (f : Found) (o : Operand) → (test ≡ true → is_timer f.of.base ≡ true) → LiesIn types len f → one_place test operand.Timer f ≡ Ok o → OperandInBounds o len
timer_lies types len test f o kinds l p =
    let a = one_place_ok test operand.Timer f o p in
    subst (λ (z : Operand). OperandInBounds z len) a.2 (l.subscripts, λ to h. timer_room types f.of.base f.stop len to (kinds a.0) l.stop (subst (λ (t : DataType). EndsBy types t f.stop to) a.1 (l.inside to h)))

pub counter_lies : (types : List TypeDecl) (len : ℕ) (test : Bool) (f : Found) (o : Operand) → (test ≡ true → is_counter f.of.base ≡ true) → LiesIn types len f → one_place test operand.Counter f ≡ Ok o → OperandInBounds o len
counter_lies types len test f o kinds l p =
    let a = one_place_ok test operand.Counter f o p in
    subst (λ (z : Operand). OperandInBounds z len) a.2 (l.subscripts, λ to h. counter_room types f.of.base f.stop len to (kinds a.0) l.stop (subst (λ (t : DataType). EndsBy types t f.stop to) a.1 (l.inside to h)))

pub block_lies : (types : List TypeDecl) (len : ℕ) (test : Bool) (f : Found) (o : Operand) → (test ≡ true → is_bool f.of.base ≡ false) → LiesIn types len f → block_where test types f ≡ Ok o → OperandInBounds o len
block_lies types len true f o kinds l p =
    subst (λ (z : Operand). OperandInBounds z len) (ok_inj _ _ p) (l.filled, (l.subscripts, λ to h. let room = block_room types f.of.base f.of.dim f.stop to (kinds refl) (l.inside to h) in ((room.0, omega (arith, room.1, l.stop)), room)))
block_lies types len false f o kinds l p = err_not_ok _ _ p

pub no_bool : (base : Base) → nat_lt 0 (integer_bits base) ≡ true → is_bool base ≡ false
no_bool OneBit p = absurd (omega (arith, ltb-true 0 0 p))
no_bool _ p = refl

pub timer_or_counter_lies : (types : List TypeDecl) (len : ℕ) (f : Found) (o : Operand) → LiesIn types len f → place_as types TimerOrCounter f ≡ Ok o → OperandInBounds o len
timer_or_counter_lies types len f o l p = go (is_timer f.of.base) refl p
  where
    go : (b : Bool) → is_timer f.of.base ≡ b → (if b then one_place true operand.Timer f else one_place (is_counter f.of.base) operand.Counter f) ≡ Ok o → OperandInBounds o len
    go true q r = timer_lies types len true f o (λ _. q) l r
    go false q r = counter_lies types len (is_counter f.of.base) f o (λ h. h) l r

pub integer_kind : (f : Found) → is_integer f.of ≡ true → (is_bool f.of.base ≡ true) ⊎ (0 < integer_bits f.of.base)
integer_kind f h = inr (ltb-true 0 _ (and_right (not (is_array f.of)) _ h))

pub place_lies : (types : List TypeDecl) (len : ℕ) (w : OperandKind) (f : Found) (o : Operand) → LiesIn types len f → place_as types w f ≡ Ok o → OperandInBounds o len
place_lies types len BoolPlace f o l p = cell_lies types len (is_bool f.of.base) f o (λ h. inl h) l p
place_lies types len BoolOrFlag f o l p = cell_lies types len (is_bool f.of.base) f o (λ h. inl h) l p
place_lies types len IntegerPlace f o l p = cell_lies types len (is_integer f.of) f o (integer_kind f) l p
place_lies types len IntegerOrNumber f o l p = cell_lies types len (is_integer f.of) f o (integer_kind f) l p
place_lies types len WholeTimer f o l p = timer_lies types len (is_timer f.of.base) f o (λ h. h) l p
place_lies types len WholeCounter f o l p = counter_lies types len (is_counter f.of.base) f o (λ h. h) l p
place_lies types len TimerOrCounter f o l p = timer_or_counter_lies types len f o l p
place_lies types len CopySource f o l p = block_lies types len (not (is_bool f.of.base)) f o (not-true (is_bool f.of.base)) l p
place_lies types len CopyTarget f o l p = block_lies types len (not (is_bool f.of.base)) f o (not-true (is_bool f.of.base)) l p
place_lies types len FillTarget f o l p = block_lies types len (nat_lt 0 (integer_bits f.of.base)) f o (no_bool f.of.base) l p
place_lies types len QuestionMark f o l p = err_not_ok _ _ p
place_lies types len RoutineName f o l p = err_not_ok _ _ p
place_lies types len ParameterCount f o l p = err_not_ok _ _ p
place_lies types len JumpLabel f o l p = err_not_ok _ _ p
place_lies types len OwnLabel f o l p = err_not_ok _ _ p
place_lies types len EventTask f o l p = err_not_ok _ _ p

-- ---- numbers, flags and names

pub flag_lies : (len : ℕ) (w : OperandKind) (f : Flag) (o : Operand) → flag_as w f ≡ Ok o → OperandInBounds o len
flag_lies len BoolOrFlag f o p = subst (λ (z : Operand). OperandInBounds z len) (ok_inj _ _ p) tt
flag_lies len _ f o p = err_not_ok _ _ p

pub number_lies : (len : ℕ) (w : OperandKind) (n : Number) (o : Operand) → number_as w n ≡ Ok o → OperandInBounds o len
number_lies len IntegerOrNumber (fitting n) o p = subst (λ (z : Operand). OperandInBounds z len) (ok_inj _ _ p) tt
number_lies len IntegerOrNumber outside o p = err_not_ok _ _ p
number_lies len _ n o p = err_not_ok _ _ p

pub data_lies : (d : Declarations) (scope : Scope) (w : OperandKind) (text : List ℕ) (o : Operand) → Sound d → data_operand d scope w text ≡ Ok o → OperandInBounds o (bytes d)
data_lies d scope w text o s p = go (flag text) (number text) p
  where
    place : (r : Result Found TagCode) → found d scope text ≡ r → found_as d.types w r ≡ Ok o → OperandInBounds o (bytes d)
    place (Ok f) q r = place_lies d.types (bytes d) w f o (found_lies d scope text f s q) r
    place (Err code) q r = err_not_ok _ _ r

    go : (a : Option Flag) (b : Option Number) → read_as d.types w a b (found d scope text) ≡ Ok o → OperandInBounds o (bytes d)
    go (Some f) b r = flag_lies (bytes d) w f o r
    go None (Some n) r = number_lies (bytes d) w n o r
    go None None r = place (found d scope text) refl r

pub name_lies : (len : ℕ) (text : List ℕ) (named : Option Operand) (cause : CheckCode) (o : Operand) → ((x : Operand) → named ≡ Some x → OperandInBounds x len) → name_operand text named cause ≡ Ok o → OperandInBounds o len
name_lies len text named cause o known p = go (is_name text) named known p
  where
    go : (b : Bool) (n : Option Operand) → ((x : Operand) → n ≡ Some x → OperandInBounds x len) → (if b then some_or n cause else Err C2) ≡ Ok o → OperandInBounds o len
    go false n k r = err_not_ok _ _ r
    go true None k r = err_not_ok _ _ r
    go true (Some x) k r = subst (λ (z : Operand). OperandInBounds z len) (ok_inj _ _ r) (k x refl)

-- if each operand that a name may stand for is no place
pub mapped_lies : {A : Type 0} (len : ℕ) (make : A → Operand) → ((a : A) → OperandInBounds (make a) len) → (o : Option A) (x : Operand) → option_map make o ≡ Some x → OperandInBounds x len
mapped_lies len make known None x p = absurd (cc p)
mapped_lies len make known (Some a) x p = subst (λ (z : Operand). OperandInBounds z len) (cc p) (known a)

pub operand_lies : (s : CheckScope) (ls : List Label) (spot : Spot) (w : OperandKind) (text : List ℕ) (o : Operand) → Sound s.tags → operand_of s ls spot (w, text) ≡ Ok o → OperandInBounds o (bytes s.tags)
operand_lies s ls spot RoutineName text o sound p = name_lies (bytes s.tags) text _ C11 o (mapped_lies (bytes s.tags) operand.Routine (λ _. tt) (position (λ name. same name text) s.routines)) p
operand_lies s ls spot ParameterCount text o sound p = go (option_and_then as_count (decimal text)) p
  where
    go : (count : Option ℕ) → some_or (option_map (λ n. operand.Number (pos n)) count) C2 ≡ Ok o → OperandInBounds o (bytes s.tags)
    go (Some n) r = subst (λ (z : Operand). OperandInBounds z (bytes s.tags)) (ok_inj _ _ r) tt
    go None r = err_not_ok _ _ r
operand_lies s ls spot JumpLabel text o sound p = name_lies (bytes s.tags) text _ C12 o (mapped_lies (bytes s.tags) (λ l. operand.Label l.rung) (λ _. tt) (label_of ls text)) p
operand_lies s ls spot OwnLabel text o sound p = name_lies (bytes s.tags) text _ C2 o (mapped_lies (bytes s.tags) operand.Label (λ _. tt) (Some spot.rung)) p
operand_lies s ls spot EventTask text o sound p = name_lies (bytes s.tags) text _ C15 o (mapped_lies (bytes s.tags) operand.Task (λ _. tt) (position (λ t. t.event && same t.name text) s.tasks)) p
operand_lies s ls spot QuestionMark text o sound p = go (bytes_eq text (codes "?")) p
  where
    go : (b : Bool) → (if b then Ok operand.Blank else data_operand s.tags (Program s.program) QuestionMark text) ≡ Ok o → OperandInBounds o (bytes s.tags)
    go true r = subst (λ (z : Operand). OperandInBounds z (bytes s.tags)) (ok_inj _ _ r) tt
    go false r = data_lies s.tags (Program s.program) QuestionMark text o sound r
operand_lies s ls spot BoolPlace text o sound p = data_lies s.tags (Program s.program) BoolPlace text o sound p
operand_lies s ls spot BoolOrFlag text o sound p = data_lies s.tags (Program s.program) BoolOrFlag text o sound p
operand_lies s ls spot IntegerPlace text o sound p = data_lies s.tags (Program s.program) IntegerPlace text o sound p
operand_lies s ls spot IntegerOrNumber text o sound p = data_lies s.tags (Program s.program) IntegerOrNumber text o sound p
operand_lies s ls spot WholeTimer text o sound p = data_lies s.tags (Program s.program) WholeTimer text o sound p
operand_lies s ls spot WholeCounter text o sound p = data_lies s.tags (Program s.program) WholeCounter text o sound p
operand_lies s ls spot TimerOrCounter text o sound p = data_lies s.tags (Program s.program) TimerOrCounter text o sound p
operand_lies s ls spot CopySource text o sound p = data_lies s.tags (Program s.program) CopySource text o sound p
operand_lies s ls spot CopyTarget text o sound p = data_lies s.tags (Program s.program) CopyTarget text o sound p
operand_lies s ls spot FillTarget text o sound p = data_lies s.tags (Program s.program) FillTarget text o sound p

-- ---- instructions and rungs

pub operands_lie : (s : CheckScope) (ls : List Label) (spot : Spot) (ps : List (OperandKind × List ℕ)) → Sound s.tags → Each (λ o. OperandInBounds o (bytes s.tags)) (filter_map result_ok (map (operand_of s ls spot) ps))
operands_lie s ls spot [] sound = tt
operands_lie s ls spot (p ∷ ps) sound = go (operand_of s ls spot p) refl (operands_lie s ls spot ps sound)
  where
    go : (r : Result Operand CheckCode) → operand_of s ls spot p ≡ r → Each (λ o. OperandInBounds o (bytes s.tags)) (filter_map result_ok (map (operand_of s ls spot) ps)) → Each (λ o. OperandInBounds o (bytes s.tags)) (filter_map result_ok (r ∷ map (operand_of s ls spot) ps))
    go (Ok o) q rest = (operand_lies s ls spot p.0 p.1 o sound q, rest)
    go (Err e) q rest = rest

abbrev InsLies : ℕ → Ins → Type 0
InsLies len i = Each (λ o. OperandInBounds o len) i.args

pub instruction_lies : (s : CheckScope) (ls : List Label) (spot : Spot) (i : SourceIns) (made : Ins) → Sound s.tags → instruction_of s ls spot i ≡ Ok made → InsLies (bytes s.tags) made
instruction_lies s ls spot i made sound p = go (paired i.op i.texts) p
  where
    go : (o : Option (List (OperandKind × List ℕ))) → settled ls spot i (operands_of s ls spot o) ≡ Ok made → InsLies (bytes s.tags) made
    go None r = subst (λ (z : Ins). InsLies (bytes s.tags) z) (sym (answered_outline spot i.op _ _ made r).1) tt
    go (Some ps) r = subst (λ (z : Ins). InsLies (bytes s.tags) z) (sym (answered_outline spot i.op _ _ made r).1) (operands_lie s ls spot ps sound)

mutual
  pub tree_lies : (s : CheckScope) (ls : List Label) (sound : Sound s.tags) (spot : Spot) (t : Tree SourceIns) (made : Tree Ins) → checked_tree (instruction_of s ls) spot t ≡ Ok made → Each (InsLies (bytes s.tags)) (instructions made)
  tree_lies s ls sound spot end made p = subst (λ (z : Tree Ins). Each (InsLies (bytes s.tags)) (instructions z)) (ok_inj _ _ p) tt
  tree_lies s ls sound spot (one i rest) made p =
      let a = bind_ok (instruction_of s ls spot i) _ made p in
      let b = bind_ok (checked_tree (instruction_of s ls) (spot_after 1 spot) rest) _ made a.2 in
      subst (λ (z : Tree Ins). Each (InsLies (bytes s.tags)) (instructions z)) (ok_inj _ _ b.2) (instruction_lies s ls spot i a.0 sound a.1, tree_lies s ls sound (spot_after 1 spot) rest b.0 b.1)
  tree_lies s ls sound spot (fork t legs rest) made p =
      let a = bind_ok (checked_tree (instruction_of s ls) (spot_after 0 spot) t) _ made p in
      let b = bind_ok (checked_legs (instruction_of s ls) (spot_after (length (instructions t)) spot) legs) _ made a.2 in
      let c = bind_ok (checked_tree (instruction_of s ls) (spot_after (length (instructions t) + length (leg_instructions legs)) spot) rest) _ made b.2 in
      subst (λ (z : Tree Ins). Each (InsLies (bytes s.tags)) (instructions z)) (ok_inj _ _ c.2) (each_append (InsLies (bytes s.tags)) (instructions a.0) (leg_instructions b.0 ++ instructions c.0) (tree_lies s ls sound (spot_after 0 spot) t a.0 a.1) (each_append (InsLies (bytes s.tags)) (leg_instructions b.0) (instructions c.0) (legs_lie s ls sound (spot_after (length (instructions t)) spot) legs b.0 b.1) (tree_lies s ls sound (spot_after (length (instructions t) + length (leg_instructions legs)) spot) rest c.0 c.1)))

  pub legs_lie : (s : CheckScope) (ls : List Label) (sound : Sound s.tags) (spot : Spot) (legs : Legs SourceIns) (made : Legs Ins) → checked_legs (instruction_of s ls) spot legs ≡ Ok made → Each (InsLies (bytes s.tags)) (leg_instructions made)
  legs_lie s ls sound spot last made p = subst (λ (z : Legs Ins). Each (InsLies (bytes s.tags)) (leg_instructions z)) (ok_inj _ _ p) tt
  legs_lie s ls sound spot (leg t legs) made p =
      let a = bind_ok (checked_tree (instruction_of s ls) spot t) _ made p in
      let b = bind_ok (checked_legs (instruction_of s ls) (spot_after (length (instructions t)) spot) legs) _ made a.2 in
      subst (λ (z : Legs Ins). Each (InsLies (bytes s.tags)) (leg_instructions z)) (ok_inj _ _ b.2) (each_append (InsLies (bytes s.tags)) (instructions a.0) (leg_instructions b.0) (tree_lies s ls sound spot t a.0 a.1) (legs_lie s ls sound (spot_after (length (instructions t)) spot) legs b.0 b.1))

pub rungs_lie : (s : CheckScope) (ls : List Label) (sound : Sound s.tags) (rung before : ℕ) (rungs : List Source) (made : List (Tree Ins)) → checked_from (instruction_of s ls) rung before rungs ≡ Ok made → Each (OperandsInBounds (bytes s.tags)) made
rungs_lie s ls sound rung before [] made p = subst (λ (z : List (Tree Ins)). Each (OperandsInBounds (bytes s.tags)) z) (ok_inj _ _ p) tt
rungs_lie s ls sound rung before (r ∷ rs) made p =
    let a = bind_ok (checked_tree (instruction_of s ls) (record { rung = rung; ins = 0; before = before; leads = true }) r) _ made p in
    let b = bind_ok (checked_from (instruction_of s ls) (suc rung) (before + length (instructions r)) rs) _ made a.2 in
    subst (λ (z : List (Tree Ins)). Each (OperandsInBounds (bytes s.tags)) z) (ok_inj _ _ b.2) (tree_lies s ls sound (record { rung = rung; ins = 0; before = before; leads = true }) r a.0 a.1, rungs_lie s ls sound (suc rung) (before + length (instructions r)) rs b.0 b.1)

pub checked_lies : CheckedInBounds
checked_lies scope rungs made s p = rungs_lie scope (labels rungs) s 0 0 rungs made p
