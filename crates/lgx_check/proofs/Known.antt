-- A plain rung is checked to the same wherever it stands.
use Rattle.std.proofs.Common.{◌≡◌, ℕ, zero, suc, ◌+◌, ◌-◌, ◌<◌, ◌≤◌, Bool, true, false, not, List, [], ◌∷◌, ◌++◌, length, get_or, drop, map, replicate, refl, ap, sym, ◌∙◌, subst, arith, length-append, ℤ, Option, Some, None, option_map, Result, Ok}
use Rattle.std.specs.Prelude.{nat_le, filter_map, option_and_then, if◌then◌else◌, ◌==◌, ◌&&◌}
use Rattle.std.specs.List.{enumerate_from, list_all, zip}
use Rattle.std.specs.Result.{result_ok, result_err}
use Rattle.std.proofs.lemmas.Bool.{and_parts}
use Rattle.std.proofs.lemmas.Bool.Decides.{nat_tests}
use Rattle.std.proofs.lemmas.List.Folds.{list_all-append}
use Rattle.spec_base.specs.FirstCause.{◌>>=◌}
use Rattle.spec_base.specs.declared.limits.TheConstants.{MAX_PARAMETERS, MAX_ROUTINE_INSTRUCTIONS}
use Rattle.spec_base.proofs.Binds.{bind_ok, ok_inj}
use Rattle.lgx_num.specs.Name.{is_name}
use Rattle.lgx_rung.specs.OperandTable.{as_count, fixed_kinds, parameters, handed_kinds, Further, NoMore, Parameters, HandedOver, further, further_kinds, operand_kinds}
use Rattle.lgx_rung.specs.Tree.{Tree, end, one, fork, Legs, last, leg, Source, SourceIns, instructions, leg_instructions, legs_of}
use Rattle.lgx_rung.specs.declared.fault.CheckFault.{CheckFault}
use Rattle.lgx_rung.specs.declared.ins.Ins.{Ins}
use Rattle.lgx_rung.specs.declared.op.Op.{Op}
use Rattle.lgx_rung.specs.declared.op.Op.TheVariants.{Jmp, Jsr, Lbl, Sbr}
use Rattle.lgx_rung.specs.declared.operands.OperandKind.{OperandKind}
use Rattle.lgx_rung.specs.declared.operands.OperandKind.TheVariants.{JumpLabel, OwnLabel, IntegerOrNumber, IntegerPlace, ParameterCount}
use Rattle.spec_language.specs.Checked.{CheckScope, Label, Spot, spot_after, is_label, is_entry, label_name, label_at, labels, operand_of, operands_of, other_faults, least, answered, settled, instruction_of, checked_tree, checked_legs, checked_from, checked}
use Rattle.spec_language.specs.Operands.{paired, second_number}
use Rattle.spec_language.proofs.Outlines.{answered_outline, none_least}
use Rattle.lgx_rung.specs.Elements.{tree_of}
use Rattle.lgx_rung.specs.declared.rung.Element.{Element}
use Rattle.lgx_check.proofs.Labels.{at_element, at_leg}
use Rattle.lgx_check.specs.Known.{looks_around, is_plain, IsKnown}
use Rattle.lgx_check.specs.Spots.{start_of}

-- ---- the operands of a plain instruction

-- the operand is the same among other labels and elsewhere
abbrev stays : OperandKind → Bool
stays JumpLabel = false
stays OwnLabel = false
stays _ = true

abbrev all_stay : Option (List OperandKind) → Bool
all_stay None = true
all_stay (Some kinds) = list_all stays kinds

same_stay : (kind : OperandKind) (n : ℕ) → stays kind ≡ true → list_all stays (replicate n kind) ≡ true
same_stay kind zero h = refl
same_stay kind (suc n) h = ap (λ b. b && list_all stays (replicate n kind)) h ∙ same_stay kind n h

before_stay : (before : List OperandKind) (kinds : Option (List OperandKind)) → list_all stays before ≡ true → all_stay kinds ≡ true → all_stay (option_map (λ others. before ++ others) kinds) ≡ true
before_stay before None h k = refl
before_stay before (Some kinds) h k = list_all-append stays before kinds ∙ ap (λ b. b && list_all stays kinds) h ∙ k

parameters_stay : (kind : OperandKind) (given : ℕ) → stays kind ≡ true → all_stay (parameters kind given) ≡ true
parameters_stay kind given h = go (nat_le given MAX_PARAMETERS)
  where
    go : (few : Bool) → all_stay (if few then Some (replicate given kind) else None) ≡ true
    go true = same_stay kind given h
    go false = refl

handed_stay : (count : Option ℕ) (given : ℕ) → all_stay (handed_kinds count given) ≡ true
handed_stay (Some n) given = go (nat_le n given)
  where
    go : (enough : Bool) → all_stay (if enough then option_map (λ returns. replicate n IntegerOrNumber ++ returns) (parameters IntegerPlace (given - n)) else None) ≡ true
    go true = before_stay (replicate n IntegerOrNumber) (parameters IntegerPlace (given - n)) (same_stay IntegerOrNumber n refl) (parameters_stay IntegerPlace (given - n) refl)
    go false = refl
handed_stay None given = go (nat_le given (MAX_PARAMETERS + MAX_PARAMETERS))
  where
    go : (few : Bool) → all_stay (if few then Some (replicate given IntegerOrNumber) else None) ≡ true
    go true = same_stay IntegerOrNumber given refl
    go false = refl

-- what may follow stays
abbrev stays_further : Further → Bool
stays_further (Parameters kind) = stays kind
stays_further _ = true

further_stay : (f : Further) (count : Option ℕ) (given : ℕ) → stays_further f ≡ true → all_stay (further_kinds f count given) ≡ true
further_stay NoMore count zero h = refl
further_stay NoMore count (suc given) h = refl
further_stay (Parameters kind) count given h = parameters_stay kind given h
further_stay HandedOver count zero h = refl
further_stay HandedOver count (suc given) h = before_stay (ParameterCount ∷ []) (handed_kinds count given) refl (handed_stay count given)

fixed_stay : (op : Op) → looks_around op ≡ false → list_all stays (fixed_kinds op) ≡ true
fixed_stay Lbl h = absurd (cc h)
fixed_stay Jmp h = absurd (cc h)
fixed_stay _ h = refl

more_stays : (op : Op) → stays_further (further op) ≡ true
more_stays Jsr = refl
more_stays _ = refl

kinds_stay : (op : Op) (second : Option ℤ) (given : ℕ) → looks_around op ≡ false → all_stay (operand_kinds op second given) ≡ true
kinds_stay op second given h = go (nat_le (length (fixed_kinds op)) given)
  where
    more : Option (List OperandKind)
    more = further_kinds (further op) (option_and_then as_count second) (given - length (fixed_kinds op))

    go : (enough : Bool) → all_stay (if enough then option_map (λ kinds. fixed_kinds op ++ kinds) more else None) ≡ true
    go true = before_stay (fixed_kinds op) more (fixed_stay op h) (further_stay (further op) (option_and_then as_count second) (given - length (fixed_kinds op)) (more_stays op))
    go false = refl

-- ---- one instruction

not_label : (op : Op) → looks_around op ≡ false → is_label op ≡ false
not_label Lbl h = absurd (cc h)
not_label _ h = refl

not_entry : (op : Op) → looks_around op ≡ false → is_entry op ≡ false
not_entry Sbr h = absurd (cc h)
not_entry _ h = refl

no_name : (op : Op) (texts : List (List ℕ)) → looks_around op ≡ false → label_name op texts ≡ None
no_name op [] h = refl
no_name op (text ∷ []) h = ap (λ b. if b && is_name text then Some text else None) (not_label op h)
no_name op (text ∷ other ∷ texts) h = refl

none_first : {X : Type 0} (xs ys : List X) → xs ++ ys ≡ [] → xs ≡ []
none_first [] ys h = refl
none_first (x ∷ xs) ys h = absurd (cc h)

module _ (s : CheckScope) (ls ls' : List Label) where
  operand_same : (spot spot' : Spot) (kind : OperandKind) (text : List ℕ) → stays kind ≡ true → operand_of s ls spot (kind, text) ≡ operand_of s ls' spot' (kind, text)
  operand_same spot spot' JumpLabel text h = absurd (cc h)
  operand_same spot spot' OwnLabel text h = absurd (cc h)
  operand_same spot spot' _ text h = refl

  pairs_same : (spot spot' : Spot) (kinds : List OperandKind) (texts : List (List ℕ)) → list_all stays kinds ≡ true → map (operand_of s ls spot) (zip kinds texts) ≡ map (operand_of s ls' spot') (zip kinds texts)
  pairs_same spot spot' [] texts h = refl
  pairs_same spot spot' (kind ∷ kinds) [] h = refl
  pairs_same spot spot' (kind ∷ kinds) (text ∷ texts) h =
      let parts = and_parts (stays kind) (list_all stays kinds) h in
      ap (λ o. o ∷ map (operand_of s ls spot) (zip kinds texts)) (operand_same spot spot' kind text parts.0)
      ∙ ap (λ os. operand_of s ls' spot' (kind, text) ∷ os) (pairs_same spot spot' kinds texts parts.1)

  operands_same : (spot spot' : Spot) (texts : List (List ℕ)) (kinds : Option (List OperandKind)) → all_stay kinds ≡ true
      → operands_of s ls spot (option_map (λ ks. zip ks texts) kinds) ≡ operands_of s ls' spot' (option_map (λ ks. zip ks texts) kinds)
  operands_same spot spot' texts None h = refl
  operands_same spot spot' texts (Some kinds) h = pairs_same spot spot' kinds texts h

  no_others : (spot : Spot) (i : SourceIns) → looks_around i.op ≡ false → spot.before < MAX_ROUTINE_INSTRUCTIONS → other_faults ls' spot i ≡ []
  no_others spot i h room =
      let within : (spot.before == MAX_ROUTINE_INSTRUCTIONS) ≡ false = grind (arith, nat_tests) in
      rw (no_name i.op i.texts h, not_label i.op h, not_entry i.op h, within) refl

  instruction_same : (spot spot' : Spot) (i : SourceIns) (made : Ins) → looks_around i.op ≡ false → spot'.before < MAX_ROUTINE_INSTRUCTIONS
      → instruction_of s ls spot i ≡ Ok made → instruction_of s ls' spot' i ≡ Ok made
  instruction_same spot spot' i made h room m =
      let operands = operands_of s ls spot (paired i.op i.texts) in
      let a = answered_outline spot i.op (filter_map result_ok operands) (least (filter_map result_err operands ++ other_faults ls spot i)) made m in
      let right : filter_map result_err operands ≡ [] = none_first (filter_map result_err operands) (other_faults ls spot i) (none_least (filter_map result_err operands ++ other_faults ls spot i) a.0) in
      let same : operands ≡ operands_of s ls' spot' (paired i.op i.texts) = operands_same spot spot' i.texts (operand_kinds i.op (second_number i.texts) (length i.texts)) (kinds_stay i.op (second_number i.texts) (length i.texts) h) in
      ap (settled ls' spot' i) (sym same)
      ∙ ap (λ codes. answered spot' i.op (filter_map result_ok operands) (least (codes ++ other_faults ls' spot' i))) right
      ∙ ap (λ codes. answered spot' i.op (filter_map result_ok operands) (least codes)) (no_others spot' i h room)
      ∙ ap Ok (sym a.1)

-- ---- rungs

abbrev pub are_plain : List SourceIns → Bool
are_plain is = list_all (λ i. not (looks_around i.op)) is

not_true : (b : Bool) → not b ≡ true → b ≡ false
not_true true h = absurd (cc h)
not_true false h = refl

plain_parts : (is js : List SourceIns) → are_plain (is ++ js) ≡ true → (are_plain is ≡ true) × (are_plain js ≡ true)
plain_parts is js h = and_parts (are_plain is) (are_plain js) (sym (list_all-append (λ i. not (looks_around i.op)) is js) ∙ h)

-- of an element and others, and of a leg and others
pub plain_at_element : (es : List Element) (n : ℕ) (e : Element) → n < length es → e ≡ get_or es n e → is_plain (tree_of (drop n es)) ≡ (is_plain (tree_of (e ∷ [])) && is_plain (tree_of (drop (n + 1) es)))
plain_at_element es n e h is = ap are_plain (at_element es n e h is) ∙ list_all-append (λ i. not (looks_around i.op)) (instructions (tree_of (e ∷ []))) (instructions (tree_of (drop (n + 1) es)))

pub plain_at_leg : (ts : List Source) (n : ℕ) (t : Source) → n < length ts → t ≡ get_or ts n t → are_plain (leg_instructions (legs_of (drop n ts))) ≡ (is_plain t && are_plain (leg_instructions (legs_of (drop (n + 1) ts))))
plain_at_leg ts n t h is = ap are_plain (at_leg ts n t h is) ∙ list_all-append (λ i. not (looks_around i.op)) (instructions t) (leg_instructions (legs_of (drop (n + 1) ts)))

module _ (s : CheckScope) (ls ls' : List Label) where
  mutual
    tree_same : (spot spot' : Spot) (t : Source) (made : Tree Ins) → are_plain (instructions t) ≡ true → spot'.before + length (instructions t) ≤ MAX_ROUTINE_INSTRUCTIONS
        → checked_tree (instruction_of s ls) spot t ≡ Ok made → checked_tree (instruction_of s ls') spot' t ≡ Ok made
    tree_same spot spot' end made h room m = m
    tree_same spot spot' (one i rest) made h room m =
        let plain = and_parts (not (looks_around i.op)) (are_plain (instructions rest)) h in
        let a = bind_ok (instruction_of s ls spot i) _ made m in
        let b = bind_ok (checked_tree (instruction_of s ls) (spot_after 1 spot) rest) _ made a.2 in
        ap (λ r. r >>= λ i'. checked_tree (instruction_of s ls') (spot_after 1 spot') rest >>= λ rest'. Ok (one i' rest')) (instruction_same s ls ls' spot spot' i a.0 (not_true (looks_around i.op) plain.0) (omega arith) a.1)
        ∙ ap (λ r. r >>= λ rest'. Ok (one a.0 rest')) (tree_same (spot_after 1 spot) (spot_after 1 spot') rest b.0 plain.1 (omega arith) b.1)
        ∙ b.2
    tree_same spot spot' (fork t legs rest) made h room m =
        let after_leg = length (instructions t) in
        let after_legs = length (instructions t) + length (leg_instructions legs) in
        let plain = plain_parts (instructions t) (leg_instructions legs ++ instructions rest) h in
        let others = plain_parts (leg_instructions legs) (instructions rest) plain.1 in
        let all : length (instructions t ++ (leg_instructions legs ++ instructions rest)) ≡ after_leg + (length (leg_instructions legs) + length (instructions rest)) = simp length-append in
        let a = bind_ok (checked_tree (instruction_of s ls) (spot_after 0 spot) t) _ made m in
        let b = bind_ok (checked_legs (instruction_of s ls) (spot_after after_leg spot) legs) _ made a.2 in
        let c = bind_ok (checked_tree (instruction_of s ls) (spot_after after_legs spot) rest) _ made b.2 in
        ap (λ r. r >>= λ t'. checked_legs (instruction_of s ls') (spot_after after_leg spot') legs >>= λ legs'. checked_tree (instruction_of s ls') (spot_after after_legs spot') rest >>= λ rest'. Ok (fork t' legs' rest'))
        (tree_same (spot_after 0 spot) (spot_after 0 spot') t a.0 plain.0 (omega (arith, all)) a.1)
        ∙ ap (λ r. r >>= λ legs'. checked_tree (instruction_of s ls') (spot_after after_legs spot') rest >>= λ rest'. Ok (fork a.0 legs' rest'))
        (legs_same (spot_after after_leg spot) (spot_after after_leg spot') legs b.0 others.0 (omega (arith, all)) b.1)
        ∙ ap (λ r. r >>= λ rest'. Ok (fork a.0 b.0 rest')) (tree_same (spot_after after_legs spot) (spot_after after_legs spot') rest c.0 others.1 (omega (arith, all)) c.1)
        ∙ c.2

    legs_same : (spot spot' : Spot) (legs : Legs SourceIns) (made : Legs Ins) → are_plain (leg_instructions legs) ≡ true → spot'.before + length (leg_instructions legs) ≤ MAX_ROUTINE_INSTRUCTIONS
        → checked_legs (instruction_of s ls) spot legs ≡ Ok made → checked_legs (instruction_of s ls') spot' legs ≡ Ok made
    legs_same spot spot' last made h room m = m
    legs_same spot spot' (leg t legs) made h room m =
        let after_leg = length (instructions t) in
        let plain = plain_parts (instructions t) (leg_instructions legs) h in
        let all : length (instructions t ++ leg_instructions legs) ≡ after_leg + length (leg_instructions legs) = length-append (instructions t) (leg_instructions legs) in
        let a = bind_ok (checked_tree (instruction_of s ls) spot t) _ made m in
        let b = bind_ok (checked_legs (instruction_of s ls) (spot_after after_leg spot) legs) _ made a.2 in
        ap (λ r. r >>= λ t'. checked_legs (instruction_of s ls') (spot_after after_leg spot') legs >>= λ legs'. Ok (leg t' legs')) (tree_same spot spot' t a.0 plain.0 (omega (arith, all)) a.1)
        ∙ ap (λ r. r >>= λ legs'. Ok (leg a.0 legs')) (legs_same (spot_after after_leg spot) (spot_after after_leg spot') legs b.0 plain.1 (omega (arith, all)) b.1)
        ∙ b.2

-- a plain rung that is checked is known
pub known_of_rung : (scope : CheckScope) (ls : List Label) (spot : Spot) (rung : Source) (made : Tree Ins) → is_plain rung ≡ true → checked_tree (instruction_of scope ls) spot rung ≡ Ok made → IsKnown scope rung made
known_of_rung scope ls spot rung made plain m = record { anywhere = λ ls' number before room. tree_same scope ls ls' spot (start_of number before) rung made plain room m }

-- each plain rung of a routine that is checked is known
pub known_in : (scope : CheckScope) (rungs : List Source) (made : List (Tree Ins)) (n : ℕ) (d : Source) (e : Tree Ins) → checked scope rungs ≡ Ok made → n < length rungs → is_plain (get_or rungs n d) ≡ true → IsKnown scope (get_or rungs n d) (get_or made n e)
known_in scope rungs made n d e m h plain = go (labels rungs) 0 0 rungs made n m h plain
  where
    go : (ls : List Label) (k b : ℕ) (rs : List Source) (ms : List (Tree Ins)) (n : ℕ) → checked_from (instruction_of scope ls) k b rs ≡ Ok ms → n < length rs → is_plain (get_or rs n d) ≡ true → IsKnown scope (get_or rs n d) (get_or ms n e)
    go ls k b [] ms n m h plain = absurd (omega arith)
    go ls k b (r ∷ rs) ms zero m h plain =
        let this = bind_ok (checked_tree (instruction_of scope ls) (start_of k b) r) _ ms m in
        let others = bind_ok (checked_from (instruction_of scope ls) (suc k) (b + length (instructions r)) rs) _ ms this.2 in
        subst (λ (xs : List (Tree Ins)). IsKnown scope r (get_or xs 0 e)) (ok_inj _ _ others.2) (known_of_rung scope ls (start_of k b) r this.0 plain this.1)
    go ls k b (r ∷ rs) ms (suc n) m h plain =
        let this = bind_ok (checked_tree (instruction_of scope ls) (start_of k b) r) _ ms m in
        let others = bind_ok (checked_from (instruction_of scope ls) (suc k) (b + length (instructions r)) rs) _ ms this.2 in
        subst (λ (xs : List (Tree Ins)). IsKnown scope (get_or rs n d) (get_or xs (suc n) e)) (ok_inj _ _ others.2) (go ls (suc k) (b + length (instructions r)) rs others.0 n others.1 (omega arith) plain)

-- it has as many rungs
pub made_length : (scope : CheckScope) (rungs : List Source) (made : List (Tree Ins)) → checked scope rungs ≡ Ok made → length made ≡ length rungs
made_length scope rungs made m = go (instruction_of scope (labels rungs)) 0 0 rungs made m
  where
    go : (check : Spot → SourceIns → Result Ins CheckFault) (k b : ℕ) (rs : List Source) (ms : List (Tree Ins)) → checked_from check k b rs ≡ Ok ms → length ms ≡ length rs
    go check k b [] ms m = ap length (sym (ok_inj [] ms m))
    go check k b (r ∷ rs) ms m =
        let this = bind_ok (checked_tree check (start_of k b) r) _ ms m in
        let others = bind_ok (checked_from check (suc k) (b + length (instructions r)) rs) _ ms this.2 in
        ap length (sym (ok_inj (this.0 ∷ others.0) ms others.2)) ∙ ap suc (go check (suc k) (b + length (instructions r)) rs others.0 others.1)

-- ---- labels

no_labels : (number n : ℕ) (is : List SourceIns) → are_plain is ≡ true → filter_map (label_at number) (enumerate_from n is) ≡ []
no_labels number n [] h = refl
no_labels number n (i ∷ is) h =
    let plain = and_parts (not (looks_around i.op)) (are_plain is) h in
    rw (no_name i.op i.texts (not_true (looks_around i.op) plain.0)) (no_labels number (n + 1) is plain.1)

pub plain_labels : (number : ℕ) (rung : Source) → is_plain rung ≡ true → filter_map (label_at number) (enumerate_from 0 (instructions rung)) ≡ []
plain_labels number rung plain = no_labels number 0 (instructions rung) plain
