-- A walk over a rung, element by element, and over a fork, leg by leg.
use Rattle.std.proofs.Common.{◌≡◌, ℕ, ◌+◌, ◌<◌, ◌≤◌, Bool, false, List, [], ◌∷◌, ◌++◌, length, get_or, drop, refl, ap, sym, ◌∙◌, length-append, arith, Result, Ok, Err}
use Rattle.std.proofs.lemmas.List.{append-nil, drop_more, drop_all}
use Rattle.spec_base.specs.FirstCause.{◌>>=◌}
use Rattle.spec_base.specs.declared.limits.TheConstants.{MAX_FORKS}
use Rattle.lgx_rung.specs.Elements.{tree_of as source_tree}
use Rattle.lgx_rung.specs.Tree.{Tree, end, one, fork, Legs, last, leg, legs_of, append, depth, leg_depth, Source, SourceIns, instructions, leg_instructions}
use Rattle.lgx_rung.specs.declared.fault.CheckFault.{CheckFault}
use Rattle.lgx_rung.specs.declared.ins.Ins.{Ins as Instruction}
use Rattle.lgx_rung.specs.declared.rung.Element.{Element}
use Rattle.lgx_rung.specs.declared.rung.Element.TheVariants as element
use Rattle.lgx_rung.proofs.Trees.{append-append, append-end}
use Rattle.lgx_prog.specs.Nodes.{tree_of}
use Rattle.lgx_prog.specs.declared.rung.Node.{Node}
use Rattle.lgx_prog.specs.declared.rung.Node.TheVariants as node
use Rattle.spec_language.specs.Checked.{Spot, spot_after, instruction_of, checked_tree, checked_legs}
use Rattle.spec_language.specs.Checked as checking
use Rattle.spec_language.specs.CheckedLaws.{tree_map, legs_map, outline, source_outline}
use Rattle.lgx_check.proofs.Labels.{at_element as at_place, at_leg as leg_at_place}
use Rattle.spec_language.proofs.Outlines.{tree_outline}
use Rattle.lgx_check.specs.Spots.{place_after, spot_at}
use Rattle.lgx_check.specs.Trees.{node_tree}
use Rattle.lgx_check.specs.declared.spot.InstructionPlace.{InstructionPlace}

-- what is made of an instruction where it stands
abbrev pub InstructionCheck : Type 0
InstructionCheck = Spot → SourceIns → Result Instruction CheckFault

-- ---- trees of elements

node_first : (n : Node) (ns : List Node) → tree_of (n ∷ ns) ≡ append (node_tree n) (tree_of ns)
node_first (node.Ins i) ns = refl
node_first (node.Fork []) ns = refl
node_first (node.Fork (t ∷ ts)) ns = refl

pub nodes_append : (ns : List Node) (n : Node) → tree_of (ns ++ n ∷ []) ≡ append (tree_of ns) (node_tree n)
nodes_append [] n = refl
nodes_append (m ∷ ns) n =
    node_first m (ns ++ n ∷ [])
    ∙ ap (append (node_tree m)) (nodes_append ns n)
    ∙ sym (append-append (node_tree m) (tree_of ns) (node_tree n))
    ∙ ap (λ t. append t (node_tree n)) (sym (node_first m ns))

-- ---- an element first, and then the others

-- the number of an element's instructions
abbrev pub element_length : Element → ℕ
element_length e = length (instructions (source_tree (e ∷ [])))

abbrev with_rest : InstructionCheck → Spot → List Element → Tree Instruction → Result (Tree Instruction) CheckFault
with_rest check spot es t = checked_tree check spot (source_tree es) >>= λ rest. Ok (append t rest)

pub checked_first : (check : InstructionCheck) (spot : Spot) (e : Element) (es : List Element)
    → checked_tree check spot (source_tree (e ∷ es)) ≡ (checked_tree check spot (source_tree (e ∷ [])) >>= with_rest check (spot_after (element_length e) spot) es)
checked_first check spot (element.Ins op texts) es = go (check spot (record { op = op; texts = texts }))
  where
    go : (r : Result Instruction CheckFault)
        → (r >>= λ i. checked_tree check (spot_after 1 spot) (source_tree es) >>= λ rest. Ok (one i rest)) ≡ ((r >>= λ i. Ok (one i end)) >>= with_rest check (spot_after 1 spot) es)
    go (Ok i) = refl
    go (Err f) = refl
checked_first check spot (element.Fork []) es = refl
checked_first check spot (element.Fork (t ∷ ts)) es = go (checked_tree check (spot_after 0 spot) t) (checked_legs check (spot_after (length (instructions t)) spot) (legs_of ts)) (sym long)
  where
    long : length (instructions t ++ (leg_instructions (legs_of ts) ++ [])) ≡ length (instructions t) + length (leg_instructions (legs_of ts))
    long = length-append (instructions t) (leg_instructions (legs_of ts) ++ []) ∙ ap (λ x. length (instructions t) + length x) (append-nil (leg_instructions (legs_of ts)))

    go : (r : Result (Tree Instruction) CheckFault) (l : Result (Legs Instruction) CheckFault) {n m : ℕ} → n ≡ m
        → (r >>= λ t'. l >>= λ legs'. checked_tree check (spot_after n spot) (source_tree es) >>= λ rest. Ok (fork t' legs' rest))
        ≡ ((r >>= λ t'. l >>= λ legs'. Ok (fork t' legs' end)) >>= with_rest check (spot_after m spot) es)
    go (Err f) l e = refl
    go (Ok t') (Err f) e = refl
    go (Ok t') (Ok legs') e = ap (λ n. checked_tree check (spot_after n spot) (source_tree es) >>= λ rest. Ok (fork t' legs' rest)) e

-- what comes of the elements that are left, after nodes that were made
abbrev pub after_nodes : List Node → Result (Tree Instruction) CheckFault → Result (Tree Instruction) CheckFault
after_nodes ns r = r >>= λ t. Ok (append (tree_of ns) t)

-- where the elements from the i-th on are walked
abbrev pub left_tree : InstructionCheck → Spot → List Element → ℕ → Result (Tree Instruction) CheckFault
left_tree check spot es i = checked_tree check spot (source_tree (drop i es))

at_element : (check : InstructionCheck) (spot : Spot) (es : List Element) (i : ℕ) (e : Element) → i < length es → e ≡ get_or es i e
    → left_tree check spot es i ≡ (checked_tree check spot (source_tree (e ∷ [])) >>= with_rest check (spot_after (element_length e) spot) (drop (i + 1) es))
at_element check spot es i e h is =
    ap (λ x. checked_tree check spot (source_tree x)) (drop_more es i e h ∙ ap (λ x. x ∷ drop (i + 1) es) (sym is))
    ∙ checked_first check spot e (drop (i + 1) es)

pub node_more : (check : InstructionCheck) (spot : Spot) (es : List Element) (i : ℕ) (e : Element) (ns : List Node) (n : Node) → i < length es → e ≡ get_or es i e
    → checked_tree check spot (source_tree (e ∷ [])) ≡ Ok (node_tree n)
    → after_nodes (ns ++ n ∷ []) (left_tree check (spot_after (element_length e) spot) es (i + 1)) ≡ after_nodes ns (left_tree check spot es i)
node_more check spot es i e ns n h is made =
    go (left_tree check (spot_after (element_length e) spot) es (i + 1))
    ∙ sym (ap (after_nodes ns) (at_element check spot es i e h is ∙ ap (λ r. r >>= with_rest check (spot_after (element_length e) spot) (drop (i + 1) es)) made))
  where
    go : (r : Result (Tree Instruction) CheckFault) → after_nodes (ns ++ n ∷ []) r ≡ after_nodes ns (r >>= λ rest. Ok (append (node_tree n) rest))
    go (Err f) = refl
    go (Ok u) = ap Ok (ap (λ t. append t u) (nodes_append ns n) ∙ append-append (tree_of ns) (node_tree n) u)

pub nodes_made : (check : InstructionCheck) (spot : Spot) (es : List Element) (i : ℕ) (ns : List Node) → length es ≤ i → after_nodes ns (left_tree check spot es i) ≡ Ok (tree_of ns)
nodes_made check spot es i ns h = ap (λ x. after_nodes ns (checked_tree check spot (source_tree x))) (drop_all i es h) ∙ ap Ok (append-end (tree_of ns))

-- ---- a walk's steps

pub node_step : (check : InstructionCheck) (es : List Element) (i : ℕ) (e : Element) (ns now : List Node) (n : Node) (leads : Bool) (before after : InstructionPlace) (whole : Result (Tree Instruction) CheckFault)
    → i < length es → e ≡ get_or es i e → now ≡ ns ++ n ∷ [] → after ≡ place_after (element_length e) before
    → checked_tree check (spot_at leads before) (source_tree (e ∷ [])) ≡ Ok (node_tree n)
    → after_nodes ns (left_tree check (spot_at leads before) es i) ≡ whole
    → after_nodes now (left_tree check (spot_at false after) es (i + 1)) ≡ whole
node_step check es i e ns now n leads before after whole h is pushed went made known =
    ap (λ x. after_nodes x (left_tree check (spot_at false after) es (i + 1))) pushed
    ∙ ap (λ p. after_nodes (ns ++ n ∷ []) (left_tree check (spot_at false p) es (i + 1))) went
    ∙ node_more check (spot_at leads before) es i e ns n h is made
    ∙ known

pub rung_made : (check : InstructionCheck) (es : List Element) (i : ℕ) (ns : List Node) (spot : Spot) (whole : Result (Tree Instruction) CheckFault) (made : Tree Instruction)
    → length es ≤ i → after_nodes ns (left_tree check spot es i) ≡ whole → made ≡ tree_of ns → whole ≡ Ok made
rung_made check es i ns spot whole made h known e = sym known ∙ nodes_made check spot es i ns h ∙ ap Ok (sym e)

-- ---- leg by leg

-- legs after others
abbrev legs_then : List (Tree Instruction) → Legs Instruction → Legs Instruction
legs_then [] legs = legs
legs_then (t ∷ ts) legs = leg t (legs_then ts legs)

legs_end : (ts : List (Tree Instruction)) → legs_then ts last ≡ legs_of ts
legs_end [] = refl
legs_end (t ∷ ts) = ap (leg t) (legs_end ts)

legs_more : (ts : List (Tree Instruction)) (t : Tree Instruction) (legs : Legs Instruction) → legs_then (ts ++ t ∷ []) legs ≡ legs_then ts (leg t legs)
legs_more [] t legs = refl
legs_more (u ∷ ts) t legs = ap (leg u) (legs_more ts t legs)

-- what comes of the legs that are left, after legs that were made
abbrev pub after_legs : List (Tree Instruction) → Result (Legs Instruction) CheckFault → Result (Legs Instruction) CheckFault
after_legs made r = r >>= λ legs. Ok (legs_then made legs)

abbrev pub left_legs : InstructionCheck → Spot → List Source → ℕ → Result (Legs Instruction) CheckFault
left_legs check spot ts i = checked_legs check spot (legs_of (drop i ts))

at_leg : (check : InstructionCheck) (spot : Spot) (ts : List Source) (i : ℕ) (t : Source) → i < length ts → t ≡ get_or ts i t
    → left_legs check spot ts i ≡ (checked_tree check spot t >>= λ t'. left_legs check (spot_after (length (instructions t)) spot) ts (i + 1) >>= λ legs'. Ok (leg t' legs'))
at_leg check spot ts i t h is = ap (λ x. checked_legs check spot (legs_of x)) (drop_more ts i t h ∙ ap (λ x. x ∷ drop (i + 1) ts) (sym is))

pub leg_more : (check : InstructionCheck) (spot : Spot) (ts : List Source) (i : ℕ) (t : Source) (made : List (Tree Instruction)) (t' : Tree Instruction) → i < length ts → t ≡ get_or ts i t
    → checked_tree check spot t ≡ Ok t'
    → after_legs (made ++ t' ∷ []) (left_legs check (spot_after (length (instructions t)) spot) ts (i + 1)) ≡ after_legs made (left_legs check spot ts i)
leg_more check spot ts i t made t' h is m =
    go (left_legs check (spot_after (length (instructions t)) spot) ts (i + 1))
    ∙ sym (ap (after_legs made) (at_leg check spot ts i t h is ∙ ap (λ r. r >>= λ t'. left_legs check (spot_after (length (instructions t)) spot) ts (i + 1) >>= λ legs'. Ok (leg t' legs')) m))
  where
    go : (r : Result (Legs Instruction) CheckFault) → after_legs (made ++ t' ∷ []) r ≡ after_legs made (r >>= λ legs'. Ok (leg t' legs'))
    go (Err f) = refl
    go (Ok legs') = ap Ok (legs_more made t' legs')

pub legs_made : (check : InstructionCheck) (spot : Spot) (ts : List Source) (i : ℕ) (made : List (Tree Instruction)) → length ts ≤ i → after_legs made (left_legs check spot ts i) ≡ Ok (legs_of made)
legs_made check spot ts i made h = ap (λ x. after_legs made (checked_legs check spot (legs_of x))) (drop_all i ts h) ∙ ap Ok (legs_end made)

pub leg_step : (check : InstructionCheck) (ts : List Source) (i : ℕ) (t : Source) (made now : List (Tree Instruction)) (t' : Tree Instruction) (before after : InstructionPlace) (whole : Result (Legs Instruction) CheckFault)
    → i < length ts → t ≡ get_or ts i t → now ≡ made ++ t' ∷ [] → after ≡ place_after (length (instructions t)) before
    → checked_tree check (spot_at false before) t ≡ Ok t'
    → after_legs made (left_legs check (spot_at false before) ts i) ≡ whole
    → after_legs now (left_legs check (spot_at false after) ts (i + 1)) ≡ whole
leg_step check ts i t made now t' before after whole h is pushed went m known =
    ap (λ x. after_legs x (left_legs check (spot_at false after) ts (i + 1))) pushed
    ∙ ap (λ p. after_legs (made ++ t' ∷ []) (left_legs check (spot_at false p) ts (i + 1))) went
    ∙ leg_more check (spot_at false before) ts i t made t' h is m
    ∙ known

pub fork_done : (check : InstructionCheck) (ts : List Source) (i : ℕ) (made : List (Tree Instruction)) (spot : Spot) (whole : Result (Legs Instruction) CheckFault) (legs : List (Tree Instruction))
    → length ts ≤ i → after_legs made (left_legs check spot ts i) ≡ whole → legs ≡ made → whole ≡ Ok (legs_of legs)
fork_done check ts i made spot whole legs h known e = sym known ∙ legs_made check spot ts i made h ∙ ap (λ ls. Ok (legs_of ls)) (sym e)

-- ---- places

pub place_same : (p : InstructionPlace) → place_after 0 p ≡ p
place_same p =
    let a : p.ins + 0 ≡ p.ins = omega arith in
    let b : p.before + 0 ≡ p.before = omega arith in
    rw (a, b) refl

pub place_sum : (a b : ℕ) (p : InstructionPlace) → place_after (a + b) p ≡ place_after b (place_after a p)
place_sum a b p =
    let i : p.ins + (a + b) ≡ p.ins + a + b = omega arith in
    let j : p.before + (a + b) ≡ p.before + a + b = omega arith in
    rw (i, j) refl

place_step : (before after : InstructionPlace) (is js : List SourceIns) → after ≡ place_after (length is) before → place_after (length js) after ≡ place_after (length (is ++ js)) before
place_step before after is js p =
    ap (place_after (length js)) p
    ∙ sym (place_sum (length is) (length js) before)
    ∙ ap (λ n. place_after n before) (sym (length-append is js))

pub element_place : (es : List Element) (i : ℕ) (e : Element) (before after : InstructionPlace) → i < length es → e ≡ get_or es i e → after ≡ place_after (element_length e) before
    → place_after (length (instructions (source_tree (drop (i + 1) es)))) after ≡ place_after (length (instructions (source_tree (drop i es)))) before
element_place es i e before after h is p =
    place_step before after (instructions (source_tree (e ∷ []))) (instructions (source_tree (drop (i + 1) es))) p
    ∙ ap (λ x. place_after (length x) before) (sym (at_place es i e h is))

pub leg_place : (ts : List Source) (i : ℕ) (t : Source) (before after : InstructionPlace) → i < length ts → t ≡ get_or ts i t → after ≡ place_after (length (instructions t)) before
    → place_after (length (leg_instructions (legs_of (drop (i + 1) ts)))) after ≡ place_after (length (leg_instructions (legs_of (drop i ts)))) before
leg_place ts i t before after h is p =
    place_step before after (instructions t) (leg_instructions (legs_of (drop (i + 1) ts))) p
    ∙ ap (λ x. place_after (length x) before) (sym (leg_at_place ts i t h is))

-- ---- forks of checked rungs nest as those of their texts

mutual
  depth_mapped : {A B : Type 0} (f : A → B) (t : Tree A) → depth (tree_map f t) ≡ depth t
  depth_mapped f end = refl
  depth_mapped f (one i rest) = depth_mapped f rest
  depth_mapped f (fork t legs rest) = rw (depth_mapped f t, leg_depth_mapped f legs, depth_mapped f rest) refl

  leg_depth_mapped : {A B : Type 0} (f : A → B) (legs : Legs A) → leg_depth (legs_map f legs) ≡ leg_depth legs
  leg_depth_mapped f last = refl
  leg_depth_mapped f (leg t legs) = rw (depth_mapped f t, leg_depth_mapped f legs) refl

pub made_nested : (s : checking.CheckScope) (ls : List checking.Label) (spot : Spot) (t : Source) (made : Tree Instruction) → checked_tree (instruction_of s ls) spot t ≡ Ok made → depth t ≤ MAX_FORKS → depth made ≤ MAX_FORKS
made_nested s ls spot t made m h =
    let same : depth made ≡ depth t = sym (depth_mapped outline made) ∙ ap depth (tree_outline s ls spot t made m) ∙ depth_mapped source_outline t in
    omega (arith, same)
