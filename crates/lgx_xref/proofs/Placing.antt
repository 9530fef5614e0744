-- A walk down a checked rung: it ends, and it adds the instructions node by node and leg by leg.
use Rattle.std.proofs.Common.{◌≡◌, ℕ, zero, suc, ◌+◌, ◌-◌, ◌<◌, ◌≤◌, List, [], ◌∷◌, ◌++◌, length, map, drop, get_or, refl, sym, ap, ◌∙◌, subst, append_assoc, length-append, arith}
use Rattle.std.specs.List.{enumerate_from}
use Rattle.std.proofs.lemmas.List.{append-nil, drop_more, length-map, map-append}
use Rattle.std.proofs.lemmas.List.FromFn.{length-enumerate_from}
use Rattle.lgx_rung.specs.declared.ins.Ins.{Ins as Instruction}
use Rattle.lgx_rung.specs.Sizes.{tree_size, list_size}
use Rattle.lgx_rung.specs.Tree.{Tree, instructions, leg_instructions, legs_of}
use Rattle.lgx_prog.specs.Nodes.{tree_of}
use Rattle.lgx_prog.specs.declared.rung.Node.{Node}
use Rattle.lgx_prog.specs.declared.rung.Node.TheVariants.{Ins, Fork}
use Rattle.spec_uses.specs.Uses.{Site, site, sites_of_rung}
use Rattle.lgx_xref.specs.Spots.{sites_on}
use Rattle.lgx_xref.specs.declared.placed.RungPlace.{RungPlace}

-- ---- measures

abbrev pub node_size : Node → ℕ
node_size (Ins i) = 0
node_size (Fork legs) = list_size legs + 1

node_falls : (ns : List Node) (i : ℕ) (d : Node) → i < length ns → node_size (get_or ns i d) < tree_size (tree_of ns)
node_falls [] i d h = absurd (omega arith)
node_falls (Ins x ∷ ns) zero d h = omega arith
node_falls (Fork [] ∷ ns) zero d h = omega arith
node_falls (Fork (t ∷ ts) ∷ ns) zero d h = omega arith
node_falls (Ins x ∷ ns) (suc i) d h = let k : i < length ns = omega arith in omega (arith, node_falls ns i d k)
node_falls (Fork [] ∷ ns) (suc i) d h = let k : i < length ns = omega arith in omega (arith, node_falls ns i d k)
node_falls (Fork (t ∷ ts) ∷ ns) (suc i) d h = let k : i < length ns = omega arith in omega (arith, node_falls ns i d k)

leg_falls : (ts : List (Tree Instruction)) (i : ℕ) (d : Tree Instruction) → i < length ts → tree_size (get_or ts i d) < list_size ts
leg_falls [] i d h = absurd (omega arith)
leg_falls (t ∷ ts) zero d h = omega arith
leg_falls (t ∷ ts) (suc i) d h = let k : i < length ts = omega arith in omega (arith, leg_falls ts i d k)

-- of a node that is met in a rung, and of a leg that is met in a fork
pub node_of : (ns : List Node) (i : ℕ) (n : Node) (r : Tree Instruction) → tree_of ns ≡ r → i < length ns → n ≡ get_or ns i n → node_size n < tree_size r
node_of ns i n r t h is =
    let falls : node_size (get_or ns i n) < tree_size (tree_of ns) = node_falls ns i n h in
    subst (λ x. node_size n < tree_size x) t (subst (λ x. node_size x < tree_size (tree_of ns)) (sym is) falls)

pub leg_of : (ts legs : List (Tree Instruction)) (i : ℕ) (t : Tree Instruction) → ts ≡ legs → i < length ts → t ≡ get_or ts i t → tree_size t < list_size legs
leg_of ts legs i t same h is =
    let falls : tree_size (get_or ts i t) < list_size ts = leg_falls ts i t h in
    subst (λ x. tree_size t < list_size x) same (subst (λ x. tree_size x < list_size ts) (sym is) falls)

-- ---- instructions, part by part

pub enumerate-append : {A : Type 0} (n : ℕ) (xs ys : List A) → enumerate_from n (xs ++ ys) ≡ enumerate_from n xs ++ enumerate_from (n + length xs) ys
enumerate-append n [] ys = ap (λ k. enumerate_from k ys) (let e : n ≡ n + 0 = omega arith in e)
enumerate-append n (x ∷ xs) ys =
    let next : n + 1 + length xs ≡ n + suc (length xs) = omega arith in
    ap (λ es. (n, x) ∷ es) (enumerate-append (n + 1) xs ys ∙ ap (λ k. enumerate_from (n + 1) xs ++ enumerate_from k ys) next)

-- a part is added after others, and then what is left
two : (s : RungPlace) (placed new : List Site) (all xs ys : List Instruction) → s.before ≤ length placed → all ≡ xs ++ ys
    → new ≡ placed ++ sites_on s (length placed) xs
    → new ++ sites_on s (length new) ys ≡ placed ++ sites_on s (length placed) all
two s placed new all xs ys before parts added =
    let put = site s.program s.routine s.rung in
    let at = length placed - s.before in
    let count : length new ≡ length placed + length xs =
    ap length added ∙ length-append placed (sites_on s (length placed) xs)
    ∙ ap (λ n. length placed + n) (length-map (enumerate_from at xs) put ∙ length-enumerate_from at xs) in
    let next : length new - s.before ≡ at + length xs = omega arith in
    let rest : sites_on s (length new) ys ≡ map put (enumerate_from (at + length xs) ys) = ap (λ n. map put (enumerate_from n ys)) next in
    ap (λ t. new ++ t) rest
    ∙ ap (λ t. t ++ map put (enumerate_from (at + length xs) ys)) added
    ∙ append_assoc placed (sites_on s (length placed) xs) (map put (enumerate_from (at + length xs) ys))
    ∙ ap (λ t. placed ++ t) (sym (map-append put (enumerate_from at xs) (enumerate_from (at + length xs) ys)))
    ∙ ap (λ es. placed ++ map put es) (sym (enumerate-append at xs ys) ∙ ap (enumerate_from at) (sym parts))

-- more are there than before
pub still_before : (s : RungPlace) (placed more new : List Site) → s.before ≤ length placed → new ≡ placed ++ more → s.before ≤ length new
still_before s placed more new before added = omega (arith, ap length added, length-append placed more)

ahead : (n : Node) (ns : List Node) → instructions (tree_of (n ∷ ns)) ≡ instructions (tree_of (n ∷ [])) ++ instructions (tree_of ns)
ahead (Ins x) ns = refl
ahead (Fork []) ns = refl
ahead (Fork (t ∷ ts)) ns =
    let first = instructions t in
    let legs = leg_instructions (legs_of ts) in
    let rest = instructions (tree_of ns) in
    sym (append_assoc first (legs ++ []) rest ∙ ap (λ xs. first ++ (xs ++ rest)) (append-nil legs))

pub node_on : (s : RungPlace) (ns : List Node) (i : ℕ) (n : Node) (placed new : List Site) → i < length ns → n ≡ get_or ns i n
    → s.before ≤ length placed → new ≡ placed ++ sites_on s (length placed) (instructions (tree_of (n ∷ [])))
    → new ++ sites_on s (length new) (instructions (tree_of (drop (i + 1) ns))) ≡ placed ++ sites_on s (length placed) (instructions (tree_of (drop i ns)))
node_on s ns i n placed new h is before added =
    let here : drop i ns ≡ n ∷ drop (i + 1) ns = drop_more ns i n h ∙ ap (λ y. y ∷ drop (i + 1) ns) (sym is) in
    two s placed new (instructions (tree_of (drop i ns))) (instructions (tree_of (n ∷ []))) (instructions (tree_of (drop (i + 1) ns))) before
    (ap (λ ns. instructions (tree_of ns)) here ∙ ahead n (drop (i + 1) ns)) added

pub leg_on : (s : RungPlace) (ts : List (Tree Instruction)) (i : ℕ) (t : Tree Instruction) (placed new : List Site) → i < length ts → t ≡ get_or ts i t
    → s.before ≤ length placed → new ≡ placed ++ sites_on s (length placed) (instructions t)
    → new ++ sites_on s (length new) (leg_instructions (legs_of (drop (i + 1) ts))) ≡ placed ++ sites_on s (length placed) (leg_instructions (legs_of (drop i ts)))
leg_on s ts i t placed new h is before added =
    let here : drop i ts ≡ t ∷ drop (i + 1) ts = drop_more ts i t h ∙ ap (λ y. y ∷ drop (i + 1) ts) (sym is) in
    two s placed new (leg_instructions (legs_of (drop i ts))) (instructions t) (leg_instructions (legs_of (drop (i + 1) ts))) before
    (ap (λ ts. leg_instructions (legs_of ts)) here) added

-- ---- rungs and routines

-- the instructions of a rung, none of which was added before
pub rung_placed : (s : RungPlace) (placed new : List Site) (rung : Tree Instruction) → s.before ≡ length placed
    → new ≡ placed ++ sites_on s (length placed) (instructions rung)
    → new ≡ placed ++ sites_of_rung s.program s.routine (s.rung, rung)
rung_placed s placed new rung first added =
    let none : length placed - s.before ≡ 0 = omega arith in
    added ∙ ap (λ n. placed ++ map (site s.program s.routine s.rung) (enumerate_from n (instructions rung))) none

-- a part more, after the parts that are there
pub parts_more : {A : Type 0} (start now new part before all : List A) → now ≡ start ++ before → new ≡ now ++ part → before ++ part ≡ all → new ≡ start ++ all
parts_more start now new part before all first added parts =
    added ∙ ap (λ l. l ++ part) first ∙ append_assoc start before part ∙ ap (λ l. start ++ l) parts
