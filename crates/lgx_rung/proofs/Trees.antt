-- Laws of rungs as trees.
use Rattle.std.proofs.Common.{◌≡◌, ℕ, ◌≤◌, max, true, List, [], ◌∷◌, ◌++◌, refl, ap, sym, ◌∙◌, arith, append_assoc, IsTrue}
use Rattle.std.specs.List.{list_all}
use Rattle.std.proofs.lemmas.List.Folds.{list_all-append}
use Rattle.std.proofs.lemmas.Bool.{and_from, and_parts}
use Rattle.spec_base.specs.declared.limits.TheConstants.{MAX_FORKS}
use Rattle.lgx_rung.specs.declared.op.Op.{Op}
use Rattle.lgx_rung.specs.declared.rung.Element.{Element}
use Rattle.lgx_rung.specs.declared.rung.Element.TheVariants.{Ins, Fork}
use Rattle.lgx_rung.specs.Elements.{tree_of}
use Rattle.lgx_rung.specs.Text.{IsSourceRung, has_operands}
use Rattle.lgx_rung.specs.Tokens.{is_operand}
use Rattle.lgx_rung.specs.Tree.{Tree, end, one, fork, last, append, depth, instructions, leg_instructions, legs_of, fork_of, Source}

pub append-end : {A : Type 0} (t : Tree A) → append t end ≡ t
append-end end = refl
append-end (one i rest) = ap (one i) (append-end rest)
append-end (fork t legs rest) = ap (fork t legs) (append-end rest)

pub append-append : {A : Type 0} (t u v : Tree A) → append (append t u) v ≡ append t (append u v)
append-append end u v = refl
append-append (one i rest) u v = ap (one i) (append-append rest u v)
append-append (fork t legs rest) u v = ap (fork t legs) (append-append rest u v)

pub depth-append : {A : Type 0} (t u : Tree A) → depth (append t u) ≡ max (depth t) (depth u)
depth-append end u = omega arith
depth-append (one i rest) u = depth-append rest u
depth-append (fork t legs rest) u = omega (arith, depth-append rest u)

pub instructions-append : {A : Type 0} (t u : Tree A) → instructions (append t u) ≡ instructions t ++ instructions u
instructions-append end u = refl
instructions-append (one i rest) u = ap (λ is. i ∷ is) (instructions-append rest u)
instructions-append (fork t legs rest) u =
    ap (λ is. instructions t ++ (leg_instructions legs ++ is)) (instructions-append rest u)
    ∙ ap (λ is. instructions t ++ is) (sym (append_assoc (leg_instructions legs) (instructions rest) (instructions u)))
    ∙ sym (append_assoc (instructions t) (leg_instructions legs ++ instructions rest) (instructions u))

has_operands-append : (t u : Source) → IsTrue (has_operands t) → IsTrue (has_operands u) → IsTrue (has_operands (append t u))
has_operands-append t u a b =
    ap (list_all (λ i. list_all is_operand i.texts)) (instructions-append t u)
    ∙ list_all-append (λ i. list_all is_operand i.texts) (instructions t) (instructions u)
    ∙ and_from (has_operands t) (has_operands u) a b

legs_operands : (ts : List Source) → IsTrue (list_all has_operands ts) → IsTrue (list_all (λ i. list_all is_operand i.texts) (leg_instructions (legs_of ts)))
legs_operands [] a = refl
legs_operands (t ∷ ts) a =
    list_all-append (λ i. list_all is_operand i.texts) (instructions t) (leg_instructions (legs_of ts))
    ∙ and_from (has_operands t) _ (and_parts (has_operands t) (list_all has_operands ts) a).0 (legs_operands ts (and_parts (has_operands t) (list_all has_operands ts) a).1)

fork_operands : (ts : List Source) → IsTrue (list_all has_operands ts) → IsTrue (has_operands (fork_of ts end))
fork_operands [] a = refl
fork_operands (t ∷ ts) a =
    list_all-append (λ i. list_all is_operand i.texts) (instructions t) (leg_instructions (legs_of ts) ++ [])
    ∙ and_from (has_operands t) _ (and_parts (has_operands t) (list_all has_operands ts) a).0
    (list_all-append (λ i. list_all is_operand i.texts) (leg_instructions (legs_of ts)) [] ∙ and_from _ true (legs_operands ts (and_parts (has_operands t) (list_all has_operands ts) a).1) refl)

-- a rung with one more instruction
pub IsSourceRung-one : (t : Source) (op : Op) (texts : List (List ℕ)) → IsSourceRung t → IsTrue (list_all is_operand texts)
    → IsSourceRung (append t (one (record { op = op; texts = texts }) end))
IsSourceRung-one t op texts s a = record {
  nested = omega (arith, s.nested, depth-append t (one (record { op = op; texts = texts }) end));
  operands = has_operands-append t (one (record { op = op; texts = texts }) end) s.operands (and_from (list_all is_operand texts) true a refl);
}

-- a rung with one more fork
pub IsSourceRung-fork : (t : Source) (ts : List Source) → IsSourceRung t → IsTrue (list_all has_operands ts)
    → depth (append t (fork_of ts end)) ≤ MAX_FORKS → IsSourceRung (append t (fork_of ts end))
IsSourceRung-fork t ts s a d = record {
  nested = d;
  operands = has_operands-append t (fork_of ts end) s.operands (fork_operands ts a);
}

pub tree_of-ins : (es : List Element) (op : Op) (texts : List (List ℕ)) → tree_of (es ++ Ins op texts ∷ []) ≡ append (tree_of es) (one (record { op = op; texts = texts }) end)
tree_of-ins [] op texts = refl
tree_of-ins (Ins o ts ∷ es) op texts = ap (one (record { op = o; texts = ts })) (tree_of-ins es op texts)
tree_of-ins (Fork [] ∷ es) op texts = ap (fork end last) (tree_of-ins es op texts)
tree_of-ins (Fork (t ∷ ts) ∷ es) op texts = ap (fork t (legs_of ts)) (tree_of-ins es op texts)

pub tree_of-fork : (es : List Element) (legs : List Source) → tree_of (es ++ Fork legs ∷ []) ≡ append (tree_of es) (fork_of legs end)
tree_of-fork [] legs = refl
tree_of-fork (Ins o ts ∷ es) legs = ap (one (record { op = o; texts = ts })) (tree_of-fork es legs)
tree_of-fork (Fork [] ∷ es) legs = ap (fork end last) (tree_of-fork es legs)
tree_of-fork (Fork (t ∷ ts) ∷ es) legs = ap (fork t (legs_of ts)) (tree_of-fork es legs)

pub legs_operands-push : (ts : List Source) (t : Source) → IsTrue (list_all has_operands ts) → IsTrue (has_operands t) → IsTrue (list_all has_operands (ts ++ t ∷ []))
legs_operands-push ts t a b = list_all-append has_operands ts (t ∷ []) ∙ and_from (list_all has_operands ts) _ a (and_from (has_operands t) true b refl)
