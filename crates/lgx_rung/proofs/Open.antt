-- What is open after the tokens of a run.
use Rattle.std.proofs.Common.{◌≡◌, ℕ, suc, ◌+◌, ◌-◌, Bool, true, false, arith, inl, inr, List, [], ◌∷◌, ◌++◌, length, refl, ap, sym, ◌∙◌, subst, append_assoc, Ok}
use Rattle.std.proofs.lemmas.List.{append-nil}
use Rattle.lgx_rung.specs.declared.op.Op.{Op}
use Rattle.lgx_rung.specs.Text.{IsOpen, open_forks, in_parentheses, list_tokens, leg_tokens, operands, more_operands}
use Rattle.lgx_rung.specs.Tokens.{Token, Mnemonic, OpenFork, CloseFork, CloseParen, Comma, Expected, Element, Named, First, After, Next, Fork, Reader, At, Done, read_token}
use Rattle.lgx_rung.specs.Tree.{end, one, fork, Legs, last, leg, SourceIns, Source}
use Rattle.lgx_rung.proofs.Reading.{and_then, run, taken_by_run, finished, fork_tokens, place_tokens}
use Rattle.lgx_rung.proofs.Runs.{Runs, runs_before}

-- ---- what is open

one_less : (n : ℕ) → n + 1 - 1 ≡ n
one_less n = omega arith

no_more : (n : ℕ) → n ≡ n + 0
no_more n = omega arith

one_more_fork : (n m : ℕ) → n + m + 1 ≡ n + suc m
one_more_fork n m = omega arith

forks_more : (xs : List (List ℕ)) (n : ℕ) (ts : List Token) → open_forks n (more_operands xs ++ ts) ≡ open_forks n ts
forks_more [] n ts = refl
forks_more (x ∷ xs) n ts = forks_more xs n ts

forks_operands : (xs : List (List ℕ)) (n : ℕ) (ts : List Token) → open_forks n (operands xs ++ ts) ≡ open_forks n ts
forks_operands [] n ts = refl
forks_operands (x ∷ xs) n ts = forks_more xs n ts

mutual
  forks_list : (t : Source) (n : ℕ) (ts : List Token) → open_forks n (list_tokens t ++ ts) ≡ open_forks n ts
  forks_list end n ts = refl
  forks_list (one i rest) n ts =
      ap (open_forks n) (append_assoc (operands i.texts) (CloseParen ∷ list_tokens rest) ts)
      ∙ forks_operands i.texts n (CloseParen ∷ (list_tokens rest ++ ts)) ∙ forks_list rest n ts
  forks_list (fork t legs rest) n ts =
      ap (open_forks (n + 1)) (append_assoc (list_tokens t) (leg_tokens legs ++ CloseFork ∷ list_tokens rest) ts ∙ ap (λ x. list_tokens t ++ x) (append_assoc (leg_tokens legs) (CloseFork ∷ list_tokens rest) ts))
      ∙ forks_list t (n + 1) (leg_tokens legs ++ CloseFork ∷ (list_tokens rest ++ ts))
      ∙ forks_legs legs (n + 1) (CloseFork ∷ (list_tokens rest ++ ts))
      ∙ ap (λ m. open_forks m (list_tokens rest ++ ts)) (one_less n)
      ∙ forks_list rest n ts

  forks_legs : (legs : Legs SourceIns) (n : ℕ) (ts : List Token) → open_forks n (leg_tokens legs ++ ts) ≡ open_forks n ts
  forks_legs last n ts = refl
  forks_legs (leg t legs) n ts = ap (open_forks n) (append_assoc (list_tokens t) (leg_tokens legs) ts) ∙ forks_list t n (leg_tokens legs ++ ts) ∙ forks_legs legs n ts

forks_finished : (us : List Source) (n : ℕ) (ts : List Token) → open_forks n (finished us ++ ts) ≡ open_forks n ts
forks_finished [] n ts = refl
forks_finished (u ∷ us) n ts = ap (open_forks n) (append_assoc (list_tokens u) (Comma ∷ finished us) ts) ∙ forks_list u n (Comma ∷ (finished us ++ ts)) ∙ forks_finished us n ts

forks_open : (fs : List Fork) (n : ℕ) (ts : List Token) → open_forks n (fork_tokens fs ++ ts) ≡ open_forks (n + length fs) ts
forks_open [] n ts = ap (λ m. open_forks m ts) (no_more n)
forks_open (f ∷ fs) n ts =
    ap (open_forks n) (append_assoc (fork_tokens fs) (list_tokens f.before ++ OpenFork ∷ finished f.legs) ts)
    ∙ forks_open fs n ((list_tokens f.before ++ OpenFork ∷ finished f.legs) ++ ts)
    ∙ ap (open_forks (n + length fs)) (append_assoc (list_tokens f.before) (OpenFork ∷ finished f.legs) ts)
    ∙ forks_list f.before (n + length fs) (OpenFork ∷ (finished f.legs ++ ts))
    ∙ forks_finished f.legs (n + length fs + 1) ts
    ∙ ap (λ m. open_forks m ts) (one_more_fork n (length fs))

forks_place : (p : Expected) (n : ℕ) → open_forks n (place_tokens p) ≡ n
forks_place Element n = refl
forks_place (Named op) n = refl
forks_place (First op) n = refl
forks_place (After op x xs) n = ap (open_forks n) (sym (append-nil (more_operands xs))) ∙ forks_more xs n []
forks_place (Next op x xs) n = forks_more xs n (Comma ∷ [])

pub forks_of_run : (ts : List Token) (p : Expected) (forks : List Fork) (current : Source) → Runs ts (At p forks current) → open_forks 0 ts ≡ length forks
forks_of_run ts p forks current e =
    ap (open_forks 0) (sym (taken_by_run ts (At p forks current) e))
    ∙ forks_open forks 0 (list_tokens current ++ place_tokens p)
    ∙ forks_list current (0 + length forks) (place_tokens p)
    ∙ forks_place p (0 + length forks)
    ∙ omega arith

parens_more : (xs : List (List ℕ)) (b : Bool) (ts : List Token) → in_parentheses b (more_operands xs ++ ts) ≡ in_parentheses b ts
parens_more [] b ts = refl
parens_more (x ∷ xs) true ts = parens_more xs true ts
parens_more (x ∷ xs) false ts = parens_more xs false ts

parens_operands : (xs : List (List ℕ)) (ts : List Token) → in_parentheses true (operands xs ++ ts) ≡ in_parentheses true ts
parens_operands [] ts = refl
parens_operands (x ∷ xs) ts = parens_more xs true ts

mutual
  parens_list : (t : Source) (ts : List Token) → in_parentheses false (list_tokens t ++ ts) ≡ in_parentheses false ts
  parens_list end ts = refl
  parens_list (one i rest) ts =
      ap (in_parentheses true) (append_assoc (operands i.texts) (CloseParen ∷ list_tokens rest) ts)
      ∙ parens_operands i.texts (CloseParen ∷ (list_tokens rest ++ ts)) ∙ parens_list rest ts
  parens_list (fork t legs rest) ts =
      ap (in_parentheses false) (append_assoc (list_tokens t) (leg_tokens legs ++ CloseFork ∷ list_tokens rest) ts ∙ ap (λ x. list_tokens t ++ x) (append_assoc (leg_tokens legs) (CloseFork ∷ list_tokens rest) ts))
      ∙ parens_list t (leg_tokens legs ++ CloseFork ∷ (list_tokens rest ++ ts))
      ∙ parens_legs legs (CloseFork ∷ (list_tokens rest ++ ts))
      ∙ parens_list rest ts

  parens_legs : (legs : Legs SourceIns) (ts : List Token) → in_parentheses false (leg_tokens legs ++ ts) ≡ in_parentheses false ts
  parens_legs last ts = refl
  parens_legs (leg t legs) ts = ap (in_parentheses false) (append_assoc (list_tokens t) (leg_tokens legs) ts) ∙ parens_list t (leg_tokens legs ++ ts) ∙ parens_legs legs ts

parens_finished : (us : List Source) (ts : List Token) → in_parentheses false (finished us ++ ts) ≡ in_parentheses false ts
parens_finished [] ts = refl
parens_finished (u ∷ us) ts = ap (in_parentheses false) (append_assoc (list_tokens u) (Comma ∷ finished us) ts) ∙ parens_list u (Comma ∷ (finished us ++ ts)) ∙ parens_finished us ts

parens_open : (fs : List Fork) (ts : List Token) → in_parentheses false (fork_tokens fs ++ ts) ≡ in_parentheses false ts
parens_open [] ts = refl
parens_open (f ∷ fs) ts =
    ap (in_parentheses false) (append_assoc (fork_tokens fs) (list_tokens f.before ++ OpenFork ∷ finished f.legs) ts)
    ∙ parens_open fs ((list_tokens f.before ++ OpenFork ∷ finished f.legs) ++ ts)
    ∙ ap (in_parentheses false) (append_assoc (list_tokens f.before) (OpenFork ∷ finished f.legs) ts)
    ∙ parens_list f.before (OpenFork ∷ (finished f.legs ++ ts))
    ∙ parens_finished f.legs ts

parens_of_run : (ts : List Token) (p : Expected) (forks : List Fork) (current : Source) → Runs ts (At p forks current) → in_parentheses false ts ≡ in_parentheses false (place_tokens p)
parens_of_run ts p forks current e =
    ap (in_parentheses false) (sym (taken_by_run ts (At p forks current) e))
    ∙ parens_open forks (list_tokens current ++ place_tokens p)
    ∙ parens_list current (place_tokens p)

-- a place at which the text may not end, nor by a semicolon
abbrev pub IsOpenAt : Expected → List Fork → Type 0
IsOpenAt Element [] = ⊥
IsOpenAt _ _ = Unit {0}

pub open_of_run : (ts : List Token) (p : Expected) (forks : List Fork) (current : Source) → Runs ts (At p forks current) → IsOpenAt p forks → IsOpen ts
open_of_run ts Element [] current e h = absurd h
open_of_run ts Element (f ∷ fs) current e h = inl (omega (arith, forks_of_run ts Element (f ∷ fs) current e))
open_of_run ts (Named op) forks current e h = inr (inr (fork_tokens forks ++ list_tokens current, op, sym (taken_by_run ts (At (Named op) forks current) e) ∙ sym (append_assoc (fork_tokens forks) (list_tokens current) (Mnemonic op ∷ []))))
open_of_run ts (First op) forks current e h = inr (inl (parens_of_run ts (First op) forks current e))
open_of_run ts (After op x xs) forks current e h =
    inr (inl (parens_of_run ts (After op x xs) forks current e ∙ ap (in_parentheses true) (sym (append-nil (more_operands xs))) ∙ parens_more xs true []))
open_of_run ts (Next op x xs) forks current e h = inr (inl (parens_of_run ts (Next op x xs) forks current e ∙ parens_more xs true (Comma ∷ [])))

mnemonic_names : (s : Reader) (op : Op) (forks : List Fork) (current : Source) → and_then (read_token s (Mnemonic op)) (run []) ≡ Ok (At Element forks current) → ⊥
mnemonic_names (At Element fs t) op forks current e = cc
mnemonic_names (At _ fs t) op forks current e = cc
mnemonic_names (Done r) op forks current e = cc

pub closed_of_run : (ts : List Token) (current : Source) → Runs ts (At Element [] current) → IsOpen ts → ⊥
closed_of_run ts current e (inl h) = let none : open_forks 0 ts ≡ 0 = forks_of_run ts Element [] current e in absurd (omega arith)
closed_of_run ts current e (inr (inl h)) = let none : in_parentheses false ts ≡ false = parens_of_run ts Element [] current e in cc
closed_of_run ts current e (inr (inr m)) =
    let r = runs_before m.0 (Mnemonic m.1 ∷ []) (At Element [] current) (subst (λ x. Runs x (At Element [] current)) m.2 e) in
    mnemonic_names r.0 m.1 [] current r.2
