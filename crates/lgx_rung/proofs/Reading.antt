-- What the reading of tokens takes, and that it takes the tokens of every rung.
use Rattle.std.proofs.Common.{◌≡◌, ℕ, ◌≤◌, ◌<◌, ◌+◌, max, Bool, true, false, nat_lt, List, [], ◌∷◌, ◌++◌, length, refl, ap, sym, ◌∙◌, arith, append_assoc, Result, Ok, Err, IfOk}
use Rattle.std.proofs.lemmas.List.{append-nil}
use Rattle.std.proofs.lemmas.Result.{IfOk-weaker, IfOk-at_ok}
use Rattle.std.proofs.lemmas.Bool.{ltb-true, lt-ltb}
use Rattle.spec_base.specs.declared.limits.TheConstants.{MAX_FORKS}
use Rattle.lgx_rung.specs.declared.op.Op.{Op}
use Rattle.lgx_rung.specs.declared.fault.TextCode.{TextCode}
use Rattle.lgx_rung.specs.Text.{list_tokens, leg_tokens, rung_tokens, operands, more_operands, IsNested}
use Rattle.lgx_rung.specs.Tokens.{Token, Mnemonic, Operand, OpenFork, CloseFork, OpenParen, CloseParen, Comma, Semicolon, Expected, Element, Named, First, After, Next, Fork, Reader, At, Done, instruction, open_fork, read_at, read_token}
use Rattle.lgx_rung.specs.Tree.{end, one, fork, Legs, last, leg, append, depth, leg_depth, legs_of, fork_of, SourceIns, Source}
use Rattle.lgx_rung.proofs.Trees.{append-end, append-append, depth-append}

-- ---- a list of tokens

abbrev pub and_then : Result Reader TextCode → (Reader → Result Reader TextCode) → Result Reader TextCode
and_then (Ok r) go = go r
and_then (Err code) go = Err code

abbrev pub run : List Token → Reader → Result Reader TextCode
run [] r = Ok r
run (t ∷ ts) r = and_then (read_token r t) (run ts)

abbrev pub start : Reader
start = At Element [] end

and_then-and_then : (q : Result Reader TextCode) (f g : Reader → Result Reader TextCode) → and_then (and_then q f) g ≡ and_then q (λ r. and_then (f r) g)
and_then-and_then (Ok r) f g = refl
and_then-and_then (Err code) f g = refl

and_then-cong : (q : Result Reader TextCode) (f g : Reader → Result Reader TextCode) → ((r : Reader) → f r ≡ g r) → and_then q f ≡ and_then q g
and_then-cong (Ok r) f g e = e r
and_then-cong (Err code) f g e = refl

pub run-append : (xs ys : List Token) (r : Reader) → run (xs ++ ys) r ≡ and_then (run xs r) (run ys)
run-append [] ys r = refl
run-append (x ∷ xs) ys r =
    and_then-cong (read_token r x) (run (xs ++ ys)) (λ s. and_then (run xs s) (run ys)) (λ s. run-append xs ys s)
    ∙ sym (and_then-and_then (read_token r x) (run xs) (run ys))

-- ---- what was taken

abbrev pub finished : List Source → List Token
finished [] = []
finished (t ∷ ts) = list_tokens t ++ Comma ∷ finished ts

abbrev pub fork_tokens : List Fork → List Token
fork_tokens [] = []
fork_tokens (f ∷ fs) = fork_tokens fs ++ (list_tokens f.before ++ OpenFork ∷ finished f.legs)

abbrev pub place_tokens : Expected → List Token
place_tokens Element = []
place_tokens (Named op) = Mnemonic op ∷ []
place_tokens (First op) = Mnemonic op ∷ OpenParen ∷ []
place_tokens (After op first others) = Mnemonic op ∷ OpenParen ∷ Operand first ∷ more_operands others
place_tokens (Next op first others) = Mnemonic op ∷ OpenParen ∷ Operand first ∷ (more_operands others ++ Comma ∷ [])

abbrev pub taken : Reader → List Token
taken (At place forks t) = fork_tokens forks ++ (list_tokens t ++ place_tokens place)
taken (Done rung) = rung_tokens rung

list_tokens-append : (t u : Source) → list_tokens (append t u) ≡ list_tokens t ++ list_tokens u
list_tokens-append end u = refl
list_tokens-append (one i rest) u =
    ap (λ ts. Mnemonic i.op ∷ OpenParen ∷ (operands i.texts ++ CloseParen ∷ ts)) (list_tokens-append rest u)
    ∙ ap (λ ts. Mnemonic i.op ∷ OpenParen ∷ ts) (sym (append_assoc (operands i.texts) (CloseParen ∷ list_tokens rest) (list_tokens u)))
list_tokens-append (fork t legs rest) u =
    ap (λ ts. OpenFork ∷ (list_tokens t ++ (leg_tokens legs ++ CloseFork ∷ ts))) (list_tokens-append rest u)
    ∙ ap (λ ts. OpenFork ∷ (list_tokens t ++ ts)) (sym (append_assoc (leg_tokens legs) (CloseFork ∷ list_tokens rest) (list_tokens u)))
    ∙ ap (λ ts. OpenFork ∷ ts) (sym (append_assoc (list_tokens t) (leg_tokens legs ++ CloseFork ∷ list_tokens rest) (list_tokens u)))

finished-push : (ts : List Source) (t : Source) → finished (ts ++ t ∷ []) ≡ finished ts ++ (list_tokens t ++ Comma ∷ [])
finished-push [] t = refl
finished-push (u ∷ us) t =
    ap (λ x. list_tokens u ++ Comma ∷ x) (finished-push us t)
    ∙ sym (append_assoc (list_tokens u) (Comma ∷ finished us) (list_tokens t ++ Comma ∷ []))

leg_tokens-push : (ts : List Source) (t : Source) → leg_tokens (legs_of (ts ++ t ∷ [])) ≡ Comma ∷ (finished ts ++ list_tokens t)
leg_tokens-push [] t = ap (λ x. Comma ∷ x) (append-nil (list_tokens t))
leg_tokens-push (u ∷ us) t =
    ap (λ x. Comma ∷ (list_tokens u ++ x)) (leg_tokens-push us t)
    ∙ ap (λ x. Comma ∷ x) (sym (append_assoc (list_tokens u) (Comma ∷ finished us) (list_tokens t)))

list_tokens-fork_of : (ts : List Source) (t : Source) → list_tokens (fork_of (ts ++ t ∷ []) end) ≡ OpenFork ∷ (finished ts ++ (list_tokens t ++ CloseFork ∷ []))
list_tokens-fork_of [] t = refl
list_tokens-fork_of (u ∷ us) t =
    ap (λ x. OpenFork ∷ (list_tokens u ++ (x ++ CloseFork ∷ []))) (leg_tokens-push us t)
    ∙ ap (λ x. OpenFork ∷ (list_tokens u ++ Comma ∷ x)) (append_assoc (finished us) (list_tokens t) (CloseFork ∷ []))
    ∙ ap (λ x. OpenFork ∷ x) (sym (append_assoc (list_tokens u) (Comma ∷ finished us) (list_tokens t ++ CloseFork ∷ [])))

more_operands-push : (xs : List (List ℕ)) (x : List ℕ) → more_operands (xs ++ x ∷ []) ≡ more_operands xs ++ Comma ∷ Operand x ∷ []
more_operands-push [] x = refl
more_operands-push (y ∷ ys) x = ap (λ ts. Comma ∷ Operand y ∷ ts) (more_operands-push ys x)

-- after what is before, a token more
one_after : (forks before place : List Token) (t : Token) → forks ++ (before ++ (place ++ t ∷ [])) ≡ (forks ++ (before ++ place)) ++ t ∷ []
one_after forks before place t = simp append_assoc

open_fork_taken : (b : Bool) (forks : List Fork) (t : Source) → IfOk (open_fork b forks t) (λ r. taken r ≡ (fork_tokens forks ++ (list_tokens t ++ [])) ++ OpenFork ∷ [])
open_fork_taken true forks t = simp (append_assoc, append-nil)
open_fork_taken false forks t = tt

read_at_taken : (p : Expected) (x : Token) (forks : List Fork) (t : Source) → IfOk (read_at p x forks t) (λ r. taken r ≡ taken (At p forks t) ++ x ∷ [])
read_at_taken Element (Mnemonic op) forks t = one_after (fork_tokens forks) (list_tokens t) [] (Mnemonic op)
read_at_taken Element OpenFork forks t = open_fork_taken (nat_lt (length forks) MAX_FORKS) forks t
read_at_taken Element CloseFork [] t = tt
read_at_taken Element CloseFork (f ∷ fs) t =
    ap (λ x. fork_tokens fs ++ (x ++ [])) (list_tokens-append f.before (fork_of (f.legs ++ t ∷ []) end) ∙ ap (λ x. list_tokens f.before ++ x) (list_tokens-fork_of f.legs t))
    ∙ simp (append_assoc, append-nil)
read_at_taken Element Comma [] t = tt
read_at_taken Element Comma (f ∷ fs) t =
    ap (λ x. (fork_tokens fs ++ (list_tokens f.before ++ OpenFork ∷ x)) ++ []) (finished-push f.legs t)
    ∙ simp (append_assoc, append-nil)
read_at_taken Element Semicolon [] t = ap (λ x. x ++ Semicolon ∷ []) (sym (append-nil (list_tokens t)))
read_at_taken Element Semicolon (f ∷ fs) t = tt
read_at_taken (Named op) OpenParen forks t = one_after (fork_tokens forks) (list_tokens t) (Mnemonic op ∷ []) OpenParen
read_at_taken (First op) (Operand x) forks t = one_after (fork_tokens forks) (list_tokens t) (Mnemonic op ∷ OpenParen ∷ []) (Operand x)
read_at_taken (First op) CloseParen forks t =
    ap (λ x. fork_tokens forks ++ (x ++ [])) (list_tokens-append t (instruction op []))
    ∙ simp (append_assoc, append-nil)
read_at_taken (After op x xs) Comma forks t = one_after (fork_tokens forks) (list_tokens t) (Mnemonic op ∷ OpenParen ∷ Operand x ∷ more_operands xs) Comma
read_at_taken (After op x xs) CloseParen forks t =
    ap (λ y. fork_tokens forks ++ (y ++ [])) (list_tokens-append t (instruction op (x ∷ xs)))
    ∙ simp (append_assoc, append-nil)
read_at_taken (Next op x xs) (Operand y) forks t =
    ap (λ z. fork_tokens forks ++ (list_tokens t ++ (Mnemonic op ∷ OpenParen ∷ Operand x ∷ z))) (more_operands-push xs y ∙ sym (append_assoc (more_operands xs) (Comma ∷ []) (Operand y ∷ [])))
    ∙ one_after (fork_tokens forks) (list_tokens t) (Mnemonic op ∷ OpenParen ∷ Operand x ∷ (more_operands xs ++ Comma ∷ [])) (Operand y)
read_at_taken _ _ forks t = tt

read_token_taken : (r : Reader) (x : Token) → IfOk (read_token r x) (λ s. taken s ≡ taken r ++ x ∷ [])
read_token_taken (At place forks t) x = read_at_taken place x forks t
read_token_taken (Done rung) x = tt

and_then_ok : (q : Result Reader TextCode) (f : Reader → Result Reader TextCode) (P Q : Reader → Type 0) → ((s : Reader) → P s → IfOk (f s) Q) → IfOk q P → IfOk (and_then q f) Q
and_then_ok (Ok s) f P Q k h = k s h
and_then_ok (Err code) f P Q k h = tt

run_taken : (ts : List Token) (r : Reader) → IfOk (run ts r) (λ s. taken s ≡ taken r ++ ts)
run_taken [] r = sym (append-nil (taken r))
run_taken (t ∷ ts) r =
    and_then_ok (read_token r t) (run ts) (λ s. taken s ≡ taken r ++ t ∷ []) (λ s. taken s ≡ taken r ++ t ∷ ts)
    (λ s e. IfOk-weaker (run ts s) (λ u. taken u ≡ taken s ++ ts) (λ u. taken u ≡ taken r ++ t ∷ ts) (λ u h. h ∙ ap (λ x. x ++ ts) e ∙ append_assoc (taken r) (t ∷ []) ts) (run_taken ts s))
    (read_token_taken r t)

-- ---- how deep forks stand

abbrev pub depths : List Source → ℕ
depths ts = leg_depth (legs_of ts)

abbrev pub AreFit : List Fork → Type 0
AreFit [] = Unit {0}
AreFit (f ∷ fs) = (length fs + depth f.before ≤ MAX_FORKS) × (length fs + 1 + depths f.legs ≤ MAX_FORKS) × AreFit fs

abbrev pub IsFit : Reader → Type 0
IsFit (At place forks t) = (length forks + depth t ≤ MAX_FORKS) × AreFit forks
IsFit (Done rung) = depth rung ≤ MAX_FORKS

depths-push : (ts : List Source) (t : Source) → depths (ts ++ t ∷ []) ≡ max (depths ts) (depth t)
depths-push [] t = omega arith
depths-push (u ∷ us) t = omega (arith, depths-push us t)

depth-fork_of : (ts : List Source) (t : Source) → depth (fork_of (ts ++ t ∷ []) end) ≡ max (depths ts) (depth t) + 1
depth-fork_of [] t = omega arith
depth-fork_of (u ∷ us) t = omega (arith, depths-push us t)

open_fork_fit : (b : Bool) (forks : List Fork) (t : Source) → nat_lt (length forks) MAX_FORKS ≡ b → length forks + depth t ≤ MAX_FORKS → AreFit forks → IfOk (open_fork b forks t) IsFit
open_fork_fit true forks t e h hs = let room : length forks < MAX_FORKS = ltb-true (length forks) MAX_FORKS e in (omega arith, (h, omega arith, hs))
open_fork_fit false forks t e h hs = tt

pub element_fit : (forks : List Fork) (t : Source) (op : Op) (texts : List (List ℕ)) → length forks + depth t ≤ MAX_FORKS → length forks + depth (append t (instruction op texts)) ≤ MAX_FORKS
element_fit forks t op texts h = omega (arith, depth-append t (instruction op texts))

read_at_fit : (p : Expected) (x : Token) (forks : List Fork) (t : Source) → length forks + depth t ≤ MAX_FORKS → AreFit forks → IfOk (read_at p x forks t) IsFit
read_at_fit Element (Mnemonic op) forks t h hs = (h, hs)
read_at_fit Element OpenFork forks t h hs = open_fork_fit (nat_lt (length forks) MAX_FORKS) forks t refl h hs
read_at_fit Element CloseFork [] t h hs = tt
read_at_fit Element CloseFork (f ∷ fs) t h hs =
    let a : length fs + depth f.before ≤ MAX_FORKS = hs.0 in
    let b : length fs + 1 + depths f.legs ≤ MAX_FORKS = hs.1 in
    (omega (arith, depth-append f.before (fork_of (f.legs ++ t ∷ []) end), depth-fork_of f.legs t), hs.2)
read_at_fit Element Comma [] t h hs = tt
read_at_fit Element Comma (f ∷ fs) t h hs =
    let b : length fs + 1 + depths f.legs ≤ MAX_FORKS = hs.1 in
    (omega arith, (hs.0, omega (arith, depths-push f.legs t), hs.2))
read_at_fit Element Semicolon [] t h hs = omega arith
read_at_fit Element Semicolon (f ∷ fs) t h hs = tt
read_at_fit (Named op) OpenParen forks t h hs = (h, hs)
read_at_fit (First op) (Operand x) forks t h hs = (h, hs)
read_at_fit (First op) CloseParen forks t h hs = (element_fit forks t op [] h, hs)
read_at_fit (After op x xs) Comma forks t h hs = (h, hs)
read_at_fit (After op x xs) CloseParen forks t h hs = (element_fit forks t op (x ∷ xs) h, hs)
read_at_fit (Next op x xs) (Operand y) forks t h hs = (h, hs)
read_at_fit _ _ forks t h hs = tt

pub read_token_fit : (r : Reader) (x : Token) → IsFit r → IfOk (read_token r x) IsFit
read_token_fit (At place forks t) x h = read_at_fit place x forks t h.0 h.1
read_token_fit (Done rung) x h = tt

run_fit : (ts : List Token) (r : Reader) → IsFit r → IfOk (run ts r) IsFit
run_fit [] r h = h
run_fit (t ∷ ts) r h = and_then_ok (read_token r t) (run ts) IsFit IsFit (λ s k. run_fit ts s k) (read_token_fit r t h)

pub taken_by_run : (ts : List Token) (s : Reader) → run ts start ≡ Ok s → taken s ≡ ts
taken_by_run ts s e = IfOk-at_ok (λ u. taken u ≡ ts) e (run_taken ts start)

pub fit_by_run : (ts : List Token) (s : Reader) → run ts start ≡ Ok s → IsFit s
fit_by_run ts s e = IfOk-at_ok IsFit e (run_fit ts start (omega arith, tt))

-- ---- the tokens of a rung are taken

abbrev pub list_of : Legs SourceIns → List Source
list_of last = []
list_of (leg t legs) = t ∷ list_of legs

legs_of-list_of : (legs : Legs SourceIns) → legs_of (list_of legs) ≡ legs
legs_of-list_of last = refl
legs_of-list_of (leg t legs) = ap (leg t) (legs_of-list_of legs)

runs_operands : (ys : List (List ℕ)) (op : Op) (x : List ℕ) (xs : List (List ℕ)) (rest : List Token) (forks : List Fork) (t : Source)
    → run (more_operands ys ++ CloseParen ∷ rest) (At (After op x xs) forks t) ≡ run rest (At Element forks (append t (instruction op (x ∷ (xs ++ ys)))))
runs_operands [] op x xs rest forks t = ap (λ ys. run rest (At Element forks (append t (instruction op (x ∷ ys))))) (sym (append-nil xs))
runs_operands (y ∷ ys) op x xs rest forks t =
    runs_operands ys op x (xs ++ y ∷ []) rest forks t
    ∙ ap (λ ys. run rest (At Element forks (append t (instruction op (x ∷ ys))))) (append_assoc xs (y ∷ []) ys)

runs_ins : (op : Op) (texts : List (List ℕ)) (rest : List Token) (forks : List Fork) (t : Source)
    → run (operands texts ++ CloseParen ∷ rest) (At (First op) forks t) ≡ run rest (At Element forks (append t (instruction op texts)))
runs_ins op [] rest forks t = refl
runs_ins op (x ∷ xs) rest forks t = runs_operands xs op x [] rest forks t

runs_open : (forks : List Fork) (t : Source) (rest : List Token) → length forks < MAX_FORKS
    → run (OpenFork ∷ rest) (At Element forks t) ≡ run rest (At Element (record { before = t; legs = [] } ∷ forks) end)
runs_open forks t rest h = ap (λ b. and_then (open_fork b forks t) (run rest)) (lt-ltb (length forks) MAX_FORKS h)

mutual
  runs_list : (u : Source) (forks : List Fork) (t : Source) (rest : List Token) → length forks + depth u ≤ MAX_FORKS
      → run (list_tokens u ++ rest) (At Element forks t) ≡ run rest (At Element forks (append t u))
  runs_list end forks t rest h = ap (λ x. run rest (At Element forks x)) (sym (append-end t))
  runs_list (one i u) forks t rest h =
      ap (λ ts. run ts (At (First i.op) forks t)) (append_assoc (operands i.texts) (CloseParen ∷ list_tokens u) rest)
      ∙ runs_ins i.op i.texts (list_tokens u ++ rest) forks t
      ∙ runs_list u forks (append t (one i end)) rest h
      ∙ ap (λ x. run rest (At Element forks x)) (append-append t (one i end) u)
  runs_list (fork v legs u) forks t rest h =
      ap (λ ts. run (OpenFork ∷ ts) (At Element forks t)) (append_assoc (list_tokens v) (leg_tokens legs ++ CloseFork ∷ list_tokens u) rest ∙ ap (λ ts. list_tokens v ++ ts) (append_assoc (leg_tokens legs) (CloseFork ∷ list_tokens u) rest))
      ∙ runs_open forks t (list_tokens v ++ (leg_tokens legs ++ CloseFork ∷ (list_tokens u ++ rest))) (omega arith)
      ∙ runs_list v (record { before = t; legs = [] } ∷ forks) end (leg_tokens legs ++ CloseFork ∷ (list_tokens u ++ rest)) (omega arith)
      ∙ runs_legs legs (record { before = t; legs = [] }) forks v (list_tokens u ++ rest) (omega arith)
      ∙ runs_list u forks (append t (fork v (legs_of (list_of legs)) end)) rest (omega arith)
      ∙ ap (λ x. run rest (At Element forks (append (append t (fork v x end)) u))) (legs_of-list_of legs)
      ∙ ap (λ x. run rest (At Element forks x)) (append-append t (fork v legs end) u)

  runs_legs : (legs : Legs SourceIns) (f : Fork) (forks : List Fork) (t : Source) (rest : List Token) → length forks + 1 + leg_depth legs ≤ MAX_FORKS
      → run (leg_tokens legs ++ CloseFork ∷ rest) (At Element (f ∷ forks) t) ≡ run rest (At Element forks (append f.before (fork_of (f.legs ++ t ∷ list_of legs) end)))
  runs_legs last f forks t rest h = refl
  runs_legs (leg u legs) f forks t rest h =
      ap (λ ts. run ts (At Element (record { before = f.before; legs = f.legs ++ t ∷ [] } ∷ forks) end)) (append_assoc (list_tokens u) (leg_tokens legs) (CloseFork ∷ rest))
      ∙ runs_list u (record { before = f.before; legs = f.legs ++ t ∷ [] } ∷ forks) end (leg_tokens legs ++ CloseFork ∷ rest) (omega arith)
      ∙ runs_legs legs (record { before = f.before; legs = f.legs ++ t ∷ [] }) forks u rest (omega arith)
      ∙ ap (λ ts. run rest (At Element forks (append f.before (fork_of ts end)))) (append_assoc f.legs (t ∷ []) (u ∷ list_of legs))

pub runs_rung : (r : Source) → IsNested r → run (rung_tokens r) start ≡ Ok (Done r)
runs_rung r h = runs_list r [] end (Semicolon ∷ []) (omega arith)

-- ---- what was taken begins some rung

abbrev pub closing : List Fork → List Token
closing [] = Semicolon ∷ []
closing (f ∷ fs) = CloseFork ∷ closing fs

abbrev pub Ends : List Token → Reader → Type 0
Ends more s = (rung : Source) × (run more s ≡ Ok (Done rung))

closes : (forks : List Fork) (t : Source) → Ends (closing forks) (At Element forks t)
closes [] t = (t, refl)
closes (f ∷ fs) t = closes fs (append f.before (fork_of (f.legs ++ t ∷ []) end))

-- a token, and others, that end a rung
abbrev pub Continues : Reader → Type 0
Continues s = (t : Token) × (more : List Token) × Ends (t ∷ more) s

element_continues : (forks : List Fork) (t : Source) → Continues (At Element forks t)
element_continues [] t = (Semicolon, [], closes [] t)
element_continues (f ∷ fs) t = (CloseFork, closing fs, closes (f ∷ fs) t)

pub continues : (p : Expected) (forks : List Fork) (t : Source) → Continues (At p forks t)
continues Element forks t = element_continues forks t
continues (Named op) forks t = (OpenParen, CloseParen ∷ closing forks, closes forks (append t (instruction op [])))
continues (First op) forks t = (CloseParen, closing forks, closes forks (append t (instruction op [])))
continues (After op x xs) forks t = (CloseParen, closing forks, closes forks (append t (instruction op (x ∷ xs))))
continues (Next op x xs) forks t = (Operand [], CloseParen ∷ closing forks, closes forks (append t (instruction op (x ∷ (xs ++ [] ∷ [])))))
