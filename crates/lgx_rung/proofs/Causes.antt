-- The reading of tokens answers the rung that they spell, or else the first fault.
use Rattle.std.proofs.Common.{◌≡◌, ℕ, ◌≤◌, ◌+◌, Bool, true, false, nat_lt, arith, List, [], ◌∷◌, ◌++◌, length, refl, ap, sym, ◌∙◌, subst, Result, Ok, Err, IfErr}
use Rattle.std.proofs.lemmas.Bool.{ltb-false}
use Rattle.spec_base.specs.declared.limits.TheConstants.{MAX_FORKS}
use Rattle.lgx_rung.specs.declared.op.Op.TheVariants.{Nop}
use Rattle.lgx_rung.specs.declared.fault.TextFault.{TextFault}
use Rattle.lgx_rung.specs.declared.fault.TextCode.{TextCode}
use Rattle.lgx_rung.specs.declared.fault.TextCode.TheVariants.{T1, T2, T3, T4, T5}
use Rattle.lgx_rung.specs.Text.{rung_tokens, IsNested, MayFollow, InElementPlace, unplaced, IsWrong, StopsAt, IsOpen, IsCause, IsTextCause}
use Rattle.lgx_rung.specs.Tokens.{Token, Mnemonic, Letters, Operand, OpenFork, CloseFork, OpenParen, CloseParen, Comma, Semicolon, Stray, Placed, tokens, Expected, Element, Named, First, After, Next, Fork, Reader, At, Done, open_fork, read_at, read_token, read_end, read_on, read_tokens, read_rung}
use Rattle.lgx_rung.specs.Tree.{depth, Source}
use Rattle.lgx_rung.proofs.Reading.{and_then, run, start, fit_by_run, continues}
use Rattle.lgx_rung.proofs.Runs.{Runs, run_on, shorter, runs_before, ends_rung, rung_ends, cut_short, begins, runs_of_begins, one_more}
use Rattle.lgx_rung.proofs.Open.{forks_of_run, open_of_run, closed_of_run, IsOpenAt}

-- ---- an element's place

abbrev IsAtElement : Reader → Type 0
IsAtElement (At Element forks t) = Unit {0}
IsAtElement _ = ⊥

at_element : (s u : Reader) → and_then (read_token s (Mnemonic Nop)) (run []) ≡ Ok u → IsAtElement s
at_element (At Element forks t) u e = tt
at_element (At _ forks t) u e = cc
at_element (Done r) u e = cc

element_place : (ts : List Token) (s : Reader) → Runs ts s → IsAtElement s → InElementPlace ts
element_place ts (At Element forks t) e h = begins (ts ++ Mnemonic Nop ∷ []) (At (Named Nop) forks t) (one_more ts (Mnemonic Nop) (At Element forks t) (At (Named Nop) forks t) e refl)
element_place ts (At (Named op) forks t) e h = absurd h
element_place ts (At (First op) forks t) e h = absurd h
element_place ts (At (After op x xs) forks t) e h = absurd h
element_place ts (At (Next op x xs) forks t) e h = absurd h
element_place ts (Done r) e h = absurd h

of_element_place : (ts : List Token) (s : Reader) → Runs ts s → InElementPlace ts → IsAtElement s
of_element_place ts s e p =
    let r = runs_of_begins (ts ++ Mnemonic Nop ∷ []) p in
    at_element s r.0 (sym (run_on ts (Mnemonic Nop ∷ []) s e) ∙ r.1)

-- ---- what is wrong with a token

wrong_fork : (b : Bool) (ts : List Token) (forks : List Fork) (t : Source) → nat_lt (length forks) MAX_FORKS ≡ b → Runs ts (At Element forks t) → InElementPlace ts → IfErr (open_fork b forks t) (λ code. IsWrong code ts OpenFork)
wrong_fork true ts forks t h r e = tt
wrong_fork false ts forks t h r e =
    let full : MAX_FORKS ≤ length forks = ltb-false (length forks) MAX_FORKS h in
    let fit : length forks + depth t ≤ MAX_FORKS = (fit_by_run ts (At Element forks t) r).0 in
    (e, refl, forks_of_run ts Element forks t r ∙ omega arith)

elsewhere : (ts : List Token) (s : Reader) (t : Token) → Runs ts s → (IsAtElement s → ⊥) → IsWrong T1 ts t
elsewhere ts s t e h = λ p. absurd (h (of_element_place ts s e p))

wrong_element : (ts : List Token) (t : Token) (forks : List Fork) (leg : Source) → Runs ts (At Element forks leg) → InElementPlace ts → IfErr (read_at Element t forks leg) (λ code. IsWrong code ts t)
wrong_element ts (Mnemonic op) forks leg r e = tt
wrong_element ts Letters forks leg r e = (e, refl)
wrong_element ts (Operand x) forks leg r e = λ _. ((λ h. cc), (λ h. cc))
wrong_element ts OpenFork forks leg r e = wrong_fork (nat_lt (length forks) MAX_FORKS) ts forks leg refl r e
wrong_element ts CloseFork [] leg r e = λ _. ((λ h. cc), (λ h. cc))
wrong_element ts CloseFork (f ∷ fs) leg r e = tt
wrong_element ts OpenParen forks leg r e = λ _. ((λ h. cc), (λ h. cc))
wrong_element ts CloseParen forks leg r e = λ _. ((λ h. cc), (λ h. cc))
wrong_element ts Comma [] leg r e = λ _. ((λ h. cc), (λ h. cc))
wrong_element ts Comma (f ∷ fs) leg r e = tt
wrong_element ts Semicolon [] leg r e = tt
wrong_element ts Semicolon (f ∷ fs) leg r e = λ _. ((λ h. cc), (λ h. cc))
wrong_element ts Stray forks leg r e = λ _. ((λ h. cc), (λ h. cc))

wrong : (ts : List Token) (s : Reader) (t : Token) → Runs ts s → IfErr (read_token s t) (λ code. IsWrong code ts t)
wrong ts (At Element forks leg) t e = wrong_element ts t forks leg e (element_place ts (At Element forks leg) e tt)
wrong ts (At (Named op) forks leg) OpenParen e = tt
wrong ts (At (Named op) forks leg) t e = elsewhere ts (At (Named op) forks leg) t e (λ h. h)
wrong ts (At (First op) forks leg) (Operand x) e = tt
wrong ts (At (First op) forks leg) CloseParen e = tt
wrong ts (At (First op) forks leg) t e = elsewhere ts (At (First op) forks leg) t e (λ h. h)
wrong ts (At (After op x xs) forks leg) Comma e = tt
wrong ts (At (After op x xs) forks leg) CloseParen e = tt
wrong ts (At (After op x xs) forks leg) t e = elsewhere ts (At (After op x xs) forks leg) t e (λ h. h)
wrong ts (At (Next op x xs) forks leg) (Operand y) e = tt
wrong ts (At (Next op x xs) forks leg) t e = elsewhere ts (At (Next op x xs) forks leg) t e (λ h. h)
wrong ts (Done r) t e = elsewhere ts (Done r) t e (λ h. h)

one_code : (a b : TextCode) (ts : List Token) (t : Token) → IsWrong a ts t → IsWrong b ts t → a ≡ b
one_code T1 T1 ts t h k = refl
one_code T2 T2 ts t h k = refl
one_code T5 T5 ts t h k = refl
one_code T1 T2 ts t h k = absurd ((h k.0).0 k.1)
one_code T1 T5 ts t h k = absurd ((h k.0).1 k.1)
one_code T2 T1 ts t h k = absurd ((k h.0).0 h.1)
one_code T5 T1 ts t h k = absurd ((k h.0).1 h.1)
one_code T2 T5 ts t h k = let p : Letters ≡ OpenFork = sym h.1 ∙ k.1 in cc
one_code T5 T2 ts t h k = let p : OpenFork ≡ Letters = sym h.1 ∙ k.1 in cc
one_code T3 b ts t h k = absurd h
one_code T4 b ts t h k = absurd h
one_code T1 T3 ts t h k = absurd k
one_code T1 T4 ts t h k = absurd k
one_code T2 T3 ts t h k = absurd k
one_code T2 T4 ts t h k = absurd k
one_code T5 T3 ts t h k = absurd k
one_code T5 T4 ts t h k = absurd k

-- ---- the reading of placed tokens

read_run : (len : ℕ) (ts : List Placed) (r s : Reader) → run (unplaced ts) r ≡ Ok s → read_tokens len ts r ≡ read_end len s
read_run len [] r s e = let same : r ≡ s = cc in ap (read_end len) same
read_run len (t ∷ ts) r s e =
    let q = shorter (read_token r t.token) (run (unplaced ts)) s e in
    ap (λ x. read_on x t.at (read_tokens len ts)) q.1 ∙ read_run len ts q.0 s q.2

abbrev fault : TextCode → ℕ → TextFault
fault code at = record { code = code; at = at }

read_stop : (len : ℕ) (before : List Placed) (next : Placed) (after : List Placed) (r s : Reader) (code : TextCode)
    → run (unplaced before) r ≡ Ok s → read_token s next.token ≡ Err code → read_tokens len (before ++ next ∷ after) r ≡ Err (fault code next.at)
read_stop len [] next after r s code e h = let same : r ≡ s = cc in ap (λ x. read_on x next.at (read_tokens len after)) (ap (λ x. read_token x next.token) same ∙ h)
read_stop len (t ∷ ts) next after r s code e h =
    let q = shorter (read_token r t.token) (run (unplaced ts)) s e in
    ap (λ x. read_on x t.at (read_tokens len (ts ++ next ∷ after))) q.1 ∙ read_stop len ts next after q.0 s code q.2 h

data Outcome (ts : List Placed) (r : Reader) : Type 0 where
  ends : (s : Reader) → run (unplaced ts) r ≡ Ok s → Outcome ts r
  stops : (before : List Placed) (next : Placed) (after : List Placed) (s : Reader) (code : TextCode)
      → ts ≡ before ++ next ∷ after → run (unplaced before) r ≡ Ok s → read_token s next.token ≡ Err code → Outcome ts r

later : (t : Placed) (ts : List Placed) (r s : Reader) → read_token r t.token ≡ Ok s → Outcome ts s → Outcome (t ∷ ts) r
later t ts r s e (ends u h) = ends u (ap (λ q. and_then q (run (unplaced ts))) e ∙ h)
later t ts r s e (stops before next after u code split h k) =
    stops (t ∷ before) next after u code (ap (λ x. t ∷ x) split) (ap (λ q. and_then q (run (unplaced before))) e ∙ h) k

first : (t : Placed) (ts : List Placed) (r : Reader) (q : Result Reader TextCode) → read_token r t.token ≡ q → ((s : Reader) → Outcome ts s) → Outcome (t ∷ ts) r
first t ts r (Ok s) e go = later t ts r s e (go s)
first t ts r (Err code) e go = stops [] t ts r code refl refl e

outcome : (ts : List Placed) (r : Reader) → Outcome ts r
outcome [] r = ends r refl
outcome (t ∷ ts) r = first t ts r (read_token r t.token) refl (outcome ts)

-- ---- causes

-- the text ends while something is open
ends_open : (text : List ℕ) (p : Expected) (forks : List Fork) (leg : Source) (f : TextFault) → Runs (unplaced (tokens text)) (At p forks leg)
    → IsOpenAt p forks → fault T3 (length text) ≡ f → IsTextCause text f
ends_open text p forks leg f e h same =
    subst (IsTextCause text) same (refl, cut_short (unplaced (tokens text)) (At p forks leg) e (continues p forks leg), open_of_run (unplaced (tokens text)) p forks leg e h)

ends_early : (text : List ℕ) (s : Reader) (f : TextFault) → Runs (unplaced (tokens text)) s → read_end (length text) s ≡ Err f → IsTextCause text f
ends_early text (Done r) f e h = cc
ends_early text (At Element [] leg) f e h =
    let same : fault T4 (length text) ≡ f = cc in
    subst (IsTextCause text) same (refl, cut_short (unplaced (tokens text)) (At Element [] leg) e (continues Element [] leg), closed_of_run (unplaced (tokens text)) leg e)
ends_early text (At Element (g ∷ gs) leg) f e h = ends_open text Element (g ∷ gs) leg f e tt (cc)
ends_early text (At (Named op) forks leg) f e h = ends_open text (Named op) forks leg f e tt (cc)
ends_early text (At (First op) forks leg) f e h = ends_open text (First op) forks leg f e tt (cc)
ends_early text (At (After op x xs) forks leg) f e h = ends_open text (After op x xs) forks leg f e tt (cc)
ends_early text (At (Next op x xs) forks leg) f e h = ends_open text (Next op x xs) forks leg f e tt (cc)

-- the code of a token that may not follow is one of three
stops_at : (text : List ℕ) (code : TextCode) (at : ℕ) (before : List Token) (t : Token) → IsWrong code before t → StopsAt text code at → IsTextCause text (fault code at)
stops_at text T1 at before t w s = s
stops_at text T2 at before t w s = s
stops_at text T5 at before t w s = s
stops_at text T3 at before t w s = absurd w
stops_at text T4 at before t w s = absurd w

refuses : (ts : List Token) (t : Token) (s : Reader) (code : TextCode) → Runs ts s → read_token s t ≡ Err code → MayFollow ts t → ⊥
refuses ts t s code e h m =
    let r = runs_of_begins (ts ++ t ∷ []) m in
    let same : and_then (read_token s t) (run []) ≡ Ok r.0 = sym (run_on ts (t ∷ []) s e) ∙ r.1 in
    let none : and_then (read_token s t) (run []) ≡ Err code = ap (λ q. and_then q (run [])) h in
    cc

found : (text : List ℕ) (f : TextFault) → Outcome (tokens text) start → read_rung text ≡ Err f → IsTextCause text f
found text f (ends s e) h = ends_early text s f e (sym (read_run (length text) (tokens text) start s e) ∙ h)
found text f (stops before next after s code split e k) h =
    let stop : read_rung text ≡ Err (fault code next.at) = ap (λ ts. read_tokens (length text) ts start) split ∙ read_stop (length text) before next after start s code e k in
    let same : fault code next.at ≡ f = cc in
    let w : IsWrong code (unplaced before) next.token = subst (λ q. IfErr q (λ c. IsWrong c (unplaced before) next.token)) k (wrong (unplaced before) s next.token e) in
    subst (IsTextCause text) same (stops_at text code next.at (unplaced before) next.token w
    (record {
      before = before;
      next = next;
      after = after;
      is_text = split;
      begins = begins (unplaced before) s e;
      ends = refuses (unplaced before) next.token s code e k;
      is_wrong = w;
      is_there = refl;
    }))

-- a fault that is read is the cause
pub cause_of_read : (text : List ℕ) (f : TextFault) → read_rung text ≡ Err f → IsTextCause text f
cause_of_read text f = found text f (outcome (tokens text) start)

answered : (q : Result Reader TextCode) (ts : List Token) (t : Token) (s : Reader) (code : TextCode) → read_token s t ≡ q → Runs ts s → (MayFollow ts t → ⊥) → IsWrong code ts t → read_token s t ≡ Err code
answered (Ok u) ts t s code h e n w = absurd (n (begins (ts ++ t ∷ []) u (one_more ts t s u e h)))
answered (Err c) ts t s code h e n w =
    let v : IsWrong c ts t = subst (λ q. IfErr q (λ x. IsWrong x ts t)) h (wrong ts s t e) in
    h ∙ ap Err (one_code c code ts t v w)

read_of_stop : (text : List ℕ) (code : TextCode) (at : ℕ) → StopsAt text code at → read_rung text ≡ Err (fault code at)
read_of_stop text code at c =
    let r = runs_of_begins (unplaced c.before) c.begins in
    ap (λ ts. read_tokens (length text) ts start) c.is_text
    ∙ read_stop (length text) c.before c.next c.after start r.0 code r.1 (answered (read_token r.0 c.next.token) (unplaced c.before) c.next.token r.0 code refl r.1 c.ends c.is_wrong)
    ∙ ap (λ x. Err (fault code x)) (sym c.is_there)

closed_at_end : (ts : List Token) (s : Reader) (t : Token) (more : List Token) (u : Reader) → Runs ts s → and_then (read_token s t) (run more) ≡ Ok u → (IsOpen ts → ⊥) → (len : ℕ) → read_end len s ≡ Err (fault T4 len)
closed_at_end ts (At Element [] leg) t more u e h n len = refl
closed_at_end ts (At Element (f ∷ fs) leg) t more u e h n len = absurd (n (open_of_run ts Element (f ∷ fs) leg e tt))
closed_at_end ts (At (Named op) fs leg) t more u e h n len = absurd (n (open_of_run ts (Named op) fs leg e tt))
closed_at_end ts (At (First op) fs leg) t more u e h n len = absurd (n (open_of_run ts (First op) fs leg e tt))
closed_at_end ts (At (After op x xs) fs leg) t more u e h n len = absurd (n (open_of_run ts (After op x xs) fs leg e tt))
closed_at_end ts (At (Next op x xs) fs leg) t more u e h n len = absurd (n (open_of_run ts (Next op x xs) fs leg e tt))
closed_at_end ts (Done r) t more u e h n len = cc

open_at_end : (ts : List Token) (s : Reader) (t : Token) (more : List Token) (u : Reader) → Runs ts s → and_then (read_token s t) (run more) ≡ Ok u → IsOpen ts → (len : ℕ) → read_end len s ≡ Err (fault T3 len)
open_at_end ts (At Element [] leg) t more u e h o len = absurd (closed_of_run ts leg e o)
open_at_end ts (At Element (f ∷ fs) leg) t more u e h o len = refl
open_at_end ts (At (Named op) fs leg) t more u e h o len = refl
open_at_end ts (At (First op) fs leg) t more u e h o len = refl
open_at_end ts (At (After op x xs) fs leg) t more u e h o len = refl
open_at_end ts (At (Next op x xs) fs leg) t more u e h o len = refl
open_at_end ts (Done r) t more u e h o len = cc

read_of_code : (text : List ℕ) (code : TextCode) (at : ℕ) → IsCause code at text → read_rung text ≡ Err (fault code at)
read_of_code text T1 at c = read_of_stop text T1 at c
read_of_code text T2 at c = read_of_stop text T2 at c
read_of_code text T5 at c = read_of_stop text T5 at c
read_of_code text T3 at c =
    let l = c.1 in
    let r = runs_before (unplaced (tokens text)) (l.1 ∷ l.2) (Done l.0) (rung_ends (unplaced (tokens text) ++ l.1 ∷ l.2) l.0 l.3.0 l.3.1) in
    read_run (length text) (tokens text) start r.0 r.1
    ∙ open_at_end (unplaced (tokens text)) r.0 l.1 l.2 (Done l.0) r.1 r.2 c.2 (length text)
    ∙ ap (λ x. Err (fault T3 x)) (sym c.0)
read_of_code text T4 at c =
    let l = c.1 in
    let r = runs_before (unplaced (tokens text)) (l.1 ∷ l.2) (Done l.0) (rung_ends (unplaced (tokens text) ++ l.1 ∷ l.2) l.0 l.3.0 l.3.1) in
    read_run (length text) (tokens text) start r.0 r.1
    ∙ closed_at_end (unplaced (tokens text)) r.0 l.1 l.2 (Done l.0) r.1 r.2 c.2 (length text)
    ∙ ap (λ x. Err (fault T4 x)) (sym c.0)

-- and the cause is read
pub read_of_cause : (text : List ℕ) (f : TextFault) → IsTextCause text f → read_rung text ≡ Err f
read_of_cause text f c = read_of_code text f.code f.at c

-- ---- rungs

pub read_of_tokens : (text : List ℕ) (r : Source) → IsNested r → rung_tokens r ≡ unplaced (tokens text) → read_rung text ≡ Ok r
read_of_tokens text r h e = read_run (length text) (tokens text) start (Done r) (rung_ends (unplaced (tokens text)) r h e)

ends_whole : (len : ℕ) (s : Reader) (r : Source) → read_end len s ≡ Ok r → s ≡ Done r
ends_whole len (Done x) r e = let same : x ≡ r = cc in ap Done same
ends_whole len (At Element [] leg) r e = cc
ends_whole len (At Element (f ∷ fs) leg) r e = cc
ends_whole len (At (Named op) fs leg) r e = cc
ends_whole len (At (First op) fs leg) r e = cc
ends_whole len (At (After op x xs) fs leg) r e = cc
ends_whole len (At (Next op x xs) fs leg) r e = cc

whole : (text : List ℕ) (r : Source) → Outcome (tokens text) start → read_rung text ≡ Ok r → IsNested r × (rung_tokens r ≡ unplaced (tokens text))
whole text r (ends s e) h =
    ends_rung (unplaced (tokens text)) r (e ∙ ap Ok (ends_whole (length text) s r (sym (read_run (length text) (tokens text) start s e) ∙ h)))
whole text r (stops before next after s code split e k) h =
    let stop : read_rung text ≡ Err (fault code next.at) = ap (λ ts. read_tokens (length text) ts start) split ∙ read_stop (length text) before next after start s code e k in
    cc

pub tokens_of_read : (text : List ℕ) (r : Source) → read_rung text ≡ Ok r → IsNested r × (rung_tokens r ≡ unplaced (tokens text))
tokens_of_read text r = whole text r (outcome (tokens text) start)
