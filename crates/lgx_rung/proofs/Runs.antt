-- Runs of the reader over tokens, and the tokens that begin a rung.
use Rattle.std.proofs.Common.{◌≡◌, List, [], ◌∷◌, ◌++◌, refl, ap, sym, ◌∙◌, subst, Result, Ok, Err}
use Rattle.std.proofs.lemmas.List.{append-nil}
use Rattle.lgx_rung.specs.declared.fault.TextCode.{TextCode}
use Rattle.lgx_rung.specs.Text.{rung_tokens, IsNested, Begins, IsCutShort}
use Rattle.lgx_rung.specs.Tokens.{Token, Reader, At, Done, read_token}
use Rattle.lgx_rung.specs.Tree.{Source}
use Rattle.lgx_rung.proofs.Reading.{and_then, run, start, run-append, taken_by_run, fit_by_run, runs_rung, continues, Continues}

-- ---- a run, and what begins a rung

abbrev pub Runs : List Token → Reader → Type 0
Runs ts s = run ts start ≡ Ok s

pub run_on : (ts more : List Token) (s : Reader) → Runs ts s → run (ts ++ more) start ≡ run more s
run_on ts more s e = run-append ts more start ∙ ap (λ q. and_then q (run more)) e

-- a run's result, if a longer run succeeds
pub shorter : (q : Result Reader TextCode) (f : Reader → Result Reader TextCode) (u : Reader) → and_then q f ≡ Ok u → (s : Reader) × (q ≡ Ok s) × (f s ≡ Ok u)
shorter (Ok s) f u e = (s, refl, e)
shorter (Err code) f u e = cc

pub runs_before : (ts more : List Token) (u : Reader) → Runs (ts ++ more) u → (s : Reader) × Runs ts s × (run more s ≡ Ok u)
runs_before ts more u e = shorter (run ts start) (run more) u (sym (run-append ts more start) ∙ e)

-- a run to the end is a rung's
pub ends_rung : (ts : List Token) (r : Source) → Runs ts (Done r) → IsNested r × (rung_tokens r ≡ ts)
ends_rung ts r e = (fit_by_run ts (Done r) e, taken_by_run ts (Done r) e)

pub rung_ends : (ts : List Token) (r : Source) → IsNested r → rung_tokens r ≡ ts → Runs ts (Done r)
rung_ends ts r h e = subst (λ x. Runs x (Done r)) e (runs_rung r h)

pub cut_short : (ts : List Token) (s : Reader) → Runs ts s → Continues s → IsCutShort ts
cut_short ts s e g =
    let end = ends_rung (ts ++ g.0 ∷ g.1) g.2.0 (run_on ts (g.0 ∷ g.1) s e ∙ g.2.1) in
    (g.2.0, g.0, g.1, end)

pub begins : (ts : List Token) (s : Reader) → Runs ts s → Begins ts
begins ts (At p forks t) e =
    let l = cut_short ts (At p forks t) e (continues p forks t) in
    (l.0, l.1 ∷ l.2, l.3)
begins ts (Done r) e =
    let h = ends_rung ts r e in
    (r, [], (h.0, h.1 ∙ sym (append-nil ts)))

pub runs_of_begins : (ts : List Token) → Begins ts → (s : Reader) × Runs ts s
runs_of_begins ts b =
    let r = runs_before ts b.1 (Done b.0) (rung_ends (ts ++ b.1) b.0 b.2.0 b.2.1) in
    (r.0, r.1)

pub one_more : (ts : List Token) (t : Token) (s u : Reader) → Runs ts s → read_token s t ≡ Ok u → Runs (ts ++ t ∷ []) u
one_more ts t s u e h = run_on ts (t ∷ []) s e ∙ ap (λ q. and_then q (run [])) h
