-- A fork that is closed leaves forks nested no deeper than they may.
use Rattle.std.proofs.Common.{◌≡◌, ◌≤◌, ◌+◌, List, [], ◌∷◌, ◌++◌, length, subst, arith}
use Rattle.spec_base.specs.declared.limits.TheConstants.{MAX_FORKS}
use Rattle.lgx_rung.specs.Tokens.{Fork, At, Element, CloseFork}
use Rattle.lgx_rung.specs.Tree.{end, append, depth, fork_of, Source}
use Rattle.lgx_rung.proofs.Reading.{AreFit, read_token_fit}

closed : (f : Fork) (forks : List Fork) (last : Source) → length (f ∷ forks) + depth last ≤ MAX_FORKS → AreFit (f ∷ forks)
    → depth (append f.before (fork_of (f.legs ++ last ∷ []) end)) ≤ MAX_FORKS
closed f forks last h hs =
    let fit = read_token_fit (At Element (f ∷ forks) last) CloseFork (h, hs) in
    let first : length forks + depth (append f.before (fork_of (f.legs ++ last ∷ []) end)) ≤ MAX_FORKS = fit.0 in
    omega arith

pub closed_fits : (f : Fork) (forks old : List Fork) (last : Source) → old ≡ f ∷ forks → length old + depth last ≤ MAX_FORKS → AreFit old
    → depth (append f.before (fork_of (f.legs ++ last ∷ []) end)) ≤ MAX_FORKS
closed_fits f forks old last e h hs =
    closed f forks last (subst (λ x. length x + depth last ≤ MAX_FORKS) e h) (subst AreFit e hs)
