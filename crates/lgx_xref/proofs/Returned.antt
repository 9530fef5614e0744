-- The tags that calls return values to: none at the start, and one instruction more.
use Rattle.std.proofs.Common.{◌≡◌, ℕ, ◌+◌, ◌<◌, List, [], ◌∷◌, ◌++◌, length, map, get_or, take, replicate, nat_eq, sym, ap, ◌∙◌, subst}
use Rattle.std.specs.List.{list_any}
use Rattle.std.proofs.lemmas.List.{get_or-replicate, length-replicate, map-append, take_more}
use Rattle.spec_language.specs.declared.span.TagSpan.{TagSpan}
use Rattle.spec_uses.specs.Uses.{Site}
use Rattle.lgx_xref.specs.Returns.{AreReturnsIn}

-- at the start there is no call
pub none_returned : (spans : List TagSpan) (count : ℕ) → AreReturnsIn spans [] (replicate count [])
none_returned spans count r within k there = ap (list_any (nat_eq k)) (get_or-replicate count r [] [] (subst (λ l. r < l) (length-replicate count []) within))

-- as many sites as were passed, one more
pub sites_more : (sites : List Site) (i : ℕ) (s : Site) → i < length sites → s ≡ get_or sites i s
    → map (λ s. s.ins) (take i sites) ++ s.ins ∷ [] ≡ map (λ s. s.ins) (take (i + 1) sites)
sites_more sites i s within is =
    sym (map-append (λ s. s.ins) (take i sites) (s ∷ []))
    ∙ ap (map (λ s. s.ins)) (ap (λ x. take i sites ++ x ∷ []) is ∙ sym (take_more sites i s within))
