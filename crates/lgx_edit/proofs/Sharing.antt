-- Rungs that are shared, one by one.
use Rattle.std.proofs.Common.{◌≡◌, ℕ, ◌+◌, ◌-◌, ◌<◌, List, [], ◌∷◌, ◌++◌, length, get_or, take, drop, ap, sym, ◌∙◌, arith}
use Rattle.std.specs.Prelude.{sum_by}
use Rattle.std.proofs.lemmas.List.{take_more, drop_more, map-append}
use Rattle.std.proofs.lemmas.List.Sums.{sum_by-cons}
use Rattle.lgx_edit.specs.Counting.{rung_count}
use Rattle.lgx_edit.specs.Shared.{RungPair, sources, checkeds}

pub checkeds_more : (rungs : List RungPair) (i : ℕ) (r : RungPair) → i < length rungs → r ≡ get_or rungs i r → checkeds (take (i + 1) rungs) ≡ checkeds (take i rungs) ++ r.checked ∷ []
checkeds_more rungs i r h is =
    ap checkeds (take_more rungs i r h ∙ ap (λ (x : RungPair). take i rungs ++ x ∷ []) (sym is)) ∙ map-append (λ (x : RungPair). x.checked) (take i rungs) (r ∷ [])

pub checkeds_end : (rungs : List RungPair) (r : RungPair) → checkeds (rungs ++ r ∷ []) ≡ checkeds rungs ++ r.checked ∷ []
checkeds_end rungs r = map-append (λ (x : RungPair). x.checked) rungs (r ∷ [])

pub sources_end : (rungs : List RungPair) (r : RungPair) → sources (rungs ++ r ∷ []) ≡ sources rungs ++ r.source ∷ []
sources_end rungs r = map-append (λ (x : RungPair). x.source) rungs (r ∷ [])

-- the instructions of one rung more are taken away
pub shared_left : (rungs : List RungPair) (i : ℕ) (r : RungPair) (left now : ℕ) → i < length rungs → r ≡ get_or rungs i r → now ≡ left - rung_count r.source
    → now - sum_by rung_count (sources (drop (i + 1) rungs)) ≡ left - sum_by rung_count (sources (drop i rungs))
shared_left rungs i r left now h is n =
    let first : sum_by rung_count (sources (drop i rungs)) ≡ rung_count r.source + sum_by rung_count (sources (drop (i + 1) rungs)) =
    ap (λ (xs : List RungPair). sum_by rung_count (sources xs)) (drop_more rungs i r h ∙ ap (λ (x : RungPair). x ∷ drop (i + 1) rungs) (sym is))
    ∙ sum_by-cons rung_count r.source (sources (drop (i + 1) rungs)) in
    omega arith
