-- Lines put into a log part by part are all of them.
use Rattle.std.proofs.Common.{◌≡◌, ◌+◌, ◌≤◌, Bool, true, false, cond, List, [], ◌∷◌, ◌++◌, length, refl, sym, ap, ◌∙◌, arith}
use Rattle.std.specs.Prelude.{nat_lt}
use Rattle.spec_base.specs.declared.limits.TheConstants.{MAX_REPORT_LINES}
use Rattle.std.proofs.lemmas.List.{map-append}
use Rattle.spec_machine.specs.declared.line.Line.{Line}
use Rattle.spec_machine.specs.Report.{Stamped, stamp}
use Rattle.lgx_watch.specs.Kept.{KeptLines, no_lines, kept_of, with_line, with_lines}
use Rattle.lgx_watch.proofs.Pushes.{keeps_the_first}
use Rattle.lgx_record.specs.declared.lines.Stamp.{Stamp}
use Rattle.lgx_record.specs.EventLines.{with_event_lines}

-- some lines and then others
pub with_lines-append : (log : KeptLines) (xs ys : List Stamped) → with_lines log (xs ++ ys) ≡ with_lines (with_lines log xs) ys
with_lines-append log [] ys = refl
with_lines-append log (x ∷ xs) ys = with_lines-append (with_line log x) xs ys

pub with_event_lines-append : (log : KeptLines) (at : Stamp) (xs ys : List Line) → with_event_lines (with_event_lines log at xs) at ys ≡ with_event_lines log at (xs ++ ys)
with_event_lines-append log at xs ys =
    sym (ap (λ (all : List Stamped). with_lines log all) (map-append _ xs ys) ∙ with_lines-append log (stamp at.tick at.step xs) (stamp at.tick at.step ys))

-- a log that stands for some lines stands, after further ones, for all of them
pub kept_of-more : (all more : List Stamped) → with_lines (kept_of all) more ≡ kept_of (all ++ more)
kept_of-more all more =
    ap (λ (log : KeptLines). with_lines log more) (sym (keeps_the_first all)) ∙ sym (with_lines-append no_lines all more) ∙ keeps_the_first (all ++ more)

-- a line is lost at most
one-lost : (b : Bool) (log : KeptLines) (line : Stamped) → (cond b (record { lines = log.lines ++ line ∷ []; lost = log.lost }) (let full : KeptLines = record { lines = log.lines; lost = log.lost + 1 } in full)).lost ≤ log.lost + 1
one-lost true log line = omega arith
one-lost false log line = omega arith

pub few-more-lost : (log : KeptLines) (xs : List Stamped) → (with_lines log xs).lost ≤ log.lost + length xs
few-more-lost log [] = omega arith
few-more-lost log (x ∷ xs) =
    let one : (with_line log x).lost ≤ log.lost + 1 = one-lost (nat_lt (length log.lines) MAX_REPORT_LINES) log x in
    let rest = few-more-lost (with_line log x) xs in
    omega arith

-- three parts, one after another
pub three-parts : (start first second third : KeptLines) (at : Stamp) (xs ys zs : List Line) → first ≡ with_event_lines start at xs → second ≡ with_event_lines first at ys → third ≡ with_event_lines second at zs → third ≡ with_event_lines start at (xs ++ (ys ++ zs))
three-parts start first second third at xs ys zs a b c =
    c
    ∙ ap (λ (k : KeptLines). with_event_lines k at zs) b
    ∙ with_event_lines-append first at ys zs
    ∙ ap (λ (k : KeptLines). with_event_lines k at (ys ++ zs)) a
    ∙ with_event_lines-append start at xs (ys ++ zs)

-- neither begin nor fault
pub nothing-told : (log : KeptLines) (at : Stamp) (begins faults : List Line) → begins ≡ [] → faults ≡ [] → log ≡ with_event_lines (with_event_lines log at begins) at faults
nothing-told log at begins faults b f = rw (b, f) refl
