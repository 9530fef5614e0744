-- To keep or count a line at each push is to keep the first of all lines and to count the others.
use Rattle.std.proofs.Common.{◌≡◌, ℕ, ◌+◌, ◌<◌, ◌≤◌, inl, inr, List, [], ◌∷◌, ◌++◌, length, take, refl, sym, ap, ◌∙◌, arith, append_assoc, length-append}
use Rattle.std.proofs.lemmas.Bool.{cases_lt, lt-ltb, le-ltb}
use Rattle.std.proofs.lemmas.List.{append-nil, take_all, take-append-le, length-take-le}
use Rattle.spec_base.specs.declared.limits.TheConstants.{MAX_REPORT_LINES}
use Rattle.spec_machine.specs.Report.{Stamped}
use Rattle.lgx_watch.specs.Kept.{KeptLines, kept_of, with_line, with_lines, KeepsTheFirst}

pub same_kept : (a b : List Stamped) (m n : ℕ) → a ≡ b → m ≡ n → (let x : KeptLines = record { lines = a; lost = m } in x) ≡ record { lines = b; lost = n }
same_kept a b m n p q = rw (p, q) refl

-- a line is kept while there is room, and then it is counted
with_line-room : (log : KeptLines) (line : Stamped) → length log.lines < MAX_REPORT_LINES → with_line log line ≡ record { lines = log.lines ++ line ∷ []; lost = log.lost }
with_line-room log line below = rw (lt-ltb (length log.lines) MAX_REPORT_LINES below) refl

with_line-full : (log : KeptLines) (line : Stamped) → MAX_REPORT_LINES ≤ length log.lines → with_line log line ≡ record { lines = log.lines; lost = log.lost + 1 }
with_line-full log line full = rw (le-ltb (length log.lines) MAX_REPORT_LINES full) refl

-- further lines for which there is no room are counted
pub with_lines-full : (log : KeptLines) (lines : List Stamped) → MAX_REPORT_LINES ≤ length log.lines → with_lines log lines ≡ record { lines = log.lines; lost = log.lost + length lines }
with_lines-full log [] full = same_kept _ _ _ _ refl (omega arith)
with_lines-full log (line ∷ lines) full =
    ap (λ (k : KeptLines). with_lines k lines) (with_line-full log line full)
    ∙ with_lines-full (record { lines = log.lines; lost = log.lost + 1 }) lines full
    ∙ same_kept _ _ _ _ refl (omega arith)

-- one line more
pub kept_of-push : (all : List Stamped) (line : Stamped) → with_line (kept_of all) line ≡ kept_of (all ++ line ∷ [])
kept_of-push all line =
    let more : length (all ++ line ∷ []) ≡ length all + 1 = length-append all (line ∷ []) in
    elim (cases_lt (length all) MAX_REPORT_LINES) [
      | inl below ↦
          let whole : take MAX_REPORT_LINES all ≡ all = take_all MAX_REPORT_LINES all (omega arith) in
          let with_it : take MAX_REPORT_LINES (all ++ line ∷ []) ≡ all ++ line ∷ [] = take_all MAX_REPORT_LINES (all ++ line ∷ []) (omega arith) in
          with_line-room (kept_of all) line (omega (arith, ap length whole))
          ∙ same_kept _ _ _ _ (ap (λ lines. lines ++ line ∷ []) whole ∙ sym with_it) (omega arith)
      | inr past ↦
          let first : length (take MAX_REPORT_LINES all) ≡ MAX_REPORT_LINES = length-take-le MAX_REPORT_LINES all past in
          with_line-full (kept_of all) line (omega arith) ∙ same_kept _ _ _ _ (sym (take-append-le MAX_REPORT_LINES all (line ∷ []) past)) (omega arith)
    ]

-- a log that stands for some lines stands, after further ones, for all of them
pub stands_after_push : (old new : KeptLines) (line : Stamped) → new ≡ with_line old line → (all : List Stamped) → old ≡ kept_of all → new ≡ kept_of (all ++ line ∷ [])
stands_after_push old new line is all stood = is ∙ ap (λ log. with_line log line) stood ∙ kept_of-push all line

after_all : (all more : List Stamped) → with_lines (kept_of all) more ≡ kept_of (all ++ more)
after_all all [] = ap kept_of (sym (append-nil all))
after_all all (line ∷ lines) =
    ap (λ log. with_lines log lines) (kept_of-push all line) ∙ after_all (all ++ line ∷ []) lines ∙ ap kept_of (append_assoc all (line ∷ []) lines)

pub keeps_the_first : KeepsTheFirst
keeps_the_first all = after_all [] all
