-- A report, line by line.
use Rattle.std.proofs.Common.{◌≡◌, ℕ, ◌+◌, List, [], ◌∷◌, ◌++◌, length, Bool, true, false, eqb, nat_eq, cond, Some, None, Result, Ok, Err, refl, sym, ap, ◌∙◌, append_assoc, append-nil, arith}
use Rattle.std.proofs.lemmas.Bool.Decides.{nat_tests}
use Rattle.spec_base.specs.Pieces.{cut, pieces}
use Rattle.spec_base.proofs.Splits.{some_piece}
use Rattle.lgx_chart.specs.declared.entry.Entry.{Entry}
use Rattle.lgx_chart.specs.declared.entry.End.{End}
use Rattle.lgx_chart.specs.declared.entry.Chart.{Chart}
use Rattle.lgx_chart.specs.declared.error.ChartCode.{ChartCode}
use Rattle.lgx_chart.specs.declared.error.ChartCode.TheVariants.{V2, V4, V5}
use Rattle.lgx_chart.specs.declared.error.ChartFault.{ChartFault}
use Rattle.lgx_chart.specs.declared.error.ChartError.{ChartError}
use Rattle.lgx_chart.specs.declared.error.ChartError.TheVariants as error
use Rattle.lgx_chart.specs.Forms.{end_of}
use Rattle.lgx_chart.specs.Charts.{Seen, nothing, seen_with, comes_after, entry_at, refused, nothing_follows, chart_at_end, with_entry, by_line, chart_from, chart_of}
use Rattle.lgx_chart.specs.Reading.{IfFault, refusal, with_entries}

-- ---- the end

last_of : (b : Bool) (c : ℕ) (qs : List (List ℕ)) → ((p : List ℕ) × (ps : List (List ℕ)) × (qs ≡ p ∷ ps)) → nothing_follows (cut b c qs) ≡ false
last_of true c qs f = rw f.2 refl
last_of false c [] f = refl
last_of false c (q ∷ []) f = refl
last_of false c (q ∷ r ∷ qs) f = refl

-- nothing follows exactly where the text after is empty
nothing_after : (text : List ℕ) → nothing_follows (pieces 10 text) ≡ eqb (length text) 0
nothing_after [] = refl
nothing_after (c ∷ cs) =
    let more : eqb (length (c ∷ cs)) 0 ≡ false = grind (arith, nat_tests) in
    last_of (nat_eq c 10) c (pieces 10 cs) (some_piece 10 cs) ∙ sym more

abbrev whole : Seen → List Entry → End → Chart
whole seen entries end = record { tasks = seen.tasks; watches = seen.watches; entries = entries; end = end }

at_end : (seen : Seen) (end : End) (rest : List (List ℕ)) (a b : Bool) → comes_after seen end.tick end.step ≡ a → nothing_follows rest ≡ b
    → chart_at_end seen end rest ≡ cond a (cond b (Ok (whole seen [] end)) (refused (seen.lines + 2) V5)) (refused (seen.lines + 1) V2)
at_end seen end rest a b h k =
    ap (λ x. cond x (cond (nothing_follows rest) (Ok (whole seen [] end)) (refused (seen.lines + 2) V5)) (refused (seen.lines + 1) V2)) h
    ∙ ap (λ x. cond a (cond x (Ok (whole seen [] end)) (refused (seen.lines + 2) V5)) (refused (seen.lines + 1) V2)) k

pub end_whole : (done : List Entry) (seen : Seen) (end : End) (text : List ℕ) → comes_after seen end.tick end.step ≡ true → eqb (length text) 0 ≡ true
    → with_entries done (chart_at_end seen end (pieces 10 text)) ≡ Ok (whole seen done end)
end_whole done seen end text h k =
    ap (with_entries done) (at_end seen end (pieces 10 text) true true h (nothing_after text ∙ k))
    ∙ ap (λ es. Ok (whole seen es end)) (append-nil done)

pub end_late : (done : List Entry) (seen : Seen) (end : End) (text : List ℕ) → comes_after seen end.tick end.step ≡ false
    → with_entries done (chart_at_end seen end (pieces 10 text)) ≡ refused (seen.lines + 1) V2
end_late done seen end text h =
    ap (with_entries done) (at_end seen end (pieces 10 text) false (nothing_follows (pieces 10 text)) h refl)

pub end_more : (done : List Entry) (seen : Seen) (end : End) (text : List ℕ) → comes_after seen end.tick end.step ≡ true → eqb (length text) 0 ≡ false
    → with_entries done (chart_at_end seen end (pieces 10 text)) ≡ refused (seen.lines + 2) V5
end_more done seen end text h k =
    ap (with_entries done) (at_end seen end (pieces 10 text) true false h (nothing_after text ∙ k))

-- ---- a line

-- a line that has another after it, or the empty rest
at_line : (seen : Seen) (line rest after : List ℕ) → pieces 10 rest ≡ line ∷ pieces 10 after
    → chart_from seen (pieces 10 rest) ≡ by_line seen (end_of (pieces 32 line)) (entry_at seen (pieces 32 line)) (pieces 10 after) (λ s. chart_from s (pieces 10 after))
at_line seen line rest after split =
    let more = some_piece 10 after in
    ap (chart_from seen) (split ∙ ap (λ ps. line ∷ ps) more.2)
    ∙ ap (λ ps. by_line seen (end_of (pieces 32 line)) (entry_at seen (pieces 32 line)) ps (λ s. chart_from s ps)) (sym more.2)

added : (done : List Entry) (e : Entry) (r : Result Chart ChartFault) → with_entries (done ++ e ∷ []) r ≡ with_entries done (with_entry e r)
added done e (Ok chart) = ap (λ es. Ok (record chart { entries = es })) (append_assoc done (e ∷ []) chart.entries)
added done e (Err fault) = refl

pub chart_goes_on : (done : List Entry) (e : Entry) (seen : Seen) (line rest after : List ℕ) → pieces 10 rest ≡ line ∷ pieces 10 after → end_of (pieces 32 line) ≡ None → entry_at seen (pieces 32 line) ≡ Ok e
    → with_entries (done ++ e ∷ []) (chart_from (seen_with seen e) (pieces 10 after)) ≡ with_entries done (chart_from seen (pieces 10 rest))
chart_goes_on done e seen line rest after split no_end is =
    let others : Seen → Result Chart ChartFault = λ s. chart_from s (pieces 10 after) in
    added done e (others (seen_with seen e))
    ∙ sym (ap (with_entries done) (at_line seen line rest after split
    ∙ ap (λ o. by_line seen o (entry_at seen (pieces 32 line)) (pieces 10 after) others) no_end
    ∙ ap (λ r. by_line seen None r (pieces 10 after) others) is))

pub chart_ends : (done : List Entry) (end : End) (seen : Seen) (line rest after : List ℕ) → pieces 10 rest ≡ line ∷ pieces 10 after → end_of (pieces 32 line) ≡ Some end
    → with_entries done (chart_from seen (pieces 10 rest)) ≡ with_entries done (chart_at_end seen end (pieces 10 after))
chart_ends done end seen line rest after split is =
    ap (with_entries done) (at_line seen line rest after split
    ∙ ap (λ o. by_line seen o (entry_at seen (pieces 32 line)) (pieces 10 after) (λ s. chart_from s (pieces 10 after))) is)

refused_by : (done : List Entry) (fault : ChartFault) (seen : Seen) (rest : List (List ℕ)) (others : Seen → Result Chart ChartFault) (r : Result Entry ChartCode) → refusal (seen.lines + 1) r ≡ Some fault
    → with_entries done (by_line seen None r rest others) ≡ Err fault
refused_by done fault seen rest others (Ok e) h = absurd (cc h)
refused_by done fault seen rest others (Err code) h = cc h

chart_refused : (done : List Entry) (fault : ChartFault) (seen : Seen) (line rest after : List ℕ) → pieces 10 rest ≡ line ∷ pieces 10 after → end_of (pieces 32 line) ≡ None → refusal (seen.lines + 1) (entry_at seen (pieces 32 line)) ≡ Some fault
    → with_entries done (chart_from seen (pieces 10 rest)) ≡ Err fault
chart_refused done fault seen line rest after split no_end is =
    let others : Seen → Result Chart ChartFault = λ s. chart_from s (pieces 10 after) in
    ap (with_entries done) (at_line seen line rest after split
    ∙ ap (λ o. by_line seen o (entry_at seen (pieces 32 line)) (pieces 10 after) others) no_end)
    ∙ refused_by done fault seen (pieces 10 after) others (entry_at seen (pieces 32 line)) is

-- what is known of a refused line is known of the whole text
pub refused_at : (whole : Result Chart ChartFault) (error : ChartError) (done : List Entry) (seen : Seen) (line rest after : List ℕ) → with_entries done (chart_from seen (pieces 10 rest)) ≡ whole → pieces 10 rest ≡ line ∷ pieces 10 after → end_of (pieces 32 line) ≡ None
    → IfFault (λ fault. refusal (seen.lines + 1) (entry_at seen (pieces 32 line)) ≡ Some fault) error → IfFault (λ fault. whole ≡ Err fault) error
refused_at whole (error.Line fault) done seen line rest after same split no_end is =
    sym same ∙ chart_refused done fault seen line rest after split no_end is
refused_at whole error.Memory done seen line rest after same split no_end is = tt

pub chart_starts : (done : List Entry) (seen : Seen) (text : List ℕ) → seen ≡ nothing → done ≡ [] → with_entries done (chart_from seen (pieces 10 text)) ≡ chart_of text
chart_starts done seen text none empty = rw none (rw empty (unchanged (chart_of text)))
  where
    unchanged : (r : Result Chart ChartFault) → with_entries [] r ≡ r
    unchanged (Ok chart) = refl
    unchanged (Err fault) = refl

pub chart_last : (done : List Entry) (seen : Seen) (rest : List ℕ) → pieces 10 rest ≡ rest ∷ []
    → with_entries done (chart_from seen (pieces 10 rest)) ≡ refused (seen.lines + 1) V4
chart_last done seen rest e = ap (λ ps. with_entries done (chart_from seen ps)) e
