-- The lines of the text, one by one.
use Rattle.std.proofs.Common.{◌≡◌, ℕ, zero, suc, ◌+◌, List, [], ◌∷◌, ◌++◌, length, drop, Some, option_map, Result, Ok, Err, OnOk, add-one, append_assoc, append-nil, sym, ap, ◌∙◌}
use Rattle.std.specs.Prelude.{codes, flat_map, slice_get}
use Rattle.std.proofs.lemmas.Grind.{flat_map-append}
use Rattle.spec_machine.specs.declared.event.Event.{Event}
use Rattle.spec_machine.specs.Project.{Project}
use Rattle.spec_machine.specs.Report.{Stamped, report_lines}
use Rattle.spec_text.specs.ReportText.{Names, names_of, line_text}
use Rattle.lgx_watch.specs.Kept.{KeptLines, kept_of}
use Rattle.spec_link.specs.LinkOutput.{OutputLine, OfA, OfB, kept, new_lines, end_line, written}
use Rattle.spec_link.proofs.Texts.{written_of_a, written_of_b}
use Rattle.lgx_record.specs.RecordingView.{RecordingView}
use Rattle.lgx_record.specs.Records.{Records}
use Rattle.lgx_judge.specs.declared.ends.End.{End}
use Rattle.lgx_judge.specs.ReportLines.{end_line as ended, end_of}

-- what follows where a call was answered
pub on_ok : {T E P Q : Type 0} (r : Result T E) → (P → Q) → OnOk r P → OnOk r Q
on_ok (Ok x) f h = f h
on_ok (Err e) f h = tt

-- ---- a line of the log

next_line : (letter : List ℕ) (text : Stamped → List ℕ) (lines : List Stamped) (i : ℕ) (old mid new : List ℕ) → mid ≡ old ++ letter → option_map (λ s. mid ++ text s) (slice_get lines i) ≡ Some new
    → new ++ flat_map (λ s. letter ++ text s) (drop (suc i) lines) ≡ old ++ flat_map (λ s. letter ++ text s) (drop i lines)
next_line letter text [] i old mid new begun is = absurd (cc is)
next_line letter text (x ∷ xs) zero old mid new begun is =
    let rest = flat_map (λ s. letter ++ text s) xs in
    let whole : mid ++ text x ≡ new = cc is in
    ap (λ t. t ++ rest) (sym whole ∙ ap (λ t. t ++ text x) begun ∙ append_assoc old letter (text x)) ∙ append_assoc old (letter ++ text x) rest
next_line letter text (x ∷ xs) (suc i) old mid new begun is = next_line letter text xs i old mid new begun is

pub line_more : (letter : List ℕ) (names : Names) (lines : List Stamped) (i : ℕ) (old mid new : List ℕ) → mid ≡ old ++ letter → option_map (λ s. mid ++ line_text names s) (slice_get lines i) ≡ Some new
    → new ++ flat_map (λ s. letter ++ line_text names s) (drop (i + 1) lines) ≡ old ++ flat_map (λ s. letter ++ line_text names s) (drop i lines)
line_more letter names lines i old mid new begun is =
    ap (λ k. new ++ flat_map (λ s. letter ++ line_text names s) (drop k lines)) (add-one i) ∙ next_line letter (line_text names) lines i old mid new begun is

-- ---- the lines of a line's events

-- those that a recording's log has gained, where it goes on from one journal to another
gained : (letter : List ℕ) (v w : RecordingView) (p : Project) (es ds : List Event) (told : ℕ) → Records v p es → Records w p ds → told ≡ length v.log.lines
    → flat_map (λ s. letter ++ line_text w.names s) (drop told w.log.lines) ≡ flat_map (λ s. letter ++ line_text (names_of p) s) (drop (length (kept p es)) (kept p ds))
gained letter v w p es ds told h g is =
    ap (λ (names : Names). flat_map (λ s. letter ++ line_text names s) (drop told w.log.lines)) g.names
    ∙ ap (λ (log : KeptLines). flat_map (λ s. letter ++ line_text (names_of p) s) (drop told log.lines)) g.log
    ∙ ap (λ n. flat_map (λ s. letter ++ line_text (names_of p) s) (drop n (kept p ds))) (is ∙ ap (λ (log : KeptLines). length log.lines) h.log)

pub gained_of_a : (v w : RecordingView) (p : Project) (es ds : List Event) (told : ℕ) → Records v p es → Records w p ds → told ≡ length v.log.lines
    → flat_map (λ s. codes "a " ++ line_text w.names s) (drop told w.log.lines) ≡ flat_map written (new_lines OfA p es ds)
gained_of_a v w p es ds told h g is =
    gained (codes "a ") v w p es ds told h g is ∙ sym (written_of_a (line_text (names_of p)) (drop (length (kept p es)) (kept p ds)))

pub gained_of_b : (v w : RecordingView) (p : Project) (es ds : List Event) (told : ℕ) → Records v p es → Records w p ds → told ≡ length v.log.lines
    → flat_map (λ s. codes "b " ++ line_text w.names s) (drop told w.log.lines) ≡ flat_map written (new_lines OfB p es ds)
gained_of_b v w p es ds told h g is =
    gained (codes "b ") v w p es ds told h g is ∙ sym (written_of_b (line_text (names_of p)) (drop (length (kept p es)) (kept p ds)))

-- all that a line adds
pub added : (old first second new : List ℕ) (xs ys zs : List OutputLine) → first ≡ old ++ flat_map written xs → second ≡ first ++ flat_map written ys → new ≡ second ++ flat_map written zs
    → new ≡ old ++ flat_map written (xs ++ (ys ++ zs))
added old first second new xs ys zs is_first is_second is_new =
    let a = flat_map written xs in
    let b = flat_map written ys in
    let c = flat_map written zs in
    let parts : flat_map written (xs ++ (ys ++ zs)) ≡ a ++ (b ++ c) = flat_map-append written xs (ys ++ zs) ∙ ap (λ t. a ++ t) (flat_map-append written ys zs) in
    is_new ∙ ap (λ t. t ++ c) (is_second ∙ ap (λ t. t ++ b) is_first) ∙ append_assoc (old ++ a) b c ∙ append_assoc old a (b ++ c) ∙ ap (λ t. old ++ t) (sym parts)

-- ---- the end lines

pub end_is : (v : RecordingView) (p : Project) (es : List Event) (end : End) → Records v p es → end ≡ end_of p es → ended v.log end ≡ end_line p es
end_is v p es end h is =
    ap (λ (log : KeptLines). ended log end) h.log ∙ ap (λ (e : End). ended (kept_of (report_lines p es)) e) is

pub both_ends : (old first new a b : List ℕ) (of_a of_b : List ℕ) → first ≡ old ++ (codes "a " ++ a) → new ≡ first ++ (codes "b " ++ b) → a ≡ of_a → b ≡ of_b
    → new ≡ old ++ flat_map written (OfA of_a ∷ OfB of_b ∷ [])
both_ends old first new a b of_a of_b is_first is_new is_a is_b =
    is_new ∙ ap (λ t. t ++ (codes "b " ++ b)) is_first ∙ append_assoc old (codes "a " ++ a) (codes "b " ++ b)
    ∙ ap (λ t. old ++ ((codes "a " ++ t) ++ (codes "b " ++ b))) is_a ∙ ap (λ t. old ++ ((codes "a " ++ of_a) ++ (codes "b " ++ t))) is_b
    ∙ ap (λ t. old ++ ((codes "a " ++ of_a) ++ t)) (sym (append-nil (codes "b " ++ of_b)))
