-- What a line does to a session.
use Rattle.std.proofs.Common.{◌≡◌, ℕ, ◌+◌, List, [], ◌∷◌, ◌++◌, length, length-append, replicate, true, false, Result, Ok, Err, OnOk, refl, sym, ap, ◌∙◌, subst, append_assoc, append-nil, arith}
use Rattle.std.specs.Prelude.{flat_map}
use Rattle.std.proofs.lemmas.List.{length-replicate}
use Rattle.std.proofs.lemmas.List.Folds.{flat_map-map}
use Rattle.std.proofs.lemmas.Grind.{flat_map-append}
use Rattle.lgx_io.specs.declared.sink.SinkFault.{SinkFault}
use Rattle.spec_machine.specs.declared.event.Event.{Event}
use Rattle.spec_machine.specs.Project.{Project}
use Rattle.spec_text.specs.declared.script.EventRun.{EventRun}
use Rattle.spec_text.specs.declared.script.JournalCode.{JournalCode}
use Rattle.spec_text.specs.TextLines.{is_skipped}
use Rattle.spec_text.specs.ReportText.{names_of}
use Rattle.lgx_live.specs.Session.{Point, Meaning, Skipped, Refused, Done, Reported, judged, unless_skipped, run_asked, meaning, events_done, after, after_all, answer_to, answer, answers, lines_with}
use Rattle.lgx_live.specs.Output.{refusal_line, live_line, answer_text, answers_text, text_with}
use Rattle.lgx_journal.specs.declared.error.LineError.{LineError}
use Rattle.lgx_journal.specs.declared.error.LineError.TheVariants as one
use Rattle.lgx_journal.specs.Reading.{IfCode}
use Rattle.lgx_live.specs.Talks.{IsAt}

-- ---- what a line is

pub skipped : (events : List Event) (line : List ℕ) → is_skipped line ≡ true → meaning events line ≡ Skipped
skipped events line h = ap (λ b. unless_skipped b (run_asked events line)) h

pub refused : (events : List Event) (line : List ℕ) (code : JournalCode) → is_skipped line ≡ false → run_asked events line ≡ Err code → meaning events line ≡ Refused code
refused events line code h k = ap (λ b. unless_skipped b (run_asked events line)) h ∙ ap judged k

pub done_by : (events : List Event) (line : List ℕ) (r : EventRun) → is_skipped line ≡ false → run_asked events line ≡ Ok r → meaning events line ≡ Done r
done_by events line r h k = ap (λ b. unless_skipped b (run_asked events line)) h ∙ ap judged k

-- ---- its answer

text_of : Project → Point → Meaning → List ℕ
text_of project at m = flat_map (live_line (names_of project)) (answer_to project at m)

pub answer_skipped : (project : Project) (at : Point) (line : List ℕ) → meaning at.events line ≡ Skipped → answer_text project at line ≡ []
answer_skipped project at line h = ap (λ m. flat_map (live_line (names_of project)) (answer_to project at m)) h

pub answer_refused : (project : Project) (at : Point) (line : List ℕ) (code : JournalCode) → meaning at.events line ≡ Refused code → answer_text project at line ≡ refusal_line (record { code = code; line = at.lines + 1 })
answer_refused project at line code h =
    ap (λ m. flat_map (live_line (names_of project)) (answer_to project at m)) h ∙ append-nil (refusal_line (record { code = code; line = at.lines + 1 }))

pub answer_done : (project : Project) (at : Point) (line : List ℕ) (r : EventRun) → meaning at.events line ≡ Done r → answer_text project at line ≡ text_with project at.events (replicate r.count r.event)
answer_done project at line r h =
    ap (λ m. flat_map (live_line (names_of project)) (answer_to project at m)) h
    ∙ flat_map-map (live_line (names_of project)) Reported (lines_with project at.events (replicate r.count r.event))

-- ---- where it leads

stay : (F : Project → List Event → Type 0) (done came more : ℕ) (project : Project) (at : Point) (es : List Event) → es ≡ [] → more ≡ came + 1 → IsAt F done came project at
    → IsAt F done more project (record { events = at.events ++ es; lines = at.lines + 1 })
stay F done came more project at es none e h =
    let same : at.events ≡ at.events ++ es = sym (ap (λ (x : List Event). at.events ++ x) none ∙ append-nil at.events) in
    record { follows = subst (λ (x : List Event). F project x) same h.follows; events = h.events ∙ ap length same; lines = e ∙ ap (λ n. n + 1) h.lines }

pub at_skipped : (F : Project → List Event → Type 0) (done came more : ℕ) (project : Project) (at : Point) (line : List ℕ) → meaning at.events line ≡ Skipped → more ≡ came + 1 → IsAt F done came project at
    → IsAt F done more project (after at line)
at_skipped F done came more project at line h e i = stay F done came more project at (events_done (meaning at.events line)) (ap events_done h) e i

pub at_refused : (F : Project → List Event → Type 0) (done came more : ℕ) (project : Project) (at : Point) (line : List ℕ) (code : JournalCode) → meaning at.events line ≡ Refused code → more ≡ came + 1 → IsAt F done came project at
    → IsAt F done more project (after at line)
at_refused F done came more project at line code h e i = stay F done came more project at (events_done (meaning at.events line)) (ap events_done h) e i

pub at_done : (F G : Project → List Event → Type 0) (done all came more : ℕ) (project : Project) (at : Point) (line : List ℕ) (r : EventRun) → meaning at.events line ≡ Done r → all ≡ done + r.count → more ≡ came + 1 → IsAt F done came project at
    → G project (at.events ++ replicate r.count r.event) → IsAt G all more project (after at line)
at_done F G done all came more project at line r h e k i g =
    let es : replicate r.count r.event ≡ events_done (meaning at.events line) = sym (ap events_done h) in
    let size : all ≡ length (at.events ++ replicate r.count r.event) = omega (arith, i.events, e, length-append at.events (replicate r.count r.event), length-replicate r.count r.event) in
    record {
      follows = subst (λ (x : List Event). G project (at.events ++ x)) es g;
      events = size ∙ ap (λ (x : List Event). length (at.events ++ x)) es;
      lines = k ∙ ap (λ n. n + 1) i.lines;
    }

-- ---- results

pub if_done : (r : Result (Unit {0}) SinkFault) (A B : Type 0) → (A → B) → OnOk r A → OnOk r B
if_done (Ok x) A B f a = f a
if_done (Err fault) A B f a = tt

pub anyway : (r : Result (Unit {0}) SinkFault) (A : Type 0) → A → OnOk r A
anyway (Ok x) A a = a
anyway (Err fault) A a = tt

-- ---- one line more

pub after_all_more : (at : Point) (ls : List (List ℕ)) (l : List ℕ) → after_all at (ls ++ l ∷ []) ≡ after (after_all at ls) l
after_all_more at [] l = refl
after_all_more at (x ∷ xs) l = after_all_more (after at x) xs l

pub answers_first : (project : Project) (at : Point) (l : List ℕ) (ls : List (List ℕ)) → answers_text project at (l ∷ ls) ≡ answer_text project at l ++ answers_text project (after at l) ls
answers_first project at l ls = flat_map-append (live_line (names_of project)) (answer project at l) (answers project (after at l) ls)

pub answers_more : (project : Project) (at : Point) (ls : List (List ℕ)) (l : List ℕ) → answers_text project at (ls ++ l ∷ []) ≡ answers_text project at ls ++ answer_text project (after_all at ls) l
answers_more project at [] l = ap (flat_map (live_line (names_of project))) (append-nil (answer project at l))
answers_more project at (x ∷ xs) l =
    answers_first project at x (xs ++ l ∷ [])
    ∙ ap (λ t. answer_text project at x ++ t) (answers_more project (after at x) xs l)
    ∙ sym (append_assoc (answer_text project at x) (answers_text project (after at x) xs) (answer_text project (after_all (after at x) xs) l))
    ∙ ap (λ t. t ++ answer_text project (after_all (after at x) xs) l) (sym (answers_first project at x xs))

-- ---- causes

pub code_is : (e : LineError) (code : JournalCode) (P : JournalCode → Type 0) → e ≡ one.Code code → IfCode e P → P code
code_is e code P h x =
    let Q : LineError → Type 0 = λ e. IfCode e P in
    subst Q h x
