-- The lines of a log, and those of an event n times, as they are put.
use Rattle.std.proofs.Common.{◌≡◌, ℕ, ◌+◌, ◌-◌, ◌<◌, List, [], ◌∷◌, ◌++◌, take, drop, replicate, Some, Err, sym, ap, ◌∙◌, subst, append_assoc}
use Rattle.std.specs.Prelude.{flat_map, slice_get, option_map}
use Rattle.lgx_io.specs.declared.sink.SinkFault.{SinkFault}
use Rattle.lgx_io.specs.declared.sink.SinkFault.TheVariants.{Memory}
use Rattle.spec_machine.specs.declared.event.Event.{Event}
use Rattle.spec_machine.specs.Project.{Project}
use Rattle.spec_machine.specs.Report.{Stamped}
use Rattle.spec_text.specs.ReportText.{Names, names_of, line_text}
use Rattle.lgx_watch.specs.Kept.{KeptLines}
use Rattle.lgx_live.specs.Session.{lines_with}
use Rattle.lgx_live.specs.Output.{text_with}
use Rattle.lgx_live.specs.Console.{ConsoleSeen, Says}
use Rattle.lgx_live.proofs.Saying.{done, says_none, says_both, says_cut, says_then}
use Rattle.lgx_live.proofs.Texts.{line_of_log, rest_of_log, text_with_both, once_more, parted}

-- ---- a log

pub log_stops : (a b : ConsoleSeen) (names : Names) (lines : List Stamped) (i : ℕ) → Says a b (flat_map (line_text names) (take i lines)) done → Says a b (flat_map (line_text names) lines) (Err Memory)
log_stops a b names lines i h =
    let rest = flat_map (line_text names) (drop i lines) in
    subst (λ t. Says a b t (Err Memory)) (sym (rest_of_log names lines i)) (says_then (Err Memory) a b b (flat_map (line_text names) (take i lines)) rest h (says_none b rest))

pub log_more : (a b c : ConsoleSeen) (names : Names) (lines : List Stamped) (i : ℕ) (old line shown : List ℕ) → Says a b (flat_map (line_text names) (take i lines)) done
    → old ≡ [] → option_map (λ x. old ++ line_text names x) (slice_get lines i) ≡ Some line → shown ≡ line → Says b c shown done → Says a c (flat_map (line_text names) (take (i + 1) lines)) done
log_more a b c names lines i old line shown h none is same k =
    subst (λ t. Says a c t done) (sym (line_of_log names lines i old line none is))
    (says_both a b c (flat_map (line_text names) (take i lines)) line h (subst (λ t. Says b c t done) same k))

pub log_cut : (fault : SinkFault) (a b c : ConsoleSeen) (names : Names) (lines : List Stamped) (i : ℕ) (old line shown : List ℕ) → Says a b (flat_map (line_text names) (take i lines)) done
    → old ≡ [] → option_map (λ x. old ++ line_text names x) (slice_get lines i) ≡ Some line → shown ≡ line → Says b c shown (Err fault) → Says a c (flat_map (line_text names) lines) (Err fault)
log_cut fault a b c names lines i old line shown h none is same k =
    let before = flat_map (line_text names) (take i lines) in
    let rest = flat_map (line_text names) (drop (i + 1) lines) in
    let all : flat_map (line_text names) lines ≡ before ++ (line ++ rest) =
    rest_of_log names lines (i + 1) ∙ ap (λ t. t ++ rest) (line_of_log names lines i old line none is) ∙ append_assoc before line rest in
    subst (λ t. Says a c t (Err fault)) (sym all) (says_cut fault a b c before line rest h (subst (λ t. Says b c t (Err fault)) same k))

-- ---- an event n times

pub text_of_event : (project : Project) (events : List Event) (e : Event) (names : Names) (log : KeptLines) → names ≡ names_of project → log ≡ record { lines = lines_with project events (e ∷ []); lost = 0 }
    → flat_map (line_text names) log.lines ≡ text_with project events (e ∷ [])
text_of_event project events e names log named kept =
    ap (λ (n : Names). flat_map (line_text n) log.lines) named ∙ ap (λ (l : KeptLines). flat_map (line_text (names_of project)) l.lines) kept

pub run_stops : (a b : ConsoleSeen) (project : Project) (events : List Event) (e : Event) (n k : ℕ) → k < n → Says a b (text_with project events (replicate k e)) done → Says a b (text_with project events (replicate n e)) (Err Memory)
run_stops a b project events e n k below h =
    let before = replicate k e in
    let others = e ∷ [] ++ replicate (n - (k + 1)) e in
    let all : text_with project events (replicate n e) ≡ text_with project events before ++ text_with project (events ++ before) others =
    ap (text_with project events) (parted e n k below) ∙ text_with_both project events before others in
    subst (λ t. Says a b t (Err Memory)) (sym all) (says_then (Err Memory) a b b (text_with project events before) (text_with project (events ++ before) others) h (says_none b (text_with project (events ++ before) others)))

pub run_more : (a b c : ConsoleSeen) (project : Project) (events : List Event) (e : Event) (k : ℕ) (shown : List ℕ) → Says a b (text_with project events (replicate k e)) done
    → shown ≡ text_with project (events ++ replicate k e) (e ∷ []) → Says b c shown done → Says a c (text_with project events (replicate (k + 1) e)) done
run_more a b c project events e k shown h is l =
    let before = replicate k e in
    let all : text_with project events (replicate (k + 1) e) ≡ text_with project events before ++ text_with project (events ++ before) (e ∷ []) =
    ap (text_with project events) (once_more e k) ∙ text_with_both project events before (e ∷ []) in
    subst (λ t. Says a c t done) (sym all) (says_both a b c (text_with project events before) (text_with project (events ++ before) (e ∷ [])) h (subst (λ t. Says b c t done) is l))

pub run_cut : (fault : SinkFault) (a b c : ConsoleSeen) (project : Project) (events : List Event) (e : Event) (n k : ℕ) (shown : List ℕ) → k < n → Says a b (text_with project events (replicate k e)) done
    → shown ≡ text_with project (events ++ replicate k e) (e ∷ []) → Says b c shown (Err fault) → Says a c (text_with project events (replicate n e)) (Err fault)
run_cut fault a b c project events e n k shown below h is l =
    let before = replicate k e in
    let rest = replicate (n - (k + 1)) e in
    let here = text_with project (events ++ before) (e ∷ []) in
    let later = text_with project ((events ++ before) ++ e ∷ []) rest in
    let all : text_with project events (replicate n e) ≡ text_with project events before ++ (here ++ later) =
    ap (text_with project events) (parted e n k below) ∙ text_with_both project events before (e ∷ [] ++ rest)
    ∙ ap (λ t. text_with project events before ++ t) (text_with_both project (events ++ before) (e ∷ []) rest) in
    subst (λ t. Says a c t (Err fault)) (sym all) (says_cut fault a b c (text_with project events before) here later h (subst (λ t. Says b c t (Err fault)) is l))
