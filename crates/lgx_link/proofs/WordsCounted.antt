-- The words of a connection, one more at a time.
use Rattle.std.proofs.Common.{◌≡◌, ℕ, suc, ◌+◌, ◌<◌, List, [], ◌∷◌, ◌++◌, length, length-append, get_or, take, true, append_assoc, append-nil, refl, sym, ap, ◌∙◌, arith}
use Rattle.std.specs.Prelude.{ℤ, pos, negsuc, ◌≤ℤ◌, flat_map}
use Rattle.std.proofs.lemmas.Grind.{flat_map-append}
use Rattle.std.proofs.lemmas.List.{length-take-le, take_more}
use Rattle.std.proofs.lemmas.List.FromFn.{map-range_with_len_more}
use Rattle.spec_base.proofs.Lists.{each_append}
use Rattle.spec_base.specs.declared.limits.TheConstants.{OWN_LANE}
use Rattle.lgx_num.specs.declared.number.Kind.TheVariants.{Dint}
use Rattle.lgx_num.specs.Number.{fits}
use Rattle.spec_machine.specs.declared.event.Event.{Event}
use Rattle.spec_machine.specs.declared.event.Event.TheVariants.{Act}
use Rattle.spec_machine.specs.declared.event.Action.TheVariants.{WordIn, WordOut}
use Rattle.spec_machine.specs.declared.reply.Reply.{Reply}
use Rattle.spec_machine.specs.Actions.{word_out}
use Rattle.spec_machine.specs.Machine.{run, run_from, step, trace_from}
use Rattle.spec_machine.specs.Project.{Project}
use Rattle.spec_machine.specs.State.{State, start}
use Rattle.spec_lanes.proofs.Appended.{run_over}
use Rattle.spec_link.specs.Links.{answered, word_of, words_answered, words_from}
use Rattle.lgx_core.proofs.Runs.{trace-more}
use Rattle.lgx_record.specs.RecordingView.{RecordingView}
use Rattle.lgx_record.specs.Records.{Records}
use Rattle.lgx_link.specs.Running.{AreWords, outs}

-- a recording has counted the events that came
pub spent_after : (v w : RecordingView) (p : Project) (es ds : List Event) → Records v p es → Records w p (es ++ ds) → w.controller.spent ≡ v.controller.spent + length ds
spent_after v w p es ds h g =
    g.controller.counted ∙ length-append es ds ∙ ap (λ n. n + length ds) (sym h.controller.counted)

-- ---- words out

pub outs_more : (output : List ℕ) (n : ℕ) → outs output (n + 1) ≡ outs output n ++ Act OWN_LANE (WordOut output n) ∷ []
outs_more output n = map-range_with_len_more (λ k. Act OWN_LANE (WordOut output k)) 0 n n (omega arith)

-- the words that these events are answered, and the last one's
pub answered_more : (p : Project) (journal es : List Event) (e : Event) → words_answered p journal (es ++ e ∷ []) ≡ words_answered p journal es ++ answered (step (run p (journal ++ es)) e).answer
answered_more p journal es e =
    let s = run p journal in
    let last = (step (run_from s es) e).answer in
    ap (flat_map answered) (trace-more s es e)
    ∙ flat_map-append answered (trace_from s es) (last ∷ [])
    ∙ ap (λ ws. words_answered p journal es ++ ws) (append-nil (answered last))
    ∙ ap (λ (x : State). words_answered p journal es ++ answered (step x e).answer) (sym (run_over (start p) journal es))

-- the words before, and that of the last reply
pub told_more : (p : Project) (journal : List Event) (output : List ℕ) (n : ℕ) (reply : Reply) (before after : List ℤ) → before ≡ words_answered p journal (outs output n)
    → reply ≡ (word_out (run p (journal ++ outs output n)) output n).answer.reply → after ≡ before ++ word_of reply
    → after ≡ words_answered p journal (outs output (n + 1))
told_more p journal output n reply before after told is_reply is =
    let e : Event = Act OWN_LANE (WordOut output n) in
    is ∙ ap (λ ws. ws ++ word_of reply) told ∙ ap (λ (r : Reply). words_answered p journal (outs output n) ++ word_of r) is_reply
    ∙ sym (ap (λ (es : List Event). words_answered p journal es) (outs_more output n) ∙ answered_more p journal (outs output n) e)

-- a word of 32 bits after others
word_fits : (v : ℤ) → negsuc 2147483647 ≤ℤ v → v ≤ℤ pos 2147483647 → fits Dint v ≡ true
word_fits v low high = search (arith, low, high)

pub range_more : (words : List ℤ) (v : ℤ) → negsuc 2147483647 ≤ℤ v → v ≤ℤ pos 2147483647 → AreWords words → AreWords (words ++ v ∷ [])
range_more words v low high h = each_append (λ (w : ℤ). fits Dint w ≡ true) words (v ∷ []) h (word_fits v low high, tt)

-- ---- words in

pub words_more : (input : List ℕ) (k : ℕ) (xs : List ℤ) (v : ℤ) → words_from input k (xs ++ v ∷ []) ≡ words_from input k xs ++ Act OWN_LANE (WordIn input (k + length xs) v) ∷ []
words_more input k [] v = ap (λ n. Act OWN_LANE (WordIn input n v) ∷ []) (omega arith)
words_more input k (x ∷ xs) v =
    let place : (k + 1) + length xs ≡ k + suc (length xs) = omega arith in
    ap (λ es. Act OWN_LANE (WordIn input k x) ∷ es)
    (words_more input (k + 1) xs v ∙ ap (λ n. words_from input (k + 1) xs ++ Act OWN_LANE (WordIn input n v) ∷ []) place)

-- the events of one word more
pub in_more : (events : List Event) (input : List ℕ) (words : List ℤ) (n : ℕ) (d : ℤ) → n < length words
    → (events ++ words_from input 0 (take n words)) ++ Act OWN_LANE (WordIn input n (get_or words n d)) ∷ [] ≡ events ++ words_from input 0 (take (n + 1) words)
in_more events input words n d less =
    let v = get_or words n d in
    let few : length (take n words) ≡ n = length-take-le n words (omega arith) in
    let place : 0 + length (take n words) ≡ n = omega arith in
    append_assoc events (words_from input 0 (take n words)) (Act OWN_LANE (WordIn input n v) ∷ [])
    ∙ ap (λ k. events ++ (words_from input 0 (take n words) ++ Act OWN_LANE (WordIn input k v) ∷ [])) (sym place)
    ∙ ap (λ (es : List Event). events ++ es) (sym (words_more input 0 (take n words) v))
    ∙ ap (λ (ws : List ℤ). events ++ words_from input 0 ws) (sym (take_more words n d less))

pub words_counted : (input : List ℕ) (k : ℕ) (xs : List ℤ) → length (words_from input k xs) ≡ length xs
words_counted input k [] = refl
words_counted input k (x ∷ xs) = ap suc (words_counted input (k + 1) xs)
