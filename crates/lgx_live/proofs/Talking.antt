-- A session, line by line, up to its end.
use Rattle.std.proofs.Common.{◌≡◌, ℕ, List, [], ◌∷◌, ◌++◌, Bool, true, false, ◌||◌, Option, Some, None, IfSome, Result, Ok, Err, OnOk, inl, inr, refl, sym, ap, ◌∙◌, subst, append_assoc, append-nil, true≢false}
use Rattle.std.specs.List.{list_any}
use Rattle.std.specs.Io.KnownBytes.{Appends}
use Rattle.std.proofs.KnownBytes.{Appends-nil, Appends-trans}
use Rattle.std.proofs.lemmas.List.Folds.{list_any-append}
use Rattle.lgx_io.specs.declared.sink.SinkFault.{SinkFault}
use Rattle.lgx_io.specs.declared.sink.SinkFault.TheVariants as sink
use Rattle.lgx_io.specs.Sink.{FaultsRose, AppendsPart}
use Rattle.lgx_answer.specs.declared.status.Verdict.TheVariants as verdict
use Rattle.lgx_answer.specs.Endings.{Ending, after_puts}
use Rattle.lgx_answer.specs.Endings as ending
use Rattle.lgx_answer.proofs.Written.{written_part, written_so_far}
use Rattle.spec_machine.specs.Project.{Project}
use Rattle.lgx_live.specs.declared.console.AskFault.{AskFault}
use Rattle.lgx_live.specs.declared.console.AskFault.TheVariants as ask
use Rattle.lgx_live.specs.Session.{Point, no_line_yet, after, after_all, is_last}
use Rattle.lgx_live.specs.Output.{answer_text, answers_text, last_line}
use Rattle.lgx_live.specs.Console.{ConsoleSeen, Gives, AddsAsks, Asks, Says}
use Rattle.lgx_live.specs.Talks.{asks_before, asks_through, IsOver, IsCutOff, Talks, IsUnderWay}
use Rattle.lgx_live.proofs.Saying.{done}
use Rattle.lgx_live.proofs.Points.{answers_first, answers_more}

-- ---- lines that came

gives_more : (a b c : Option (List (List ℕ))) (ls : List (List ℕ)) (l : List ℕ) → Gives a b ls → Gives b c (l ∷ []) → Gives a c (ls ++ l ∷ [])
gives_more None b c ls l h k = tt
gives_more (Some xs) None c ls l h k = absurd h
gives_more (Some xs) (Some ys) None ls l h k = absurd k
gives_more (Some xs) (Some ys) (Some zs) ls l h k = h ∙ ap (λ (t : List (List ℕ)). ls ++ t) k ∙ sym (append_assoc ls (l ∷ []) zs)

pub gives_none : (a : Option (List (List ℕ))) → Gives a a []
gives_none None = tt
gives_none (Some xs) = refl

or_false : (a b : Bool) → a ≡ false → b ≡ false → (a || b) ≡ false
or_false true b h k = absurd (true≢false h)
or_false false b h k = k

none_more : (ls : List (List ℕ)) (l : List ℕ) → list_any is_last ls ≡ false → is_last l ≡ false → list_any is_last (ls ++ l ∷ []) ≡ false
none_more ls l h k = list_any-append is_last ls (l ∷ []) ∙ or_false (list_any is_last ls) (list_any is_last (l ∷ [])) h (or_false (is_last l) false k refl)

pub over_ended : (b : Option (List (List ℕ))) → IfSome b (λ ls. ls ≡ []) → IsOver b
over_ended None h = tt
over_ended (Some []) h = tt
over_ended (Some (l ∷ ls)) h = absurd (cc h)

pub over_last : (b c : Option (List (List ℕ))) (l : List ℕ) → Gives b c (l ∷ []) → is_last l ≡ true → IsOver b
over_last None c l h k = tt
over_last (Some xs) None l h k = absurd h
over_last (Some xs) (Some ys) l h k =
    let P : List (List ℕ) → Type 0 = λ t. IsOver (Some t) in
    subst P (sym h) k

-- ---- what was put when a line was asked for

asks_more : (project : Project) (at : Point) (ls : List (List ℕ)) (l put : List ℕ) → asks_before project at (ls ++ l ∷ []) put ≡ asks_before project at ls put ++ (put ++ answers_text project at ls) ∷ []
asks_more project at [] l put = ap (λ t. t ∷ []) (sym (append-nil put))
asks_more project at (x ∷ xs) l put =
    let here = answer_text project at x in
    let later = answers_text project (after at x) xs in
    ap (λ (t : List (List ℕ)). put ∷ t) (asks_more project (after at x) xs l (put ++ here))
    ∙ ap (λ t. put ∷ (asks_before project (after at x) xs (put ++ here) ++ t ∷ [])) (append_assoc put here later ∙ ap (λ t. put ++ t) (sym (answers_first project at x xs)))

asked_once : (a b c : Option (List (List ℕ))) (h k : Option (List ℕ)) (asks : List ℕ → List (List ℕ)) (text : List ℕ) → AddsAsks a b h asks → Appends h k text → AddsAsks b c k (λ put. put ∷ [])
    → AddsAsks a c h (λ put. asks put ++ (put ++ text) ∷ [])
asked_once None b c h k asks text x y z = tt
asked_once (Some p) b c None k asks text x y z = tt
asked_once (Some p) b c (Some w) None asks text x y z = absurd y
asked_once (Some p) b c (Some w) (Some v) asks text x y z =
    let P : Option (List (List ℕ)) → Type 0 = λ o. AddsAsks o c (Some v) (λ put. put ∷ []) in
    let z2 : c ≡ Some ((p ++ asks w) ++ v ∷ []) = subst P x z in
    z2 ∙ ap (λ (l : List (List ℕ)). Some l) (append_assoc p (asks w) (v ∷ []) ∙ ap (λ q. p ++ (asks w ++ q ∷ [])) y)

asks_are : (a c : Option (List (List ℕ))) (h : Option (List ℕ)) (s t : List ℕ → List (List ℕ)) → ((put : List ℕ) → s put ≡ t put) → AddsAsks a c h s → AddsAsks a c h t
asks_are None c h s t e x = tt
asks_are (Some p) c None s t e x = tt
asks_are (Some p) c (Some w) s t e x = x ∙ ap (λ (l : List (List ℕ)). Some (p ++ l)) (e w)

pub no_asks : (a : Option (List (List ℕ))) (h : Option (List ℕ)) → AddsAsks a a h (λ put. [])
no_asks None h = tt
no_asks (Some p) None = tt
no_asks (Some p) (Some w) = ap (λ (l : List (List ℕ)). Some l) (sym (append-nil p))

-- the asks with the one that was just made
through : (project : Project) (a b c : ConsoleSeen) (lines : List (List ℕ)) (line : List ℕ) (r : Result Bool AskFault) → IsUnderWay project a b lines → Asks b c line r → AddsAsks a.asked c.asked a.held (asks_through project lines)
through project a b c lines line r u k = asked_once a.asked b.asked c.asked a.held b.held (asks_before project no_line_yet lines) (answers_text project no_line_yet lines) u.asked u.held k.asked

-- ---- an output that was cut off

part_of : (a b : Option (List ℕ)) (xs : List ℕ) → Appends a b xs → AppendsPart a b xs
part_of a b xs h = written_so_far a b xs [] (xs, sym (append-nil xs), h)

part_then : (a b c : Option (List ℕ)) (xs ys : List ℕ) → Appends a b xs → AppendsPart b c ys → AppendsPart a c (xs ++ ys)
part_then a b c xs ys h k = written_part a b c (xs ++ ys) ys ys [] (xs, refl, h) (sym (append-nil ys)) k

-- ---- a session that was cut off by a put

pub cut_talk : (fault : SinkFault) (project : Project) (a c d : ConsoleSeen) (lines : List (List ℕ)) (rest : Option (List (List ℕ))) (text : List ℕ) → Gives a.lines rest lines → list_any is_last lines ≡ false → IsCutOff project a d lines rest
    → c.faults ≡ a.faults → Says c d text (Err fault) → Talks project a d (after_puts (Err fault) verdict.Ok)
cut_talk sink.Failed project a c d lines rest text came none cut same says = record {
  lines = lines;
  rest = rest;
  came = came;
  no_end = none;
  ends =
      let P : ℕ → Type 0 = λ n. FaultsRose n d.faults in
      (cut, subst P same (says.puts.failed refl));
}
cut_talk sink.Memory project a c d lines rest text came none cut same says = record {
  lines = lines;
  rest = rest;
  came = came;
  no_end = none;
  ends = (cut, says.puts.unfailed (λ e. absurd (cc e)) ∙ same);
}

-- ---- what may come after an ask

-- the end line
pub talk_ends : (r : Result (Unit {0}) SinkFault) (project : Project) (a b c d : ConsoleSeen) (lines : List (List ℕ)) (line : List ℕ) (more : Bool)
    → IsUnderWay project a b lines → Asks b c line (Ok more) → IsOver b.lines → Says c d (last_line project (after_all no_line_yet lines).events) r → OnOk r (d.waiting ≡ []) → Talks project a d (after_puts r verdict.Ok)
talk_ends (Ok tt) project a b c d lines line more u k over says written = record {
  lines = lines;
  rest = b.lines;
  came = u.came;
  no_end = u.no_end;
  ends = record {
    over = over;
    asked =
        let P : Option (List (List ℕ)) → Type 0 = λ o. AddsAsks a.asked o a.held (asks_through project lines) in
        subst P (sym says.input.asked) (through project a b c lines line (Ok more) u k);
    held =
        let P : Option (List ℕ) → Type 0 = λ o. Appends o d.held (last_line project (after_all no_line_yet lines).events) in
        Appends-trans a.held b.held d.held (answers_text project no_line_yet lines) (last_line project (after_all no_line_yet lines).events) u.held (subst P k.output.held says.puts.whole);
    waiting = written;
    faults = says.puts.unfailed (λ e. absurd (cc e)) ∙ k.output.faults ∙ u.faults;
    misses = says.input.misses ∙ k.unfailed (λ e. absurd (cc e)) ∙ u.misses;
  };
}
talk_ends (Err fault) project a b c d lines line more u k over says written =
    let last = last_line project (after_all no_line_yet lines).events in
    cut_talk fault project a c d lines b.lines last u.came u.no_end (record {
      asked =
          let P : Option (List (List ℕ)) → Type 0 = λ o. AddsAsks a.asked o a.held (asks_through project lines) in
          inr (subst P (sym says.input.asked) (through project a b c lines line (Ok more) u k));
      held =
          let P : Option (List ℕ) → Type 0 = λ o. AppendsPart o d.held last in
          inr (over, part_then a.held b.held d.held (answers_text project no_line_yet lines) last u.held (subst P k.output.held says.puts.part));
      misses = says.input.misses ∙ k.unfailed (λ e. absurd (cc e)) ∙ u.misses;
    }) (k.output.faults ∙ u.faults) says

-- a failed read
pub talk_misses : (project : Project) (a b c : ConsoleSeen) (lines : List (List ℕ)) (line : List ℕ) → IsUnderWay project a b lines → Asks b c line (Err ask.Failed) → Talks project a c ending.ReadFault
talk_misses project a b c lines line u k = record {
  lines = lines;
  rest = b.lines;
  came = u.came;
  no_end = u.no_end;
  ends = record {
    asked = through project a b c lines line (Err ask.Failed) u k;
    held =
        let P : Option (List ℕ) → Type 0 = λ o. Appends a.held o (answers_text project no_line_yet lines) in
        subst P (sym k.output.held) u.held;
    waiting = k.output.waiting ∙ u.waiting;
    faults = k.output.faults ∙ u.faults;
    misses =
        let P : ℕ → Type 0 = λ n. FaultsRose n c.misses in
        subst P u.misses (k.failed refl);
  };
}

-- no memory for the line
pub talk_lacks : (project : Project) (a b c : ConsoleSeen) (lines : List (List ℕ)) (line : List ℕ) → IsUnderWay project a b lines → Asks b c line (Err ask.Memory) → Talks project a c ending.Memory
talk_lacks project a b c lines line u k = record {
  lines = lines;
  rest = b.lines;
  came = u.came;
  no_end = u.no_end;
  ends = (
    record {
      asked = inr (through project a b c lines line (Err ask.Memory) u k);
      held =
          let P : Option (List ℕ) → Type 0 = λ o. AppendsPart a.held o (answers_text project no_line_yet lines) in
          inl (subst P (sym k.output.held) (part_of a.held b.held (answers_text project no_line_yet lines) u.held));
      misses = k.unfailed (λ e. absurd (cc e)) ∙ u.misses;
    },
    k.output.faults ∙ u.faults,
  );
}

-- memory runs out between lines
pub talk_stops : (project : Project) (a b : ConsoleSeen) (lines : List (List ℕ)) → IsUnderWay project a b lines → Talks project a b ending.Memory
talk_stops project a b lines u = record {
  lines = lines;
  rest = b.lines;
  came = u.came;
  no_end = u.no_end;
  ends = (
    record {
      asked = inl u.asked;
      held = inl (part_of a.held b.held (answers_text project no_line_yet lines) u.held);
      misses = u.misses;
    },
    u.faults,
  );
}

-- the asks before one line more
before_more : (project : Project) (a b c : ConsoleSeen) (lines : List (List ℕ)) (line : List ℕ) (r : Result Bool AskFault) → IsUnderWay project a b lines → Asks b c line r → AddsAsks a.asked c.asked a.held (asks_before project no_line_yet (lines ++ line ∷ []))
before_more project a b c lines line r u k =
    asks_are a.asked c.asked a.held (asks_through project lines) (asks_before project no_line_yet (lines ++ line ∷ [])) (λ put. sym (asks_more project no_line_yet lines line put)) (through project a b c lines line r u k)

-- an answer that is cut off
pub talk_cut : (fault : SinkFault) (project : Project) (a b c d : ConsoleSeen) (lines : List (List ℕ)) (line : List ℕ) → IsUnderWay project a b lines → Asks b c line (Ok true) → is_last line ≡ false
    → Says c d (answer_text project (after_all no_line_yet lines) line) (Err fault) → Talks project a d (after_puts (Err fault) verdict.Ok)
talk_cut fault project a b c d lines line u k last says =
    let all = lines ++ line ∷ [] in
    let before = answers_text project no_line_yet lines in
    let here = answer_text project (after_all no_line_yet lines) line in
    cut_talk fault project a c d all c.lines here (gives_more a.lines b.lines c.lines lines line u.came (k.came refl)) (none_more lines line u.no_end last) (record {
      asked =
          let P : Option (List (List ℕ)) → Type 0 = λ o. AddsAsks a.asked o a.held (asks_before project no_line_yet all) in
          inl (subst P (sym says.input.asked) (before_more project a b c lines line (Ok true) u k));
      held =
          let P : Option (List ℕ) → Type 0 = λ o. AppendsPart o d.held here in
          let Q : List ℕ → Type 0 = λ t. AppendsPart a.held d.held t in
          inl (subst Q (sym (answers_more project no_line_yet lines line)) (part_then a.held b.held d.held before here u.held (subst P k.output.held says.puts.part)));
      misses = says.input.misses ∙ k.unfailed (λ e. absurd (cc e)) ∙ u.misses;
    }) (k.output.faults ∙ u.faults) says

-- a line that was answered
pub talk_goes_on : (project : Project) (a b c d : ConsoleSeen) (lines : List (List ℕ)) (line : List ℕ) → IsUnderWay project a b lines → Asks b c line (Ok true) → is_last line ≡ false
    → Says c d (answer_text project (after_all no_line_yet lines) line) done → d.waiting ≡ [] → IsUnderWay project a d (lines ++ line ∷ [])
talk_goes_on project a b c d lines line u k last says written =
    let all = lines ++ line ∷ [] in
    let before = answers_text project no_line_yet lines in
    let here = answer_text project (after_all no_line_yet lines) line in
    record {
      came =
          let P : Option (List (List ℕ)) → Type 0 = λ o. Gives a.lines o all in
          subst P (sym says.input.lines) (gives_more a.lines b.lines c.lines lines line u.came (k.came refl));
      no_end = none_more lines line u.no_end last;
      asked =
          let P : Option (List (List ℕ)) → Type 0 = λ o. AddsAsks a.asked o a.held (asks_before project no_line_yet all) in
          subst P (sym says.input.asked) (before_more project a b c lines line (Ok true) u k);
      held =
          let P : Option (List ℕ) → Type 0 = λ o. Appends o d.held here in
          let Q : List ℕ → Type 0 = λ t. Appends a.held d.held t in
          subst Q (sym (answers_more project no_line_yet lines line)) (Appends-trans a.held b.held d.held before here u.held (subst P k.output.held says.puts.whole));
      waiting = written;
      faults = says.puts.unfailed (λ e. absurd (cc e)) ∙ k.output.faults ∙ u.faults;
      misses = says.input.misses ∙ k.unfailed (λ e. absurd (cc e)) ∙ u.misses;
    }

-- before the first line
pub talk_begins : (project : Project) (a : ConsoleSeen) → a.waiting ≡ [] → IsUnderWay project a a []
talk_begins project a h = record {
  came = gives_none a.lines;
  no_end = refl;
  asked = no_asks a.asked a.held;
  held = Appends-nil a.held;
  waiting = h;
  faults = refl;
  misses = refl;
}
