-- One step of a plan.
use Rattle.std.proofs.Common.{◌≡◌, ◌⊎◌, ◌<◌, ◌≤◌, inl, inr, arith, ℕ, List, [], ◌++◌, length, Option, Some, None, Result, Ok, Err, IfSome, refl, sym, ◌∙◌, append-nil, subst}
use Rattle.std.specs.Io.KnownBytes.{Appends}
use Rattle.spec_base.specs.declared.limits.TheConstants.{MAX_FILE_BYTES}
use Rattle.lgx_io.specs.declared.files.FileFault.{FileFault}
use Rattle.lgx_io.specs.declared.files.FileFault.TheVariants as file
use Rattle.lgx_io.specs.declared.sink.SinkFault.{SinkFault}
use Rattle.lgx_io.specs.declared.sink.SinkFault.TheVariants.{Failed, Memory}
use Rattle.lgx_io.specs.Files.{added, IsCause}
use Rattle.lgx_io.specs.Sink.{AppendsPart}
use Rattle.lgx_answer.specs.declared.status.Verdict.{Verdict}
use Rattle.lgx_answer.specs.Endings.{Ending}
use Rattle.lgx_answer.specs.Endings as ending
use Rattle.lgx_answer.specs.Endings.{after_puts, after_read}
use Rattle.lgx_answer.specs.Plan.{Texts, Plan, Say, Read, OneOf, Says, only}
use Rattle.lgx_answer.specs.Puts.{Puts}
use Rattle.lgx_answer.specs.Answered.{Change, Told, Failures, Call, call_with, Came, AddsPartOf, Writes, Misses, Answered, LeadsTo}

-- a text that was put is written
written : (told : Told) (failures : Change Failures) (held : Change (Option (List ℕ))) (faults : Change ℕ) (done : Result (Unit {0}) SinkFault) (verdict : Verdict) (texts : Texts) (text : List ℕ)
    → texts text → Puts held faults text done
    → Writes verdict texts (call_with told failures held faults (after_puts done verdict))
written told failures held faults (Ok x) verdict texts text is puts =
    (refl, (text, is, puts.whole), puts.unfailed (λ e. absurd (cc e)))
written told failures held faults (Err Failed) verdict texts text is puts =
    ((text, is, puts.part), puts.failed refl)
written told failures held faults (Err Memory) verdict texts text is puts =
    (inl (text, is, puts.part), puts.unfailed (λ e. absurd (cc e)))

-- one text of these is written
widened : (verdict : Verdict) (texts : Texts) (text : List ℕ) (told : Told) (failures : Change Failures) (held : Change (Option (List ℕ))) (faults : Change ℕ) (answer : Ending)
    → texts text → Writes verdict (only text) (call_with told failures held faults answer) → Writes verdict texts (call_with told failures held faults answer)
widened verdict texts text told failures held faults (ending.Said said) is w =
    (w.0, (text, is, subst (λ t. Appends held.old held.new t) w.1.1 w.1.2), w.2)
widened verdict texts text told failures held faults ending.ReadFault is w = absurd w
widened verdict texts text told failures held faults ending.WriteFault is w =
    ((text, is, subst (λ t. AppendsPart held.old held.new t) w.0.1 w.0.2), w.1)
widened verdict texts text told failures held faults ending.Memory is w = (widened_part w.0, w.1)
  where
    widened_part : AddsPartOf held (only text) ⊎ (held.new ≡ held.old) → AddsPartOf held texts ⊎ (held.new ≡ held.old)
    widened_part (inl p) = inl (text, is, subst (λ t. AppendsPart held.old held.new t) p.1 p.2)
    widened_part (inr same) = inr same
widened verdict texts text told failures held faults ending.TooLong is w = absurd w

-- and what the plan says is answered
pub says_answered : (plan : Plan) (told : Told) (failures : Change Failures) (held : Change (Option (List ℕ))) (faults : Change ℕ) (done : Result (Unit {0}) SinkFault) (verdict : Verdict) (text : List ℕ)
    → Says plan verdict text → failures.new ≡ failures.old → Puts held faults text done
    → Answered plan (call_with told failures held faults (after_puts done verdict))
says_answered (Say verdict texts) told failures held faults done said text says same puts =
    let P : Verdict → Type 0 = λ v. Writes v texts (call_with told failures held faults (after_puts done said)) in
    (subst P says.0 (written told failures held faults done said texts text says.1 puts), same)
says_answered (Read name next) told failures held faults done said text says same puts = absurd says
says_answered (OneOf A plans) told failures held faults done said text (x, says) same puts =
    inr (x, says_answered (plans x) told failures held faults done said text says same puts)

-- what a verdict's text is, is put, and the call ends so
pub says_put : (told : Told) (failures : Change Failures) (held : Change (Option (List ℕ))) (faults : Change ℕ) (done : Result (Unit {0}) SinkFault) (verdict : Verdict) (text : List ℕ) (answer : Ending)
    → failures.new ≡ failures.old → Puts held faults text done → answer ≡ after_puts done verdict
    → Answered (Say verdict (only text)) (call_with told failures held faults answer)
says_put told failures held faults done verdict text answer same puts is =
    let P : Ending → Type 0 = λ e. Answered (Say verdict (only text)) (call_with told failures held faults e) in
    subst P (sym is) (says_answered (Say verdict (only text)) told failures held faults done verdict text (refl, refl) same puts)

-- what is answered with a text that a plan says is an answer to the plan
pub says_leads : (plan : Plan) (verdict : Verdict) (text : List ℕ) (call : Call)
    → Says plan verdict text → Answered (Say verdict (only text)) call → Answered plan call
says_leads (Say wanted texts) verdict text call says a =
    let P : Verdict → Type 0 = λ v. Writes v texts call in
    (subst P says.0 (widened verdict texts text call.told call.failures call.held call.faults call.answer says.1 a.0), a.1)
says_leads (Read name next) verdict text call says a = absurd says
says_leads (OneOf A plans) verdict text call (x, says) a = inr (x, says_leads (plans x) verdict text call says a)

-- memory ran out before anything was read or written
pub stopped : (plan : Plan) (told : Told) (failures : Change Failures) (held : Change (Option (List ℕ))) (faults : Change ℕ)
    → failures.new ≡ failures.old → held.new ≡ held.old → faults.new ≡ faults.old
    → Answered plan (call_with told failures held faults ending.Memory)
stopped (Say verdict texts) told failures held faults f h w = ((inr h, w), f)
stopped (Read name next) told failures held faults f h w = inl (f, record { held = h; faults = w })
stopped (OneOf A plans) told failures held faults f h w =
    inl (record { answer = refl; failures = f; silent = record { held = h; faults = w } })

too_long : (t : Option (List ℕ)) (taken : ℕ) → IsCause t (file.TooLong taken) → IfSome t (λ contents. MAX_FILE_BYTES < length contents)
too_long None taken w = tt
too_long (Some contents) taken w = omega (arith, w.0, w.1)

-- a file that didn't come
pub missed : (told : Told) (name : List ℕ) (fault : FileFault) (failures : Change Failures) (held : Change (Option (List ℕ))) (faults : Change ℕ)
    → IsCause (told name) fault → failures.new ≡ failures.old ++ added name (Err fault)
    → Misses name (call_with told failures held faults (after_read fault))
missed told name file.Failed failures held faults why gains = gains
missed told name (file.TooLong taken) failures held faults why gains = (gains, too_long (told name) taken why)
missed told name file.Memory failures held faults why gains = gains ∙ append-nil failures.old

-- files that tell the same pointwise
pub answered_told : (plan : Plan) (told now : Told) (failures : Change Failures) (held : Change (Option (List ℕ))) (faults : Change ℕ) (answer : Ending)
    → ((name : List ℕ) → now name ≡ told name)
    → Answered plan (call_with now failures held faults answer)
    → Answered plan (call_with told failures held faults answer)
answered_told (Say verdict texts) told now failures held faults answer same a = a
answered_told (Read name next) told now failures held faults answer same (inl (misses, silent)) =
    inl (misses_told answer misses, record { held = silent.held; faults = silent.faults })
  where
    misses_told : (s : Ending) → Misses name (call_with now failures held faults s) → Misses name (call_with told failures held faults s)
    misses_told (ending.Said said) m = absurd m
    misses_told ending.ReadFault m = m
    misses_told ending.WriteFault m = absurd m
    misses_told ending.Memory m = m
    misses_told ending.TooLong m =
        let P : Option (List ℕ) → Type 0 = λ t. IfSome t (λ contents. MAX_FILE_BYTES < length contents) in
        (m.0, subst P (same name) m.1)
answered_told (Read name next) told now failures held faults answer same (inr (bytes, came, more)) =
    let P : Option (List ℕ) → Type 0 = λ t. IfSome t (λ contents. bytes ≡ contents) in
    inr (bytes, record { short = came.short; whole = subst P (same name) came.whole }, answered_told (next bytes) told now failures held faults answer same more)
answered_told (OneOf A plans) told now failures held faults answer same (inl out) =
    inl (record { answer = out.answer; failures = out.failures; silent = record { held = out.silent.held; faults = out.silent.faults } })
answered_told (OneOf A plans) told now failures held faults answer same (inr (x, more)) =
    inr (x, answered_told (plans x) told now failures held faults answer same more)

came : (told : Told) (asked name bytes : List ℕ) → asked ≡ name → length bytes ≤ MAX_FILE_BYTES → IfSome (told asked) (λ contents. bytes ≡ contents) → Came told name bytes
came told asked name bytes named short whole =
    let P : List ℕ → Type 0 = λ n. IfSome (told n) (λ contents. bytes ≡ contents) in
    record { short = short; whole = subst P named whole }

-- a file came whole, and its bytes lead to a verdict, whose text is put
pub read_says : (told : Told) (asked name bytes : List ℕ) (next : List ℕ → Plan) (failures : Change Failures) (held : Change (Option (List ℕ))) (faults : Change ℕ) (done : Result (Unit {0}) SinkFault) (verdict : Verdict) (text shown : List ℕ) (answer : Ending)
    → asked ≡ name → length bytes ≤ MAX_FILE_BYTES → IfSome (told asked) (λ contents. bytes ≡ contents) → failures.new ≡ failures.old ++ []
    → Says (next bytes) verdict text → shown ≡ text → Puts held faults shown done → answer ≡ after_puts done verdict
    → Answered (Read name next) (call_with told failures held faults answer)
read_says told asked name bytes next failures held faults done verdict text shown answer named short whole same says is_shown puts is =
    let P : Ending → Type 0 = λ s. Answered (next bytes) (call_with told failures held faults s) in
    let Q : List ℕ → Type 0 = λ l. Puts held faults l done in
    let said = says_answered (next bytes) told failures held faults done verdict text says (same ∙ append-nil failures.old) (subst Q is_shown puts) in
    inr (bytes, came told asked name bytes named short whole, subst P (sym is) said)

-- a file came whole, and its bytes lead to one more file
pub read_on : (told now : Told) (asked name bytes : List ℕ) (next : List ℕ → Plan) (then : Plan) (f0 f1 f2 : Failures) (held : Change (Option (List ℕ))) (faults : Change ℕ) (answer : Ending)
    → asked ≡ name → length bytes ≤ MAX_FILE_BYTES → IfSome (told asked) (λ contents. bytes ≡ contents) → f1 ≡ f0 ++ []
    → ((other : List ℕ) → now other ≡ told other)
    → LeadsTo (next bytes) then → Answered then (call_with now (record { old = f1; new = f2 }) held faults answer)
    → Answered (Read name next) (call_with told (record { old = f0; new = f2 }) held faults answer)
read_on told now asked name bytes next then f0 f1 f2 held faults answer named short whole same tells leads more =
    let P : Failures → Type 0 = λ f. Answered (next bytes) (call_with told (record { old = f; new = f2 }) held faults answer) in
    let here = answered_told (next bytes) told now (record { old = f1; new = f2 }) held faults answer tells (leads _ more) in
    inr (bytes, came told asked name bytes named short whole, subst P (same ∙ append-nil f0) here)
