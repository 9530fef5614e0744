-- An open CPS, and the mode, by what is kept.
use Rattle.std.proofs.Common.{◌≡◌, ℕ, suc, ◌<◌, Bool, List, [], ◌∷◌, length, Option, refl, ◌∙◌, ap, arith}
use Rattle.std.specs.Prelude.{slice_index_or, ◌||◌}
use Rattle.std.specs.List.{list_any}
use Rattle.spec_machine.specs.declared.reply.Mode.{Mode}
use Rattle.spec_schedule.specs.declared.trace.Verb.{Verb}
use Rattle.spec_schedule.specs.declared.trace.Verb.TheVariants as verb
use Rattle.spec_schedule.specs.declared.trace.TraceAnswer.TheVariants.{Number, No}
use Rattle.spec_schedule.specs.declared.trace.TraceEvent.TheVariants.{Act}
use Rattle.spec_schedule.specs.Counting.{Counted, uncounted}
use Rattle.lgx_audit.specs.declared.counts.Count.{Count}
use Rattle.lgx_audit.specs.Along.{no_count, Shown}
use Rattle.lgx_laws.specs.Modes.{mode_shown, holds}

pub any_same : {A B : Type 0} (f : A → Bool) (g : B → Bool) (xs : List A) (ys : List B) (d : A) (e : B) → length xs ≡ length ys → ((k : ℕ) → k < length xs → f (slice_index_or xs k d) ≡ g (slice_index_or ys k e)) → list_any f xs ≡ list_any g ys
any_same f g [] [] d e many h = refl
any_same f g [] (y ∷ ys) d e many h = absurd (omega arith)
any_same f g (x ∷ xs) [] d e many h = absurd (omega arith)
any_same f g (x ∷ xs) (y ∷ ys) d e many h =
    ap (λ b. b || list_any f xs) (h 0 (omega arith)) ∙ ap (λ b. g y || b) (any_same f g xs ys d e (omega arith) (λ k l. h (suc k) (omega arith)))

pub holds_shown : (counts : List Count) (cs : List Counted) → Shown counts cs → list_any (λ (c : Count). c.cps_open) counts ≡ holds cs
holds_shown counts cs shown =
    any_same (λ (c : Count). c.cps_open) (λ (c : Counted). c.cps_open) counts cs no_count uncounted shown.many (λ t l. ap (λ (c : Count). c.cps_open) (shown.each t (let m = shown.many in omega arith)))

-- an action that isn't done leads to no other mode
pub same_refused : (v : Verb) (lane mask : ℕ) (g : Option ℕ) (m : Mode) → m ≡ mode_shown (Act lane v g No mask) m
same_refused verb.Accept lane mask g m = refl
same_refused verb.Test lane mask g m = refl
same_refused verb.Untest lane mask g m = refl
same_refused verb.Assemble lane mask g m = refl
same_refused verb.Cancel lane mask g m = refl
same_refused verb.Run lane mask g m = refl
same_refused verb.Program lane mask g m = refl
same_refused verb.Clear lane mask g m = refl
same_refused verb.Other lane mask g m = refl

pub same_numbered : (v : Verb) (n lane mask : ℕ) (g : Option ℕ) (m : Mode) → m ≡ mode_shown (Act lane v g (Number n) mask) m
same_numbered verb.Accept n lane mask g m = refl
same_numbered verb.Test n lane mask g m = refl
same_numbered verb.Untest n lane mask g m = refl
same_numbered verb.Assemble n lane mask g m = refl
same_numbered verb.Cancel n lane mask g m = refl
same_numbered verb.Run n lane mask g m = refl
same_numbered verb.Program n lane mask g m = refl
same_numbered verb.Clear n lane mask g m = refl
same_numbered verb.Other n lane mask g m = refl
