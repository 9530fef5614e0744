-- Turns that do what is left.
use Rattle.std.proofs.Common.{◌≡◌, ℕ, ◌+◌, ◌-◌, ◌%◌, ◌<◌, Bool, true, false, cond, List, [], ◌∷◌, ◌++◌, length, get_or, Option, Some, None, refl, sym, ◌∙◌, ap, subst, arith, length-append, append_assoc, below_more}
use Rattle.std.specs.Prelude.{IsSomeAnd, nat_eq}
use Rattle.std.proofs.lemmas.List.{append-nil}
use Rattle.std.proofs.lemmas.Option.{same_Some, slice_get_past}
use Rattle.spec_machine.specs.declared.event.Action.{Action}
use Rattle.spec_machine.specs.declared.event.Event.{Event}
use Rattle.spec_machine.specs.declared.event.Event.TheVariants.{Cpu, Tick, Act}
use Rattle.spec_machine.specs.Events.{steps_of}
use Rattle.spec_machine.specs.Project.{Project}
use Rattle.spec_text.specs.Scripts.{Script}
use Rattle.spec_schedule.specs.Partial.{Made, made_by}
use Rattle.spec_lanes.specs.Turns.{lane_of, done_by, ticks_of, next_of, due_action, paced_step, most_events}
use Rattle.spec_lanes.specs.Laws.{with_one_more}
use Rattle.spec_lanes.proofs.LaneLists.{did_long}
use Rattle.spec_lanes.proofs.Appended.{made_on}
use Rattle.spec_lanes.proofs.Serving.{none_past, counts_tell, few_events_serve, all_is_complete}
use Rattle.lgx_lanes.specs.declared.turn.Turn.{Turn}
use Rattle.lgx_lanes.specs.declared.turn.Turn.TheVariants.{Did, Helped, Done, Memory}
use Rattle.lgx_shared.specs.RecorderView.{RecorderView}
use Rattle.lgx_shared.specs.ScriptRun.{ScriptRunView, as_recorder}
use Rattle.lgx_shared.specs.Follows.{journal_of, Follows, IsRecorder, HasSpent, HasCompleted, GoesOn}
use Rattle.lgx_shared.specs.Serves.{Makes, Serves}
use Rattle.lgx_shared.proofs.Numbers.{longer, fewer_left, past_still, all_of_them, below_still}
use Rattle.lgx_shared.proofs.Whole.{whole_counts}

-- ---- what goes on

pub goes_nowhere : (v : RecorderView) → GoesOn v v
goes_nowhere v = record { script = refl; ran = refl; rest = []; journal = sym (append-nil (journal_of v)) }

pub goes_further : (u v w : RecorderView) → GoesOn u v → GoesOn v w → GoesOn u w
goes_further u v w a b = record {
  script = b.script ∙ a.script;
  ran = b.ran ∙ a.ran;
  rest = a.rest ++ b.rest;
  journal = b.journal ∙ (ap (λ (es : List Event). es ++ b.rest) a.journal ∙ append_assoc (journal_of u) a.rest b.rest);
}

by_events : (old new : RecorderView) (events : List Event) (counts : List ℕ) → Makes old new events counts → GoesOn old new
by_events old new events counts m = record { script = m.script; ran = m.ran; rest = events; journal = m.journal }

by_action : (old new : RecorderView) (lane : ℕ) (o : Option Action) (counts : List ℕ) → IsSomeAnd o (λ action. Makes old new (Act lane action ∷ []) counts) → GoesOn old new
by_action old new lane None counts m = absurd m
by_action old new lane (Some a) counts m = by_events old new (Act lane a ∷ []) counts m

pub served_on : (project : Project) (script : Script) (lane : ℕ) (old : RecorderView) (turn : Turn) (new : RecorderView) → Serves project script lane old turn new → GoesOn old new
served_on project script lane old Did new s = by_action old new lane (due_action project script (journal_of old) lane) (with_one_more old.counts lane) s
served_on project script lane old Helped new s = by_events old new (paced_step script.pace (steps_of (journal_of old) + 1)) old.counts s.2
served_on project script lane old Done new s = subst (GoesOn old) (sym s.3) (goes_nowhere old)
served_on project script lane old Memory new s = subst (GoesOn old) (sym s.1) (goes_nowhere old)

-- ---- how long it takes

-- the events that are still to come at most
abbrev pub to_come : ScriptRunView → ℕ
to_come run = most_events run.script - length (journal_of (as_recorder run))

events_add : (old new : RecorderView) (events : List Event) (counts : List ℕ) → Makes old new events counts → 0 < length events → length (journal_of old) < length (journal_of new)
events_add old new events counts m some =
    longer (length (journal_of old)) (length events) (length (journal_of old ++ events)) (length (journal_of new))
    (ap (λ (es : List Event). length es) m.journal) (length-append (journal_of old) events) some

action_adds : (old new : RecorderView) (lane : ℕ) (o : Option Action) (counts : List ℕ) → IsSomeAnd o (λ action. Makes old new (Act lane action ∷ []) counts) → length (journal_of old) < length (journal_of new)
action_adds old new lane None counts m = absurd m
action_adds old new lane (Some a) counts m = events_add old new (Act lane a ∷ []) counts m (omega arith)

some_step : (pace n : ℕ) → 0 < length (paced_step pace n)
some_step pace n = go (nat_eq (n % pace) 0)
  where
    go : (b : Bool) → 0 < length (cond b (Cpu ∷ Tick ∷ []) (Cpu ∷ []))
    go true = omega arith
    go false = omega arith

-- after a turn that made an event fewer are to come
fewer_to_come : (project : Project) (old new : ScriptRunView) → Follows project old.script (as_recorder new) → length (journal_of (as_recorder old)) < length (journal_of (as_recorder new)) → to_come new < to_come old
fewer_to_come project old new g more =
    fewer_left (most_events old.script) (most_events old.script) (most_events new.script) (length (journal_of (as_recorder old))) (length (journal_of (as_recorder new)))
    refl (ap (λ (s : Script). most_events s) (same_Some new.script old.script g.made)) (few_events_serve project old.script new.counts (journal_of (as_recorder new)) g.served) more

did_adds : (project : Project) (script : Script) (lane : ℕ) (old new : RecorderView) → Serves project script lane old Did new → length (journal_of old) < length (journal_of new)
did_adds project script lane old new s = action_adds old new lane (due_action project script (journal_of old) lane) (with_one_more old.counts lane) s

helped_adds : (project : Project) (script : Script) (lane : ℕ) (old new : RecorderView) → Serves project script lane old Helped new → length (journal_of old) < length (journal_of new)
helped_adds project script lane old new s =
    events_add old new (paced_step script.pace (steps_of (journal_of old) + 1)) old.counts s.2 (some_step script.pace (steps_of (journal_of old) + 1))

-- ---- a lane that is done stays so

pub stays_done : (script : Script) (lane : ℕ) (old new : RecorderView) → GoesOn old new → next_of script (journal_of old) lane ≡ None → next_of script (journal_of new) lane ≡ None
stays_done script lane old new g none =
    let past = none_past (lane_of script lane) (done_by lane (journal_of old)) none in
    let more : done_by lane (journal_of new) ≡ length (made_by lane 0 (journal_of old) ++ made_by lane (0 + ticks_of (journal_of old)) g.rest) =
    ap (done_by lane) g.journal ∙ ap (λ (ms : List Made). length ms) (made_on lane 0 (journal_of old) g.rest) in
    let added = made_by lane (0 + ticks_of (journal_of old)) g.rest in
    slice_get_past (lane_of script lane) (done_by lane (journal_of new))
    (past_still (length (lane_of script lane)) (done_by lane (journal_of old)) (length added) (done_by lane (journal_of new)) past (more ∙ length-append (made_by lane 0 (journal_of old)) added))

-- with every lane done and the steps spent, the journal is complete
pub completes : (project : Project) (script : Script) (v : RecorderView) → Follows project script v → ((i : ℕ) → i < length script.lanes → next_of script (journal_of v) i ≡ None) → HasSpent project script v → HasCompleted project script v
completes project script v f each spent =
    let counts : (i : ℕ) → i < length script.lanes → get_or v.counts i 0 ≡ length (lane_of script i) =
    λ i l. (let tell = counts_tell project script v.counts (journal_of v) i f.served l in
    all_of_them (get_or v.counts i 0) (done_by i (journal_of v)) (length (lane_of script i)) tell.count tell.few (none_past (lane_of script i) (done_by i (journal_of v)) (each i l))) in
    all_is_complete project script v.counts (journal_of v) f.served
    (whole_counts v.counts script.lanes (did_long (journal_of v) v.counts script.lanes f.served.partial.lanes) counts) spent

-- one lane more is done
pub lane_more : (script : Script) (lane : ℕ) (old new : RecorderView) → GoesOn old new → ((i : ℕ) → i < lane → next_of script (journal_of old) i ≡ None) → next_of script (journal_of new) lane ≡ None → (i : ℕ) → i < lane + 1 → next_of script (journal_of new) i ≡ None
lane_more script lane old new g each here = below_more (λ i. next_of script (journal_of new) i ≡ None) lane (λ i lt. stays_done script i old new g (each i lt)) here

-- the last turns, with every lane done before
pub finished : (project : Project) (script : Script) (lanes : ℕ) (old new : RecorderView) → GoesOn old new → Follows project script new → lanes ≡ length script.lanes → ((i : ℕ) → i < lanes → next_of script (journal_of old) i ≡ None) → HasSpent project script new → HasCompleted project script new
finished project script lanes old new g f all each spent =
    completes project script new f (λ i lt. stays_done script i old new g (each i (below_still i lanes (length script.lanes) all lt))) spent

-- ---- whatever it follows

abbrev pub ServesAll : ℕ → ScriptRunView → Turn → ScriptRunView → Type 0
ServesAll lane old turn new = (project : Project) (script : Script) → Follows project script (as_recorder old) → Serves project script lane (as_recorder old) turn (as_recorder new)

abbrev pub FollowsAll : ScriptRunView → ScriptRunView → Type 0
FollowsAll old new = (project : Project) (script : Script) → Follows project script (as_recorder old) → Follows project script (as_recorder new)

module _ (lane : ℕ) (old : ScriptRunView) where
  pub any_served_on : (turn : Turn) (new : ScriptRunView) → IsRecorder (as_recorder old) → ServesAll lane old turn new → GoesOn (as_recorder old) (as_recorder new)
  any_served_on turn new i s = served_on i.project old.script lane (as_recorder old) turn (as_recorder new) (s i.project old.script i.follows)

  pub did_fewer : (new : ScriptRunView) → IsRecorder (as_recorder old) → ServesAll lane old Did new → FollowsAll old new → to_come new < to_come old
  did_fewer new i s g =
      fewer_to_come i.project old new (g i.project old.script i.follows)
      (did_adds i.project old.script lane (as_recorder old) (as_recorder new) (s i.project old.script i.follows))

  pub helped_fewer : (new : ScriptRunView) → IsRecorder (as_recorder old) → ServesAll lane old Helped new → FollowsAll old new → to_come new < to_come old
  helped_fewer new i s g =
      fewer_to_come i.project old new (g i.project old.script i.follows)
      (helped_adds i.project old.script lane (as_recorder old) (as_recorder new) (s i.project old.script i.follows))

-- at `Done` the lane has none left and the steps are spent
pub done_is : (project : Project) (script : Script) (lane : ℕ) (old new : RecorderView) → Serves project script lane old Done new → HasSpent project script new × (next_of script (journal_of new) lane ≡ None)
done_is project script lane old new s =
    subst (λ (v : RecorderView). HasSpent project script v × (next_of script (journal_of v) lane ≡ None)) (sym s.3) (s.1, s.2)
