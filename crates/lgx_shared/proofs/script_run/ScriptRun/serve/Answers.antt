-- The lane's count tells its due action; whatever the turn's answer is, the run follows its script.
use Rattle.std.proofs.Common.{◌≡◌, ℕ, List, get_or, refl, sym, ◌∙◌, ap, subst, rules}
use Rattle.lgx_core.specs.ControllerView.{ControllerView}
use Rattle.lgx_core.specs.Represents.{StandsFor}
use Rattle.lgx_shared.specs.ScriptRun.{ScriptRunView, script_run_view, as_recorder}
use Rattle.lgx_shared.specs.Follows.{Follows}
use Rattle.lgx_shared.specs.Serves.{Serves}
use Rattle.lgx_shared.proofs.TurnsServed.{asks, asks_few, asks_room, act_keeps, act_follows, act_serves, help_keeps, help_follows, help_serves}
use Rattle.lgx_shared.proofs.script_run.ScriptRun.serve.Goals as goal

pub make_action-requires-clause-lane : goal.make_action-requires-clause-lane
make_action-requires-clause-lane c =
    let r = c.self.inside in
    let at_is : c.count_of-done.result ≡ get_or r.counts.items c.args.lane 0 = c.count_of-done.ensures ∙ ap (λ (xs : List ℕ). get_or xs c.args.lane 0) c.as_slice.ensures.value in
    let k = asks (as_recorder (script_run_view r.recording r.script r.counts.items)) r.script refl c.args.lane c.count_of-done.result at_is c.self.invariant c.in-Some.action.now
    (λ p es s t. c.in-Some.ensures p es (subst (λ (x : ControllerView). StandsFor p es x) (sym c.controller.ensures) s) t) in
    let lane = k.lane_in in
    search (rules, lane)

pub make_action-requires-clause-room : goal.make_action-requires-clause-room
make_action-requires-clause-room c =
    let r = c.self.inside in
    let at_is : c.count_of-done.result ≡ get_or r.counts.items c.args.lane 0 = c.count_of-done.ensures ∙ ap (λ (xs : List ℕ). get_or xs c.args.lane 0) c.as_slice.ensures.value in
    (asks (as_recorder (script_run_view r.recording r.script r.counts.items)) r.script refl c.args.lane c.count_of-done.result at_is c.self.invariant c.in-Some.action.now
    (λ p es s t. c.in-Some.ensures p es (subst (λ (x : ControllerView). StandsFor p es x) (sym c.controller.ensures) s) t)).spent

pub make_action-requires-clause-spare : goal.make_action-requires-clause-spare
make_action-requires-clause-spare c =
    let r = c.self.inside in
    let at_is : c.count_of-done.result ≡ get_or r.counts.items c.args.lane 0 = c.count_of-done.ensures ∙ ap (λ (xs : List ℕ). get_or xs c.args.lane 0) c.as_slice.ensures.value in
    (asks (as_recorder (script_run_view r.recording r.script r.counts.items)) r.script refl c.args.lane c.count_of-done.result at_is c.self.invariant c.in-Some.action.now
    (λ p es s t. c.in-Some.ensures p es (subst (λ (x : ControllerView). StandsFor p es x) (sym c.controller.ensures) s) t)).spare

pub make_action-requires-clause-few : goal.make_action-requires-clause-few
make_action-requires-clause-few c =
    let r = c.self.inside in
    let at_is : c.count_of-done.result ≡ get_or r.counts.items c.args.lane 0 = c.count_of-done.ensures ∙ ap (λ (xs : List ℕ). get_or xs c.args.lane 0) c.as_slice.ensures.value in
    (asks (as_recorder (script_run_view r.recording r.script r.counts.items)) r.script refl c.args.lane c.count_of-done.result at_is c.self.invariant c.in-Some.action.now
    (λ p es s t. c.in-Some.ensures p es (subst (λ (x : ControllerView). StandsFor p es x) (sym c.controller.ensures) s) t)).few

pub invariant_of-self : goal.invariant_of-self
invariant_of-self c =
    let r = c.self.inside in
    let at_is : c.count_of-done.result ≡ get_or r.counts.items c.args.lane 0 = c.count_of-done.ensures ∙ ap (λ (xs : List ℕ). get_or xs c.args.lane 0) c.as_slice.ensures.value in
    act_keeps (as_recorder (script_run_view r.recording r.script r.counts.items)) r.script refl c.args.lane c.count_of-done.result at_is c.in-Some.action.now c.make_action.result c.make_action.new.recording c.make_action.new.counts.items
    (λ p es s t. c.in-Some.ensures p es (subst (λ (x : ControllerView). StandsFor p es x) (sym c.controller.ensures) s) t)
    c.make_action.ensures.answer c.make_action.ensures.spare c.self.invariant

pub returns-in-Some-clause-turn : goal.returns-in-Some-clause-turn
returns-in-Some-clause-turn c =
    let r = c.self.inside in
    let at_is : c.count_of-done.result ≡ get_or r.counts.items c.args.lane 0 = c.count_of-done.ensures ∙ ap (λ (xs : List ℕ). get_or xs c.args.lane 0) c.as_slice.ensures.value in
    λ project script f. subst (λ (v : ScriptRunView). Serves project script c.args.lane (as_recorder v) c.make_action.result (as_recorder (script_run_view c.make_action.new.recording r.script c.make_action.new.counts.items))) c.self.view_is
    (act_serves (as_recorder (script_run_view r.recording r.script r.counts.items)) r.script refl c.args.lane c.count_of-done.result at_is c.in-Some.action.now c.make_action.result c.make_action.new.recording c.make_action.new.counts.items
    (λ p es s t. c.in-Some.ensures p es (subst (λ (x : ControllerView). StandsFor p es x) (sym c.controller.ensures) s) t)
    c.make_action.ensures.answer c.make_action.ensures.spare project script (subst (λ (v : ScriptRunView). Follows project script (as_recorder v)) (sym c.self.view_is) f))

pub returns-in-Some-clause-follows : goal.returns-in-Some-clause-follows
returns-in-Some-clause-follows c =
    let r = c.self.inside in
    let at_is : c.count_of-done.result ≡ get_or r.counts.items c.args.lane 0 = c.count_of-done.ensures ∙ ap (λ (xs : List ℕ). get_or xs c.args.lane 0) c.as_slice.ensures.value in
    λ project script f. act_follows (as_recorder (script_run_view r.recording r.script r.counts.items)) r.script refl c.args.lane c.count_of-done.result at_is c.in-Some.action.now c.make_action.result c.make_action.new.recording c.make_action.new.counts.items
    (λ p es s t. c.in-Some.ensures p es (subst (λ (x : ControllerView). StandsFor p es x) (sym c.controller.ensures) s) t)
    c.make_action.ensures.answer c.make_action.ensures.spare project script (subst (λ (v : ScriptRunView). Follows project script (as_recorder v)) (sym c.self.view_is) f)

pub help-requires-clause-room : goal.help-requires-clause-room
help-requires-clause-room c =
    let r = c.self.inside in
    let at_is : c.count_of-done.result ≡ get_or r.counts.items c.args.lane 0 = c.count_of-done.ensures ∙ ap (λ (xs : List ℕ). get_or xs c.args.lane 0) c.as_slice.ensures.value in
    asks_few (as_recorder (script_run_view r.recording r.script r.counts.items)) r.script refl c.args.lane c.count_of-done.result at_is c.self.invariant

pub help-requires-clause-spare : goal.help-requires-clause-spare
help-requires-clause-spare c =
    let r = c.self.inside in
    let at_is : c.count_of-done.result ≡ get_or r.counts.items c.args.lane 0 = c.count_of-done.ensures ∙ ap (λ (xs : List ℕ). get_or xs c.args.lane 0) c.as_slice.ensures.value in
    asks_room (as_recorder (script_run_view r.recording r.script r.counts.items)) r.script refl c.args.lane c.count_of-done.result at_is c.self.invariant

pub invariant_of-self-in-None : goal.invariant_of-self-in-None
invariant_of-self-in-None c =
    let r = c.self.inside in
    let at_is : c.count_of-done.result ≡ get_or r.counts.items c.args.lane 0 = c.count_of-done.ensures ∙ ap (λ (xs : List ℕ). get_or xs c.args.lane 0) c.as_slice.ensures.value in
    help_keeps (as_recorder (script_run_view r.recording r.script r.counts.items)) r.script refl c.args.lane c.count_of-done.result at_is c.help.result c.help.new.recording
    (λ p es s t. c.in-None.ensures p es (subst (λ (x : ControllerView). StandsFor p es x) (sym c.controller.ensures) s) t)
    c.help.ensures.answer c.help.ensures.spare c.self.invariant

pub returns-in-None-clause-turn : goal.returns-in-None-clause-turn
returns-in-None-clause-turn c =
    let r = c.self.inside in
    let at_is : c.count_of-done.result ≡ get_or r.counts.items c.args.lane 0 = c.count_of-done.ensures ∙ ap (λ (xs : List ℕ). get_or xs c.args.lane 0) c.as_slice.ensures.value in
    λ project script f. subst (λ (v : ScriptRunView). Serves project script c.args.lane (as_recorder v) c.help.result (as_recorder (script_run_view c.help.new.recording r.script r.counts.items))) c.self.view_is
    (help_serves (as_recorder (script_run_view r.recording r.script r.counts.items)) r.script refl c.args.lane c.count_of-done.result at_is c.help.result c.help.new.recording
    (λ p es s t. c.in-None.ensures p es (subst (λ (x : ControllerView). StandsFor p es x) (sym c.controller.ensures) s) t)
    c.help.ensures.answer c.help.ensures.spare project script (subst (λ (v : ScriptRunView). Follows project script (as_recorder v)) (sym c.self.view_is) f))

pub returns-in-None-clause-follows : goal.returns-in-None-clause-follows
returns-in-None-clause-follows c =
    let r = c.self.inside in
    let at_is : c.count_of-done.result ≡ get_or r.counts.items c.args.lane 0 = c.count_of-done.ensures ∙ ap (λ (xs : List ℕ). get_or xs c.args.lane 0) c.as_slice.ensures.value in
    λ project script f. help_follows (as_recorder (script_run_view r.recording r.script r.counts.items)) r.script refl c.args.lane c.count_of-done.result at_is c.help.result c.help.new.recording
    (λ p es s t. c.in-None.ensures p es (subst (λ (x : ControllerView). StandsFor p es x) (sym c.controller.ensures) s) t)
    c.help.ensures.answer c.help.ensures.spare project script (subst (λ (v : ScriptRunView). Follows project script (as_recorder v)) (sym c.self.view_is) f)
