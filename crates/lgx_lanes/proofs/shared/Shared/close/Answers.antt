-- With an end in every pass, each lane is whole.
use Rattle.std.proofs.Common.{◌≡◌, ℕ, ◌+◌, ◌<◌, [], length, get_or, ◌∙◌, ap, arith, rules}
use Rattle.std.specs.Prelude.{vec_len}
use Rattle.spec_lanes.specs.Turns.{lane_of}
use Rattle.spec_lanes.proofs.Serving.{all_is_complete}
use Rattle.lgx_lanes.proofs.Whole.{whole_passes, some_end, all_end}
use Rattle.lgx_lanes.proofs.shared.Shared.close.Goals as goal

pub returns-clause-spent : goal.returns-clause-spent
returns-clause-spent g c = λ i d lt e.
    let ps = c.args.passes.items in
    let len : length ps ≡ vec_len c.args.passes = search rules in
    c.close.ensures.spent (some_end (λ (p : _). p.ends) ps i d (omega (arith, len, lt)) e)

pub returns-clause-complete : goal.returns-clause-complete
returns-clause-complete g c = λ all.
    let p = g.R.Recorded.progress c.close.result in
    let ps = c.args.passes.items in
    let len : length ps ≡ vec_len c.args.passes = search rules in
    let fits : length ps ≡ length g.I.Input.script.lanes + 1 = omega (arith, len, c.requires.parts.0, c.close.ensures.fits) in
    let each : (i : ℕ) (d : _) → i < length ps → (get_or ps i d).actions ≡ length (get_or g.I.Input.script.lanes i []) =
    λ i d l. (let l' : i < vec_len c.args.passes = omega (arith, len, l) in
    let q = get_or ps i d in
    q.whole (all i d l') ∙ (q.length_is ∙ ap (λ j. length (lane_of g.I.Input.script j)) (c.requires.lanes i d l'))) in
    let sum = whole_passes (λ (q : _). q.actions) ps g.I.Input.script.lanes fits each in
    let ended = all_end (λ (q : _). q.ends) ps (omega (arith, fits)) (λ i d l. all i d (omega (arith, len, l))) in
    all_is_complete g.I.Input.project g.I.Input.script p.counts p.events c.close.ensures.under_way
    (c.close.ensures.actions ∙ sum)
    (c.close.ensures.spent ended)
