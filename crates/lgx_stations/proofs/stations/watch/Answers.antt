use Rattle.std.proofs.Common.{◌≡◌, ℕ, ◌+◌, None, sym, ap, ◌∙◌, subst, ◌⊎◌, inl, inr, arith}
use Rattle.lgx_lanes.proofs.Seeing.{asked_on}
use Rattle.lgx_stations.specs.Telling.{IsFirstOf}
use Rattle.lgx_stations.proofs.Asked.{kept_of}
use Rattle.lgx_stations.proofs.stations.watch.Goals as goal

pub loop-index-preserved : goal.loop-index-preserved
loop-index-preserved g c =
    let Asked : ℕ → Type 0 = λ n. g.G.Gate.asked c.args.gate.now c.args.watcher.now.lane n in
    let story = g.S.Story.story in
    let i = c.loop-index.index in
    let w = c.loop-index.watcher in
    let here : Asked i = subst (λ k. g.G.Gate.asked c.args.gate.now k i) (c.lane.ensures ∙ c.loop-index.invariant.0) c.before-in-loop-index.ensures in
    let before : (w.first ≡ None) ⊎ IsFirstOf story w.first = elim c.loop-index.invariant.3 [ inl new ↦ inl new.1 | inr kept ↦ inr kept ] in (
      c.read.ensures.lane ∙ c.loop-index.invariant.0,
      c.read.ensures.reads ∙ ap (λ k. k + 1) c.loop-index.invariant.1,
      (λ n less. asked_on Asked 0 i (i + 1) (λ m from below. c.loop-index.invariant.2 m below) here (omega arith) n (omega arith) less),
      inr (subst (IsFirstOf story) (sym c.read.ensures.first) (kept_of story w.first _ before c.read.ensures.told)),
    )

pub returns-clause-read : goal.returns-clause-read
returns-clause-read g c = (
  omega (arith, c.loop-index.invariant.1),
  elim c.loop-index.invariant.3 [ inl new ↦ absurd (let none = new.0 in omega (arith, none)) | inr kept ↦ kept ],
)

pub returns-clause-asked : goal.returns-clause-asked
returns-clause-asked g c = λ n less. c.loop-index.invariant.2 n (omega (arith, less))
