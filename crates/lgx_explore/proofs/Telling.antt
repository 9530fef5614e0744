-- What a halt tells.
use Rattle.std.proofs.Common.{◌≡◌, ℕ, ◌+◌, inl, inr, List, [], ◌∷◌, ◌++◌, sym, ◌∙◌, ap, subst, arith}
use Rattle.std.specs.Prelude.{Result, Ok, Err, IfOk, IsTrue}
use Rattle.std.specs.List.{Contains}
use Rattle.std.proofs.lemmas.List.Elements.{Contains-append_left, Contains-push, Contains-push_cases}
use Rattle.spec_machine.specs.declared.event.Event.{Event}
use Rattle.spec_machine.specs.Project.{Project}
use Rattle.spec_machine.specs.ValidProject.{IsValidProject}
use Rattle.spec_text.specs.Scripts.{Script, is_script}
use Rattle.spec_explore.specs.declared.question.Question.{Question}
use Rattle.spec_explore.specs.Questions.{IsNeverBefore}
use Rattle.lgx_explore.specs.declared.node.Stop.{Stop}
use Rattle.lgx_explore.specs.declared.node.Stop.TheVariants as stops
use Rattle.lgx_explore.specs.declared.found.Found.{Found}
use Rattle.lgx_explore.specs.Shown.{IfShown, IsAction}
use Rattle.lgx_explore.specs.declared.halt.Over.{Over}
use Rattle.lgx_explore.specs.declared.halt.Over.TheVariants as over
use Rattle.lgx_explore.specs.Nodes.{Stands, Keeps, AddsTo, ShownAmong, ShowsAt, IsOpened, KeepsOne, AllKeep}
use Rattle.lgx_explore.specs.Found.{GoesOnTo, Tells, IfOver, IsToldBy, IsToldOf}
use Rattle.lgx_explore.proofs.Keeping.{keeps_at, opened_keeps, action_shown, step_shown}

module _ {Node : Type 0} (stands : Stands Node) (keeps : Keeps Node) (script : Script) (q : Question) (p : Project) (valid : IsValidProject p) (proper : IsTrue (is_script script)) where
  -- an action of the layer was to be made
  pub told_action : (k : ℕ) (nodes : List Node) (at steps : ℕ) (stop : Stop) (f : Found Node) → steps ≡ k → IsNeverBefore p script q k → AllKeep stands keeps script q p k nodes → IfShown stop (λ made line. IsAction made × ShowsAt stands script q nodes at made line) → IsToldBy nodes at steps stop f → Tells keeps p script q f
  told_action k nodes at steps (stops.Shown made line) f same never all shown told =
      let one = keeps_at stands keeps script q p valid proper k nodes at told.node shown.1.within told.here all in
      subst (Tells keeps p script q) (sym told.is)
      (record { partial = one.layer.partial; shown = action_shown stands keeps script q p valid proper k told.node made line never one shown.0 (shown.1.shows told.node told.here) })
  told_action k nodes at steps stops.Limit f same never all shown told =
      subst (Tells keeps p script q) (sym told) (subst (λ n. IsNeverBefore p script q n) (sym same) never)
  told_action k nodes at steps stops.Memory f same never all shown told = absurd told

  -- a step of the layer was to be made
  pub told_step : (k : ℕ) (nodes : List Node) (steps : ℕ) (o : Over Node) (f : Found Node) → steps ≡ k + 1 → IsNeverBefore p script q (k + 1) → AllKeep stands keeps script q p k nodes → IfOver o (ShownAmong stands keeps script q nodes) → IsToldOf steps o f → Tells keeps p script q f
  told_step k nodes steps (over.Shown node made line) f same never all shown told =
      let one = all shown.before shown.among in
      subst (Tells keeps p script q) (sym told)
      (subst (λ (kept : Script → List ℕ × List Event). GoesOnTo p script q (kept script).0 (kept script).1 made line) (sym shown.shown.kept)
      (record { partial = one.layer.partial; shown = step_shown stands keeps script q p valid proper k shown.before made line never one shown.shown.shows }))
  told_step k nodes steps over.Limit f same never all shown told =
      subst (Tells keeps p script q) (sym told) (subst (λ n. IsNeverBefore p script q n) (sym same) never)
  told_step k nodes steps over.Memory f same never all shown told = absurd told

  -- the opening's node is the first
  pub first_keeps : (nodes : List Node) (first : Node) → nodes ≡ first ∷ [] → IsOpened stands keeps script q p first → AllKeep stands keeps script q p 0 nodes
  first_keeps nodes first is opened node among =
      elim (Contains-push_cases [] first node (subst (λ (ns : List Node). Contains ns node) is among)) [
        | inl before ↦ (let within = before.1 in absurd (omega arith))
        | inr same ↦ subst (λ n. KeepsOne stands keeps p script q 0 n) same (opened_keeps stands keeps script q p valid proper first opened)
      ]

  pub none_before : IsNeverBefore p script q 0
  none_before before e m lt = absurd (omega arith)

-- a node stays among the nodes when others are added
pub stays_among : {Node : Type 0} (stands : Stands Node) (old new : List Node) (first : Node) → old ≡ first ∷ [] → AddsTo stands old new → Contains new first
stays_among stands old new first is adds =
    subst (λ ns. Contains ns first) (sym adds.is) (Contains-append_left old adds.more first (subst (λ ns. Contains ns first) (sym is) (Contains-push [] first)))

pub pushed_first : {A : Type 0} (old new : List A) (x : A) → new ≡ old ++ x ∷ [] → old ≡ [] → new ≡ x ∷ []
pushed_first old new x h e = h ∙ ap (λ (ns : List _). ns ++ x ∷ []) e

pub ok_more : {A B : Type 0} (r : Result A B) (P Q : A → Type 0) → ((x : A) → P x → Q x) → IfOk r P → IfOk r Q
ok_more (Ok x) P Q f h = f x h
ok_more (Err e) P Q f h = tt
