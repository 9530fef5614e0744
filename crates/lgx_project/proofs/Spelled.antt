-- The rungs that texts spell, one text after another.
use Rattle.std.proofs.Common.{◌≡◌, ℕ, ◌+◌, ◌<◌, List, [], ◌∷◌, ◌++◌, length, take, drop, get_or, Option, Some, None, refl, ap, sym, ◌∙◌}
use Rattle.std.specs.Result.{result_ok}
use Rattle.std.proofs.lemmas.List.{at_drop_more}
use Rattle.lgx_rung.specs.Tree.{Source}
use Rattle.lgx_rung.specs.Tokens.{read_rung}
use Rattle.spec_project.specs.declared.fault.ProjectFault.{ProjectFault}
use Rattle.spec_project.specs.Faults.{or_else, at_place, first_from}
use Rattle.spec_project.specs.Routines.{rung_fault}
use Rattle.lgx_json.proofs.Steps.{gathered_more}
use Rattle.lgx_project.specs.Sources.{sources}

pub sources_more : (texts : List (List ℕ)) (i : ℕ) (text : List ℕ) (rung : Source) → i < length texts → text ≡ get_or texts i text → result_ok (read_rung text) ≡ Some rung → sources (take (i + 1) texts) ≡ sources (take i texts) ++ rung ∷ []
sources_more texts i text rung lt is spelled = gathered_more (λ text. result_ok (read_rung text)) texts i text lt is ∙ rw spelled refl

pub rungs_go_on : (texts : List (List ℕ)) (i : ℕ) (text : List ℕ) → i < length texts → text ≡ get_or texts i text → rung_fault text ≡ None
    → first_from (λ i x. at_place i (rung_fault x)) i (drop i texts) ≡ first_from (λ i x. at_place i (rung_fault x)) (i + 1) (drop (i + 1) texts)
rungs_go_on texts i text lt is none =
    let rest = first_from (λ i x. at_place i (rung_fault x)) (i + 1) (drop (i + 1) texts) in
    at_drop_more (λ ys. first_from (λ i x. at_place i (rung_fault x)) i ys) texts i text lt
    ∙ ap (λ (y : List ℕ). or_else (at_place i (rung_fault y)) rest) (sym is)
    ∙ ap (λ (o : Option ProjectFault). or_else (at_place i o) rest) none
