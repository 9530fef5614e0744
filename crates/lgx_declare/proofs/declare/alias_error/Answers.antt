use Rattle.std.proofs.Common.{Some, List, get_or, ◌∙◌, ap, subst}
use Rattle.std.specs.Prelude.{filter}
use Rattle.spec_base.specs.Causes.{IsFaultOf}
use Rattle.spec_project.specs.declared.fault.Inner.TheVariants.{OfTag}
use Rattle.spec_project.specs.declared.fault.ProjectCode.TheVariants.{P9}
use Rattle.spec_project.specs.declared.fault.ProjectFault.{ProjectFault}
use Rattle.spec_project.specs.Faults.{at_place, here_for}
use Rattle.spec_project.specs.Tags.{in_tags_of, is_alias, scoped_tags}
use Rattle.lgx_json.specs.Answers.{fault_of}
use Rattle.lgx_json.specs.declared.error.ProjectError.{ProjectError}
use Rattle.lgx_declare.specs.declared.declare.AliasPlace.{AliasPlace}
use Rattle.lgx_declare.proofs.Aliases.{alias_at, told_in}
use Rattle.lgx_declare.proofs.declare.alias_error.Goals as goal

pub returns : goal.returns
returns c =
    let place = c.index-place.result.now in
    let fault : ProjectFault = here_for P9 (OfTag c.args.code) in
    let a = alias_at (filter is_alias (scoped_tags c.args.file.now)) c.args.alias place place c.requires.within (c.index-place.ensures ∙ ap (λ (ps : List AliasPlace). get_or ps c.args.alias place) c.in-Ok.ensures) in
    let first = subst (λ (e : ProjectError). IsFaultOf (at_place place.number (fault_of e)) (fault_of c.at_place.result)) c.here_for-error.ensures c.at_place.ensures in
    let told = told_in place.scope place.number fault (fault_of c.at_place.result) (fault_of c.in_tags_of.result) first c.in_tags_of.ensures in
    rw a.1 (subst (λ (q : AliasPlace). IsFaultOf (in_tags_of q.scope (at_place q.number (Some fault))) (fault_of c.in_tags_of.result)) a.2 told)
