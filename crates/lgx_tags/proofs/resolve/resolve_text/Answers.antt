use Rattle.std.proofs.Common.{◌≡◌, true, sym, subst, ◌∙◌, Ok}
use Rattle.lgx_num.specs.Name.{is_name}
use Rattle.spec_language.specs.Resolution.{in_form}
use Rattle.lgx_tags.specs.declared.resolve.Subscripts.{Subscripts}
use Rattle.lgx_tags.specs.TextReading.{subscripts_of, AnswersTag}
use Rattle.lgx_tags.proofs.ReadingAnswers.{name_answered, lies, fixed}
use Rattle.lgx_tags.proofs.resolve.resolve_text.Goals as goal

pub returns-then-is_name-clause-answer : goal.returns-then-is_name-clause-answer
returns-then-is_name-clause-answer g c =
    let text = c.args.text.now in
    let named : is_name text ≡ true = sym c.is_name.ensures ∙ c.if-is_name.true in
    name_answered (subscripts_of c.args.subscripts) c.args.types.now (g.N.Names.named c.args.names.now) text c.resolve_name.result named c.resolve_name.ensures

pub returns-then-is_name-clause-lies : goal.returns-then-is_name-clause-lies
returns-then-is_name-clause-lies g c =
    let text = c.args.text.now in
    let names = g.N.Names.named c.args.names.now in
    let s = subscripts_of c.args.subscripts in
    let named : is_name text ≡ true = sym c.is_name.ensures ∙ c.if-is_name.true in
    let answer : AnswersTag (in_form s c.args.types.now names text) c.resolve_name.result = name_answered s c.args.types.now names text c.resolve_name.result named c.resolve_name.ensures in
    lies s c.args.types.now (g.N.Names.bytes c.args.names.now) names text c.resolve_name.result c.requires.sound c.requires.lie answer

pub returns-then-is_name-clause-fixed : goal.returns-then-is_name-clause-fixed
returns-then-is_name-clause-fixed g c = λ alone.
    let text = c.args.text.now in
    let types = c.args.types.now in
    let names = g.N.Names.named c.args.names.now in
    let s = subscripts_of c.args.subscripts in
    let named : is_name text ≡ true = sym c.is_name.ensures ∙ c.if-is_name.true in
    let answer : AnswersTag (in_form s types names text) c.resolve_name.result = name_answered s types names text c.resolve_name.result named c.resolve_name.ensures in
    fixed types (g.N.Names.bytes c.args.names.now) names text c.resolve_name.result c.requires.sound c.requires.lie (subst (λ (x : Subscripts). AnswersTag (in_form (subscripts_of x) types names text) c.resolve_name.result) alone answer)

pub returns-in-Some-clause-lies : goal.returns-in-Some-clause-lies
returns-in-Some-clause-lies g c =
    lies (subscripts_of c.args.subscripts) c.args.types.now (g.N.Names.bytes c.args.names.now) (g.N.Names.named c.args.names.now) c.args.text.now (Ok c.in-Some.found) c.requires.sound c.requires.lie c.in-Some.ensures

pub returns-in-Some-clause-fixed : goal.returns-in-Some-clause-fixed
returns-in-Some-clause-fixed g c = λ alone.
    let types = c.args.types.now in
    let names = g.N.Names.named c.args.names.now in
    fixed types (g.N.Names.bytes c.args.names.now) names c.args.text.now (Ok c.in-Some.found) c.requires.sound c.requires.lie (subst (λ (x : Subscripts). AnswersTag (in_form (subscripts_of x) types names c.args.text.now) (Ok c.in-Some.found)) alone c.in-Some.ensures)
