use Rattle.std.proofs.Common.{◌≡◌, arith, take, ap, ◌∙◌}
use Rattle.std.proofs.lemmas.List.{take_all}
use Rattle.lgx_json.proofs.Steps.{gathered_more}
use Rattle.lgx_places.specs.WholeTags.{meaning_type, tag_types}
use Rattle.lgx_places.proofs.WholeTags.{few_types}
use Rattle.lgx_places.proofs.whole.tag_types.Goals as goal

pub loop-i-preserved : goal.loop-i-preserved
loop-i-preserved c =
    rw (gathered_more (λ t. meaning_type c.args.types.now t.meaning) c.args.tags.now c.loop-i.i c.index-tags-i.result (omega arith) c.index-tags-i.is, ← c.loop-i.invariant) c.in_ok-add_type.ensures

pub returns-clause-few : goal.returns-clause-few
returns-clause-few c =
    let all : take c.loop-i.i c.args.tags.now ≡ c.args.tags.now = take_all c.loop-i.i c.args.tags.now (omega arith) in
    let made : c.loop-i.list.items ≡ tag_types c.args.types.now c.args.tags.now = c.loop-i.invariant ∙ ap (tag_types c.args.types.now) all in
    let many = few_types c.args.types.now c.args.tags.now in
    rw made many
