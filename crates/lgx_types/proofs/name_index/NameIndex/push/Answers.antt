use Rattle.std.proofs.Common.{◌≡◌, ◌∙◌, ap, refl, rules, arith, ◌++◌, ◌∷◌, [], length}
use Rattle.std.specs.Prelude.{if◌then◌else◌}
use Rattle.std.proofs.lemmas.Grind.{common_steps}
use Rattle.lgx_types.specs.Spellings.{IsShort}
use Rattle.lgx_types.proofs.Spellings.{lower, name_short, with_one_more}
use Rattle.lgx_types.proofs.name_index.NameIndex.push.Goals as goal

pub invariant_of-self-2 : goal.invariant_of-self-2
invariant_of-self-2 c =
    let names : c.push.new.self.items ≡ c.self.inside.names.items ++ c.args.name.now ∷ [] = grind (arith, common_steps) in
    let short : IsShort c.args.name.now = name_short c.args.name.now c.bytes.ensures.name in
    let spelled : c.in_ok-spelling.spelling.items ≡ lower c.args.name.now = c.in_ok-spelling.ensures.ok ∙ ap lower c.bytes.ensures.bytes in
    let number : c.len-number.result ≡ length c.self.inside.names.items = search rules in
    let firsts : c.push_if.new.firsts.items ≡ (if c.in_ok-is_new.is_new then c.self.inside.firsts.items ++ c.len-number.result ∷ [] else c.self.inside.firsts.items) = rw (c.push_if.ensures, c.reserve-2.ensures.items) refl in
    with_one_more c.self.inside.names.items c.self.inside.spellings.keys c.self.inside.firsts.items c.args.name.now c.in_ok-spelling.spelling c.self.invariant short spelled _ _ _ c.in_ok-is_new.is_new c.len-number.result names c.in_ok-is_new.ensures.added c.in_ok-is_new.ensures.keys number firsts
