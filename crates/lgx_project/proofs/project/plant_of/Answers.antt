use Rattle.std.proofs.Common.{ap}
use Rattle.lgx_tags.specs.Tables.{Table}
use Rattle.lgx_project.proofs.Made.{made_of_parts, parts_valid}
use Rattle.lgx_project.proofs.project.plant_of.Goals as goal

pub invariant_of-result : goal.invariant_of-result
invariant_of-result c = record {
  sealed = ap (λ (t : Table). t.sealed) c.requires.parts.found.tags;
  valid = parts_valid c.args.file.now c.args.parts c.requires.limits c.requires.accepted c.requires.parts;
}

pub returns : goal.returns
returns c = made_of_parts c.args.file.now c.args.parts c.requires.parts
