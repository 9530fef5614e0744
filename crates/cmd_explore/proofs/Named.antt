-- A valid project has few names.
use Rattle.std.proofs.Common.{◌≡◌, ◌<◌, ◌≤◌, ◌^◌, length, ap, arith}
use Rattle.std.specs.Prelude.{nat_lt, nat_le}
use Rattle.std.proofs.lemmas.Bool.{and_parts, leb-true}
use Rattle.std.proofs.lemmas.List.{length-map}
use Rattle.spec_machine.specs.declared.limits.TheConstants.{MAX_PROGRAMS, MAX_WATCHES}
use Rattle.spec_machine.specs.Project.{Project}
use Rattle.spec_machine.specs.ValidProject.{IsValidProject}
use Rattle.spec_text.specs.ReportText.{Names, names_of}

pub few_watches : (p : Project) (names : Names) → IsValidProject p → names ≡ names_of p → length names.watches < 2 ^ 32
few_watches p names valid is =
    let few : length p.watches ≤ MAX_WATCHES = leb-true _ _ valid.limits.watches in
    let same = ap (λ (ns : Names). length ns.watches) is in
    let many = length-map p.watches (λ w. w.text) in
    omega arith

pub few_programs : (p : Project) (names : Names) → IsValidProject p → names ≡ names_of p → length names.programs < 2 ^ 32
few_programs p names valid is =
    let within = and_parts (nat_lt 0 (length p.programs)) (nat_le (length p.programs) MAX_PROGRAMS) valid.limits.programs in
    let few : length p.programs ≤ MAX_PROGRAMS = leb-true _ _ within.1 in
    let same = ap (λ (ns : Names). length ns.programs) is in
    let many = length-map p.programs (λ q. q.name) in
    omega arith
