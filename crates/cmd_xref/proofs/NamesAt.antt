-- Names of programs and routines by their numbers.
use Rattle.std.proofs.Common.{◌≡◌, ℕ, zero, suc, ◌<◌, ◌≤◌, List, [], ◌∷◌, length, map, get_or, refl, ap, ◌∙◌, arith}
use Rattle.spec_text.specs.ReportText.{name}
use Rattle.lgx_edit.specs.declared.texts.ProgramText.{ProgramText}
use Rattle.lgx_edit.specs.declared.texts.RoutineText.{RoutineText}
use Rattle.lgx_edit.specs.Texts.{program_of, routine_of}
use Rattle.cmd_xref.specs.XrefText.{program_name, routine_name}

pub program_at : (programs : List ProgramText) (n : ℕ) (q : ProgramText) → n < length programs → q ≡ get_or programs n q
    → q.name ≡ program_name (map program_of programs) n
program_at [] n q within is = absurd (omega (arith, within))
program_at (p ∷ programs) zero q within is = ap (λ (x : ProgramText). x.name) is
program_at (p ∷ programs) (suc n) q within is = program_at programs n q (omega (arith, within)) is

names_same : (routines : List RoutineText) → map (λ (r : RoutineText). r.name) routines ≡ map (λ r. r.name) (map routine_of routines)
names_same [] = refl
names_same (r ∷ routines) = ap (λ names. r.name ∷ names) (names_same routines)

pub routine_at : (programs : List ProgramText) (n r : ℕ) (q : ProgramText) → n < length programs → q ≡ get_or programs n q
    → name (map (λ (r : RoutineText). r.name) q.routines) r ≡ routine_name (map program_of programs) n r
routine_at [] n r q within is = absurd (omega (arith, within))
routine_at (p ∷ programs) zero r q within is =
    ap (λ (x : ProgramText). name (map (λ (r : RoutineText). r.name) x.routines) r) is ∙ ap (λ names. name names r) (names_same p.routines)
routine_at (p ∷ programs) (suc n) r q within is = routine_at programs n r q (omega (arith, within)) is

pub no_program : (programs : List ProgramText) (n r : ℕ) → length programs ≤ n → [] ≡ routine_name (map program_of programs) n r
no_program [] n r past = refl
no_program (p ∷ programs) zero r past = absurd (omega (arith, past))
no_program (p ∷ programs) (suc n) r past = no_program programs n r (omega (arith, past))
