-- Where each entry begins, worked out from the entries before it.
use Rattle.std.specs.Prelude.{ℕ, zero, suc, ◌+◌, cond, List, [], ◌∷◌, ◌++◌, flat_map}
use Rattle.std.specs.List.{range_with_len}
use Rattle.spec_language.specs.declared.types.TypeDecl.{TypeDecl}
use Rattle.spec_language.specs.declared.tag.Scope.{Scope}
use Rattle.spec_language.specs.declared.tag.Scope.TheVariants.{Controller, Program}
use Rattle.spec_language.specs.Layout.{round_up}
use Rattle.spec_language.specs.Declarations.{Entry, Declarations, same_scope, in_scope, entry_size}

-- the bytes of an entry, rounded up to 4
abbrev pub padded_size : List TypeDecl → Entry → ℕ
padded_size types e = round_up 4 (entry_size types e)

abbrev pub padded_total : List TypeDecl → List Entry → ℕ
padded_total types [] = 0
padded_total types (e ∷ es) = padded_size types e + padded_total types es

-- where entry i would begin in a scope, if the scope's first begins at this byte
abbrev pub begin_in : List TypeDecl → Scope → ℕ → List Entry → ℕ → ℕ
begin_in types s at [] i = at
begin_in types s at (e ∷ es) zero = at
begin_in types s at (e ∷ es) (suc i) = begin_in types s (cond (same_scope e.scope s) (at + padded_size types e) at) es i

-- what is laid before a scope
abbrev pub programs_from : List Entry → ℕ → ℕ → List Entry
programs_from es a n = flat_map (λ p. in_scope es (Program p)) (range_with_len a n)

abbrev pub laid_before : List Entry → Scope → List Entry
laid_before es Controller = []
laid_before es (Program p) = in_scope es Controller ++ programs_from es 0 p

-- where entry i begins, in its scope
abbrev pub start_of : Declarations → Scope → ℕ → ℕ
start_of d s i = begin_in d.types s (padded_total d.types (laid_before d.entries s)) d.entries i
