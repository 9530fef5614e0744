-- Scopes that a table has: the controller's, and those of its programs.
use Rattle.std.specs.Prelude.{ℕ, ◌<◌, Bool, true, false, ⊤}
use Rattle.spec_language.specs.declared.tag.Scope.{Scope}
use Rattle.spec_language.specs.declared.tag.Scope.TheVariants.{Controller, Program}

abbrev pub IsScopeOf : ℕ → Scope → Type 0
IsScopeOf programs Controller = ⊤
IsScopeOf programs (Program p) = p < programs

-- it is a program's scope
abbrev pub is_own : Scope → Bool
is_own Controller = false
is_own (Program p) = true
