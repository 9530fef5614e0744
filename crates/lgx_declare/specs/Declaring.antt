-- Tags and aliases that are declared one after another, and what is refused of them.
use Rattle.std.specs.Prelude.{ℕ, ◌%◌, ◌==◌, not, ◌&&◌, List, [], ◌∷◌, ◌++◌, map, Option, Some, None, option_map, if◌then◌else◌}
use Rattle.std.specs.List.{flat_map, enumerate_from}
use Rattle.spec_language.specs.declared.types.Base.{Base}
use Rattle.spec_language.specs.declared.types.TypeCode.{TypeCode}
use Rattle.spec_language.specs.declared.types.TypeCode.TheVariants.{Y4}
use Rattle.spec_language.specs.declared.tag.Scope.{Scope}
use Rattle.spec_language.specs.declared.tag.Scope.TheVariants.{Program}
use Rattle.spec_language.specs.TypeFaults.{is_bool_base}
use Rattle.spec_language.specs.Declarations.{Declarations, alias_fault, declare_fault}
use Rattle.spec_project.specs.declared.fault.Inner.TheVariants.{OfType, OfTag}
use Rattle.spec_project.specs.declared.fault.ProjectFault.{ProjectFault}
use Rattle.spec_project.specs.declared.fault.ProjectCode.TheVariants.{P9}
use Rattle.spec_project.specs.declared.described.DescribedProgram.{DescribedProgram}
use Rattle.spec_project.specs.declared.described.DescribedTag.{DescribedTag}
use Rattle.spec_project.specs.Faults.{or_else, here_for}
use Rattle.spec_project.specs.Tags.{ScopedTag, entry_of, inner_of_tag, tag_fault, tags_in}

-- the declarations with these after the others
unfoldable pub with_tags : Declarations → List ScopedTag → Declarations
with_tags d tags = record d { entries = d.entries ++ map (entry_of d.types) tags }

-- the first refusal, if they are declared one after another
unfoldable pub declaring_fault : Declarations → List ScopedTag → Option ProjectFault
declaring_fault d [] = None
declaring_fault d (t ∷ ts) = or_else (tag_fault d t) (declaring_fault (with_tags d (t ∷ [])) ts)

-- the tags of a scope from one of a number on, and those of programs from one of a number on
abbrev pub tags_from : Scope → ℕ → List DescribedTag → List ScopedTag
tags_from scope i tags = map (λ e. record { scope = scope; number = e.0; tag = e.1 }) (enumerate_from i tags)

abbrev pub program_tags_from : ℕ → List DescribedProgram → List ScopedTag
program_tags_from i programs = flat_map (λ e. tags_in (Program e.0) e.1.tags) (enumerate_from i programs)

-- P9 of one tag: of its name; of its type, where that is refused; of what a table of tags refuses
unfoldable pub name_refusal : Declarations → Scope → List ℕ → Option ProjectFault
name_refusal d scope name = option_map (λ code. here_for P9 (OfTag code)) (alias_fault d scope name)

unfoldable pub type_refusal : Declarations → Scope → List ℕ → TypeCode → Option ProjectFault
type_refusal d scope name code = or_else (name_refusal d scope name) (Some (here_for P9 (OfType code)))

unfoldable pub sized_refusal : Declarations → Scope → List ℕ → Base → ℕ → Option ProjectFault
sized_refusal d scope name base dim =
    if is_bool_base (Some base) && not (dim % 32 == 0)
    then type_refusal d scope name Y4
    else option_map (λ code. here_for P9 (OfTag code)) (declare_fault d scope name (record { base = base; dim = dim }))

unfoldable pub tag_refusal : Declarations → Scope → DescribedTag → Option ProjectFault
tag_refusal d scope t = option_map (here_for P9) (inner_of_tag d scope t)
