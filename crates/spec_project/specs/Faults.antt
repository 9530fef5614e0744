-- Refusals of a file, and the paths to where they are.
use Rattle.std.specs.Prelude.{ℕ, Bool, true, false, List, [], ◌∷◌, ◌++◌, ◌+◌, Option, Some, None, option_map, decimal}
-- the first of two that is there
pub use Rattle.std.specs.Option.{option_or as or_else}
use Rattle.spec_project.specs.declared.fault.ProjectCode.{ProjectCode}
use Rattle.spec_project.specs.declared.fault.ProjectFault.{ProjectFault}
use Rattle.spec_project.specs.declared.fault.Inner.{Inner}
use Rattle.spec_project.specs.declared.fault.Inner.TheVariants.{Nothing}

-- a refusal right here
abbrev pub here : ProjectCode → ProjectFault
here code = record { code = code; path = []; inner = Nothing }

abbrev pub here_for : ProjectCode → Inner → ProjectFault
here_for code inner = record { code = code; path = []; inner = inner }

-- ---- paths

-- a part, and the path that leads on from there
abbrev pub joined : List ℕ → List ℕ → List ℕ
joined part [] = part
joined part (c ∷ path) = part ++ 46 ∷ c ∷ path

-- a refusal of what is in this field, or at this place of a list
abbrev pub under : List ℕ → ProjectFault → ProjectFault
under part f = record f { path = joined part f.path }

abbrev pub in_field : List ℕ → Option ProjectFault → Option ProjectFault
in_field key fault = option_map (under key) fault

abbrev pub at_place : ℕ → Option ProjectFault → Option ProjectFault
at_place i fault = option_map (under (decimal i)) fault

-- ---- the first refusal

abbrev pub refused_if : Bool → ProjectFault → Option ProjectFault
refused_if true fault = Some fault
refused_if false fault = None

-- of what is in a list, where the first has this number
abbrev pub first_from : {A : Type 0} → (ℕ → A → Option ProjectFault) → ℕ → List A → Option ProjectFault
first_from judge i [] = None
first_from judge i (x ∷ xs) = or_else (judge i x) (first_from judge (i + 1) xs)

-- the first refusal of an element, by its number and itself
abbrev pub first_of : {A : Type 0} → (ℕ → A → Option ProjectFault) → List A → Option ProjectFault
first_of judge xs = first_from judge 0 xs

-- the same, at the elements' places
abbrev pub first_at : {A : Type 0} → (A → Option ProjectFault) → List A → Option ProjectFault
first_at judge xs = first_of (λ i x. at_place i (judge x)) xs
