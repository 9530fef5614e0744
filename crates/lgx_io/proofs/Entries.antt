-- Finding a name among pairs of a name and contents.
use Rattle.std.proofs.Common.{◌≡◌, ℕ, List, [], ◌∷◌, true, false, if◌then◌else◌, refl, Some, find, option_map, String, string_bytes, Vec, Global}
use Rattle.std.specs.Str.{bytes_eq}
use Rattle.lgx_io.specs.Memory.{stored, contents_at}

-- among the pairs as the code has them the same is found as among their bytes
pub contents_at-stored : (files : List (String Global × Vec ℕ Global)) (name : List ℕ)
    → option_map (λ f. f.1.items) (find (λ f. bytes_eq (string_bytes f.0) name) files) ≡ contents_at (stored files) name
contents_at-stored [] name = refl
contents_at-stored (f ∷ fs) name =
    elim (bytes_eq (string_bytes f.0) name) as (λ b. option_map (λ f. f.1.items) (if b then Some f else find (λ f. bytes_eq (string_bytes f.0) name) fs)
    ≡ option_map (λ f. f.1) (if b then Some (string_bytes f.0, f.1.items) else find (λ f. bytes_eq f.0 name) (stored fs)))
    [ true ↦ refl | false ↦ contents_at-stored fs name ]
