-- The keys of an object among those that it may have.
use Rattle.std.proofs.Common.{◌≡◌, ℕ, List, [], ◌∷◌, map, Bool, not, ◌&&◌, ◌||◌, Some, Bor, String, Global, string_bytes, refl, ap, ◌∙◌}
use Rattle.std.specs.List.{list_all, list_any}
use Rattle.std.specs.Map.{keys_of}
use Rattle.std.specs.Str.{bytes_eq}
use Rattle.serde_json.specs.View.{members_view}
use Rattle.serde_json.specs.declared.value.Value.{Value}
use Rattle.spec_project.specs.Judges.{is_field, keys, only_keys}
use Rattle.spec_project.specs.Faults.{here, refused_if}
use Rattle.spec_project.specs.declared.fault.ProjectCode.TheVariants.{P3}
use Rattle.serde_json.specs.Data.{Data}
use Rattle.serde_json.specs.Find.{as_object}

pub known_key : (known : List (Bor (List ℕ))) (key : List ℕ) → list_any (λ k. bytes_eq key k.now) known ≡ is_field (map (λ k. k.now) known) key
known_key [] key = refl
known_key (k ∷ known) key = ap (λ b. bytes_eq key k.now || b) (known_key known key)

pub known_keys : (known : List (Bor (List ℕ))) (es : List (String Global × Value)) → list_all (λ key. list_any (λ k. bytes_eq (string_bytes key) k.now) known) (keys_of es) ≡ list_all (is_field (map (λ k. k.now) known)) (keys (members_view es))
known_keys known [] = refl
known_keys known (e ∷ es) =
    ap (λ b. b && list_all (λ key. list_any (λ k. bytes_eq (string_bytes key) k.now) known) (keys_of es)) (known_key known (string_bytes e.0))
    ∙ ap (λ b. is_field (map (λ k. k.now) known) (string_bytes e.0) && b) (known_keys known es)

-- what is refused of an object with these members
pub only_known : (known : List (Bor (List ℕ))) (es : List (String Global × Value)) (d : Data) (b : Bool) → as_object d ≡ Some (members_view es)
    → list_all (λ key. list_any (λ k. bytes_eq (string_bytes key) k.now) known) (keys_of es) ≡ b
    → only_keys (map (λ k. k.now) known) d ≡ refused_if (not b) (here P3)
unfolding only_keys
only_known known es d b is tested = rw (is, ← known_keys known es, tested) refl
