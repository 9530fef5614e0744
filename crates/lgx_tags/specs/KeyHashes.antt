-- What is hashed of a key: the bytes of its name, and its program's number, if it has one. Equal keys are hashed alike.
use Rattle.std.specs.Prelude.{◌≡◌, ℕ, ◌==◌, ◌&&◌, nat_eq, List, [], ◌∷◌, true, min, take, IsTrue, Option, Some, None, refl}
use Rattle.std.specs.Hash as fed
use Rattle.std.specs.Cmp.Lexicographic.{pointwise}
use Rattle.std.proofs.Common.{ap, ◌∙◌, eqb-true}
use Rattle.std.proofs.lemmas.Bool.{false≢true}
use Rattle.std.proofs.lemmas.Slice.Eq.{bytes_eq-Decides}
use Rattle.spec_base.specs.declared.limits.TheConstants.{MAX_TAG_NAME_BYTES}
use Rattle.spec_language.proofs.FoundBounds.{and_left, and_right}
use Rattle.lgx_tags.specs.declared.key.Key.{Key}
use Rattle.lgx_tags.specs.contracts.key.KeyPartialEq.TheImpl.{eq-value}

abbrev pub program_writes : Option ℕ → List (List ℕ)
program_writes None = []
program_writes (Some p) = fed.u32 p

abbrev pub writes_of : Option ℕ → ℕ → List ℕ → List (List ℕ)
writes_of program len bytes = take (min len MAX_TAG_NAME_BYTES) bytes ∷ program_writes program

abbrev pub key_writes : Key → List (List ℕ)
key_writes k = writes_of k.program k.len k.bytes

same_program : (p q : Option ℕ) (n m : ℕ) (bs cs : List ℕ) → IsTrue (eq-value.it (record { program = p; len = n; bytes = bs }) (record { program = q; len = m; bytes = cs })) → p ≡ q
same_program None None n m bs cs h = refl
same_program None (Some q) n m bs cs h = absurd (false≢true h)
same_program (Some p) None n m bs cs h = absurd (false≢true h)
same_program (Some p) (Some q) n m bs cs h = ap Some (eqb-true p q (and_left (nat_eq p q) _ h))

pub equal_writes : (k l : Key) → IsTrue (eq-value.it k l) → key_writes k ≡ key_writes l
equal_writes k l h =
    let rest : ((k.len == l.len) && pointwise nat_eq k.bytes l.bytes) ≡ true = and_right _ ((k.len == l.len) && pointwise nat_eq k.bytes l.bytes) h in
    let lens : k.len ≡ l.len = eqb-true k.len l.len (and_left (k.len == l.len) (pointwise nat_eq k.bytes l.bytes) rest) in
    let bytes : k.bytes ≡ l.bytes = (bytes_eq-Decides k.bytes l.bytes).0 (and_right (k.len == l.len) (pointwise nat_eq k.bytes l.bytes) rest) in
    ap (λ (p : Option ℕ). writes_of p k.len k.bytes) (same_program k.program l.program k.len l.len k.bytes l.bytes h) ∙ ap (λ (n : ℕ). writes_of l.program n k.bytes) lens ∙ ap (writes_of l.program l.len) bytes
