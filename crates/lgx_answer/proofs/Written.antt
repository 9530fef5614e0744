-- Puts, one after another.
use Rattle.std.proofs.Common.{◌≡◌, ℕ, zero, suc, List, [], ◌∷◌, ◌++◌, take, Option, Result, Ok, Err, OnOk, OnErr, IsErrOf, refl, sym, ap, ◌∙◌, append_assoc, append-nil, subst}
use Rattle.std.specs.Io.KnownBytes.{Appends}
use Rattle.std.proofs.KnownBytes.{Appends-nil, Appends-trans}
use Rattle.lgx_io.specs.declared.sink.SinkFault.{SinkFault}
use Rattle.lgx_io.specs.declared.sink.SinkFault.TheVariants.{Failed, Memory}
use Rattle.lgx_io.specs.Sink.{FaultsRose, AppendsPart}
use Rattle.lgx_answer.specs.Puts.{Puts, IsWritten}

take_front : (ys zs : List ℕ) (n : ℕ) → (m : ℕ) × (take m (ys ++ zs) ≡ take n ys)
take_front [] zs zero = (0, refl)
take_front [] zs (suc n) = (0, refl)
take_front (y ∷ ys) zs zero = (0, refl)
take_front (y ∷ ys) zs (suc n) = let r = take_front ys zs n in (suc r.0, ap (λ t. y ∷ t) r.1)

take_part : (xs ys zs : List ℕ) (n : ℕ) → (m : ℕ) × (take m (xs ++ (ys ++ zs)) ≡ xs ++ take n ys)
take_part [] ys zs n = take_front ys zs n
take_part (x ∷ xs) ys zs n = let r = take_part xs ys zs n in (suc r.0, ap (λ t. x ∷ t) r.1)

-- all of a text, and then a first part of the next
part_after : (a b c : Option (List ℕ)) (xs ys zs : List ℕ) → Appends a b xs → AppendsPart b c ys → AppendsPart a c (xs ++ (ys ++ zs))
part_after a b c xs ys zs h k =
    let r = take_part xs ys zs k.0 in
    let P : List ℕ → Type 0 = λ t. Appends a c t in
    (r.0, subst P (sym r.1) (Appends-trans a b c xs (take k.0 ys) h k.1))

-- the two faults of a put
pub put_part : (r : Result (Unit {0}) SinkFault) (a b : Option (List ℕ)) (line : List ℕ) → (IsErrOf r Failed → AppendsPart a b line) → (IsErrOf r Memory → b ≡ a) → OnErr r (AppendsPart a b line)
put_part (Ok x) a b line failed memory = tt
put_part (Err Failed) a b line failed memory = failed refl
put_part (Err Memory) a b line failed memory =
    let P : Option (List ℕ) → Type 0 = λ b. AppendsPart a b line in
    subst P (sym (memory refl)) (0, Appends-nil a)

-- a put that didn't fail leaves the count
pub put_count : (r : Result (Unit {0}) SinkFault) (f g : ℕ) → OnOk r (g ≡ f) → (IsErrOf r Memory → g ≡ f) → ¬ IsErrOf r Failed → g ≡ f
put_count (Ok x) f g ok memory unfailed = ok
put_count (Err Failed) f g ok memory unfailed = absurd (unfailed refl)
put_count (Err Memory) f g ok memory unfailed = memory refl

-- nothing is written yet
pub written_none : (a : Option (List ℕ)) (whole : List ℕ) → IsWritten a a whole whole
written_none a whole = ([], refl, Appends-nil a)

-- one more line
pub written_more : (a b c : Option (List ℕ)) (whole rest line shown more : List ℕ) → IsWritten a b whole rest → rest ≡ line ++ more → shown ≡ line → Appends b c shown → IsWritten a c whole more
written_more a b c whole rest line shown more (done, split, held) next is_shown added =
    let P : List ℕ → Type 0 = λ t. Appends b c t in
    (done ++ line, split ∙ ap (λ t. done ++ t) next ∙ sym (append_assoc done line more), Appends-trans a b c done line held (subst P is_shown added))

-- no line is left
pub written_all : (a b : Option (List ℕ)) (whole rest : List ℕ) → IsWritten a b whole rest → rest ≡ [] → Appends a b whole
written_all a b whole rest (done, split, held) end =
    let P : List ℕ → Type 0 = λ t. Appends a b t in
    subst P (sym (split ∙ ap (λ t. done ++ t) end ∙ append-nil done)) held

-- a first part of one more line
pub written_part : (a b c : Option (List ℕ)) (whole rest line more : List ℕ) → IsWritten a b whole rest → rest ≡ line ++ more → AppendsPart b c line → AppendsPart a c whole
written_part a b c whole rest line more (done, split, held) next part =
    let P : List ℕ → Type 0 = λ t. AppendsPart a c t in
    subst P (sym (split ∙ ap (λ t. done ++ t) next)) (part_after a b c done line more held part)

-- what is written so far
pub written_so_far : (a b : Option (List ℕ)) (whole rest : List ℕ) → IsWritten a b whole rest → AppendsPart a b whole
written_so_far a b whole rest w = written_part a b b whole rest [] rest w refl (0, Appends-nil b)

-- a first part of one more line, and why
pub puts_part : (fault : SinkFault) (a b c : Option (List ℕ)) (f g h : ℕ) (whole rest line shown more : List ℕ) → IsWritten a b whole rest → g ≡ f → rest ≡ line ++ more → shown ≡ line
    → Puts (record { old = b; new = c }) (record { old = g; new = h }) shown (Err fault) → Puts (record { old = a; new = c }) (record { old = f; new = h }) whole (Err fault)
puts_part fault a b c f g h whole rest line shown more w same next is_shown puts =
    let P : ℕ → Type 0 = λ n. FaultsRose n h in
    let Q : List ℕ → Type 0 = λ t. AppendsPart b c t in
    record {
      whole = tt;
      part = written_part a b c whole rest line more w next (subst Q is_shown puts.part);
      failed = λ e. subst P same (puts.failed e);
      unfailed = λ e. puts.unfailed e ∙ same;
    }
