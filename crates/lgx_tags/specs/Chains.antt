-- What names stand for, as far as the chains of aliases are walked.
use Rattle.std.specs.Prelude.{◌≡◌, ℕ, zero, suc, ◌-◌, ◌<◌, ◌≤◌, Bool, true, false, List, [], ◌∷◌, length, position, slice_get, slice_index_or, Option, Some, None, option_map, cond, Result, Ok, Err, ◌⊎◌}
use Rattle.std.specs.Option.{option_or}
use Rattle.std.specs.Result.{result_err}
use Rattle.std.specs.List.{count_by}
use Rattle.spec_language.specs.declared.tag.Scope.{Scope}
use Rattle.spec_language.specs.declared.tag.Scope.TheVariants.{Controller, Program}
use Rattle.spec_language.specs.declared.tag.TagCode.{TagCode}
use Rattle.spec_language.specs.declared.tag.TagCode.TheVariants.{G3, G7}
use Rattle.spec_language.specs.declared.tag.Found.{Found}
use Rattle.spec_language.specs.declared.types.DataType.{DataType}
use Rattle.spec_language.specs.Declarations.{Meaning, tag, alias, Entry, Declarations, is_named}
use Rattle.spec_language.specs.Resolution.{numbers_alone, tag_found, meant, in_form, named_within, aliases}
use Rattle.lgx_tags.specs.Starts.{start_of}
use Rattle.lgx_tags.specs.declared.layout.FixedPlace.{FixedPlace}

abbrev pub Answer : Type 0
Answer = Result Found TagCode

-- the number of the entry that a name is seen as from a scope: a program's own entries are looked at before the
-- controller's
abbrev pub number_in : List Entry → Scope → List ℕ → Option ℕ
number_in entries scope name = position (is_named scope name) entries

abbrev pub seen_number : List Entry → Scope → List ℕ → Option ℕ
seen_number entries Controller name = number_in entries Controller name
seen_number entries (Program p) name = option_or (number_in entries (Program p) name) (number_in entries Controller name)

abbrev pub Resolved : Type 0
Resolved = Result FixedPlace TagCode

-- what is known of an entry, as the answer that it gives
abbrev pub found_at : FixedPlace → Found
found_at s = record { at = s.at; steps = []; of = s.of; stop = s.stop }

abbrev pub answer : Resolved → Answer
answer (Ok s) = Ok (found_at s)
answer (Err code) = Err code

abbrev pub answer_at : List Resolved → ℕ → Answer
answer_at known i = answer (slice_index_or known i (Err G7))

abbrev pub answer_of : List Resolved → Option ℕ → Answer
answer_of known None = Err G3
answer_of known (Some i) = answer_at known i

abbrev pub named_by : List Entry → List Resolved → Scope → List ℕ → Answer
named_by entries known scope name = answer_of known (seen_number entries scope name)

-- ---- chains of at most a given number of aliases

-- what a target names where at most the given number of aliases follow one another, this one counted
abbrev pub target_in : ℕ → Declarations → Scope → List ℕ → Answer
target_in zero d s text = Err G7
target_in (suc n) d s text = in_form numbers_alone d.types (named_within n d s) text

-- what the entry of a number stands for
abbrev pub value_in : ℕ → Declarations → ℕ → Entry → Answer
value_in n d i e = meant d.types (target_in n d) (start_of d e.scope i, e)

-- the first ran out, or the second is the same
abbrev pub Below : {A : Type 0} → Result A TagCode → Result A TagCode → Type 0
Below a b = (a ≡ Err G7) ⊎ (a ≡ b)

-- ---- what is known while chains are walked

-- an entry that is no alias isn't counted; an alias's fault comes with its number among the aliases
abbrev pub is_target : Meaning → Bool
is_target (tag of) = false
is_target (alias target) = true

abbrev pub bad_from : List Resolved → ℕ → ℕ → List Entry → Option (TagCode × ℕ)
bad_from known i k [] = None
bad_from known i k (e ∷ es) = cond (is_target e.meaning) (option_or (option_map (λ code. (code, k)) (result_err (slice_index_or known i (Err G7)))) (bad_from known (suc i) (suc k) es)) (bad_from known (suc i) k es)

abbrev pub count_aliases : List Entry → ℕ
count_aliases [] = 0
count_aliases (e ∷ es) = cond (is_target e.meaning) (suc (count_aliases es)) (count_aliases es)

abbrev pub is_g7 : TagCode → Bool
is_g7 G7 = true
is_g7 _ = false

-- not known yet
abbrev pub is_open : Resolved → Bool
is_open (Ok s) = false
is_open (Err code) = is_g7 code

abbrev pub open_in : List Resolved → ℕ
open_in known = count_by is_open known

-- What is known so far: each tag; and of aliases those whose chains are walked. As many are known as chains may be long, so what is
-- known is what the definition gives.
pub record PartlyResolved (d : Declarations) (known : List Resolved) : Type 0 where
  pub long : length known ≡ length d.entries
  pub few : open_in known ≤ length (aliases d)
  pub below : (i : ℕ) (e : Entry) → slice_get d.entries i ≡ Some e → Below (answer_at known i) (value_in (length (aliases d) - open_in known) d i e)
  pub tags : (i : ℕ) (e : Entry) (of : DataType) → slice_get d.entries i ≡ Some e → e.meaning ≡ tag of → answer_at known i ≡ Ok (tag_found d.types (start_of d e.scope i) of)

-- an alias that isn't known wouldn't be with what is known
abbrev pub IsStuck : Declarations → List Resolved → ℕ → Type 0
IsStuck d known i = (e : Entry) (target : List ℕ) → slice_get d.entries i ≡ Some e → e.meaning ≡ alias target → is_open (slice_index_or known i (Err G7)) ≡ true → in_form numbers_alone d.types (named_by d.entries known e.scope) target ≡ Err G7

-- all is known, or will never be
pub record AllResolved (d : Declarations) (known : List Resolved) : Type 0 where
  pub partly : PartlyResolved d known
  pub stuck : (i : ℕ) → IsStuck d known i

-- what came of looking at an entry: all that was known is still, and either one more is, or nothing has changed and
-- nothing is to be found there
pub record ResolvesEntry (d : Declarations) (i : ℕ) (old new : List Resolved) : Type 0 where
  pub partly : PartlyResolved d new
  pub fewer : open_in new ≤ open_in old
  pub stuck : open_in new ≡ open_in old → (new ≡ old) × IsStuck d new i

-- what came of looking at all of them
pub record ResolvesPass (d : Declarations) (old new : List Resolved) : Type 0 where
  pub partly : PartlyResolved d new
  pub fewer : open_in new ≤ open_in old
  pub stuck : open_in new ≡ open_in old → (new ≡ old) × ((i : ℕ) → i < length d.entries → IsStuck d new i)
