-- Which table is that of the version that a program began with last.
use Rattle.std.proofs.Common.{◌≡◌, ℕ, ◌<◌, List, [], ◌∷◌, ◌++◌, length, Bool, true, false, nat_eq, if◌then◌else◌, Option, Some, None, refl, sym, ap, ◌∙◌, subst}
use Rattle.std.specs.Prelude.{slice_index_or}
use Rattle.std.specs.Option.{option_or}
use Rattle.std.proofs.lemmas.Option.{none-some, same_Some}
use Rattle.lgx_cover.specs.declared.version.Version.{Version}
use Rattle.lgx_cover.specs.TableView.{TableView}
use Rattle.lgx_cover.specs.Executions.{Occurrence, latest}
use Rattle.lgx_cover.specs.Tables.{version_at, IsPlaceOf, AreTablesOf}

-- the program has begun, and the table is that of the version that it began with last
pub record IsFound (tables : List TableView) (begun : List Version) (q k : ℕ) : Type 0 where
  pub number : ℕ
  pub last : latest q begun ≡ Some number
  pub below : k < length tables
  pub version : version_at tables k ≡ record { program = q; number = number }

pub found_table : (tables : List TableView) (current : List (Option ℕ)) (begun : List Version) (all : List Occurrence) (q k : ℕ)
    → AreTablesOf tables current begun all → slice_index_or current q None ≡ Some k → IsFound tables begun q k
found_table tables current begun all q k is found = go (latest q begun) refl (is.known q)
  where
    go : (o : Option ℕ) → latest q begun ≡ o → IsPlaceOf tables q o (slice_index_or current q None) → IsFound tables begun q k
    go None last place = absurd (none-some k (sym place ∙ found))
    go (Some n) last place =
        let same : place.0 ≡ k = same_Some place.0 k (sym place.1 ∙ found) in
        record {
          number = n;
          last = last;
          below = subst (λ (j : ℕ). j < length tables) same place.2;
          version = subst (λ (j : ℕ). version_at tables j ≡ record { program = q; number = n }) same place.3;
        }

pub not_begun : (tables : List TableView) (current : List (Option ℕ)) (begun : List Version) (all : List Occurrence) (q : ℕ)
    → AreTablesOf tables current begun all → slice_index_or current q None ≡ None → latest q begun ≡ None
not_begun tables current begun all q is none = go (latest q begun) (is.known q)
  where
    go : (o : Option ℕ) → IsPlaceOf tables q o (slice_index_or current q None) → o ≡ None
    go None place = refl
    go (Some n) place = absurd (none-some place.0 (sym none ∙ place.1))

-- ---- one begin more

pub latest_more : (q : ℕ) (begun : List Version) (v : Version) → latest q (begun ++ v ∷ []) ≡ (if nat_eq q v.program then Some v.number else latest q begun)
latest_more q [] v = refl
latest_more q (b ∷ bs) v = ap (λ o. option_or o (if nat_eq q b.program then Some b.number else None)) (latest_more q bs v) ∙ go (nat_eq q v.program)
  where
    go : (here : Bool) → option_or (if here then Some v.number else latest q bs) (if nat_eq q b.program then Some b.number else None) ≡ (if here then Some v.number else option_or (latest q bs) (if nat_eq q b.program then Some b.number else None))
    go true = refl
    go false = refl
