-- Whether a version is among those of tables, by their numbers.
use Rattle.std.proofs.Common.{◌≡◌, ℕ, zero, suc, ◌<◌, List, [], ◌∷◌, length, true, false, refl, arith}
use Rattle.std.proofs.lemmas.Bool.{or_parts, or_from, or_left, or_right}
use Rattle.lgx_cover.specs.declared.version.Version.{Version}
use Rattle.lgx_cover.specs.TableView.{TableView}
use Rattle.lgx_cover.specs.Counts.{is_version}
use Rattle.lgx_cover.specs.Tables.{version_at, versions_of, has}

-- none of them is a version that isn't there
pub none_at : (tables : List TableView) (w : Version) (k : ℕ) → has (versions_of tables) w ≡ false → k < length tables → is_version (version_at tables k) w ≡ false
none_at [] w k none h = absurd (omega arith)
none_at (t ∷ ts) w zero none h = (or_parts (is_version t.version w) (has (versions_of ts) w) none).0
none_at (t ∷ ts) w (suc k) none h =
    none_at ts w k (or_parts (is_version t.version w) (has (versions_of ts) w) none).1 (omega arith)

-- and one that is a version has it there
pub some_at : (tables : List TableView) (w : Version) (k : ℕ) → k < length tables → is_version (version_at tables k) w ≡ true → has (versions_of tables) w ≡ true
some_at [] w k h is = absurd (omega arith)
some_at (t ∷ ts) w zero h is = or_left (is_version t.version w) (has (versions_of ts) w) is
some_at (t ∷ ts) w (suc k) h is =
    or_right (is_version t.version w) (has (versions_of ts) w) (some_at ts w k (omega arith) is)

-- none is that version, one by one
pub none_of : (tables : List TableView) (w : Version) → ((k : ℕ) → k < length tables → is_version (version_at tables k) w ≡ false) → has (versions_of tables) w ≡ false
none_of [] w none = refl
none_of (t ∷ ts) w none =
    or_from (is_version t.version w) (has (versions_of ts) w) (none zero (omega arith)) (none_of ts w (λ k h. none (suc k) (omega arith)))
