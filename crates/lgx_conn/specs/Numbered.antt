-- Connections whose words are numbered.
use Rattle.std.specs.Prelude.{◌≡◌, ℕ, ◌+◌, ◌*◌, ◌<◌, ◌≤◌, List, length, take, slice_index_or}
use Rattle.std.specs.List.{All}
use Rattle.spec_base.specs.declared.limits.TheConstants.{MAX_CONNECTIONS, MAX_CONNECTION_WORDS, MAX_IMAGE_BYTES}
use Rattle.spec_tables.specs.declared.conn.ConnDef.{ConnDef}
use Rattle.spec_tables.specs.Connections.{words_of}

-- A connection has few words, and they lie in the image.
abbrev pub IsSmall : ConnDef → Type 0
IsSmall c = (c.words ≤ MAX_CONNECTION_WORDS) × (c.byte + 4 * c.words ≤ MAX_IMAGE_BYTES)

-- There are few connections, for each the number of its first word, and the number of all words.
pub record IsNumbered (conns : List ConnDef) (firsts : List ℕ) (words : ℕ) : Type 0 where
  pub few : length conns ≤ MAX_CONNECTIONS
  pub small : All IsSmall conns
  pub as_many : length firsts ≡ length conns
  pub first : (n : ℕ) → n < length conns → slice_index_or firsts n 0 ≡ words_of (take n conns)
  pub all : words ≡ words_of conns
