-- The slots and numbers of words.
use Rattle.std.proofs.Common.{◌≡◌, ℕ, ◌+◌, ◌*◌, ◌<◌, ◌≤◌, min, List, length, take, get_or, sym, ◌∙◌, subst, arith}
use Rattle.std.specs.List.{All}
use Rattle.std.proofs.Math.Seq.{take-length}
use Rattle.std.proofs.lemmas.List.{length-take, get_or_read}
use Rattle.std.proofs.lemmas.List.Sums.{sum_by-le, sum_by_more_le}
use Rattle.std.proofs.lemmas.List.Elements.{All-take, All-weaker}
use Rattle.spec_tables.specs.declared.conn.ConnDef.{ConnDef}
use Rattle.spec_tables.specs.Connections.{no_conn, words_of}
use Rattle.spec_base.specs.declared.limits.TheConstants.{MAX_CONNECTIONS, MAX_CONNECTION_WORDS}
use Rattle.lgx_conn.specs.Numbered.{IsSmall, IsNumbered}

-- there are few words in all
pub few_words : (conns : List ConnDef) (n : ℕ) → length conns ≤ MAX_CONNECTIONS → All IsSmall conns → words_of (take n conns) ≤ MAX_CONNECTIONS * MAX_CONNECTION_WORDS
few_words conns n few small =
    let most = sum_by-le (λ (c : ConnDef). c.words) MAX_CONNECTION_WORDS (take n conns) (All-take (λ (c : ConnDef). c.words ≤ MAX_CONNECTION_WORDS) n conns (All-weaker IsSmall (λ (c : ConnDef). c.words ≤ MAX_CONNECTION_WORDS) (λ c h. h.0) conns small)) in
    bound (words_of (take n conns)) (length (take n conns)) (length conns) (subst (λ m. m ≤ length conns) (sym (length-take n conns)) (least n (length conns))) few most
  where
    least : (a b : ℕ) → min a b ≤ b
    least a b = omega arith

    bound : (s a b : ℕ) → a ≤ b → b ≤ MAX_CONNECTIONS → s ≤ a * MAX_CONNECTION_WORDS → s ≤ MAX_CONNECTIONS * MAX_CONNECTION_WORDS
    bound s a b l l' h = omega arith

pub is_small : (conns : List ConnDef) (n : ℕ) (c : ConnDef) → All IsSmall conns → n < length conns → c ≡ get_or conns n c → IsSmall c
is_small conns n c small l e = subst IsSmall (sym e) (small n c l)

-- a word is among the words of all
pub word_within : (conns : List ConnDef) (firsts : List ℕ) (words n word first : ℕ) → IsNumbered conns firsts words
    → n < length conns → first ≡ get_or firsts n first → word < (get_or conns n no_conn).words
    → first + word < words_of conns
word_within conns firsts words n word first is l e lw =
    let l' : n < length firsts = subst (λ m. n < m) (sym is.as_many) l in
    let read : first ≡ words_of (take n conns) = get_or_read firsts n first l' e 0 ∙ is.first n l in
    let more : words_of (take n conns) + (get_or conns n no_conn).words ≤ words_of conns = sum_by_more_le (λ (c : ConnDef). c.words) conns n no_conn l in
    omega arith

-- there are few words in all connections
pub few_in_all : (conns : List ConnDef) → length conns ≤ MAX_CONNECTIONS → All IsSmall conns
    → words_of conns ≤ MAX_CONNECTIONS * MAX_CONNECTION_WORDS
few_in_all conns few small =
    subst (λ (cs : List ConnDef). words_of cs ≤ MAX_CONNECTIONS * MAX_CONNECTION_WORDS) (take-length conns)
    (few_words conns (length conns) few small)
