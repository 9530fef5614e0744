-- The first law that isn't kept at a place, law by law.
use Rattle.std.proofs.Common.{◌≡◌, Bool, true, false, cond, List, [], ◌∷◌, Option, Some, None, refl, sym, ◌∙◌, ap}
use Rattle.std.specs.Prelude.{not, find}
use Rattle.std.proofs.lemmas.Bool.{not_from_true, not_from_false}
use Rattle.spec_schedule.specs.Counting.{CountedEvent}
use Rattle.lgx_laws.specs.declared.error.Law.{Law}
use Rattle.lgx_laws.specs.declared.error.Law.TheVariants.{Regions, Copies, Watchdogs, Releases, Starts, Triggers, Scans, Modes, Edits, Numbers}
use Rattle.lgx_laws.specs.Laws.{Roster, keeps_at, broken_at}

found_here : (p : Law → Bool) (x : Law) (xs : List Law) → p x ≡ true → Some x ≡ find p (x ∷ xs)
found_here p x xs h = ap (λ b. cond b (Some x) (find p xs)) (sym h)

found_later : (p : Law → Bool) (x : Law) (xs : List Law) (o : Option Law) → p x ≡ false → o ≡ find p xs → o ≡ find p (x ∷ xs)
found_later p x xs o h is = is ∙ ap (λ b. cond b (Some x) (find p xs)) (sym h)

module _ (r : Roster) (past : List CountedEvent) (x : CountedEvent) where
  abbrev Is : Law → Bool → Type 0
  Is law b = keeps_at law r past x ≡ b

  abbrev fails : Law → Bool
  fails law = not (keeps_at law r past x)

  broken : (law : Law) (xs : List Law) → Is law false → Some law ≡ find fails (law ∷ xs)
  broken law xs h = found_here fails law xs (not_from_false _ h)

  kept : (law : Law) (xs : List Law) (o : Option Law) → Is law true → o ≡ find fails xs → o ≡ find fails (law ∷ xs)
  kept law xs o h is = found_later fails law xs o (not_from_true _ h) is

  -- the laws after so many
  abbrev after10 : List Law
  after10 = []

  abbrev after9 : List Law
  after9 = Numbers ∷ after10

  abbrev after8 : List Law
  after8 = Edits ∷ after9

  abbrev after7 : List Law
  after7 = Modes ∷ after8

  abbrev after6 : List Law
  after6 = Scans ∷ after7

  abbrev after5 : List Law
  after5 = Triggers ∷ after6

  abbrev after4 : List Law
  after4 = Starts ∷ after5

  abbrev after3 : List Law
  after3 = Releases ∷ after4

  abbrev after2 : List Law
  after2 = Watchdogs ∷ after3

  abbrev after1 : List Law
  after1 = Copies ∷ after2

  -- those before it are kept
  skip0 : (o : Option Law) → o ≡ find fails (Regions ∷ after1) → o ≡ broken_at r past x
  skip0 o rest = rest

  skip1 : Is Regions true → (o : Option Law) → o ≡ find fails (Copies ∷ after2) → o ≡ broken_at r past x
  skip1 a o rest = skip0 o (kept Regions after1 o a rest)

  skip2 : Is Regions true → Is Copies true → (o : Option Law) → o ≡ find fails (Watchdogs ∷ after3) → o ≡ broken_at r past x
  skip2 a b o rest = skip1 a o (kept Copies after2 o b rest)

  skip3 : Is Regions true → Is Copies true → Is Watchdogs true → (o : Option Law) → o ≡ find fails (Releases ∷ after4) → o ≡ broken_at r past x
  skip3 a b c o rest = skip2 a b o (kept Watchdogs after3 o c rest)

  skip4 : Is Regions true → Is Copies true → Is Watchdogs true → Is Releases true → (o : Option Law) → o ≡ find fails (Starts ∷ after5) → o ≡ broken_at r past x
  skip4 a b c d o rest = skip3 a b c o (kept Releases after4 o d rest)

  skip5 : Is Regions true → Is Copies true → Is Watchdogs true → Is Releases true → Is Starts true → (o : Option Law) → o ≡ find fails (Triggers ∷ after6) → o ≡ broken_at r past x
  skip5 a b c d e o rest = skip4 a b c d o (kept Starts after5 o e rest)

  skip6 : Is Regions true → Is Copies true → Is Watchdogs true → Is Releases true → Is Starts true → Is Triggers true → (o : Option Law) → o ≡ find fails (Scans ∷ after7) → o ≡ broken_at r past x
  skip6 a b c d e f o rest = skip5 a b c d e o (kept Triggers after6 o f rest)

  skip7 : Is Regions true → Is Copies true → Is Watchdogs true → Is Releases true → Is Starts true → Is Triggers true → Is Scans true → (o : Option Law) → o ≡ find fails (Modes ∷ after8) → o ≡ broken_at r past x
  skip7 a b c d e f g o rest = skip6 a b c d e f o (kept Scans after7 o g rest)

  skip8 : Is Regions true → Is Copies true → Is Watchdogs true → Is Releases true → Is Starts true → Is Triggers true → Is Scans true → Is Modes true → (o : Option Law) → o ≡ find fails (Edits ∷ after9) → o ≡ broken_at r past x
  skip8 a b c d e f g h o rest = skip7 a b c d e f g o (kept Modes after8 o h rest)

  skip9 : Is Regions true → Is Copies true → Is Watchdogs true → Is Releases true → Is Starts true → Is Triggers true → Is Scans true → Is Modes true → Is Edits true → (o : Option Law) → o ≡ find fails (Numbers ∷ after10) → o ≡ broken_at r past x
  skip9 a b c d e f g h i o rest = skip8 a b c d e f g h o (kept Edits after9 o i rest)

  skip10 : Is Regions true → Is Copies true → Is Watchdogs true → Is Releases true → Is Starts true → Is Triggers true → Is Scans true → Is Modes true → Is Edits true → Is Numbers true → (o : Option Law) → o ≡ find fails after10 → o ≡ broken_at r past x
  skip10 a b c d e f g h i j o rest = skip9 a b c d e f g h i o (kept Numbers after10 o j rest)

  pub first : Is Regions false → Some Regions ≡ broken_at r past x
  first a = skip0 (Some Regions) (broken Regions after1 a)

  pub second : Is Regions true → Is Copies false → Some Copies ≡ broken_at r past x
  second a b = skip1 a (Some Copies) (broken Copies after2 b)

  pub third : Is Regions true → Is Copies true → Is Watchdogs false → Some Watchdogs ≡ broken_at r past x
  third a b c = skip2 a b (Some Watchdogs) (broken Watchdogs after3 c)

  pub fourth : Is Regions true → Is Copies true → Is Watchdogs true → Is Releases false → Some Releases ≡ broken_at r past x
  fourth a b c d = skip3 a b c (Some Releases) (broken Releases after4 d)

  pub fifth : Is Regions true → Is Copies true → Is Watchdogs true → Is Releases true → Is Starts false → Some Starts ≡ broken_at r past x
  fifth a b c d e = skip4 a b c d (Some Starts) (broken Starts after5 e)

  pub sixth : Is Regions true → Is Copies true → Is Watchdogs true → Is Releases true → Is Starts true → Is Triggers false → Some Triggers ≡ broken_at r past x
  sixth a b c d e f = skip5 a b c d e (Some Triggers) (broken Triggers after6 f)

  pub seventh : Is Regions true → Is Copies true → Is Watchdogs true → Is Releases true → Is Starts true → Is Triggers true → Is Scans false → Some Scans ≡ broken_at r past x
  seventh a b c d e f g = skip6 a b c d e f (Some Scans) (broken Scans after7 g)

  pub eighth : Is Regions true → Is Copies true → Is Watchdogs true → Is Releases true → Is Starts true → Is Triggers true → Is Scans true → Is Modes false → Some Modes ≡ broken_at r past x
  eighth a b c d e f g h = skip7 a b c d e f g (Some Modes) (broken Modes after8 h)

  pub ninth : Is Regions true → Is Copies true → Is Watchdogs true → Is Releases true → Is Starts true → Is Triggers true → Is Scans true → Is Modes true → Is Edits false → Some Edits ≡ broken_at r past x
  ninth a b c d e f g h i = skip8 a b c d e f g h (Some Edits) (broken Edits after9 i)

  pub tenth : Is Regions true → Is Copies true → Is Watchdogs true → Is Releases true → Is Starts true → Is Triggers true → Is Scans true → Is Modes true → Is Edits true → Is Numbers false → Some Numbers ≡ broken_at r past x
  tenth a b c d e f g h i j = skip9 a b c d e f g h i (Some Numbers) (broken Numbers after10 j)

  pub none : Is Regions true → Is Copies true → Is Watchdogs true → Is Releases true → Is Starts true → Is Triggers true → Is Scans true → Is Modes true → Is Edits true → Is Numbers true → None ≡ broken_at r past x
  none a b c d e f g h i j = skip10 a b c d e f g h i j None refl
