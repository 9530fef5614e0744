-- Places whose words are watched, one after another.
use Rattle.std.proofs.Common.{◌≡◌, ℕ, zero, suc, ◌<◌, Bool, true, List, [], ◌∷◌, length, take, get_or, Some, slice_get, subst, arith}
use Rattle.lgx_num.specs.declared.number.Kind.TheVariants.{Bool as KBool}
use Rattle.lgx_num.specs.declared.place.Place.{Place}
use Rattle.lgx_image.specs.Grains.{is_marked, word_of}
use Rattle.lgx_image.specs.Laws.{AllWatched}
use Rattle.lgx_record.specs.Changes.{AreWatched}

abbrev pub blank : Place
blank = record { kind = KBool; at = 0 }

pub none-watched : (places : List Place) (watched : List Bool) → AreWatched (take 0 places) watched
none-watched places watched w p got = absurd (none w got)
  where
    none : (w : ℕ) → slice_get (take 0 places) w ≡ Some p → ⊥
    none w got = cc

-- one more
module _ (old new : List Bool) (stays : (word : ℕ) → is_marked old word ≡ true → is_marked new word ≡ true) where
  pub one-more-watched : (places : List Place) (i : ℕ) → i < length places → AreWatched (take i places) old → AllWatched new (get_or places i blank) → AreWatched (take (suc i) places) new
  one-more-watched [] i below lie one w p got = absurd (omega arith)
  one-more-watched (q ∷ qs) zero below lie one zero p got = subst (AllWatched new) (cc got) one
  one-more-watched (q ∷ qs) zero below lie one (suc w) p got = absurd (cc got)
  one-more-watched (q ∷ qs) (suc i) below lie one zero p got = λ byte above under. stays (word_of byte) (lie 0 p got byte above under)
  one-more-watched (q ∷ qs) (suc i) below lie one (suc w) p got = one-more-watched qs i (omega arith) (λ v. lie (suc v)) one w p got
