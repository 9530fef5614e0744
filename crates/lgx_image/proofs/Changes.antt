-- What every change of an image keeps.
use Rattle.std.proofs.Common.{◌≡◌, ◌≢◌, ℕ, ◌+◌, ◌*◌, ◌/◌, ◌%◌, ◌<◌, ◌≤◌, ◌⊎◌, inl, inr, Bool, true, false, List, length, ℤ, pos, get_or, set, refl, sym, ap, ◌∙◌, arith, get_or-set_other}
use Rattle.std.specs.Int.{w8, w16, w32, bit_at}
use Rattle.std.proofs.lemmas.Bool.{cases_eq, cases_lt, false≢true}
use Rattle.lgx_num.specs.declared.number.Kind.{Kind}
use Rattle.lgx_num.specs.declared.number.Kind.TheVariants.{Bool as KBool, Sint, Int, Dint}
use Rattle.lgx_num.specs.declared.place.Place.{Place}
use Rattle.lgx_num.specs.Number.{signed_bytes, signed_of, bytes_in}
use Rattle.lgx_num.specs.Image.{number_of, write, write_of, piece, splice, InBoundsAt, InBounds}
use Rattle.lgx_num.proofs.Images.{splice_before, splice_behind, length-splice, piece-same, write_keeps_length, length-piece}
use Rattle.lgx_image.specs.Grains.{ImageView, grain_of, grains_in, word_of, is_marked, mark_range, HitsAfter, HitsWritten, ChangesOnlyMarked}
use Rattle.lgx_image.specs.Laws.{NoChangeNeedsMarks, ChangesFollowOneAnother, UnmarkedPlacesStay, NoHitKeepsWatched, NoChangeKeepsWatched, TwoChangesKeepWatched, WatchedPlacesStay, UnhitPlacesStay, AllWatched}
use Rattle.lgx_image.specs.Words.{IsNoted}
use Rattle.lgx_image.proofs.Marks.{grain_of-below, word_of-is, mark_range-stays, piece_is_marked}
use Rattle.lgx_image.proofs.WatchedWords.{SameBeside, hits_noted, hits_same, some_differs, byte_changed, byte_same}

-- ---- how they compose

pub no_change_needs_marks : NoChangeNeedsMarks
no_change_needs_marks image = record {
  stays_marked = λ g is. is;
  same_bytes = λ b unmarked. refl;
  stays_hit = λ w is. is;
  same_words = λ b seen unhit. refl;
  same_length = refl;
  same_watched = refl;
}

-- what isn't marked afterwards wasn't before
unmarked_before : (old new : List Bool) → ((g : ℕ) → is_marked old g ≡ true → is_marked new g ≡ true) → (g : ℕ) → is_marked new g ≡ false → is_marked old g ≡ false
unmarked_before old new stays g unmarked = by_mark (is_marked old g) refl
  where
    by_mark : (m : Bool) → is_marked old g ≡ m → is_marked old g ≡ false
    by_mark false is = is
    by_mark true is = absurd (false≢true (sym unmarked ∙ stays g is))

pub changes_follow_one_another : ChangesFollowOneAnother
changes_follow_one_another first second third one two = record {
  stays_marked = λ g is. two.stays_marked g (one.stays_marked g is);
  same_bytes = λ b unmarked. two.same_bytes b unmarked ∙ one.same_bytes b (unmarked_before second.marks third.marks two.stays_marked (grain_of b) unmarked);
  stays_hit = λ w is. two.stays_hit w (one.stays_hit w is);
  same_words = λ b seen unhit.
      two.same_words b (ap (λ watched. is_marked watched (word_of b)) one.same_watched ∙ seen) unhit
      ∙ one.same_words b seen (unmarked_before second.hits third.hits two.stays_hit (word_of b) unhit);
  same_length = two.same_length ∙ one.same_length;
  same_watched = two.same_watched ∙ one.same_watched;
}

-- a place of which each byte is as it was has the number that it had
pub same_number : (old new : List ℕ) (k : Kind) (at : ℕ) → ((b : ℕ) → at / 8 ≤ b → b < at / 8 + bytes_in k → get_or new b 0 ≡ get_or old b 0) → number_of k new at ≡ number_of k old at
same_number old new KBool at same = ap (λ x. pos (bit_at x (at % 8))) (same (at / 8) (omega arith) (omega arith))
same_number old new Sint at same = ap (signed_of w8) (piece-same old new (at / 8) 1 same)
same_number old new Int at same = ap (signed_of w16) (piece-same old new (at / 8) 2 same)
same_number old new Dint at same = ap (signed_of w32) (piece-same old new (at / 8) 4 same)

pub unmarked_place_stays : UnmarkedPlacesStay
unmarked_place_stays old new p only_marked unmarked =
    same_number old.bytes new.bytes p.kind p.at (λ b above below. only_marked.same_bytes b (unmarked b above below))

-- ---- watched words

pub no_hit_keeps_watched : NoHitKeepsWatched
no_hit_keeps_watched old new change none = record {
  same_length = change.same_length;
  same_bytes = λ b on. change.same_words b (ap (λ watched. is_marked watched (word_of b)) (sym change.same_watched) ∙ on) (none (word_of b));
}

pub unhit_place_stays : UnhitPlacesStay
unhit_place_stays old new p change on unhit = same_number old.bytes new.bytes p.kind p.at (λ b above below.
    change.same_words b (ap (λ watched. is_marked watched (word_of b)) (sym change.same_watched) ∙ on b above below) (unhit b above below))

pub no_change_keeps_watched : NoChangeKeepsWatched
no_change_keeps_watched watched bytes = record { same_length = refl; same_bytes = λ b on. refl }

pub two_changes_keep_watched : TwoChangesKeepWatched
two_changes_keep_watched watched first second third one two = record {
  same_length = two.same_length ∙ one.same_length;
  same_bytes = λ b on. two.same_bytes b on ∙ one.same_bytes b on;
}

pub watched_places_stay : WatchedPlacesStay
watched_places_stay watched old new p same on = same_number old new p.kind p.at (λ b above below. same.same_bytes b (on b above below))

-- ---- writes and copies

-- a change of a piece whose grains are marked
pub piece_changes_only_marked : (old new : ImageView) (at size : ℕ) → length old.marks ≡ grains_in (length old.bytes) → length new.bytes ≡ length old.bytes → at + size ≤ length old.bytes → new.marks ≡ mark_range old.marks at size → new.watched ≡ old.watched → HitsWritten old new → SameBeside old.bytes new.bytes at size → ChangesOnlyMarked old new
piece_changes_only_marked old new at size grains len room marks watched hits outside = record {
  stays_marked = λ g is. rw marks (mark_range-stays old.marks at size g is);
  same_bytes = λ b unmarked. elim (cases_lt b at) [
    | inl before ↦ outside b (inl before)
    | inr on ↦ elim (cases_lt b (at + size)) [
      | inr after ↦ outside b (inr after)
      | inl inside ↦
          let there = grain_of-below b (length old.bytes) (omega arith) in
          let is = piece_is_marked old.marks at size (grain_of b) (omega arith) (b, on, inside, λ i. grain_of b) in
          absurd (false≢true (sym unmarked ∙ ap (λ m. is_marked m (grain_of b)) marks ∙ is))
    ]
  ];
  stays_hit = hits.stays;
  same_words = λ b seen unhit. elim (cases_eq (get_or new.bytes b 0) (get_or old.bytes b 0)) [
    | inl same ↦ same
    | inr other ↦ absurd (false≢true (sym unhit ∙ hits.changed b seen other))
  ];
  same_length = len;
  same_watched = watched;
}

-- a write leaves the bytes beside the place
outside_write : (k : Kind) (image : List ℕ) (at : ℕ) (v : ℤ) (b : ℕ) → (b < at / 8) ⊎ (at / 8 + bytes_in k ≤ b) → get_or (write_of k image at v) b 0 ≡ get_or image b 0
outside_write KBool image at v b (inl before) = get_or-set_other image (at / 8) b _ 0 (omega arith)
outside_write KBool image at v b (inr after) = get_or-set_other image (at / 8) b _ 0 (omega arith)
outside_write Sint image at v b (inl before) = splice_before image (at / 8) (signed_bytes w8 v) b before
outside_write Sint image at v b (inr after) = splice_behind image (at / 8) (signed_bytes w8 v) b after
outside_write Int image at v b (inl before) = splice_before image (at / 8) (signed_bytes w16 v) b before
outside_write Int image at v b (inr after) = splice_behind image (at / 8) (signed_bytes w16 v) b after
outside_write Dint image at v b (inl before) = splice_before image (at / 8) (signed_bytes w32 v) b before
outside_write Dint image at v b (inr after) = splice_behind image (at / 8) (signed_bytes w32 v) b after

-- the bytes of a place are in the image
pub bytes_lie : (k : Kind) (at len : ℕ) → InBoundsAt k at len → at / 8 + bytes_in k ≤ len
bytes_lie KBool at len lies = omega (arith, lies.1)
bytes_lie Sint at len lies = omega (arith, lies.0, lies.1)
bytes_lie Int at len lies = omega (arith, lies.0, lies.1)
bytes_lie Dint at len lies = omega (arith, lies.0, lies.1)

pub write_changes_only_marked : (old new : ImageView) (p : Place) (v : ℤ) → length old.marks ≡ grains_in (length old.bytes) → InBounds p (length old.bytes) → new.bytes ≡ write old.bytes p v → new.marks ≡ mark_range old.marks (p.at / 8) (bytes_in p.kind) → new.watched ≡ old.watched → HitsWritten old new → ChangesOnlyMarked old new
write_changes_only_marked old new p v grains lies bytes marks watched hits =
    piece_changes_only_marked old new (p.at / 8) (bytes_in p.kind) grains
    (ap length bytes ∙ write_keeps_length old.bytes p v)
    (bytes_lie p.kind p.at (length old.bytes) lies)
    marks
    watched
    hits
    (λ b apart. ap (λ m. get_or m b 0) bytes ∙ outside_write p.kind old.bytes p.at v b apart)

-- the same of a bit, and of a DINT that begins at a byte
pub bit_changes_only_marked : (old new : ImageView) (bit : ℕ) (v : ℤ) → length old.marks ≡ grains_in (length old.bytes) → bit / 8 < length old.bytes
    → new.bytes ≡ write_of KBool old.bytes bit v → new.marks ≡ mark_range old.marks (bit / 8) 1 → new.watched ≡ old.watched → HitsWritten old new → ChangesOnlyMarked old new
bit_changes_only_marked old new bit v grains lies bytes marks watched hits =
    write_changes_only_marked old new (record { kind = KBool; at = bit }) v grains (tt, omega (arith, lies)) bytes marks watched hits

pub dint_changes_only_marked : (old new : ImageView) (byte : ℕ) (v : ℤ) → length old.marks ≡ grains_in (length old.bytes) → byte + 4 ≤ length old.bytes
    → new.bytes ≡ write_of Dint old.bytes (8 * byte) v → new.marks ≡ mark_range old.marks byte 4 → new.watched ≡ old.watched → HitsWritten old new → ChangesOnlyMarked old new
dint_changes_only_marked old new byte v grains lies bytes marks watched hits =
    let at : byte ≡ 8 * byte / 8 = omega arith in
    write_changes_only_marked old new (record { kind = Dint; at = 8 * byte }) v grains (omega arith, omega (arith, lies)) bytes (marks ∙ ap (λ k. mark_range old.marks k 4) at) watched hits

pub copy_changes_only_marked : (old new : ImageView) (source target size : ℕ) → length old.marks ≡ grains_in (length old.bytes) → target + size ≤ length old.bytes → new.bytes ≡ splice old.bytes target (piece old.bytes source size) → new.marks ≡ mark_range old.marks target size → new.watched ≡ old.watched → HitsWritten old new → ChangesOnlyMarked old new
copy_changes_only_marked old new source target size grains room bytes marks watched hits =
    piece_changes_only_marked old new target size grains
    (ap length bytes ∙ length-splice old.bytes target (piece old.bytes source size))
    room
    marks
    watched
    hits
    (λ b apart. ap (λ m. get_or m b 0) bytes ∙ beside b apart)
  where
    beside : (b : ℕ) → (b < target) ⊎ (target + size ≤ b) → get_or (splice old.bytes target (piece old.bytes source size)) b 0 ≡ get_or old.bytes b 0
    beside b (inl before) = splice_before old.bytes target (piece old.bytes source size) b before
    beside b (inr after) = splice_behind old.bytes target (piece old.bytes source size) b (omega (arith, length-piece old.bytes source size))

-- ---- the hits of a write

-- a write of a place whose bytes are in one word: it changed a byte, or none
pub write_noted : (watched old new : List Bool) (k : Kind) (bytes : List ℕ) (at word : ℕ) (v : ℤ) → ((b : ℕ) → at / 8 ≤ b → b < at / 8 + bytes_in k → word_of b ≡ word) → write_of k bytes at v ≢ bytes → IsNoted watched old new word → HitsAfter watched old new bytes (write_of k bytes at v)
write_noted watched old new k bytes at word v inside differs noted =
    let found = some_differs bytes (write_of k bytes at v) (at / 8) (bytes_in k) (write_keeps_length bytes (record { kind = k; at = at }) v) (outside_write k bytes at v) differs in
    hits_noted watched old new bytes (write_of k bytes at v) (at / 8) (bytes_in k) word found.0 (outside_write k bytes at v) inside (inside found.0 found.1 found.2) found.3 noted

-- a bit's byte is in its word, and an aligned DINT is in one
pub bit_noted : (watched old new : List Bool) (was now : List ℕ) (bit : ℕ) (v : ℤ) → now ≡ write_of KBool was bit v → now ≢ was → IsNoted watched old new (word_of (bit / 8)) → HitsAfter watched old new was now
bit_noted watched old new was now bit v is differs noted =
    rw is (write_noted watched old new KBool was bit (word_of (bit / 8)) v (λ b above below. (let here : b ≡ bit / 8 = omega arith in ap word_of here)) (λ e. differs (is ∙ e)) noted)

pub dint_noted : (watched old new : List Bool) (was now : List ℕ) (byte : ℕ) (v : ℤ) → byte % 4 ≡ 0 → now ≡ write_of Dint was (8 * byte) v → now ≢ was → IsNoted watched old new (word_of byte) → HitsAfter watched old new was now
dint_noted watched old new was now byte v aligned is differs noted =
    rw is (write_noted watched old new Dint was (8 * byte) (word_of byte) v (λ b above below. word_of-is b ∙ omega arith ∙ sym (word_of-is byte)) (λ e. differs (is ∙ e)) noted)

pub byte_noted : (watched old new : List Bool) (was now : List ℕ) (at b : ℕ) → at < length was → now ≡ set was at b → b ≢ get_or was at 0 → IsNoted watched old new (word_of at) → HitsAfter watched old new was now
byte_noted watched old new was now at b within is differs noted = rw is (byte_changed watched old new was at b within differs noted)

pub byte_not_noted : (watched hits : List Bool) (was now : List ℕ) (at b : ℕ) → now ≡ set was at b → b ≡ get_or was at 0 → HitsAfter watched hits hits was now
byte_not_noted watched hits was now at b is same = rw is (byte_same watched hits hits was at b same refl)

pub not_noted : (watched hits : List Bool) (was now : List ℕ) → now ≡ was → HitsAfter watched hits hits was now
not_noted watched hits was now same = hits_same watched hits hits was now refl (λ b. ap (λ bytes. get_or bytes b 0) same)

-- ---- words that come to be watched

-- all words of a place are watched
pub all_watched : (watched : List Bool) (p : Place) (size : ℕ) → size ≡ bytes_in p.kind → ((b : ℕ) → p.at / 8 ≤ b → b < p.at / 8 + size → is_marked watched (word_of b) ≡ true) → AllWatched watched p
all_watched watched p size is all b above below = all b above (omega (arith, is))
