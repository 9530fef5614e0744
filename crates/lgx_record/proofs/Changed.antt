-- The lines of watched places that changed, one place after another.
use Rattle.std.proofs.Common.{◌≡◌, ℕ, zero, suc, ◌+◌, ◌-◌, ◌*◌, ◌/◌, ◌<◌, ◌≤◌, inl, inr, Bool, true, false, cond, List, [], ◌∷◌, ◌++◌, length, map, take, get_or, set, Some, slice_get, ◌≢◌, ℤ, pos, refl, sym, ap, ◌∙◌, subst, arith, append_assoc, add-zero, add-one, length-append}
use Rattle.std.proofs.lemmas.Bool.{cases_lt, false≢true}
use Rattle.std.proofs.lemmas.Bool.Decides.{Decides-int_eq}
use Rattle.std.proofs.lemmas.List.{append-nil, map-append, take_more, take_all, ext_get_or, get_or-map, length-map, length-set, get_or-set_same, get_or-set_other}
use Rattle.std.proofs.lemmas.Option.{slice_get_cases}
use Rattle.spec_base.specs.declared.limits.TheConstants.{MAX_IMAGE_BYTES}
use Rattle.spec_base.proofs.Numbers.{one_on}
use Rattle.lgx_num.specs.Number.{int_eq, bytes_in}
use Rattle.lgx_num.specs.Image.{number, bits_of, IsByteAligned, InBounds}
use Rattle.lgx_num.specs.declared.number.Kind.{Kind}
use Rattle.lgx_num.specs.declared.number.Kind.TheVariants.{Bool as KBool, Sint, Int, Dint}
use Rattle.lgx_num.specs.declared.place.Place.{Place}
use Rattle.lgx_image.specs.Grains.{ImageView, NoneIsHit}
use Rattle.lgx_image.proofs.Marks.{word_of-is}
use Rattle.lgx_watch.specs.Kept.{KeptLines}
use Rattle.lgx_watch.specs.Watches.{LiesInWord, LiesInNoHit, is_member}
use Rattle.spec_machine.specs.declared.line.Line.{Line}
use Rattle.spec_machine.specs.declared.line.Line.TheVariants.{Set}
use Rattle.spec_machine.specs.Project.{Watch}
use Rattle.spec_machine.specs.Report.{set_lines}
use Rattle.lgx_record.specs.declared.lines.Stamp.{Stamp}
use Rattle.lgx_record.specs.EventLines.{with_event_lines, Compared}
use Rattle.lgx_record.proofs.Logs.{with_event_lines-append}
use Rattle.lgx_record.specs.Changes.{numbers_at, change_line, change_lines, AreAsCompared, HasWritten, IsLoneWritten}

-- ---- numbers

-- the number of a place of those
pub number-at : (image : List ℕ) (places : List Place) (i : ℕ) (d : Place) → i < length places → get_or (numbers_at image places) i (pos 0) ≡ number image (get_or places i d)
number-at image places i d below = get_or-map (number image) places i d (pos 0) below

pub length-numbers : (image : List ℕ) (places : List Place) → length (numbers_at image places) ≡ length places
length-numbers image places = length-map places (number image)

-- one number more
pub numbers-more : (image : List ℕ) (places : List Place) (i : ℕ) (d : Place) → i < length places → numbers_at image (take (i + 1) places) ≡ numbers_at image (take i places) ++ number image (get_or places i d) ∷ []
numbers-more image places i d below =
    ap (numbers_at image) (take_more places i d below) ∙ map-append (number image) (take i places) (get_or places i d ∷ [])

-- ---- what the report tells

-- the lines of watched places are those of their numbers before and after
pub set_lines-changes : (n : ℕ) (watches : List Watch) (old new : List ℕ) → set_lines n watches old new ≡ change_lines n (numbers_at old (map (λ w. w.place) watches)) (numbers_at new (map (λ w. w.place) watches))
set_lines-changes n [] old new = refl
set_lines-changes n (w ∷ ws) old new =
    ap (λ (rest : List Line). change_line n (number old w.place) (number new w.place) ++ rest) (set_lines-changes (n + 1) ws old new)

line_or_none : (b : Bool) (w : ℕ) (v : ℤ) → length (let lines : List Line = cond b [] (Set w v ∷ []) in lines) ≤ 1
line_or_none true w v = omega arith
line_or_none false w v = omega arith

-- at most one for each
pub few_changes : (n : ℕ) (old new : List ℤ) → length (change_lines n old new) ≤ length old
few_changes n [] new = omega arith
few_changes n (v ∷ vs) [] = omega arith
few_changes n (v ∷ vs) (u ∷ us) =
    let one = line_or_none (int_eq v u) n u in
    let rest = few_changes (n + 1) vs us in
    let all = length-append (change_line n v u) (change_lines (n + 1) vs us) in
    omega arith

-- ---- place by place

-- a place that has not changed has no line
pub change_line-same : (w : ℕ) (old new : ℤ) → old ≡ new → change_line w old new ≡ []
change_line-same w old new same = ap (λ b. let lines : List Line = cond b [] (Set w new ∷ []) in lines) ((Decides-int_eq old new).1 same)

-- one place more
pub take-one : (n : ℕ) (old new : List ℤ) (w : ℕ) → length old ≡ length new → w < length old → change_lines n (take (suc w) old) (take (suc w) new) ≡ change_lines n (take w old) (take w new) ++ change_line (n + w) (get_or old w (pos 0)) (get_or new w (pos 0))
take-one n [] new w many below = absurd (omega arith)
take-one n (v ∷ vs) [] w many below = absurd (omega arith)
take-one n (v ∷ vs) (u ∷ us) zero many below =
    append-nil (change_line n v u) ∙ ap (λ m. change_line m v u) (sym (add-zero n))
take-one n (v ∷ vs) (u ∷ us) (suc w) many below =
    let first = change_line n v u in
    let old = get_or vs w (pos 0) in
    let new = get_or us w (pos 0) in
    ap (λ (rest : List Line). first ++ rest) (take-one (n + 1) vs us w (omega arith) (omega arith))
    ∙ sym (append_assoc first (change_lines (n + 1) (take w vs) (take w us)) (change_line (n + 1 + w) old new))
    ∙ ap (λ m. (first ++ change_lines (n + 1) (take w vs) (take w us)) ++ change_line m old new) (sym (one_on n w))

-- places that have not changed have no lines
pub take-same : (old new : List ℤ) (i d : ℕ) → length old ≡ length new → ((k : ℕ) → i ≤ k → k < i + d → k < length old → get_or old k (pos 0) ≡ get_or new k (pos 0)) → change_lines 0 (take (i + d) old) (take (i + d) new) ≡ change_lines 0 (take i old) (take i new)
take-same old new i zero many same = ap (λ m. change_lines 0 (take m old) (take m new)) (add-zero i)
take-same old new i (suc d) many same =
    let next : i + suc d ≡ suc (i + d) = omega arith in
    let before = take-same old new i d many (λ k above under below. same k above (omega arith) below) in
    ap (λ m. change_lines 0 (take m old) (take m new)) next
    ∙ elim (cases_lt (i + d) (length old)) [
      | inl below ↦
          take-one 0 old new (i + d) many below
          ∙ ap (λ (rest : List Line). change_lines 0 (take (i + d) old) (take (i + d) new) ++ rest) (change_line-same (0 + (i + d)) (get_or old (i + d) (pos 0)) (get_or new (i + d) (pos 0)) (same (i + d) (omega arith) (omega arith) below))
          ∙ append-nil (change_lines 0 (take (i + d) old) (take (i + d) new))
          ∙ before
      | inr past ↦
          ap (λ (xs : List ℤ). change_lines 0 xs (take (suc (i + d)) new)) (take_all (suc (i + d)) old (omega arith) ∙ sym (take_all (i + d) old past))
          ∙ ap (λ (xs : List ℤ). change_lines 0 (take (i + d) old) xs) (take_all (suc (i + d)) new (omega arith) ∙ sym (take_all (i + d) new (omega arith)))
          ∙ before
    ]

-- from place i on nothing has changed: then these are all lines
pub all-lines : (old new : List ℤ) (i : ℕ) → i ≤ length old → length old ≡ length new → ((k : ℕ) → i ≤ k → k < length old → get_or old k (pos 0) ≡ get_or new k (pos 0)) → change_lines 0 (take i old) (take i new) ≡ change_lines 0 old new
all-lines old new i within many same =
    let whole : i + (length old - i) ≡ length old = omega arith in
    sym (take-same old new i (length old - i) many (λ k above under below. same k above below))
    ∙ ap (λ m. change_lines 0 (take m old) (take m new)) whole
    ∙ ap (λ (xs : List ℤ). change_lines 0 xs (take (length old) new)) (take_all (length old) old (omega arith))
    ∙ ap (λ (xs : List ℤ). change_lines 0 old xs) (take_all (length old) new (omega arith))

-- ---- a walk over the places that may have changed

-- the places before from have been compared, and the others are as before
pub record IsSoFar (old new : KeptLines) (at : Stamp) (before values now : List ℤ) (from : ℕ) : Type 0 where
  pub log : new ≡ with_event_lines old at (change_lines 0 (take from before) (take from now))
  pub seen : (k : ℕ) → k < from → get_or values k (pos 0) ≡ get_or now k (pos 0)
  pub rest : (k : ℕ) → from ≤ k → get_or values k (pos 0) ≡ get_or before k (pos 0)

pub walk-starts : (log : KeptLines) (at : Stamp) (before now : List ℤ) → IsSoFar log log at before before now 0
walk-starts log at before now = record { log = refl; seen = λ k l. absurd (omega arith); rest = λ k l. refl }

-- place w is compared, and from place from on, up to it, nothing has changed
pub walk-goes-on : (old new next : KeptLines) (at : Stamp) (before values now : List ℤ) (from w : ℕ) → IsSoFar old new at before values now from → from ≤ w → w < length before → length before ≡ length now → length values ≡ length before → ((k : ℕ) → from ≤ k → k < w → get_or before k (pos 0) ≡ get_or now k (pos 0)) → next ≡ with_event_lines new at (change_line w (get_or values w (pos 0)) (get_or now w (pos 0))) → IsSoFar old next at before (set values w (get_or now w (pos 0))) now (suc w)
walk-goes-on old new next at before values now from w h past below many kept same is = record {
  log =
      is
      ∙ ap (λ (k : KeptLines). with_event_lines k at (change_line w (get_or values w (pos 0)) (get_or now w (pos 0)))) h.log
      ∙ with_event_lines-append old at (change_lines 0 (take from before) (take from now)) (change_line w (get_or values w (pos 0)) (get_or now w (pos 0)))
      ∙ ap (with_event_lines old at) lines;
  seen = λ k l. elim (cases_lt k w) [ inl under ↦ other k (omega arith) ∙ under_seen k under | inr not_under ↦ here k (omega arith) ];
  rest = λ k l. (let e = h.rest k (omega arith) in other k (omega arith) ∙ e);
}
  where
    gap : from + (w - from) ≡ w
    gap = omega arith

    skipped : change_lines 0 (take w before) (take w now) ≡ change_lines 0 (take from before) (take from now)
    skipped =
        ap (λ m. change_lines 0 (take m before) (take m now)) (sym gap)
        ∙ take-same before now from (w - from) many (λ k above under within. same k above (omega arith))

    lines : change_lines 0 (take from before) (take from now) ++ change_line w (get_or values w (pos 0)) (get_or now w (pos 0)) ≡ change_lines 0 (take (suc w) before) (take (suc w) now)
    lines =
        ap (λ (xs : List Line). xs ++ change_line w (get_or values w (pos 0)) (get_or now w (pos 0))) (sym skipped)
        ∙ ap (λ v. change_lines 0 (take w before) (take w now) ++ change_line w v (get_or now w (pos 0))) (h.rest w past)
        ∙ sym (take-one 0 before now w many below ∙ ap (λ m. change_lines 0 (take w before) (take w now) ++ change_line m (get_or before w (pos 0)) (get_or now w (pos 0))) (omega arith))

    other : (k : ℕ) → k ≢ w → get_or (set values w (get_or now w (pos 0))) k (pos 0) ≡ get_or values k (pos 0)
    other k ne = get_or-set_other values w k (get_or now w (pos 0)) (pos 0) ne

    here : (k : ℕ) → k ≡ w → get_or (set values w (get_or now w (pos 0))) k (pos 0) ≡ get_or now k (pos 0)
    here k e = subst (λ m. get_or (set values w (get_or now w (pos 0))) m (pos 0) ≡ get_or now m (pos 0)) (sym e) (get_or-set_same values w (get_or now w (pos 0)) (pos 0) (omega arith))

    under_seen : (k : ℕ) → k < w → get_or values k (pos 0) ≡ get_or now k (pos 0)
    under_seen k under = elim (cases_lt k from) [ inl early ↦ h.seen k early | inr late ↦ h.rest k late ∙ same k late under ]

pub walk-compares : (old new next : KeptLines) (at : Stamp) (before values now : List ℤ) (from w : ℕ) (value : ℤ) → IsSoFar old new at before values now from → from ≤ w → w < length before → length before ≡ length now → length values ≡ length before → ((k : ℕ) → from ≤ k → k < w → get_or before k (pos 0) ≡ get_or now k (pos 0)) → value ≡ get_or now w (pos 0) → next ≡ with_event_lines new at (change_line w (get_or values w (pos 0)) value) → IsSoFar old next at before (set values w value) now (w + 1)
walk-compares old new next at before values now from w value h past below many kept same e is =
    subst (λ n. IsSoFar old next at before (set values w value) now n) (sym (add-one w))
    (subst (λ v. IsSoFar old next at before (set values w v) now (suc w)) (sym e)
    (walk-goes-on old new next at before values now from w h past below many kept same (is ∙ ap (λ v. with_event_lines new at (change_line w (get_or values w (pos 0)) v)) e)))

-- from place from on nothing has changed
pub walk-ends : (old new : KeptLines) (at : Stamp) (before values now : List ℤ) (from : ℕ) → IsSoFar old new at before values now from → from ≤ length before → length before ≡ length now → length values ≡ length before → ((k : ℕ) → from ≤ k → k < length before → get_or before k (pos 0) ≡ get_or now k (pos 0)) → Compared old new at before values now
walk-ends old new at before values now from h within many kept same = record {
  log = h.log ∙ ap (with_event_lines old at) (all-lines before now from within many same);
  values = ext_get_or (pos 0) values now (kept ∙ many) (λ k l. elim (cases_lt k from) [ inl early ↦ h.seen k early | inr late ↦ h.rest k late ∙ same k late (omega arith) ]);
}

-- nothing has changed
pub compared-nothing : (log : KeptLines) (at : Stamp) (before now : List ℤ) → length before ≡ length now → ((k : ℕ) → k < length before → get_or before k (pos 0) ≡ get_or now k (pos 0)) → Compared log log at before before now
compared-nothing log at before now many same = walk-ends log log at before before now 0 (walk-starts log at before now) (omega arith) many refl (λ k above below. same k below)

-- place w alone may have changed
pub compared-one : (old new : KeptLines) (at : Stamp) (before now : List ℤ) (w : ℕ) (value : ℤ) → w < length before → length before ≡ length now → ((k : ℕ) → k < length before → k ≢ w → get_or before k (pos 0) ≡ get_or now k (pos 0)) → value ≡ get_or now w (pos 0) → new ≡ with_event_lines old at (change_line w (get_or before w (pos 0)) value) → Compared old new at before (set before w value) now
compared-one old new at before now w value below many same e is =
    walk-ends old new at before (set before w value) now (w + 1)
    (walk-compares old old new at before before now 0 w value (walk-starts old at before now) (omega arith) below many refl (λ k above under. same k (omega arith) (omega arith)) e is)
    (omega arith) many (length-set before w value) (λ k above within. same k within (omega arith))

-- a place that lies in no word that is hit has not changed
not_hit : (places : List Place) (values : List ℤ) (image : ImageView) → AreAsCompared places values image → (w : ℕ) → w < length places → ((p : Place) → slice_get places w ≡ Some p → LiesInNoHit image.hits p) → get_or values w (pos 0) ≡ get_or (numbers_at image.bytes places) w (pos 0)
not_hit places values image compared w below none = elim (slice_get_cases places w).1 [
  | inl (p, l, got, is) ↦ compared.same w p got (none p got) ∙ sym (get_or-map (number image.bytes) places w p (pos 0) below ∙ ap (number image.bytes) is)
  | inr (past, e) ↦ absurd (omega arith)
]

-- nor one that isn't in the set
pub not_written : (places : List Place) (values : List ℤ) (image : ImageView) (set : List Bool) → AreAsCompared places values image → HasWritten places image.hits set → (w : ℕ) → w < length places → is_member set w ≡ false → get_or values w (pos 0) ≡ get_or (numbers_at image.bytes places) w (pos 0)
not_written places values image set compared written w below none = not_hit places values image compared w below (λ p got. written.members w p got none)

-- nor any but the one that alone may have
pub not_lone : (places : List Place) (values : List ℤ) (image : ImageView) (n : ℕ) → AreAsCompared places values image → IsLoneWritten places image.hits n → (w : ℕ) → w < length places → w ≢ n → get_or values w (pos 0) ≡ get_or (numbers_at image.bytes places) w (pos 0)
not_lone places values image n compared lone w below other = not_hit places values image compared w below (λ p got. lone w p got other)

-- no word is hit, so no watched place lies in one
lies-in-no-hit : (image : ImageView) → NoneIsHit image → (p : Place) → LiesInNoHit image.hits p
lies-in-no-hit image none p word hit lies = false≢true (sym (none word) ∙ hit)

-- so no place has changed
pub not_written-anywhere : (places : List Place) (values : List ℤ) (image : ImageView) → AreAsCompared places values image → NoneIsHit image → (w : ℕ) → w < length places → get_or values w (pos 0) ≡ get_or (numbers_at image.bytes places) w (pos 0)
not_written-anywhere places values image compared none w below = not_hit places values image compared w below (λ p got. lies-in-no-hit image none p)

-- ---- words

bits : (kind : Kind) (at byte len : ℕ) → at + bits_of kind ≤ 8 * len → byte < at / 8 + bytes_in kind → IsByteAligned kind at → byte < len
bits KBool at byte len inside below aligned = omega arith
bits Sint at byte len inside below aligned = omega arith
bits Int at byte len inside below aligned = omega arith
bits Dint at byte len inside below aligned = omega arith

-- a word in which a place of the image has a byte has a small number
pub small_word : (p : Place) (len word : ℕ) → len ≤ MAX_IMAGE_BYTES → InBounds p len → LiesInWord p word → word < MAX_IMAGE_BYTES
small_word p len word small inside (byte, above, below, is) =
    let within = bits p.kind p.at byte len inside.1 below inside.0 in
    let at = word_of-is byte in
    omega arith
