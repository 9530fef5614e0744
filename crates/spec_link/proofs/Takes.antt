-- All words in of a packet leave its words in the tag.
use Rattle.std.proofs.Common.{◌≡◌, ℕ, ◌+◌, ◌*◌, ◌/◌, ◌≤◌, ◌<◌, Bool, true, false, List, [], ◌∷◌, ◌++◌, length, refl, sym, ◌∙◌, ap, subst, inr, arith}
use Rattle.std.specs.Prelude.{ℤ, Option, Some, None, Ok, Err, nat_lt, slice_index_or, if◌then◌else◌}
use Rattle.std.specs.List.{AllByRecursion as Each}
use Rattle.std.specs.Int.{w32}
use Rattle.std.proofs.lemmas.Option.{same_Some}
use Rattle.std.proofs.Math.Nat.{mul-div_cancel, mul-mod_left}
use Rattle.std.proofs.lemmas.Bool.{lt-ltb}
use Rattle.std.proofs.lemmas.List.{append-nil, append_assoc}
use Rattle.spec_base.specs.declared.limits.TheConstants.{OWN_LANE}
use Rattle.lgx_num.specs.declared.number.Kind.TheVariants.{Dint}
use Rattle.lgx_num.specs.Number.{fits}
use Rattle.lgx_num.specs.Image.{signed_at, write_signed, write, InBounds}
use Rattle.lgx_num.proofs.Numbers.{value_in_range_is_kept}
use Rattle.lgx_num.proofs.Images.{reads_what_was_written, other_places_stay}
use Rattle.lgx_num.specs.declared.place.Place.{Place}
use Rattle.spec_tables.specs.declared.conn.ConnDef.{ConnDef}
use Rattle.spec_tables.specs.declared.conn.Slot.{Slot}
use Rattle.spec_tables.specs.declared.conn.ConnFault.TheVariants.{N2}
use Rattle.spec_tables.specs.declared.task.Release.{Release}
use Rattle.spec_tables.specs.declared.task.Release.TheVariants.{Released, Overlap, Inhibited}
use Rattle.spec_tables.specs.Connections.{conn_named, no_conn, slot, slot_of, slot_in, in_direction as in_slot}
use Rattle.spec_tables.specs.Forces.{Forces, forced, masked}
use Rattle.spec_tables.specs.Tasks.{held, release_answer}
use Rattle.spec_machine.specs.declared.reply.Mode.{Mode}
use Rattle.spec_machine.specs.declared.reply.Mode.TheVariants as mode
use Rattle.spec_machine.specs.declared.event.Event.{Event}
use Rattle.spec_machine.specs.declared.event.Event.TheVariants as events
use Rattle.spec_machine.specs.declared.event.Action.TheVariants.{WordIn}
use Rattle.spec_machine.specs.Actions.{triggers, put_in, held_or, word_in}
use Rattle.spec_machine.specs.Machine.{run, run_from, step}
use Rattle.spec_machine.specs.Project.{Project}
use Rattle.spec_machine.specs.Releases.{after_answer}
use Rattle.spec_machine.specs.State.{State, Plan, start}
use Rattle.spec_machine.specs.ValidProject.{IsValidProject}
use Rattle.spec_reach.proofs.Sizes.{runs_keep_sizes}
use Rattle.spec_reach.proofs.Words.{slots_are_in_image}
use Rattle.spec_reach.proofs.Images.{images_keep_length}
use Rattle.spec_lanes.proofs.OpenCopies.{closed_after}
use Rattle.spec_link.specs.LinkText.{conn_at, connection}
use Rattle.spec_link.specs.Links.{words_from, is_held}
use Rattle.spec_link.proofs.Whole.{IsQuiet, IsPacket}
use Rattle.spec_link.specs.Consumed.{dints, words_after}

-- ---- one word in

answer_image : (a : Release) (t : ℕ) (s : State) → (after_answer a t s).state.image ≡ s.image
answer_image Released t s = refl
answer_image Overlap t s = refl
answer_image Inhibited t s = refl

trigger_image : (s : State) (m : Mode) (o : Option ℕ) → (triggers s m o).state.image ≡ s.image
trigger_image s mode.Run (Some t) = answer_image (release_answer s.table t) t s
trigger_image s mode.Program (Some t) = refl
trigger_image s mode.Faulted (Some t) = refl
trigger_image s mode.Run None = refl
trigger_image s mode.Program None = refl
trigger_image s mode.Faulted None = refl

unforced : (f : Forces) (io : ℕ) (v : ℤ) → f.enabled ≡ false → forced f io v ≡ v
unforced f io v e = go f.enabled e
  where
    go : (b : Bool) → b ≡ false → (if b then masked (slice_index_or f.words io None) v else v) ≡ v
    go false h = refl
    go true h = absurd (cc h)

-- where no CPS is open and no force enabled, the word is put as it is
word_image : (s : State) (name : List ℕ) (k : ℕ) (v : ℤ) (to : Slot) → held s.table ≡ false → s.forces.enabled ≡ false → slot s.plan.conns name k false ≡ Ok to
    → (word_in s name k v).state.image ≡ write_signed w32 s.image to.byte v
word_image s name k v to free off at =
    ap (λ (b : Bool). (held_or b s (put_in s v (slot s.plan.conns name k false))).state.image) free
    ∙ (ap (λ x. (put_in s v x).state.image) at
    ∙ (trigger_image (record s { image = write_signed w32 s.image to.byte (forced s.forces to.io v) }) s.mode to.trigger
    ∙ ap (λ (z : ℤ). write_signed w32 s.image to.byte z) (unforced s.forces to.io v off)))

-- ---- the slots of an input

-- its number among the connections
input_at : (conns : List ConnDef) (o : Option ℕ) (c : ConnDef) → conn_at conns false o ≡ Some c → (n : ℕ) × (o ≡ Some n) × (slice_index_or conns n no_conn ≡ c) × (c.output ≡ false)
input_at conns None c h = absurd (cc h)
input_at conns (Some n) c h = go (slice_index_or conns n no_conn).output refl h
  where
    go : (b : Bool) → (slice_index_or conns n no_conn).output ≡ b → (if b then None else Some (slice_index_or conns n no_conn)) ≡ Some c → (m : ℕ) × (Some n ≡ Some m) × (slice_index_or conns m no_conn ≡ c) × (c.output ≡ false)
    go true e h' = absurd (cc h')
    go false e h' = let is = same_Some _ _ h' in (n, refl, is, ap (λ (d : ConnDef). d.output) (sym is) ∙ e)

-- the slot of word k
slot_at : (conns : List ConnDef) (name : List ℕ) (c : ConnDef) (k : ℕ) → conn_at conns false (conn_named conns name) ≡ Some c → k < c.words → (to : Slot) × (slot conns name k false ≡ Ok to) × (to.byte ≡ c.byte + 4 * k)
slot_at conns name c k h less =
    let at = input_at conns (conn_named conns name) c h in
    let e : slice_index_or conns at.0 no_conn ≡ c = at.2 in (
      slot_of conns at.0 c k,
      ap (λ (o : Option ℕ). slot_in conns o k false) at.1
          ∙ (ap (λ (d : ConnDef). if nat_lt k d.words then in_slot false d.output (slot_of conns at.0 d k) else Err N2) e
          ∙ (ap (λ (b : Bool). if b then in_slot false c.output (slot_of conns at.0 c k) else Err N2) (lt-ltb k c.words less)
          ∙ ap (λ (b : Bool). in_slot false b (slot_of conns at.0 c k)) at.3)),
      refl,
    )

-- ---- all words in

run_over : (s : State) (xs ys : List Event) → run_from s (xs ++ ys) ≡ run_from (run_from s xs) ys
run_over s [] ys = refl
run_over s (x ∷ xs) ys = run_over (step s x).state xs ys

-- what a word in leaves: it stands where it belongs, and what is before it is as before
module _ (p : Project) (name : List ℕ) (c : ConnDef) (valid : IsValidProject p) (is : connection p false name ≡ Some c) where
  -- a word in after a journal
  image_after : (j : List Event) (k : ℕ) (v : ℤ) → is_held p j ≡ false → (run p j).forces.enabled ≡ false → k < c.words
      → (run p (j ++ events.Act OWN_LANE (WordIn name k v) ∷ [])).image ≡ write_signed w32 (run p j).image (c.byte + 4 * k) v
  image_after j k v free off less =
      let conns : (run p j).plan.conns ≡ p.conns = ap (λ (q : Plan). q.conns) (runs_keep_sizes p j).same_plan in
      let to = slot_at p.conns name c k is less in
      let at : slot (run p j).plan.conns name k false ≡ Ok to.0 = ap (λ (cs : List ConnDef). slot cs name k false) conns ∙ to.1 in
      ap (λ (s : State). s.image) (run_over (start p) j (events.Act OWN_LANE (WordIn name k v) ∷ []))
      ∙ (word_image (run p j) name k v to.0 free off at
      ∙ ap (λ (b : ℕ). write_signed w32 (run p j).image b v) to.2)

  inside : (j : List Event) (k : ℕ) → k < c.words → c.byte + 4 * k + 4 ≤ length (run p j).image
  inside j k less =
      let to = slot_at p.conns name c k is less in
      let b = (slots_are_in_image p name k false to.0 valid to.1).bytes in
      let e = to.2 in
      let n = images_keep_length p j in
      omega arith

  -- the word itself, and the words before it
  word_place : ℕ → Place
  word_place byte = record { kind = Dint; at = byte * 8 }

  eight : (b : ℕ) → b * 8 / 8 ≡ b
  eight b = mul-div_cancel b (omega arith)

  place_inside : (b len : ℕ) → b + 4 ≤ len → InBounds (record { kind = Dint; at = b * 8 }) len
  place_inside b len l = (mul-mod_left b 8, omega arith)

  written : (image : List ℕ) (b : ℕ) (v : ℤ) → b + 4 ≤ length image → fits Dint v ≡ true → signed_at w32 (write_signed w32 image b v) b ≡ v
  written image b v l f =
      let at : write image (record { kind = Dint; at = b * 8 }) v ≡ write_signed w32 image b v = ap (λ a. write_signed w32 image a v) (eight b) in
      ap (λ (i : List ℕ). signed_at w32 i b) (sym at)
      ∙ (ap (λ a. signed_at w32 (write image (record { kind = Dint; at = b * 8 }) v) a) (sym (eight b))
      ∙ (reads_what_was_written image (record { kind = Dint; at = b * 8 }) v (place_inside b (length image) l)
      ∙ value_in_range_is_kept Dint v f))

  unwritten : (image : List ℕ) (a b : ℕ) (v : ℤ) → b + 4 ≤ length image → a + 4 ≤ b → signed_at w32 (write_signed w32 image b v) a ≡ signed_at w32 image a
  unwritten image a b v l apart =
      let at : write image (record { kind = Dint; at = b * 8 }) v ≡ write_signed w32 image b v = ap (λ x. write_signed w32 image x v) (eight b) in
      ap (λ (i : List ℕ). signed_at w32 i a) (sym at)
      ∙ (ap (λ x. signed_at w32 (write image (record { kind = Dint; at = b * 8 }) v) x) (sym (eight a))
      ∙ (other_places_stay image (record { kind = Dint; at = b * 8 }) (record { kind = Dint; at = a * 8 }) v (place_inside b (length image) l) (place_inside a (length image) (omega arith)) (inr (omega arith))
      ∙ ap (λ x. signed_at w32 image x) (eight a)))

  free_after : (j : List Event) (k : ℕ) (v : ℤ) → is_held p j ≡ false → is_held p (j ++ events.Act OWN_LANE (WordIn name k v) ∷ []) ≡ false
  free_after j k v free =
      ap (λ (s : State). held s.table) (run_over (start p) j (events.Act OWN_LANE (WordIn name k v) ∷ []))
      ∙ closed_after p (run p j) (events.Act OWN_LANE (WordIn name k v)) (λ e. absurd (cc e)) (record { journal = j; is = refl }) free

  -- ---- a whole packet

  record Put (before after : List ℕ) (k : ℕ) (ws : List ℤ) : Type 0 where
    pub all : dints after (c.byte + 4 * k) (length ws) ≡ ws
    pub earlier : (m : ℕ) → m < k → signed_at w32 after (c.byte + 4 * m) ≡ signed_at w32 before (c.byte + 4 * m)

  puts : (ws : List ℤ) (k : ℕ) (j : List Event) → IsQuiet p (j ++ words_from name k ws) → is_held p j ≡ false → k + length ws ≤ c.words → Each (λ v. fits Dint v ≡ true) ws
      → Put (run p j).image (run p (j ++ words_from name k ws)).image k ws
  puts [] k j q free few fit = record { all = refl; earlier = λ m less. ap (λ (x : List Event). signed_at w32 (run p x).image (c.byte + 4 * m)) (append-nil j) }
  puts (v ∷ vs) k j q free few fit =
      let e = events.Act OWN_LANE (WordIn name k v) in
      let rest = words_from name (k + 1) vs in
      let is : (j ++ e ∷ []) ++ rest ≡ j ++ (e ∷ rest) = append_assoc j (e ∷ []) rest in
      let less : k < c.words = omega arith in
      let off = q.unforced j (e ∷ rest) refl in
      let here = image_after j k v free off less in
      let l = inside j k less in
      let ih = puts vs (k + 1) (j ++ e ∷ []) (subst (IsQuiet p) (sym is) q) (free_after j k v free) (omega arith) fit.1 in
      let ih' = subst (λ (x : List Event). Put (run p (j ++ e ∷ [])).image (run p x).image (k + 1) vs) is ih in
      put_on (run p j).image (run p (j ++ e ∷ [])).image (run p (j ++ (e ∷ rest))).image k v vs here l fit.0 ih'
    where
      put_on : (before next after : List ℕ) (k : ℕ) (v : ℤ) (vs : List ℤ) → next ≡ write_signed w32 before (c.byte + 4 * k) v → c.byte + 4 * k + 4 ≤ length before → fits Dint v ≡ true → Put next after (k + 1) vs → Put before after k (v ∷ vs)
      put_on before next after k v vs here l f ih =
          let first : signed_at w32 after (c.byte + 4 * k) ≡ v = ih.earlier k (omega arith) ∙ (ap (λ (i : List ℕ). signed_at w32 i (c.byte + 4 * k)) here ∙ written before (c.byte + 4 * k) v l f) in
          let at : c.byte + 4 * k + 4 ≡ c.byte + 4 * (k + 1) = omega arith in
          record {
            all = ap (λ (x : ℤ). x ∷ dints after (c.byte + 4 * k + 4) (length vs)) first ∙ ap (λ (xs : List ℤ). v ∷ xs) (ap (λ a. dints after a (length vs)) at ∙ ih.all);
            earlier = λ m less. ih.earlier m (omega arith) ∙ (ap (λ (i : List ℕ). signed_at w32 i (c.byte + 4 * m)) here ∙ unwritten before (c.byte + 4 * m) (c.byte + 4 * k) v l (omega arith));
          }

  pub takes : (j : List Event) (words : List ℤ) → IsQuiet p (j ++ words_from name 0 words) → is_held p j ≡ false → IsPacket c.words words → words_after p c (j ++ words_from name 0 words) ≡ words
  takes j words q free packet =
      let put = puts words 0 j q free (let n = packet.many in omega arith) packet.fit in
      let at : c.byte ≡ c.byte + 4 * 0 = omega arith in
      ap (λ a. dints (run p (j ++ words_from name 0 words)).image a c.words) at
      ∙ (ap (λ n. dints (run p (j ++ words_from name 0 words)).image (c.byte + 4 * 0) n) (sym packet.many) ∙ put.all)
