-- I/O words: where they lie, and what they trigger.
use Rattle.std.proofs.Common.{◌≡◌, ℕ, ◌+◌, ◌*◌, ◌/◌, ◌<◌, ◌≤◌, Bool, true, false, List, length, get_or, Option, Some, None, Ok, Err, ℤ, refl, sym, ap, ◌∙◌, subst, arith, if◌then◌else◌}
use Rattle.std.specs.Prelude.{nat_lt, nat_eq, not, ◌&&◌}
use Rattle.std.specs.Int.{w32}
use Rattle.std.specs.List.{AllByRecursion as Each}
use Rattle.std.proofs.lemmas.Bool.{ltb-true}
use Rattle.std.proofs.Math.Nat.{mul-div_cancel, mul-mod_left}
use Rattle.spec_base.proofs.Binds.{err_not_ok, ok_inj}
use Rattle.lgx_num.specs.declared.number.Kind.TheVariants.{Dint}
use Rattle.lgx_num.specs.Image.{InBounds, write, write_signed, number, signed_at}
use Rattle.lgx_num.specs.Name.{same}
use Rattle.spec_tables.specs.declared.conn.ConnDef.{ConnDef}
use Rattle.spec_tables.specs.declared.conn.Slot.{Slot}
use Rattle.spec_tables.specs.declared.conn.ConnFault.TheVariants.{N2}
use Rattle.spec_tables.specs.Connections.{no_conn, conn_named, words_of, slot_of, in_direction, slot_in, slot}
use Rattle.spec_tables.proofs.StateLists.{found}
use Rattle.spec_base.specs.declared.limits.TheConstants.{MAX_IMAGE_BYTES}
use Rattle.spec_language.specs.Declarations.{bytes}
use Rattle.spec_tables.specs.Forces.{Forces, forced}
use Rattle.spec_machine.specs.declared.answer.Outcome.{Outcome}
use Rattle.spec_machine.specs.declared.reply.Mode.{Mode}
use Rattle.spec_machine.specs.declared.reply.Mode.TheVariants as mode
use Rattle.spec_machine.specs.declared.reply.Reply.TheVariants.{Done}
use Rattle.spec_machine.specs.Actions.{triggers}
use Rattle.lgx_image.specs.Grains.{ImageView}
use Rattle.lgx_steps.specs.Gives.{ViewGives}
use Rattle.lgx_steps.proofs.States.{with-image}
use Rattle.spec_machine.specs.State.{State, Plan}
use Rattle.lgx_steps.specs.PartsView.{PartsView}
use Rattle.lgx_steps.specs.Represents.{RepresentsState}
use Rattle.lgx_steps.specs.Plans.{IsKnown, ConnFits}
use Rattle.lgx_steps.proofs.Elements.{each-at}

-- ---- slots

-- the word of a slot lies in an image of so many bytes, and what it triggers is one of so many tasks
pub record SlotFits (len tasks : ℕ) (k : Slot) : Type 0 where
  pub inside : k.byte + 4 ≤ len
  pub trigger : IsKnown tasks k.trigger

module _ (len tasks : ℕ) where
  known-if : (b : Bool) (o : Option ℕ) → IsKnown tasks o → IsKnown tasks (if b then o else None)
  known-if true o h = h
  known-if false o h = tt

  of-conn : (conns : List ConnDef) (n : ℕ) (c : ConnDef) (word : ℕ) → ConnFits len tasks c → word < c.words → SlotFits len tasks (slot_of conns n c word)
  of-conn conns n c word h l = record { inside = omega (arith, h.inside); trigger = known-if (not c.output && nat_eq (word + 1) c.words) c.trigger h.trigger }

  directed : (output is : Bool) (x k : Slot) → in_direction output is x ≡ Ok k → SlotFits len tasks x → SlotFits len tasks k
  directed true true x k e h = subst (SlotFits len tasks) (ok_inj x k e) h
  directed false false x k e h = subst (SlotFits len tasks) (ok_inj x k e) h
  directed true false x k e h = err_not_ok _ _ e
  directed false true x k e h = err_not_ok _ _ e

  within : (conns : List ConnDef) (n word : ℕ) (output : Bool) (c : ConnDef) (k : Slot) (b : Bool) → nat_lt word c.words ≡ b → ConnFits len tasks c → (if b then in_direction output c.output (slot_of conns n c word) else Err N2) ≡ Ok k → SlotFits len tasks k
  within conns n word output c k true l h e = directed output c.output (slot_of conns n c word) k e (of-conn conns n c word h (ltb-true _ _ l))
  within conns n word output c k false l h e = err_not_ok _ _ e

  named : (conns : List ConnDef) (name : List ℕ) (word : ℕ) (output : Bool) (k : Slot) (o : Option ℕ) → conn_named conns name ≡ o → Each (ConnFits len tasks) conns → slot_in conns o word output ≡ Ok k → SlotFits len tasks k
  named conns name word output k None f h e = err_not_ok _ _ e
  named conns name word output k (Some n) f h e =
      let there : n < length conns = (found (λ (c : ConnDef). same c.name name) no_conn conns n f).0 in
      let c : ConnDef = get_or conns n no_conn in
      within conns n word output c k (nat_lt word c.words) refl (each-at (ConnFits len tasks) conns n no_conn h there) e

  pub slot-fits : (conns : List ConnDef) (name : List ℕ) (word : ℕ) (output : Bool) (k : Slot) → Each (ConnFits len tasks) conns → Ok k ≡ slot conns name word output → SlotFits len tasks k
  slot-fits conns name word output k h e = named conns name word output k (conn_named conns name) refl h (sym e)

-- ---- the place of a word

-- a word of a connection among the parts: it lies in the image, what it triggers is a task, and it may have a force
pub record WordFits (v : PartsView) (k : Slot) : Type 0 where
  pub small : k.byte < MAX_IMAGE_BYTES
  pub inside : k.byte + 4 ≤ length v.image.bytes
  pub trigger : IsKnown (length v.progress) k.trigger

pub word-fits : (n : ℕ) (v : PartsView) (s : State) (conn : List ℕ) (word : ℕ) (output : Bool) (k : Slot) → RepresentsState n v s → Ok k ≡ slot v.plan.conns conn word output → WordFits v k
word-fits n v s conn word output k h e =
    let len = bytes s.plan.tags in
    let e' : Ok k ≡ slot s.plan.conns conn word output = e ∙ ap (λ (p : Plan). slot p.conns conn word output) h.plan in
    let f : SlotFits len (length s.plan.schedule) k = slot-fits len (length s.plan.schedule) s.plan.conns conn word output k h.sane.plan.conns e' in
    let i = f.inside in
    let b = h.sane.plan.bytes in
    record {
      small = omega arith;
      inside = subst (λ j. k.byte + 4 ≤ j) (sym (ap (λ (b : List ℕ). length b) h.image ∙ h.sane.image)) i;
      trigger = subst (λ j. IsKnown j k.trigger) (sym h.progresses) f.trigger;
    }

-- the image with the word, as it is forced
pub with-word : (n : ℕ) (v : PartsView) (s : State) → RepresentsState n v s → (i : ImageView) (byte io : ℕ) (value : ℤ) → i.bytes ≡ write_signed w32 v.image.bytes byte (forced v.forces io value) → length i.bytes ≡ length v.image.bytes
    → RepresentsState n (record v { image = i }) (record s { image = write_signed w32 s.image byte (forced s.forces io value) })
with-word n v s h i byte io value is long =
    let e : i.bytes ≡ write_signed w32 s.image byte (forced s.forces io value) = is ∙ (ap (λ (b : List ℕ). write_signed w32 b byte (forced v.forces io value)) h.image ∙ ap (λ (f : Forces). write_signed w32 s.image byte (forced f io value)) h.forces) in
    with-image n v s h i (write_signed w32 s.image byte (forced s.forces io value)) e (ap (λ (b : List ℕ). length b) (sym e) ∙ (long ∙ ap (λ (b : List ℕ). length b) h.image))

pub gives-triggers : (n : ℕ) (v : PartsView) (s : State) (outcome : Outcome) (trigger : Option ℕ) (m m' : Mode) → m ≡ s.mode → m ≡ m' → ViewGives n v outcome (triggers s m' trigger) → ViewGives n v outcome (triggers s s.mode trigger)
gives-triggers n v s outcome trigger m m' e is g = subst (λ (x : Mode). ViewGives n v outcome (triggers s x trigger)) (sym is ∙ e) g

pub done-outside : (n : ℕ) (v : PartsView) (s : State) (outcome : Outcome) (trigger : Option ℕ) (m : Mode) → m ≡ s.mode → (m ≡ mode.Run → ⊥) → outcome ≡ record { reply = Done; fault = None; released = 0 } → RepresentsState n v s → ViewGives n v outcome (triggers s s.mode trigger)
done-outside n v s outcome trigger m e outside is r = subst (λ (x : Mode). ViewGives n v outcome (triggers s x trigger)) e (go m trigger outside)
  where
    go : (x : Mode) (o : Option ℕ) → (x ≡ mode.Run → ⊥) → ViewGives n v outcome (triggers s x o)
    go mode.Program o f = record { answers = is; represents = r }
    go mode.Run o f = absurd (f refl)
    go mode.Faulted o f = record { answers = is; represents = r }

pub words-of : (n : ℕ) (v : PartsView) (s : State) → RepresentsState n v s → length v.forces.words ≡ words_of v.plan.conns
words-of n v s h = ap (λ (f : Forces). length f.words) h.forces ∙ (h.sane.words ∙ ap (λ (p : Plan). words_of p.conns) (sym h.plan))

pub word-inside : (byte len : ℕ) → byte + 4 ≤ len → InBounds (record { kind = Dint; at = byte * 8 }) len
word-inside byte len l = (mul-mod_left byte 8, omega arith)

pub word-written : (image : List ℕ) (byte : ℕ) (v : ℤ) → write image (record { kind = Dint; at = byte * 8 }) v ≡ write_signed w32 image byte v
word-written image byte v = ap (λ at. write_signed w32 image at v) (eight byte)
  where
    eight : (b : ℕ) → b * 8 / 8 ≡ b
    eight b = mul-div_cancel b (omega arith)

pub word-read : (image : List ℕ) (byte : ℕ) → number image (record { kind = Dint; at = byte * 8 }) ≡ signed_at w32 image byte
word-read image byte = ap (λ at. signed_at w32 image at) (eight byte)
  where
    eight : (b : ℕ) → b * 8 / 8 ≡ b
    eight b = mul-div_cancel b (omega arith)
