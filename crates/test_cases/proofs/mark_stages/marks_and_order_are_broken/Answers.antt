-- What differs is computed.
use Rattle.std.proofs.Common.{◌≡◌, [], ◌∷◌, Option, Some, None, refl, sym, ◌∙◌, ap}
use Rattle.std.proofs.lemmas.Option.{same_Some}
use Rattle.lgx_rung.specs.declared.ins.Ins.{Ins}
use Rattle.lgx_rung.specs.declared.op.Op.TheVariants.{Nop, Uid, Uie}
use Rattle.spec_machine.specs.declared.answer.Mark.{Mark}
use Rattle.spec_machine.specs.State.{State}
use Rattle.spec_uses.specs.Changes.{next_of}
use Rattle.spec_laws.specs.Marks.{condition_at, shown_if, ShowsMark}
use Rattle.test_cases.specs.MarkStages.{opens, stays_open, copies, begins, executes, leaves}
use Rattle.test_cases.proofs.mark_stages.marks_and_order_are_broken.Goals as goal

abbrev nop : Ins
nop = record { op = Nop; args = [] }

abbrev ins_of : Option Ins → Ins
ins_of (Some i) = i
ins_of None = nop

-- another mark than that of the instruction before which the scan stands
wrong : (s : State) (i : Ins) (seen right : Mark) → next_of s 0 ≡ Some i → shown_if (condition_at s 0) i.op i.args s.image ≡ right → (seen ≡ right → ⊥) → ShowsMark s 0 seen → ⊥
wrong s i seen right at is other h =
    other (h.shows ∙ (ap (λ (j : Ins). shown_if (condition_at s 0) j.op j.args s.image) (same_Some h.ins i (sym h.next ∙ at)) ∙ is))

pub returns-clause-unmarked : goal.returns-clause-unmarked
returns-clause-unmarked c = ((tt, tt, record { mode = refl; down = refl }, tt), λ h. wrong opens.before (record { op = Uid; args = [] }) _ _ refl refl (λ e. cc e) h)

pub returns-clause-closes : goal.returns-clause-closes
returns-clause-closes c = ((tt, tt, record { mode = refl; down = refl }, tt), λ h. wrong stays_open.before (record { op = Uie; args = [] }) _ _ refl refl (λ e. cc e) h)

pub returns-clause-never_starts : goal.returns-clause-never_starts
returns-clause-never_starts c = ((tt, tt, record { mode = refl; down = refl }, tt), λ h. wrong copies.before (ins_of (next_of copies.before 0)) _ _ refl refl (λ e. cc e) h)

pub returns-clause-leaves_at_once : goal.returns-clause-leaves_at_once
returns-clause-leaves_at_once c = (
  (
    ((tt, tt, record { mode = refl; down = refl }, tt), refl),
    (((tt, tt, record { mode = refl; down = refl }, tt), refl), tt),
  ),
  λ h. (let e : [] ≡ nop ∷ [] = h (record { before = []; begin = begins; during = []; end = record leaves { before = begins.after }; after = []; places = refl; program = 0; begins = refl; ends = refl; one_begin = refl; straight = refl }) in cc e),
)

pub returns-clause-executes_twice : goal.returns-clause-executes_twice
returns-clause-executes_twice c = (
  (
    ((tt, tt, record { mode = refl; down = refl }, tt), refl),
    (
      ((tt, tt, record { mode = refl; down = refl }, tt), record { ins = nop; next = refl; shows = refl }),
      (
        ((tt, tt, record { mode = refl; down = refl }, tt), record { ins = nop; next = refl; shows = refl }),
        (((tt, tt, record { mode = refl; down = refl }, tt), refl), tt),
      ),
    ),
  ),
  λ h. (let e : nop ∷ nop ∷ [] ≡ nop ∷ [] = h (record { before = []; begin = begins; during = record executes { after = executes.before } ∷ executes ∷ []; end = leaves; after = []; places = refl; program = 0; begins = refl; ends = refl; one_begin = refl; straight = refl }) in cc e),
)
