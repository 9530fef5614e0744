-- What stands under the lock may go from one thread to another if what is recorded may: so may each of its fields. The search goes
-- down by itself but where types are recursive, or have many fields: there the way is named.
use denote.Param.Send.{IsSend, sendable, struct_send, recorded_send as of_fields, view_send}
use denote.RattleType.{RattleType}
use denote.Struct.Declared.{shape}
use Rattle.std.specs.declared.sync.ledger.Ledger as Ledger
use Rattle.std.proofs.sync.ledger.Book.TheSendSync as book
use Rattle.std.proofs.Crossing.{crosses}
use Rattle.lgx_history.proofs.history.History.TheSendSync as history
use Rattle.lgx_lanes.specs.declared.input.Input as Input
use Rattle.lgx_lanes.specs.declared.recorded.Recorded as Recorded
use Rattle.lgx_lanes.specs.contracts.locked_run.HasParts as HasParts
use Rattle.lgx_lanes.specs.contracts.locked_run.LockedRun as LockedRun
use Rattle.lgx_lanes.specs.contracts.locked_run.LockedRun.TheInside as locked_run

pub fit_send : (I L : RattleType) (i : Input.Ghosts I.Denot) (l : Ledger.Ghosts L.Denot) → IsSend I → IsSend L → IsSend (HasParts.the_field I L i l).row
fit_send I L i l s t =
    struct_send (shape (HasParts.the_type I L i l))
    (search (sendable, crosses) depth 40, (search (sendable, crosses) depth 40, tt))

module _ (I R A S E : RattleType) (i : Input.Ghosts I.Denot) (a : Ledger.Ghosts A.Denot) (s : Ledger.Ghosts S.Denot) (e : Ledger.Ghosts E.Denot) (r : Recorded.Ghosts R.Denot I.Denot) where
  under_lock_fields : IsSend I → IsSend R → IsSend A → IsSend S → IsSend E → IsSend (locked_run.the_row I R A S E i a s e r)
  under_lock_fields si sr sa ss se =
      of_fields (locked_run.the_field I R A S E i a s e r).row _ _ (locked_run.the_type I R A S E i a s e r).to_one
      (struct_send (shape (locked_run.the_type I R A S E i a s e r)) (
        sr,
        (
          history.the_send,
          (
            book.the_send A a,
            (
              book.the_send S s,
              (
                book.the_send E e,
                (
                  fit_send I A i a si sa,
                  (
                    fit_send I S i s si ss,
                    (
                      fit_send I E i e si se,
                      tt,
                    ),
                  ),
                ),
              ),
            ),
          ),
        ),
      ))

  pub under_lock_send : IsSend I → IsSend R → IsSend A → IsSend S → IsSend E → IsSend (LockedRun.the_row I R A S E i a s e r)
  under_lock_send si sr sa ss se = view_send _ _ _ _ _ (under_lock_fields si sr sa ss se)
