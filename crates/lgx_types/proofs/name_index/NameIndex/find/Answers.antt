use Rattle.std.proofs.Common.{◌≡◌, sym}
use Rattle.std.specs.Prelude.{position}
use Rattle.lgx_num.specs.Name.{same}
use Rattle.lgx_types.proofs.Spellings.{long_number, number_is, number_within}
use Rattle.lgx_types.proofs.name_index.NameIndex.find.Goals as goal

pub returns-then-text-gt-MAX_NAME_BYTES-clause-number : goal.returns-then-text-gt-MAX_NAME_BYTES-clause-number
returns-then-text-gt-MAX_NAME_BYTES-clause-number c = rw (← c.self.view_is) (sym (long_number c.self.inside.names.items c.self.inside.spellings.keys c.self.inside.firsts.items c.args.text.now c.self.invariant c.if-text-gt-MAX_NAME_BYTES.true))

pub returns : goal.returns
returns c =
    let number : c.number.result ≡ position (λ name. same name c.args.text.now) c.args.self.now = rw (c.number.ensures, c.deref.ensures.value, c.get_index_of-place.ensures.index, ← c.self.view_is) (number_is c.self.inside.names.items c.self.inside.spellings.keys c.self.inside.firsts.items c.args.text.now _ c.self.invariant c.lowered-room.ensures) in
    record { number = number; within = number_within c.args.self.now c.args.text.now c.number.result number }
