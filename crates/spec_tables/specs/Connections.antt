-- I/O words of connections: where each lies, and which task it triggers.
use Rattle.std.specs.Prelude.{ℕ, ◌+◌, ◌*◌, Bool, true, false, not, ◌&&◌, List, [], take, nat_lt, nat_eq, if◌then◌else◌, Option, Some, None, Result, Ok, Err, sum_by, slice_index_or}
use Rattle.std.specs.List.{position_from}
use Rattle.lgx_num.specs.Name.{same}
use Rattle.spec_tables.specs.declared.conn.ConnDef.{ConnDef}
use Rattle.spec_tables.specs.declared.conn.Slot.{Slot}
use Rattle.spec_tables.specs.declared.conn.ConnFault.{ConnFault}
use Rattle.spec_tables.specs.declared.conn.ConnFault.TheVariants.{N1, N2, N3}

abbrev pub no_conn : ConnDef
no_conn = record { name = []; output = false; byte = 0; words = 0; trigger = None }

-- the number of a connection by its name
abbrev pub conn_named : List ConnDef → List ℕ → Option ℕ
conn_named conns name = position_from (λ c. same c.name name) 0 conns

-- the words of these connections
abbrev pub words_of : List ConnDef → ℕ
words_of conns = sum_by (λ c. c.words) conns

-- the last word of an input triggers the connection's task
abbrev pub trigger_at : ConnDef → ℕ → Option ℕ
trigger_at c word = if not c.output && nat_eq (word + 1) c.words then c.trigger else None

-- Word k of a connection is bytes 4k to 4k + 3 of its tag, and it is numbered after the words of all earlier
-- connections.
abbrev pub slot_of : List ConnDef → ℕ → ConnDef → ℕ → Slot
slot_of conns n c word = record { byte = c.byte + 4 * word; io = words_of (take n conns) + word; trigger = trigger_at c word }

abbrev pub in_direction : Bool → Bool → Slot → Result Slot ConnFault
in_direction true true s = Ok s
in_direction false false s = Ok s
in_direction _ _ s = Err N3

abbrev pub slot_in : List ConnDef → Option ℕ → ℕ → Bool → Result Slot ConnFault
slot_in conns None word output = Err N1
slot_in conns (Some n) word output =
    let c = slice_index_or conns n no_conn in
    if nat_lt word c.words then in_direction output c.output (slot_of conns n c word) else Err N2

-- The slot of an output's word, or of an input's. Refused are first an unknown connection, then a word out of range, then
-- the wrong direction.
abbrev pub slot : List ConnDef → List ℕ → ℕ → Bool → Result Slot ConnFault
slot conns name word output = slot_in conns (conn_named conns name) word output

abbrev pub io_in : List ConnDef → Option ℕ → ℕ → Option ℕ
io_in conns None word = None
io_in conns (Some n) word =
    if nat_lt word (slice_index_or conns n no_conn).words then Some (words_of (take n conns) + word) else None

-- the number of an I/O word among all, whatever its direction
abbrev pub io_word : List ConnDef → List ℕ → ℕ → Option ℕ
io_word conns name word = io_in conns (conn_named conns name) word
