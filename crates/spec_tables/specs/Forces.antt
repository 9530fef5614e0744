-- Forces of I/O words. No command on forces changes a tag by itself (profile).
use Rattle.std.specs.Prelude.{ℕ, Bool, true, false, not, List, length, nat_lt, nat_le, nat_eq, if◌then◌else◌, ℤ, Option, Some, None, is_some, Result, Ok, Err, count_by, replicate, slice_set, slice_index_or}
use Rattle.spec_base.specs.declared.limits.TheConstants.{MAX_FORCES}
use Rattle.std.specs.Int.{w32, int_bit_and, int_bit_or, int_bit_not}
use Rattle.spec_tables.specs.declared.force.ForceFault.{ForceFault}
use Rattle.spec_tables.specs.declared.force.ForceFault.TheVariants.{F1, F2, F3}

pub record Force : Type 0 where
  pub mask : ℤ
  pub value : ℤ

-- for each I/O word the force that is installed on it, if there is one, and whether forces are enabled
pub record Forces : Type 0 where
  pub words : List (Option Force)
  pub enabled : Bool

abbrev pub no_forces : ℕ → Forces
no_forces words = record { words = replicate words None; enabled = false }

-- the masked bits are the force's, and the others the word's
abbrev pub masked : Option Force → ℤ → ℤ
masked None v = v
masked (Some f) v = int_bit_or w32 (int_bit_and w32 f.value f.mask) (int_bit_and w32 v (int_bit_not w32 f.mask))

-- The value of an I/O word as it arrives or leaves. If forces aren't enabled it is the word's own.
abbrev pub forced : Forces → ℕ → ℤ → ℤ
forced s word v = if s.enabled then masked (slice_index_or s.words word None) v else v

abbrev pub installed : List (Option Force) → ℕ
installed words = count_by is_some words

-- Another install on a word replaces the first. Refused are a word that isn't there, and a word more than may have a force.
abbrev pub install : Forces → ℕ → ℤ → ℤ → Result Forces ForceFault
install s word mask value =
    if not (nat_lt word (length s.words)) then Err F1 else
    (if nat_le MAX_FORCES (installed (slice_set s.words word None)) then Err F2 else
    Ok (record s { words = slice_set s.words word (Some (record { mask = mask; value = value })) }))

-- Enabling is refused if no force is installed (profile).
abbrev pub enable : Forces → Result Forces ForceFault
enable s = if nat_eq (installed s.words) 0 then Err F3 else Ok (record s { enabled = true })

abbrev pub disable : Forces → Forces
disable s = record s { enabled = false }

-- Removing is refused likewise, and disables too (profile).
abbrev pub remove_all : Forces → Result Forces ForceFault
remove_all s = if nat_eq (installed s.words) 0 then Err F3 else Ok (no_forces (length s.words))
