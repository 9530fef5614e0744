-- The least code of several operands.
use Rattle.std.specs.Prelude.{Option, Some, None}
use Rattle.lgx_rung.specs.declared.fault.CheckCode.{CheckCode}
use Rattle.spec_language.specs.Checked.{lesser}

-- the lesser of two codes, if there is one
abbrev pub lesser_of : Option CheckCode → Option CheckCode → Option CheckCode
lesser_of None other = other
lesser_of (Some code) other = lesser code other
