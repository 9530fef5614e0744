-- The versions of a program by their roles, and what each call makes of them.
use Rattle.std.specs.Prelude.{ℕ, ◌+◌, Bool, false, if◌then◌else◌, Option, Some, None, unwrap_or}
use Rattle.lgx_prog.specs.FlatProgram.{Program}
use Rattle.lgx_versions.specs.declared.slots.Version.{Version}

-- The base; the merged version, if edits are accepted; whether this one is tested, and so selected; the version that a
-- scan in progress holds; and the number of the last accept.
pub record Roles : Type 0 where
  pub base : Version
  pub merged : Option Version
  pub testing : Bool
  pub held : Option Version
  pub newest : ℕ

-- before the first accept
abbrev pub only_base : Program → Roles
only_base program = record {
  base = record { number = 0; program = program };
  merged = None;
  testing = false;
  held = None;
  newest = 0;
}

-- the merged program while it is tested, and else the base
abbrev pub selected : Roles → Version
selected r = if r.testing then unwrap_or r.merged r.base else r.base

-- an accept's program is the merged one, in place of an earlier one; testing goes on
abbrev pub add : Program → Roles → Roles
add program r = record r { merged = Some (record { number = r.newest + 1; program = program }); newest = r.newest + 1 }

abbrev pub select : Bool → Roles → Roles
select merged r = record r { testing = merged }

-- the merged program is the base from now on, tested or not
abbrev pub assemble : Roles → Roles
assemble r = record r { base = unwrap_or r.merged r.base; merged = None; testing = false }

abbrev pub cancel : Roles → Roles
cancel r = record r { merged = None; testing = false }

-- the program that is selected now is held, whatever is selected later
abbrev pub hold : Roles → Roles
hold r = record r { held = Some (selected r) }

abbrev pub drop_hold : Roles → Roles
drop_hold r = record r { held = None }
