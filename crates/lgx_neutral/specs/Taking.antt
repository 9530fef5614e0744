-- What the reader of texts answers, in the words of neutral text.
use Rattle.std.specs.Prelude.{◌≡◌, ℕ, Result, Ok, Err}
use Rattle.lgx_rung.specs.declared.fault.TextCode.{TextCode}
use Rattle.lgx_rung.specs.Tokens as text
use Rattle.lgx_neutral.specs.declared.fault.RungError.{RungError}
use Rattle.lgx_neutral.specs.declared.fault.RungError.TheVariants as error
use Rattle.lgx_neutral.specs.declared.fault.Refusal.{Refusal}
use Rattle.lgx_neutral.specs.declared.fault.Refusal.TheVariants.{Text, Memory}

abbrev pub refusal_at : Refusal → ℕ → RungError
refusal_at (Text code) at = error.Text (record { code = code; at = at })
refusal_at Memory at = error.Memory

-- the reader takes a token to what is said, or refuses it so, or memory ran out
abbrev pub Takes : {A : Type 0} → (said : Result text.Reader TextCode) → (after : text.Reader) → Result A Refusal → Type 0
Takes said after (Ok _) = said ≡ Ok after
Takes said after (Err (Text code)) = said ≡ Err code
Takes said after (Err Memory) = Unit {0}
