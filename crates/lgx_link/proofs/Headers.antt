-- The first line of a link script.
use Rattle.std.proofs.Common.{◌≡◌, ℕ, ◌≤◌, ◌==◌, ◌&&◌, List, [], ◌∷◌, length, Bool, true, false, cond, Option, Some, None, option_map, Result, Ok, Err, refl, ap, sym, ◌∙◌}
use Rattle.std.specs.Prelude.{codes}
use Rattle.std.proofs.lemmas.Bool.{le-leb}
use Rattle.lgx_num.specs.Name.{is_name}
use Rattle.spec_base.specs.FirstCause.{◌>>=◌, unless, some_or}
use Rattle.spec_base.specs.declared.limits.TheConstants.{MAX_LINE_BYTES}
use Rattle.spec_tables.specs.declared.conn.ConnDef.{ConnDef}
use Rattle.spec_machine.specs.Project.{Project}
use Rattle.spec_text.specs.TextLines.{words}
use Rattle.spec_text.specs.ActionText.{name_of}
use Rattle.spec_link.specs.declared.script.LinkCode.{LinkCode}
use Rattle.spec_link.specs.declared.script.LinkCode.TheVariants.{J1, U1}
use Rattle.spec_link.specs.declared.script.LinkScript.{LinkScript}
use Rattle.spec_link.specs.LinkText.{are_alike, are_joined, bare, header_of, read_header}

-- ---- as many words

pub words_alike : (o q : Option ConnDef) (m n : ℕ) → Some m ≡ option_map (λ c. c.words) o → Some n ≡ option_map (λ c. c.words) q → (m == n) ≡ are_alike o q
words_alike None q m n e f = absurd (cc e)
words_alike (Some c) None m n e f = absurd (cc f)
words_alike (Some c) (Some d) m n e f =
    let left : m ≡ c.words = cc e in
    let right : n ≡ d.words = cc f in
    ap (λ k. k == n) left ∙ ap (λ k. c.words == k) right

pub apart_left : (o q : Option ConnDef) → None ≡ option_map (λ c. c.words) o → false ≡ are_alike o q
apart_left None q e = refl
apart_left (Some c) q e = absurd (cc e)

pub apart_right : (o q : Option ConnDef) → None ≡ option_map (λ c. c.words) q → false ≡ are_alike o q
apart_right None q e = refl
apart_right (Some c) None e = refl
apart_right (Some c) (Some d) e = absurd (cc e)

-- ---- the names of a first line

abbrev no_script : Option LinkScript
no_script = None

header_by : (output input : List ℕ) (n m : Bool) → is_name output ≡ n → is_name input ≡ m → header_of (codes "link" ∷ output ∷ input ∷ []) ≡ cond (n && m) (Some (bare output input)) None
header_by output input n m f g =
    ap (λ b. cond (b && is_name input) (Some (bare output input)) None) f ∙ ap (λ b. cond (n && b) (Some (bare output input)) None) g

none_if : (b : Bool) (x : List ℕ) → None ≡ cond b (Some x) None → b ≡ false
none_if true x e = absurd (cc e)
none_if false x e = refl

some_if : (b : Bool) (x y : List ℕ) → Some y ≡ cond b (Some x) None → (b ≡ true) × (y ≡ x)
some_if true x y e = (refl, cc e)
some_if false x y e = absurd (cc e)

neither : (b : Bool) (s : LinkScript) → cond (b && false) (Some s) no_script ≡ no_script
neither true s = refl
neither false s = refl

pub no_output : (output input : List ℕ) → None ≡ name_of output → None ≡ header_of (codes "link" ∷ output ∷ input ∷ [])
no_output output input f = sym (header_by output input false (is_name input) (none_if (is_name output) output f) refl)

pub no_input : (output input : List ℕ) → None ≡ name_of input → None ≡ header_of (codes "link" ∷ output ∷ input ∷ [])
no_input output input f = sym (header_by output input (is_name output) false refl (none_if (is_name input) input f) ∙ neither (is_name output) (bare output input))

pub names_found : (output input found_output found_input : List ℕ) → Some found_output ≡ name_of output → Some found_input ≡ name_of input
    → Some (bare found_output found_input) ≡ header_of (codes "link" ∷ output ∷ input ∷ [])
names_found output input found_output found_input f g =
    let o = some_if (is_name output) output found_output f in
    let i = some_if (is_name input) input found_input g in
    ap (λ x. Some (bare x found_input)) o.1 ∙ ap (λ x. Some (bare output x)) i.1 ∙ sym (header_by output input true true o.0 i.0)

-- ---- what a first line comes to, by what is known of it

abbrev when_joined : Bool → LinkScript → Result LinkScript LinkCode
when_joined joined s = do
  _ ← unless joined U1
  Ok s

abbrev by_header : Project → Project → Bool → Option LinkScript → Result LinkScript LinkCode
by_header a b fits o = do
  _ ← unless fits J1
  s ← some_or o J1
  when_joined (are_joined a b s.output s.input) s

header_when : (a b : Project) (line output input : List ℕ) (joined : Bool) → length line ≤ MAX_LINE_BYTES → Some (bare output input) ≡ header_of (words line) → are_joined a b output input ≡ joined
    → read_header a b line ≡ when_joined joined (bare output input)
header_when a b line output input joined fits is known =
    ap (λ c. by_header a b c (header_of (words line))) (le-leb (length line) MAX_LINE_BYTES fits)
    ∙ ap (by_header a b true) (sym is)
    ∙ ap (λ c. when_joined c (bare output input)) known

pub header_joined : (a b : Project) (line output input : List ℕ) → length line ≤ MAX_LINE_BYTES → Some (bare output input) ≡ header_of (words line) → are_joined a b output input ≡ true
    → read_header a b line ≡ Ok (bare output input)
header_joined a b line output input fits is known = header_when a b line output input true fits is known

pub header_apart : (a b : Project) (line output input : List ℕ) → length line ≤ MAX_LINE_BYTES → Some (bare output input) ≡ header_of (words line) → are_joined a b output input ≡ false
    → read_header a b line ≡ Err U1
header_apart a b line output input fits is known = header_when a b line output input false fits is known
