-- The lines of bytes that come one by one.
use Rattle.std.proofs.Common.{◌≡◌, ℕ, ◌+◌, ◌-◌, ◌<◌, ◌≤◌, List, [], ◌∷◌, ◌++◌, length, take, map, Bool, true, false, cond, nat_eq, nat_le, ◌||◌, Option, Some, None, IfSome, Result, Ok, Err, not, refl, sym, ap, ◌∙◌, subst, append_assoc, append-nil, length-append, true≢false, arith}
use Rattle.std.specs.Prelude.{option_map}
use Rattle.std.specs.List.{suffix_len}
use Rattle.std.specs.Io.KnownBytes.{Consumes, IsAtEnd}
use Rattle.std.proofs.KnownBytes.{Consumes-nil, Consumes-trans}
use Rattle.std.proofs.lemmas.List.{length-take, take-append-le, take-take, take_all}
use Rattle.std.proofs.lemmas.List.Folds.{list_any-append}
use Rattle.spec_base.specs.Pieces.{pieces, cut, has_byte}
use Rattle.spec_text.specs.TextLines.{lines, without_return}
use Rattle.std.proofs.lemmas.Bool.{leb-true, leb-false}
use Rattle.std.proofs.lemmas.Bool.Decides.{nat_tests}
use Rattle.lgx_journal.proofs.Trimmed.{none_in_take}
use Rattle.lgx_journal.proofs.LineSplits.{lines_split, lines_last, clean_without}
use Rattle.lgx_io.specs.Gathered.{GatheredState}
use Rattle.lgx_live.specs.declared.console.AskFault.{AskFault}
use Rattle.lgx_live.specs.Console.{Gives, Asks}
use Rattle.lgx_live.specs.Piped.{lines_of, kept, console_seen, CameSoFar, CameWhole, CameLast}
use Rattle.lgx_live.specs.Piped as piped

-- ---- what is kept

pub kept_more : (raw line : List ℕ) (b : ℕ) → line ≡ kept raw → length line < 65538 → line ++ b ∷ [] ≡ kept (raw ++ b ∷ [])
kept_more raw line b is few =
    let short : length raw ≤ 65538 = omega (arith, few, ap length is, length-take 65538 raw) in
    let all : line ≡ raw = is ∙ take_all 65538 raw short in
    let size : length (raw ++ b ∷ []) ≤ 65538 = omega (arith, few, ap length all, length-append raw (b ∷ [])) in
    ap (λ (t : List ℕ). t ++ b ∷ []) all ∙ sym (take_all 65538 (raw ++ b ∷ []) size)

pub kept_full : (raw line : List ℕ) (b : ℕ) → line ≡ kept raw → 65538 ≤ length line → line ≡ kept (raw ++ b ∷ [])
kept_full raw line b is many =
    let long : 65538 ≤ length raw = omega (arith, many, ap length is, length-take 65538 raw) in
    is ∙ sym (take-append-le 65538 raw (b ∷ []) long)

or_false : (a b : Bool) → a ≡ false → b ≡ false → (a || b) ≡ false
or_false true b h k = absurd (true≢false h)
or_false false b h k = k

pub so_far_none : (a : Option (List ℕ)) (line : List ℕ) → line ≡ [] → CameSoFar a a line
so_far_none a line h = record { raw = []; came = Consumes-nil a; clean = refl; keeps = h }

pub so_far_more : (a b c : Option (List ℕ)) (line new : List ℕ) (byte : ℕ) → CameSoFar a b line → Consumes b c (byte ∷ []) → nat_eq byte 10 ≡ false
    → ((raw : List ℕ) → line ≡ kept raw → new ≡ kept (raw ++ byte ∷ [])) → CameSoFar a c new
so_far_more a b c line new byte s came other keeps = record {
  raw = s.raw ++ byte ∷ [];
  came = Consumes-trans a b c s.raw (byte ∷ []) s.came came;
  clean = list_any-append (λ c. nat_eq c 10) s.raw (byte ∷ []) ∙ or_false (has_byte 10 s.raw) (has_byte 10 (byte ∷ [])) s.clean (or_false (nat_eq byte 10) false other refl);
  keeps = keeps s.raw s.keeps;
}

pub so_far_end : (a b c : Option (List ℕ)) (line : List ℕ) → CameSoFar a b line → Consumes b c [] → IsAtEnd c → CameLast a c line
so_far_end a b c line s none end = record {
  so_far = record {
    raw = s.raw;
    came = subst (λ (t : List ℕ). Consumes a c t) (append-nil s.raw) (Consumes-trans a b c s.raw [] s.came none);
    clean = s.clean;
    keeps = s.keeps;
  };
  end = end;
}

-- ---- the lines of bytes

or_parts : (a b : Bool) → (a || b) ≡ false → (a ≡ false) × (b ≡ false)
or_parts true b h = absurd (true≢false h)
or_parts false b h = (refl, h)

pieces_feed : (raw rest : List ℕ) → has_byte 10 raw ≡ false → pieces 10 (raw ++ 10 ∷ rest) ≡ raw ∷ pieces 10 rest
pieces_feed [] rest h = refl
pieces_feed (c ∷ cs) rest h =
    let both = or_parts (nat_eq c 10) (has_byte 10 cs) h in
    ap (λ b. cut b c (pieces 10 (cs ++ 10 ∷ rest))) both.0 ∙ ap (cut false c) (pieces_feed cs rest both.1)

pieces_all : (raw : List ℕ) → has_byte 10 raw ≡ false → pieces 10 raw ≡ raw ∷ []
pieces_all [] h = refl
pieces_all (c ∷ cs) h =
    let both = or_parts (nat_eq c 10) (has_byte 10 cs) h in
    ap (λ b. cut b c (pieces 10 cs)) both.0 ∙ ap (cut false c) (pieces_all cs both.1)

lines_feed : (raw rest : List ℕ) → has_byte 10 raw ≡ false → lines (raw ++ 10 ∷ rest) ≡ without_return raw ∷ lines rest
lines_feed raw rest h = lines_split (raw ++ 10 ∷ rest) raw rest (pieces_feed raw rest h)

lines_all : (raw : List ℕ) → has_byte 10 raw ≡ false → 0 < length raw → lines raw ≡ raw ∷ []
lines_all [] h some = absurd (omega (arith, some))
lines_all (c ∷ cs) h some = lines_last (c ∷ cs) [] (pieces_all (c ∷ cs) h) (grind (arith, nat_tests)) refl

-- ---- a line that is cut

le_cond : (n m : ℕ) (b : Bool) → n + 1 ≤ m → n ≤ m - cond b 0 1
le_cond n m true h = omega (arith, h)
le_cond n m false h = omega (arith, h)

begins : (n : ℕ) (line : List ℕ) → n + 1 ≤ length line → take n (without_return line) ≡ take n line
begins n line h = take-take n (length line - cond (nat_eq (suffix_len (λ c. nat_eq c 13) line) 0) 0 1) line (le_cond n (length line) (nat_eq (suffix_len (λ c. nat_eq c 13) line) 0) h)

cut_kept : (raw : List ℕ) → piped.cut (without_return (kept raw)) ≡ piped.cut (without_return raw)
cut_kept raw = at (nat_le (length raw) 65538) refl
  where
    at : (b : Bool) → nat_le (length raw) 65538 ≡ b → piped.cut (without_return (kept raw)) ≡ piped.cut (without_return raw)
    at true h = ap (λ t. piped.cut (without_return t)) (take_all 65538 raw (leb-true (length raw) 65538 h))
    at false h =
        let long : 65538 < length raw = leb-false (length raw) 65538 h in
        begins 65537 (kept raw) (omega (arith, long, length-take 65538 raw)) ∙ take-take 65537 65538 raw (omega arith) ∙ sym (begins 65537 raw (omega (arith, long)))

-- ---- what comes

pub gives_whole : (old new : Option (List ℕ)) (line shown : List ℕ) → CameWhole old new line → shown ≡ piped.cut (without_return line) → Gives (option_map lines_of old) (option_map lines_of new) (shown ∷ [])
gives_whole old new line shown c is = at old new (Consumes-trans old c.between new c.so_far.raw (10 ∷ []) c.so_far.came c.feed)
  where
    same : shown ≡ piped.cut (without_return c.so_far.raw)
    same = is ∙ ap (λ t. piped.cut (without_return t)) c.so_far.keeps ∙ cut_kept c.so_far.raw

    at : (a b : Option (List ℕ)) → Consumes a b (c.so_far.raw ++ 10 ∷ []) → Gives (option_map lines_of a) (option_map lines_of b) (shown ∷ [])
    at None b h = tt
    at (Some xs) None h = absurd h
    at (Some xs) (Some ys) h =
        ap lines_of (h ∙ append_assoc c.so_far.raw (10 ∷ []) ys) ∙ ap (map piped.cut) (lines_feed c.so_far.raw ys c.so_far.clean)
        ∙ ap (λ t. t ∷ lines_of ys) (sym same)

pub gives_last : (old new : Option (List ℕ)) (line shown : List ℕ) → CameLast old new line → shown ≡ piped.cut line → 0 < length line → Gives (option_map lines_of old) (option_map lines_of new) (shown ∷ [])
gives_last old new line shown c is some = at old new c.so_far.came c.end
  where
    same : shown ≡ piped.cut c.so_far.raw
    same = is ∙ ap piped.cut c.so_far.keeps ∙ take-take 65537 65538 c.so_far.raw (omega arith)

    filled : 0 < length c.so_far.raw
    filled = omega (arith, some, ap length c.so_far.keeps, length-take 65538 c.so_far.raw)

    at : (a b : Option (List ℕ)) → Consumes a b c.so_far.raw → IsAtEnd b → Gives (option_map lines_of a) (option_map lines_of b) (shown ∷ [])
    at None b h e = tt
    at (Some xs) None h e = absurd h
    at (Some xs) (Some ys) h e =
        ap lines_of (h ∙ ap (λ (t : List ℕ). c.so_far.raw ++ t) e ∙ append-nil c.so_far.raw) ∙ ap (map piped.cut) (lines_all c.so_far.raw c.so_far.clean filled)
        ∙ ap (λ t. t ∷ []) (sym same) ∙ ap (λ (t : List ℕ). shown ∷ lines_of t) (sym e)

nothing : (raw : List ℕ) → length raw ≡ 0 → raw ≡ []
nothing [] h = refl
nothing (c ∷ cs) h = absurd (omega (arith, h))

pub none_left : (old new : Option (List ℕ)) (line : List ℕ) → CameLast old new line → length line ≡ 0 → IfSome (option_map lines_of old) (λ ls. ls ≡ [])
none_left old new line c none = at old new c.so_far.came c.end
  where
    empty : c.so_far.raw ≡ []
    empty = nothing c.so_far.raw (omega (arith, none, ap length c.so_far.keeps, length-take 65538 c.so_far.raw))

    at : (a b : Option (List ℕ)) → Consumes a b c.so_far.raw → IsAtEnd b → IfSome (option_map lines_of a) (λ ls. ls ≡ [])
    at None b h e = tt
    at (Some xs) None h e = absurd h
    at (Some xs) (Some ys) h e = ap lines_of (h ∙ ap (λ (t : List ℕ). t ++ ys) empty ∙ e)

pub clean_whole : (old new : Option (List ℕ)) (line shown : List ℕ) → CameWhole old new line → shown ≡ piped.cut (without_return line) → has_byte 10 shown ≡ false
clean_whole old new line shown c is =
    let inside : has_byte 10 line ≡ false = ap (has_byte 10) c.so_far.keeps ∙ none_in_take (λ c. nat_eq c 10) 65538 c.so_far.raw c.so_far.clean in
    ap (has_byte 10) is ∙ none_in_take (λ c. nat_eq c 10) 65537 (without_return line) (clean_without line inside)

pub clean_last : (old new : Option (List ℕ)) (line shown : List ℕ) → CameLast old new line → shown ≡ piped.cut line → has_byte 10 shown ≡ false
clean_last old new line shown c is =
    ap (has_byte 10) is ∙ none_in_take (λ c. nat_eq c 10) 65537 line (ap (has_byte 10) c.so_far.keeps ∙ none_in_take (λ c. nat_eq c 10) 65538 c.so_far.raw c.so_far.clean)

-- ---- what is asked for

said_in : Result Bool AskFault → Bool
said_in (Ok b) = b
said_in (Err fault) = true

pub asks_whole : (left now : Option (List ℕ)) (output : GatheredState) (misses : ℕ) (line shown : List ℕ) → CameWhole left now line → shown ≡ piped.cut (without_return line)
    → Asks (console_seen left output misses) (console_seen now output misses) shown (Ok true)
unfolding said_in
asks_whole left now output misses line shown c is = record {
  asked = tt;
  output = record { held = refl; waiting = refl; faults = refl };
  came = λ e. gives_whole left now line shown c is;
  clean = λ e. clean_whole left now line shown c is;
  ended = λ e. absurd (true≢false (ap said_in e));
  failed = λ e. absurd (cc e);
  unfailed = λ e. refl;
}

pub asks_last : (left now : Option (List ℕ)) (output : GatheredState) (misses : ℕ) (line shown : List ℕ) (none : Bool) → CameLast left now line → shown ≡ piped.cut line → (none ≡ true → length shown ≡ 0) → (none ≡ false → 0 < length shown)
    → Asks (console_seen left output misses) (console_seen now output misses) shown (Ok (not none))
unfolding said_in
asks_last left now output misses line shown true c is empty filled = record {
  asked = tt;
  output = record { held = refl; waiting = refl; faults = refl };
  came = λ e. absurd (true≢false (sym (ap said_in e)));
  clean = λ e. absurd (true≢false (sym (ap said_in e)));
  ended = λ e. none_left left now line c (omega (arith, empty refl, ap length is, length-take 65537 line));
  failed = λ e. absurd (cc e);
  unfailed = λ e. refl;
}
asks_last left now output misses line shown false c is empty filled = record {
  asked = tt;
  output = record { held = refl; waiting = refl; faults = refl };
  came = λ e. gives_last left now line shown c is (omega (arith, filled refl, ap length is, length-take 65537 line));
  clean = λ e. clean_last left now line shown c is;
  ended = λ e. absurd (true≢false (ap said_in e));
  failed = λ e. absurd (cc e);
  unfailed = λ e. refl;
}
