-- The words with their forces, as they are kept and as they are seen.
use Rattle.std.proofs.Common.{◌≡◌, ℕ, ◌+◌, ◌*◌, ◌<◌, ◌≤◌, zero, suc, Bool, true, false, cond, ltb, leb, not, List, [], ◌∷◌, length, get_or, set, replicate, Option, Some, None, option_map, is_some, count_by, refl, sym, ap, ◌∙◌, subst, arith}
use Rattle.std.proofs.lemmas.List.{length-map, map-set, get_or-map}
use Rattle.std.proofs.lemmas.List.Sums.{sum_by-set, sum_by-cons}
use Rattle.std.proofs.lemmas.List.Folds.{sum_by-replicate}
use Rattle.std.proofs.Common.{◌-◌, ◌^◌, if◌then◌else◌, Result, Ok, Err, ℤ, pos, negsuc, bit_and, bit_or}
use Rattle.std.proofs.lemmas.Bool.{lt-ltb, le-leb, lt-leb, ne_eqb}
use Rattle.std.proofs.lemmas.Int.{of_z-to_z}
use Rattle.std.proofs.lemmas.Nat.{and_le_r}
use mir.Val.{SFits, of_z, to_z, bool_byte}
use mir.Syntax.{w32}
use Rattle.spec_base.specs.declared.limits.TheConstants.{MAX_FORCES}
use Rattle.spec_tables.specs.declared.force.ForceFault.{ForceFault}
use Rattle.spec_tables.specs.declared.force.ForceFault.TheVariants.{F1, F2, F3}
use Rattle.spec_tables.specs.Forces.{Force, Forces, no_forces, installed, masked, forced, install, remove_all}
use Rattle.lgx_force.specs.declared.table.StoredForce.{StoredForce}
use Rattle.lgx_force.specs.Seen.{force_of, forces_of, AnswersForce}

-- as many forces are seen as are kept
pub installed_is : (ws : List (Option StoredForce)) → installed (forces_of ws) ≡ count_by (λ (w : Option StoredForce). is_some w) ws
installed_is [] = refl
installed_is (None ∷ ws) =
    sum_by-cons (λ (o : Option Force). cond (is_some o) 1 0) None (forces_of ws) ∙ (ap (λ n. 0 + n) (installed_is ws) ∙ sym (sum_by-cons (λ (o : Option StoredForce). cond (is_some o) 1 0) None ws))
installed_is (Some k ∷ ws) =
    sum_by-cons (λ (o : Option Force). cond (is_some o) 1 0) (Some (force_of k)) (forces_of ws) ∙ (ap (λ n. 1 + n) (installed_is ws) ∙ sym (sum_by-cons (λ (o : Option StoredForce). cond (is_some o) 1 0) (Some k) ws))

-- a word's force is taken away, or put in
pub count-set : (ws : List (Option StoredForce)) (i : ℕ) (w : Option StoredForce) → i < length ws → count_by (λ (x : Option StoredForce). is_some x) (set ws i w) + cond (is_some (get_or ws i None)) 1 0 ≡ count_by (λ (x : Option StoredForce). is_some x) ws + cond (is_some w) 1 0
count-set ws i w l = sum_by-set (λ (x : Option StoredForce). cond (is_some x) 1 0) ws i w None l

abbrev pub no_words : ℕ → List (Option StoredForce)
no_words n = replicate n None

pub none_seen : (n : ℕ) → forces_of (no_words n) ≡ replicate n None
none_seen zero = refl
none_seen (suc n) = ap (λ xs. None ∷ xs) (none_seen n)

pub count_none : (n : ℕ) → count_by (λ (x : Option StoredForce). is_some x) (no_words n) ≡ 0
count_none n = sum_by-replicate (λ (o : Option StoredForce). cond (is_some o) 1 0) n None ∙ times n
  where
    times : (m : ℕ) → m * 0 ≡ 0
    times m = omega arith

-- ---- the definitions at what is kept

abbrev pub count_of : List (Option StoredForce) → ℕ
count_of ws = count_by (λ (x : Option StoredForce). is_some x) ws

abbrev pub one_if : Option StoredForce → ℕ
one_if w = cond (is_some w) 1 0

others_is : (ws : List (Option StoredForce)) (word : ℕ) → word < length ws → installed (set (forces_of ws) word None) ≡ count_of ws - one_if (get_or ws word None)
others_is ws word l =
    ap installed (sym (map-set (option_map force_of) ws word None)) ∙ (installed_is (set ws word None) ∙ less (count_of (set ws word None)) (one_if (get_or ws word None)) (count_of ws) (count-set ws word None l))
  where
    less : (a b n : ℕ) → a + b ≡ n + 0 → a ≡ n - b
    less a b n e = omega arith

chosen_install : (ws : List (Option StoredForce)) (e : Bool) (word : ℕ) (mask value : ℤ) (full : Bool) → word < length ws → leb MAX_FORCES (count_of ws - one_if (get_or ws word None)) ≡ full
    → install (record { words = forces_of ws; enabled = e }) word mask value ≡ (if full then Err F2 else Ok (record { words = forces_of (set ws word (Some (record { mask = mask; value = value }))); enabled = e }))
chosen_install ws e word mask value full l f =
    let s : Forces = record { words = forces_of ws; enabled = e } in
    let there : ltb word (length (forces_of ws)) ≡ true = lt-ltb word (length (forces_of ws)) (subst (λ n. word < n) (sym (length-map ws (option_map force_of))) l) in
    let full' : leb MAX_FORCES (installed (set (forces_of ws) word None)) ≡ full = ap (λ n. leb MAX_FORCES n) (others_is ws word l) ∙ f in
    ap (λ b. if not b then Err F1 else (if leb MAX_FORCES (installed (set (forces_of ws) word None)) then Err F2 else Ok (record s { words = set (forces_of ws) word (Some (record { mask = mask; value = value })) }))) there
    ∙ (ap (λ b. if b then Err F2 else Ok (record s { words = set (forces_of ws) word (Some (record { mask = mask; value = value })) })) full'
    ∙ ap (λ (x : List (Option Force)). if full then Err F2 else Ok (record s { words = x })) (sym (map-set (option_map force_of) ws word (Some (record { mask = mask; value = value })))))

pub install-full : (ws : List (Option StoredForce)) (e : Bool) (word : ℕ) (mask value : ℤ) (now : Forces) → word < length ws → MAX_FORCES ≤ count_of ws - one_if (get_or ws word None) → record { words = forces_of ws; enabled = e } ≡ now → AnswersForce (install now word mask value) now now (Err F2)
install-full ws e word mask value now l full is =
    let s : Forces = record { words = forces_of ws; enabled = e } in
    subst (λ (x : Forces). AnswersForce (install x word mask value) x x (Err F2)) is
    (subst (λ (r : Result Forces ForceFault). AnswersForce r s s (Err F2)) (sym (chosen_install ws e word mask value true l (le-leb MAX_FORCES _ full))) (refl, refl))

pub install-ok : (ws : List (Option StoredForce)) (e : Bool) (word : ℕ) (mask value : ℤ) (now : Forces) → word < length ws → count_of ws - one_if (get_or ws word None) < MAX_FORCES → record { words = forces_of ws; enabled = e } ≡ now → AnswersForce (install now word mask value) now (record { words = forces_of (set ws word (Some (record { mask = mask; value = value }))); enabled = e }) (Ok tt)
install-ok ws e word mask value now l room is =
    let new : Forces = record { words = forces_of (set ws word (Some (record { mask = mask; value = value }))); enabled = e } in
    subst (λ (x : Forces). AnswersForce (install x word mask value) x new (Ok tt)) is
    (subst (λ (r : Result Forces ForceFault). AnswersForce r (record { words = forces_of ws; enabled = e }) new (Ok tt)) (sym (chosen_install ws e word mask value false l (lt-leb MAX_FORCES _ room))) (refl, refl))

pub new_seen : (ws : List (Option StoredForce)) (n m : ℕ) → ws ≡ replicate n None → n ≡ m → record { words = forces_of ws; enabled = false } ≡ no_forces m
new_seen ws n m e n_m =
    ap (λ (x : List (Option Force)). record { words = x; enabled = false }) (ap forces_of e ∙ (none_seen n ∙ ap (λ k. replicate k None) n_m))

pub remove-ok : (ws us : List (Option StoredForce)) (n : ℕ) (e : Bool) (now : Forces) → (count_of ws ≡ 0 → ⊥) → us ≡ replicate n None → n ≡ length ws → record { words = forces_of ws; enabled = e } ≡ now → AnswersForce (remove_all now) now (record { words = forces_of us; enabled = false }) (Ok tt)
remove-ok ws us n e now some cleared many is =
    let s : Forces = record { words = forces_of ws; enabled = e } in
    let removed : remove_all s ≡ Ok (no_forces (length (forces_of ws))) = ap (λ b. if b then Err F3 else Ok (no_forces (length (forces_of ws)))) (ne_eqb (installed (forces_of ws)) 0 (λ z. some (sym (installed_is ws) ∙ z))) in
    let seen : record { words = forces_of us; enabled = false } ≡ no_forces (length (forces_of ws)) = new_seen us n (length (forces_of ws)) cleared (many ∙ sym (length-map ws (option_map force_of))) in
    subst (λ (x : Forces). AnswersForce (remove_all x) x (record { words = forces_of us; enabled = false }) (Ok tt)) is
    (subst (λ (r : Result Forces ForceFault). AnswersForce r s (record { words = forces_of us; enabled = false }) (Ok tt)) (sym removed) (refl, seen))

-- ---- bits

below_bits : (z : ℤ) → SFits w32 z → of_z w32 z < 2 ^ 32
below_bits (pos n) f = omega (arith, f)
below_bits (negsuc n) f = omega arith

pub bits-masked : (mask held value : ℤ) → SFits w32 mask → to_z w32 (bit_or (bit_and (of_z w32 held) (of_z w32 mask)) (bit_and (of_z w32 value) (4294967295 - of_z w32 mask))) ≡ masked (Some (record { mask = mask; value = held })) value
bits-masked mask held value f =
    let m = of_z w32 mask in
    let fits : m < 2 ^ 32 = below_bits mask f in
    let a : of_z w32 (to_z w32 (bit_and (of_z w32 held) m)) ≡ bit_and (of_z w32 held) m = of_z-to_z w32 _ (less _ m (and_le_r (of_z w32 held) m) fits) in
    let n : of_z w32 (to_z w32 (4294967295 - m)) ≡ 4294967295 - m = of_z-to_z w32 _ (no_more m) in
    let b : of_z w32 (to_z w32 (bit_and (of_z w32 value) (4294967295 - m))) ≡ bit_and (of_z w32 value) (4294967295 - m) = of_z-to_z w32 _ (less _ (4294967295 - m) (and_le_r (of_z w32 value) (4294967295 - m)) (no_more m)) in
    sym (ap (λ x. to_z w32 (bit_or (of_z w32 (to_z w32 (bit_and (of_z w32 held) m))) (of_z w32 (to_z w32 (bit_and (of_z w32 value) x))))) n
    ∙ (ap (λ x. to_z w32 (bit_or x (of_z w32 (to_z w32 (bit_and (of_z w32 value) (4294967295 - m)))))) a
    ∙ ap (λ x. to_z w32 (bit_or (bit_and (of_z w32 held) m) x)) b))
  where
    less : (x y : ℕ) → x ≤ y → y < 2 ^ 32 → x < 2 ^ 32
    less x y l l' = omega arith

    no_more : (x : ℕ) → 4294967295 - x < 2 ^ 32
    no_more x = omega arith

pub byte_is : (b : Bool) → bool_byte b ≡ cond b 1 0
byte_is true = refl
byte_is false = refl

pub fits_seen : (ws : List (Option StoredForce)) (e : Bool) (now : Forces) (word : ℕ) → record { words = forces_of ws; enabled = e } ≡ now → word < length now.words → word < length ws
fits_seen ws e now word is l = subst (λ n. word < n) (ap (λ (x : Forces). length x.words) (sym is) ∙ length-map ws (option_map force_of)) l

pub forced-on : (ws : List (Option StoredForce)) (e : Bool) (now : Forces) (word : ℕ) (v : ℤ) → record { words = forces_of ws; enabled = e } ≡ now → e ≡ true → word < length ws → masked (option_map force_of (get_or ws word None)) v ≡ forced now word v
forced-on ws e now word v is on l =
    sym (ap (λ (x : Forces). forced x word v) (sym is) ∙ (ap (λ b. if b then masked (get_or (forces_of ws) word None) v else v) on
    ∙ ap (λ (f : Option Force). masked f v) (get_or-map (option_map force_of) ws word None None l)))
