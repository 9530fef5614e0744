-- Names of structures and of members, found among those before them.
use Rattle.std.specs.Prelude.{◌≡◌, ℕ, zero, suc, ◌+◌, ◌<◌, ◌≤◌, Bool, true, false, cond, ◌||◌, nat_lt, List, [], ◌∷◌, ◌++◌, map, length, take, drop, flat_map, position, Option, Some, None, option_map, is_some, refl}
use Rattle.std.specs.Option.{option_or, option_map_or}
use Rattle.std.specs.List.{list_any, position_from, enumerate_from}
use Rattle.std.proofs.Common.{ap, sym, subst, arith, ◌∙◌, get_or, rules, drop-cons, add-one}
use Rattle.std.proofs.lemmas.List.{map-append}
use Rattle.std.proofs.Math.Seq.{take-suc}
use Rattle.std.proofs.lemmas.Iterator.Adapters.{position_from-zero}
use Rattle.lgx_num.specs.Name.{same}
use Rattle.spec_language.specs.declared.types.Base.TheVariants.{User}
use Rattle.spec_language.specs.declared.types.TypeDecl.{TypeDecl}
use Rattle.spec_language.specs.declared.types.MemberDecl.{MemberDecl}
use Rattle.spec_language.specs.declared.types.TypeFault.{TypeFault}
use Rattle.spec_base.specs.Causes.{IsFaultOf}
use Rattle.spec_base.specs.FirstCause.{first}
use Rattle.spec_base.proofs.Lists.{any_some}
use Rattle.spec_language.specs.Layout.{find, built_ins, looked_up}
use Rattle.spec_language.specs.TypeFaults.{name_taken, repeated, structure_faults, of_structure}
use Rattle.spec_language.specs.declared.types.TypeCode.TheVariants.{Y6}
use Rattle.lgx_types.specs.Outlines.{names_of, member_names, faults_in}

-- ---- through a map

pub position_map : {A B : Type 0} (f : A → B) (test : B → Bool) (xs : List A) (i : ℕ) → position_from test i (map f xs) ≡ position_from (λ x. test (f x)) i xs
position_map f test [] i = refl
position_map f test (x ∷ xs) i = ap (λ (o : Option ℕ). cond (test (f x)) (Some i) o) (position_map f test xs (i + 1))

-- the first of the structures' names is the name of the first structure
position_named : (types : List TypeDecl) (name : List ℕ) → position (λ n. same n name) (names_of types) ≡ position_from (λ d. same d.name name) 0 types
position_named types name = position_from-zero (λ n. same n name) (names_of types) ∙ position_map (λ d. d.name) (λ n. same n name) types 0

-- the type of a name, if the structure is looked for among the names
pub find_is : (types : List TypeDecl) (name : List ℕ) → option_or (looked_up name built_ins) (option_map User (position (λ n. same n name) (names_of types))) ≡ find types name
find_is types name = ap (λ (o : Option ℕ). option_or (looked_up name built_ins) (option_map User o)) (position_named types name ∙ sym (position_from-zero (λ d. same d.name name) types))

-- ---- those before

pub lt_true : (m n : ℕ) → m < n → nat_lt m n ≡ true
lt_true m n h = search rules

pub lt_false : (m n : ℕ) → n ≤ m → nat_lt m n ≡ false
lt_false m n h = search rules

pub position_high : {A : Type 0} (test : A → Bool) (xs : List A) (i k : ℕ) → position_from test i xs ≡ Some k → i ≤ k
position_high test [] i k p = absurd (cc p)
position_high test (x ∷ xs) i k p = go (test x) p (position_high test xs (i + 1) k)
  where
    go : (b : Bool) → cond b (Some i) (position_from test (i + 1) xs) ≡ Some k → (position_from test (i + 1) xs ≡ Some k → i + 1 ≤ k) → i ≤ k
    go true q known = let e : i ≡ k = cc q in omega arith
    go false q known = omega (arith, known q)

pub before : {A : Type 0} (test : A → Bool) (xs : List A) (b i n : ℕ) → n ≡ b + i → list_any test (take i xs) ≡ option_map_or (λ p. nat_lt p n) (position_from test b xs) false
before test [] b zero n e = refl
before test [] b (suc i) n e = refl
before test (x ∷ xs) b zero n e = go (position_from test b (x ∷ xs)) refl
  where
    go : (o : Option ℕ) → position_from test b (x ∷ xs) ≡ o → false ≡ option_map_or (λ p. nat_lt p n) o false
    go None q = refl
    go (Some p) q = sym (lt_false p n (omega (arith, e, position_high test (x ∷ xs) b p q)))
before test (x ∷ xs) b (suc i) n e = go (test x) (before test xs (b + 1) i n (omega arith))
  where
    go : (t : Bool) → list_any test (take i xs) ≡ option_map_or (λ p. nat_lt p n) (position_from test (b + 1) xs) false → (t || list_any test (take i xs)) ≡ option_map_or (λ p. nat_lt p n) (cond t (Some b) (position_from test (b + 1) xs)) false
    go true known = sym (lt_true b n (omega (arith, e)))
    go false known = known

pub taken_is : (types : List TypeDecl) (i : ℕ) (d : TypeDecl) → (is_some (looked_up d.name built_ins) || option_map_or (λ p. nat_lt p i) (position (λ n. same n d.name) (names_of types)) false) ≡ name_taken types i d
taken_is types i d = rw (position_named types d.name) (ap (λ (b : Bool). is_some (looked_up d.name built_ins) || b) (sym (before (λ o. same o.name d.name) types 0 i i (omega arith))))

-- an earlier member has the name that is found among the names before
pub repeated_is : (ms : List MemberDecl) (names : List (List ℕ)) (k : ℕ) (m : MemberDecl) → names ≡ member_names (take k ms) → is_some (position (λ n. same n m.name) names) ≡ repeated ms k m
repeated_is ms names k m e = rw (e, position_from-zero (λ n. same n m.name) (member_names (take k ms)), position_map (λ (o : MemberDecl). o.name) (λ n. same n m.name) (take k ms) 0) (sym (any_some (λ (o : MemberDecl). same o.name m.name) (take k ms) 0))

-- ---- faults, one member or one structure on

-- the first fault of an element is the first of all, if those before have none
pub first_more : {A : Type 0} (xs ys : List A) (x : A) → first xs ≡ Some x → first (xs ++ ys) ≡ Some x
first_more [] ys x p = absurd (cc p)
first_more (z ∷ zs) ys x p = p

pub fault_more : (xs ys : List TypeFault) (o : Option TypeFault) → IsFaultOf (first xs) o → IsFaultOf (first (xs ++ ys)) o
fault_more xs ys (Some f) p = first_more xs ys f p
fault_more xs ys None p = tt

pub first_here : {A : Type 0} (F : ℕ × A → List TypeFault) (xs : List A) (k : ℕ) (x : A) (all : List TypeFault) → k < length xs → x ≡ get_or xs k x → flat_map F (enumerate_from k (drop k xs)) ≡ all → (o : Option TypeFault) → IsFaultOf (first (F (k, x))) o → IsFaultOf (first all) o
first_here {A} F xs k x all h g p o q =
    let split : flat_map F (enumerate_from k (x ∷ drop (suc k) xs)) ≡ all = subst (λ (l : List A). flat_map F (enumerate_from k l) ≡ all) (drop-cons xs k x h ∙ ap (λ (y : A). y ∷ drop (suc k) xs) (sym g)) p in
    subst (λ (l : List TypeFault). IsFaultOf (first l) o) split (fault_more (F (k, x)) _ o q)

pub none_here : {A : Type 0} (F : ℕ × A → List TypeFault) (xs : List A) (k : ℕ) (x : A) (all : List TypeFault) → k < length xs → x ≡ get_or xs k x → flat_map F (enumerate_from k (drop k xs)) ≡ all → F (k, x) ≡ [] → flat_map F (enumerate_from (k + 1) (drop (k + 1) xs)) ≡ all
none_here {A} F xs k x all h g p q =
    let split : flat_map F (enumerate_from k (x ∷ drop (suc k) xs)) ≡ all = subst (λ (l : List A). flat_map F (enumerate_from k l) ≡ all) (drop-cons xs k x h ∙ ap (λ (y : A). y ∷ drop (suc k) xs) (sym g)) p in
    let one : suc k ≡ k + 1 = omega arith in
    subst (λ (n : ℕ). flat_map F (enumerate_from (k + 1) (drop n xs)) ≡ all) one (subst (λ (l : List TypeFault). (l ++ flat_map F (enumerate_from (k + 1) (drop (suc k) xs))) ≡ all) q split)

pub take_map_more : {A B : Type 0} (f : A → B) (xs : List A) (k : ℕ) (x : A) → k < length xs → x ≡ get_or xs k x → map f (take (k + 1) xs) ≡ map f (take k xs) ++ f x ∷ []
take_map_more f xs k x h g = rw (add-one, take-suc xs k x h, map-append f (take k xs) (get_or xs k x ∷ []), ← g) refl

-- the faults of a structure begin with its name's
pub taken_first : (types : List TypeDecl) (i : ℕ) (d : TypeDecl) → name_taken types i d ≡ true → first (structure_faults types (i, d)) ≡ Some (of_structure Y6 i)
taken_first types i d p = rw p refl

pub not_taken : (types : List TypeDecl) (i : ℕ) (d : TypeDecl) → name_taken types i d ≡ false → structure_faults types (i, d) ≡ faults_in types i d.members
not_taken types i d p = rw p refl
