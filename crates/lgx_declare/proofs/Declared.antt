-- Tags that are declared one after another are refused as the first of them all.
use Rattle.std.proofs.Common.{◌≡◌, ℕ, ◌+◌, ◌%◌, ◌<◌, Bool, true, false, not, ◌&&◌, ◌==◌, nat_lt, List, [], ◌∷◌, ◌++◌, length, map, take, Option, Some, None, refl, ap, sym, subst, ◌∙◌, arith, length-append}
use Rattle.std.specs.Prelude.{cond, is_none, option_map, position, suc, unwrap_or, if◌then◌else◌}
use Rattle.std.specs.Option.{option_or}
use Rattle.std.specs.List.{AllByRecursion as Each, position_from}
use Rattle.std.proofs.lemmas.List.{append_assoc, append-nil, map-append}
use Rattle.std.proofs.lemmas.Iterator.Adapters.{position_from-zero}
use Rattle.std.proofs.Math.Seq.{take-append_seam}
use Rattle.lgx_num.specs.Name.{same}
use Rattle.lgx_types.specs.Tables.{IsNumbered}
use Rattle.spec_language.proofs.TypesFit.{looked_up_has}
use Rattle.spec_base.specs.declared.limits.TheConstants.{MAX_IMAGE_BYTES}
use Rattle.spec_base.specs.FirstCause.{first, where_true}
use Rattle.spec_language.specs.declared.types.Base.{Base}
use Rattle.spec_language.specs.declared.types.Base.TheVariants.{Bool as OneBit, User}
use Rattle.spec_language.specs.declared.types.TypeDecl.{TypeDecl}
use Rattle.spec_language.specs.declared.types.TypeCode.TheVariants.{Y1, Y4}
use Rattle.spec_language.specs.declared.tag.Scope.{Scope}
use Rattle.spec_language.specs.declared.tag.TagCode.{TagCode}
use Rattle.spec_language.specs.declared.tag.TagCode.TheVariants.{G8}
use Rattle.spec_language.specs.Layout.{built_ins, find, looked_up}
use Rattle.spec_language.specs.TypeFaults.{is_bool_base}
use Rattle.spec_language.specs.Declarations.{tag, Entry, Declarations, bytes, declared_as, entry_faults, alias_fault, declare_fault}
use Rattle.spec_project.specs.declared.fault.Inner.{Inner}
use Rattle.spec_project.specs.declared.fault.Inner.TheVariants.{OfType, OfTag}
use Rattle.spec_project.specs.declared.fault.ProjectFault.{ProjectFault}
use Rattle.spec_project.specs.declared.fault.ProjectCode.TheVariants.{P9}
use Rattle.spec_project.specs.declared.described.Described.{Described}
use Rattle.spec_project.specs.declared.described.DescribedTag.{DescribedTag}
use Rattle.spec_project.specs.declared.described.DescribedMeaning.TheVariants.{OfType as typed, AliasOf}
use Rattle.spec_project.specs.Faults.{or_else, first_from, here_for}
use Rattle.spec_project.specs.Tags.{ScopedTag, declarations_of, entry_of, scoped_tags, tag_fault, tags_fault}
use Rattle.spec_project.proofs.Fields.{or_else_assoc}
use Rattle.lgx_declare.specs.Declaring.{declaring_fault, name_refusal, sized_refusal, tag_refusal, type_refusal, with_tags}

-- ---- one after another

pub with_none : (d : Declarations) → with_tags d [] ≡ d
unfolding with_tags
with_none d = ap (λ (es : List Entry). record d { entries = es }) (append-nil d.entries)

pub with_more : (d : Declarations) (xs ys : List ScopedTag) → with_tags (with_tags d xs) ys ≡ with_tags d (xs ++ ys)
unfolding with_tags
with_more d xs ys =
    ap (λ (es : List Entry). record d { entries = es }) (append_assoc d.entries (map (entry_of d.types) xs) (map (entry_of d.types) ys) ∙ ap (λ (es : List Entry). d.entries ++ es) (sym (map-append (entry_of d.types) xs ys)))

pub declaring_none : (d : Declarations) → declaring_fault d [] ≡ None
unfolding declaring_fault
declaring_none d = refl

pub declaring_one : (d : Declarations) (t : ScopedTag) (ts : List ScopedTag) → declaring_fault d (t ∷ ts) ≡ or_else (tag_fault d t) (declaring_fault (with_tags d (t ∷ [])) ts)
unfolding declaring_fault
declaring_one d t ts = refl

pub declaring_both : (d : Declarations) (xs ys : List ScopedTag) → declaring_fault d (xs ++ ys) ≡ or_else (declaring_fault d xs) (declaring_fault (with_tags d xs) ys)
unfolding declaring_fault
declaring_both d [] ys = ap (λ (e : Declarations). declaring_fault e ys) (sym (with_none d))
declaring_both d (x ∷ xs) ys =
    let one = x ∷ [] in
    ap (λ o. or_else (tag_fault d x) o) (declaring_both (with_tags d one) xs ys ∙ ap (λ (e : Declarations). or_else (declaring_fault (with_tags d one) xs) (declaring_fault e ys)) (with_more d one xs))
    ∙ sym (or_else_assoc (tag_fault d x) (declaring_fault (with_tags d one) xs) (declaring_fault (with_tags d (x ∷ xs)) ys))

declared_more : (p : Described) (xs : List ScopedTag) (t : ScopedTag) → declarations_of p (xs ++ t ∷ []) ≡ with_tags (declarations_of p xs) (t ∷ [])
unfolding with_tags
declared_more p xs t = ap (λ (es : List Entry). record (declarations_of p xs) { entries = es }) (map-append (entry_of p.types) xs (t ∷ []))

from_here : (p : Described) (all xs ts : List ScopedTag) → all ≡ xs ++ ts → first_from (λ k t. tag_fault (declarations_of p (take k all)) t) (length xs) ts ≡ declaring_fault (declarations_of p xs) ts
unfolding declaring_fault
from_here p all xs [] e = refl
from_here p all xs (t ∷ ts) e =
    let before : take (length xs) all ≡ xs = ap (take (length xs)) e ∙ take-append_seam xs (t ∷ ts) in
    let split : all ≡ (xs ++ t ∷ []) ++ ts = e ∙ sym (append_assoc xs (t ∷ []) ts) in
    let next : length xs + 1 ≡ length (xs ++ t ∷ []) = sym (length-append xs (t ∷ [])) in
    let judge = λ (k : ℕ) (s : ScopedTag). tag_fault (declarations_of p (take k all)) s in
    let rest : first_from judge (length xs + 1) ts ≡ declaring_fault (with_tags (declarations_of p xs) (t ∷ [])) ts =
    ap (λ (k : ℕ). first_from judge k ts) next ∙ from_here p all (xs ++ t ∷ []) ts split ∙ ap (λ (d : Declarations). declaring_fault d ts) (declared_more p xs t) in
    ap (λ (ys : List ScopedTag). or_else (tag_fault (declarations_of p ys) t) (first_from judge (length xs + 1) ts)) before
    ∙ ap (λ o. or_else (tag_fault (declarations_of p xs) t) o) rest

pub all_tags : (p : Described) → tags_fault p ≡ declaring_fault (declarations_of p []) (scoped_tags p)
unfolding tags_fault
all_tags p = from_here p (scoped_tags p) [] (scoped_tags p) refl

-- ---- one tag

first_both : (es : List TagCode) (x : Inner) (rest : List Inner) → first (map OfTag es ++ x ∷ rest) ≡ or_else (option_map OfTag (first es)) (Some x)
first_both [] x rest = refl
first_both (e ∷ es) x rest = refl

first_last : (es : List TagCode) (b : Bool) → first (map OfTag es ++ where_true b (OfTag G8)) ≡ option_map OfTag (first (es ++ where_true b G8))
first_last [] true = refl
first_last [] false = refl
first_last (e ∷ es) b = refl

told : (o : Option TagCode) (x : Inner) → option_map (here_for P9) (or_else (option_map OfTag o) (Some x)) ≡ or_else (option_map (λ code. here_for P9 (OfTag code)) o) (Some (here_for P9 x))
told None x = refl
told (Some code) x = refl

told_of_tag : (o : Option TagCode) → option_map (here_for P9) (option_map OfTag o) ≡ option_map (λ code. here_for P9 (OfTag code)) o
told_of_tag None = refl
told_of_tag (Some code) = refl

pub alias_refused : (d : Declarations) (scope : Scope) (t : DescribedTag) (target : List ℕ) → t.meaning ≡ AliasOf target → tag_refusal d scope t ≡ name_refusal d scope t.name
unfolding tag_refusal name_refusal
alias_refused d scope t target e = rw e (go (entry_faults d scope t.name))
  where
    go : (es : List TagCode) → option_map (here_for P9) (first (map OfTag es ++ [])) ≡ option_map (λ code. here_for P9 (OfTag code)) (first es)
    go [] = refl
    go (e ∷ es) = refl

abbrev by_type : Declarations → Scope → List ℕ → ℕ → Option Base → List Inner
by_type d scope name dim o =
    where_true (is_none o) (OfType Y1)
    ++ (where_true (is_bool_base o && not (dim % 32 == 0)) (OfType Y4)
    ++ where_true (nat_lt MAX_IMAGE_BYTES (bytes (declared_as d scope name (tag (record { base = unwrap_or o OneBit; dim = dim }))))) (OfTag G8))

abbrev refused_by : Declarations → Scope → List ℕ → ℕ → Option Base → Option ProjectFault
refused_by d scope name dim o = option_map (here_for P9) (first (map OfTag (entry_faults d scope name) ++ by_type d scope name dim o))

pub missing_refused : (d : Declarations) (scope : Scope) (name of : List ℕ) (dim : ℕ) → find d.types of ≡ None → tag_refusal d scope (record { name = name; meaning = typed of dim }) ≡ type_refusal d scope name Y1
unfolding tag_refusal type_refusal name_refusal
missing_refused d scope name of dim e =
    ap (refused_by d scope name dim) e
    ∙ ap (option_map (here_for P9)) (first_both (entry_faults d scope name) (OfType Y1) _)
    ∙ told (alias_fault d scope name) (OfType Y1)

pub found_refused : (d : Declarations) (scope : Scope) (name of : List ℕ) (dim : ℕ) (base : Base) → find d.types of ≡ Some base → tag_refusal d scope (record { name = name; meaning = typed of dim }) ≡ sized_refusal d scope name base dim
unfolding tag_refusal sized_refusal type_refusal name_refusal
found_refused d scope name of dim base e = ap (refused_by d scope name dim) e ∙ go (is_bool_base (Some base) && not (dim % 32 == 0))
  where
    go : (b : Bool) → option_map (here_for P9) (first (map OfTag (entry_faults d scope name) ++ (where_true b (OfType Y4) ++ where_true (nat_lt MAX_IMAGE_BYTES (bytes (declared_as d scope name (tag (record { base = base; dim = dim }))))) (OfTag G8)))) ≡ (if b then or_else (option_map (λ code. here_for P9 (OfTag code)) (alias_fault d scope name)) (Some (here_for P9 (OfType Y4))) else option_map (λ code. here_for P9 (OfTag code)) (declare_fault d scope name (record { base = base; dim = dim })))
    go true = ap (option_map (here_for P9)) (first_both (entry_faults d scope name) (OfType Y4) _) ∙ told (alias_fault d scope name) (OfType Y4)
    go false = ap (option_map (here_for P9)) (first_last (entry_faults d scope name) _) ∙ told_of_tag (declare_fault d scope name (record { base = base; dim = dim }))

-- ---- what a table of tags asks

numbered : (types : List TypeDecl) (base : Base) → Each (λ e. IsNumbered (length types) e.1) built_ins
numbered types base = (tt, (tt, (tt, (tt, (tt, (tt, tt))))))

within : {A : Type 0} (test : A → Bool) (xs : List A) (i k : ℕ) → position_from test i xs ≡ Some k → k < i + length xs
within test [] i k p = absurd (cc p)
within test (x ∷ xs) i k p = go (test x) p (within test xs (i + 1) k)
  where
    go : (b : Bool) → cond b (Some i) (position_from test (i + 1) xs) ≡ Some k → (position_from test (i + 1) xs ≡ Some k → k < i + 1 + length xs) → k < i + suc (length xs)
    go true q known = let e : i ≡ k = cc q in omega arith
    go false q known = omega (arith, known q)

-- the type of a name is one of the table's
pub numbered_found : (types : List TypeDecl) (name : List ℕ) (base : Base) → find types name ≡ Some base → IsNumbered (length types) base
numbered_found types name base p = go (looked_up name built_ins) refl (position (λ d. same d.name name) types) refl p
  where
    go : (a : Option Base) → looked_up name built_ins ≡ a → (o : Option ℕ) → position (λ d. same d.name name) types ≡ o → option_or a (option_map User o) ≡ Some base → IsNumbered (length types) base
    go (Some b) e o f q = let same_base : b ≡ base = cc q in subst (IsNumbered (length types)) same_base (looked_up_has (IsNumbered (length types)) name built_ins b (numbered types base) e)
    go None e (Some k) f q = let same_base : User k ≡ base = cc q in subst (IsNumbered (length types)) same_base (omega (arith, within (λ d. same d.name name) types 0 k (sym (position_from-zero (λ d. same d.name name) types) ∙ f)))
    go None e None f q = absurd (cc q)
