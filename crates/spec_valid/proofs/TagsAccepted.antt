-- Tags of which none is refused have sound types, and end in the image.
use Rattle.std.specs.Prelude.{◌≡◌, ℕ, ◌+◌, ◌<◌, ◌≤◌, ◌%◌, Bool, true, false, cond, not, ◌==◌, ◌&&◌, List, [], ◌∷◌, ◌++◌, length, map, filter, flat_map, take, Option, None, is_none, unwrap_or, refl}
use Rattle.std.specs.List.{AllByRecursion as Each, enumerate_from, range_with_len}
use Rattle.std.proofs.Common.{ap, sym, subst, ◌∙◌, arith, length-append}
use Rattle.std.proofs.lemmas.Bool.{ltb-false}
use Rattle.std.proofs.lemmas.List.{append-nil, append_assoc, map-append}
use Rattle.std.proofs.lemmas.List.Elements.{filter-append}
use Rattle.std.proofs.Math.Seq.{take-append_seam}
use Rattle.spec_base.specs.FirstCause.{where_true}
use Rattle.spec_base.specs.declared.limits.TheConstants.{MAX_IMAGE_BYTES}
use Rattle.spec_language.specs.Declarations.{Declarations, Entry, alias, bytes, declared_as, end_of, entry_faults, entry_size, in_scope, same_scope}
use Rattle.spec_language.specs.Declarations.{tag as is_tag}
use Rattle.spec_language.specs.Layout.{find, round_up, sizes}
use Rattle.spec_language.specs.ResolutionLaws.{IsSoundMeaning, Sound}
use Rattle.spec_language.specs.TypeFaults.{is_bool_base, type_fault}
use Rattle.spec_language.specs.declared.tag.Scope.{Scope}
use Rattle.spec_language.specs.declared.tag.Scope.TheVariants.{Controller, Program}
use Rattle.spec_language.specs.declared.types.Base.TheVariants.{Bool as OneBit}
use Rattle.spec_language.specs.declared.types.TypeCode.TheVariants.{Y1, Y4}
use Rattle.spec_language.specs.declared.types.TypeDecl.{TypeDecl}
use Rattle.spec_language.proofs.Reaching.{find_there}
use Rattle.spec_language.proofs.SizesSettle.{append_none, even_base, even_none, faultless, first_none, sized_some, user_found, where_none}
use Rattle.spec_project.specs.Tags.{ScopedTag, data_type, declarations, declarations_of, entry_meaning, entry_of, in_tags_of, inner_of_tag, scoped_tags, tag_fault, tags_fault, type_faults_of}
use Rattle.spec_project.specs.declared.described.Described.{Described}
use Rattle.spec_project.specs.declared.described.DescribedMeaning.{DescribedMeaning}
use Rattle.spec_project.specs.declared.described.DescribedMeaning.TheVariants.{OfType as typed, AliasOf}
use Rattle.spec_project.specs.declared.fault.Inner.TheVariants.{OfType, OfTag}
use Rattle.spec_project.specs.declared.fault.ProjectFault.{ProjectFault}
use Rattle.spec_valid.proofs.Passes.{none_of, not_mapped}
use Rattle.spec_valid.proofs.TypesAccepted.{structure_some}

-- ---- one tag

pub not_in_tags : (scope : Scope) (o : Option ProjectFault) → in_tags_of scope o ≡ None → o ≡ None
not_in_tags Controller o h = not_mapped _ o h
not_in_tags (Program n) o h = not_mapped _ o (not_mapped _ _ (not_mapped _ _ h))

faultless_tag : (d : Declarations) (t : ScopedTag) → tag_fault d t ≡ None
    → type_faults_of d t.scope t.tag.name t.tag.meaning ≡ []
faultless_tag d t h =
    let none : inner_of_tag d t.scope t.tag ≡ None = not_mapped _ _ (not_mapped _ _ (not_in_tags t.scope _ h)) in
    (append_none (map OfTag (entry_faults d t.scope t.tag.name)) (type_faults_of d t.scope t.tag.name t.tag.meaning) (first_none _ none)).1

sound_meaning : (types : List TypeDecl) → Each (λ t. 0 < length t.members) types → type_fault types ≡ None
    → (d : Declarations) → d.types ≡ types → (scope : Scope) (name : List ℕ) (m : DescribedMeaning)
    → type_faults_of d scope name m ≡ [] → IsSoundMeaning types (entry_meaning types m)
sound_meaning types full none d is scope name (AliasOf target) h = tt
sound_meaning types full none d is scope name (typed of dim) h =
    let a = append_none (where_true (is_none (find d.types of)) (OfType Y1)) _ h in
    let b = append_none (where_true (is_bool_base (find d.types of) && not (dim % 32 == 0)) (OfType Y4)) _ a.1 in
    let there : is_none (find types of) ≡ false = subst (λ (ts : List TypeDecl). is_none (find ts of) ≡ false) is (where_none _ _ a.0) in
    let even : (is_bool_base (find types of) && not (dim % 32 == 0)) ≡ false = subst (λ (ts : List TypeDecl). (is_bool_base (find ts of) && not (dim % 32 == 0)) ≡ false) is (where_none _ _ b.0) in
    let base = unwrap_or (find types of) OneBit in
    (even_base (find types of) dim there even, sized_some (sizes types) base 0 (even_none base) (λ j q. structure_some types full none j (find_there types of j (user_found (find types of) j q))))

-- ---- all tags

-- no tag is refused after those before it
abbrev pub AreDeclared : Described → Type 0
AreDeclared p = Each (λ e. tag_fault (declarations_of p (take e.0 (scoped_tags p))) e.1 ≡ None) (enumerate_from 0 (scoped_tags p))

pub declared_tags : (p : Described) → tags_fault p ≡ None → AreDeclared p
unfolding tags_fault
declared_tags p h = none_of (λ k t. tag_fault (declarations_of p (take k (scoped_tags p))) t) 0 (scoped_tags p) h

sound_from : (p : Described) → Each (λ t. 0 < length t.members) p.types → type_fault p.types ≡ None
    → (all : List ScopedTag) (i : ℕ) (ts : List ScopedTag)
    → Each (λ e. tag_fault (declarations_of p (take e.0 all)) e.1 ≡ None) (enumerate_from i ts)
    → Each (λ e. IsSoundMeaning p.types e.meaning) (map (entry_of p.types) ts)
sound_from p full none all i [] h = tt
sound_from p full none all i (t ∷ ts) h =
    let d = declarations_of p (take i all) in
    (sound_meaning p.types full none d refl t.scope t.tag.name t.tag.meaning (faultless_tag d t h.0), sound_from p full none all (i + 1) ts h.1)

pub declarations_sound : (p : Described) → Each (λ t. 0 < length t.members) p.types → type_fault p.types ≡ None
    → AreDeclared p → Sound (declarations p)
declarations_sound p full none h = record { types = faultless p.types full none; tags = sound_from p full none (scoped_tags p) 0 (scoped_tags p) h }

-- ---- where tags end

-- from any word on, both lists end at the same word
abbrev EndAlike : List TypeDecl → List Entry → List Entry → Type 0
EndAlike types es fs = (at : ℕ) → at % 4 ≡ 0 → (end_of types at es ≡ end_of types at fs) × (end_of types at fs % 4 ≡ 0)

end_on_word : (types : List TypeDecl) (at : ℕ) (es : List Entry) → at % 4 ≡ 0 → end_of types at es % 4 ≡ 0
end_on_word types at [] h = h
end_on_word types at (e ∷ es) h = end_on_word types (round_up 4 (at + entry_size types e)) es (omega arith)

alike : (types : List TypeDecl) (es : List Entry) → EndAlike types es es
alike types es at h = (refl, end_on_word types at es h)

end_append : (types : List TypeDecl) (at : ℕ) (es fs : List Entry)
    → end_of types at (es ++ fs) ≡ end_of types (end_of types at es) fs
end_append types at [] fs = refl
end_append types at (e ∷ es) fs = end_append types (round_up 4 (at + entry_size types e)) es fs

both_alike : (types : List TypeDecl) (es fs us vs : List Entry) → EndAlike types es fs → EndAlike types us vs
    → EndAlike types (es ++ us) (fs ++ vs)
both_alike types es fs us vs h k at w =
    let a = h at w in
    let c = k (end_of types at fs) a.1 in
    (end_append types at es us ∙ ap (λ n. end_of types n us) a.0 ∙ c.0 ∙ sym (end_append types at fs vs), subst (λ (n : ℕ). n % 4 ≡ 0) (sym (end_append types at fs vs)) c.1)

-- an alias takes no bytes
alias_ends : (types : List TypeDecl) (scope : Scope) (name target : List ℕ)
    → EndAlike types (record { scope = scope; name = name; meaning = alias target } ∷ []) []
alias_ends types scope name target at h = (omega arith, h)

kept_alias : (types : List TypeDecl) (b : Bool) (e : Entry) → EndAlike types (e ∷ []) []
    → EndAlike types (cond b (e ∷ []) []) []
kept_alias types true e h = h
kept_alias types false e h = alike types []

alias_in_scope : (types : List TypeDecl) (es : List Entry) (e : Entry) (scope : Scope) → EndAlike types (e ∷ []) []
    → EndAlike types (in_scope (es ++ e ∷ []) scope) (in_scope es scope)
alias_in_scope types es e scope h =
    let test = λ (f : Entry). same_scope f.scope scope in
    subst (λ (fs : List Entry). EndAlike types fs (filter test es)) (sym (filter-append test es (e ∷ [])))
    (subst (λ (gs : List Entry). EndAlike types (filter test es ++ filter test (e ∷ [])) gs) (append-nil (filter test es))
    (both_alike types (filter test es) (filter test es) (filter test (e ∷ [])) [] (alike types (filter test es)) (kept_alias types (same_scope e.scope scope) e h)))

alias_in_programs : (types : List TypeDecl) (es : List Entry) (e : Entry) (ns : List ℕ) → EndAlike types (e ∷ []) []
    → EndAlike types (flat_map (λ n. in_scope (es ++ e ∷ []) (Program n)) ns) (flat_map (λ n. in_scope es (Program n)) ns)
alias_in_programs types es e [] h = alike types []
alias_in_programs types es e (n ∷ ns) h =
    both_alike types (in_scope (es ++ e ∷ []) (Program n)) (in_scope es (Program n)) _ _ (alias_in_scope types es e (Program n) h) (alias_in_programs types es e ns h)

alias_adds_none : (d : Declarations) (scope : Scope) (name target : List ℕ)
    → bytes (declared_as d scope name (alias target)) ≡ bytes d
alias_adds_none d scope name target =
    let e : Entry = record { scope = scope; name = name; meaning = alias target } in
    let h = alias_ends d.types scope name target in
    (both_alike d.types (in_scope (d.entries ++ e ∷ []) Controller) (in_scope d.entries Controller) _ _ (alias_in_scope d.types d.entries e Controller h) (alias_in_programs d.types d.entries e (range_with_len 0 d.programs) h) 0 refl).0

-- ---- the image

nothing_ends : (types : List TypeDecl) (ns : List ℕ) → end_of types 0 (flat_map (λ n. in_scope [] (Program n)) ns) ≡ 0
nothing_ends types [] = refl
nothing_ends types (n ∷ ns) = nothing_ends types ns

one_more : (p : Described) (d : Declarations) (t : ScopedTag) → d.types ≡ p.types → bytes d ≤ MAX_IMAGE_BYTES
    → (m : DescribedMeaning) → type_faults_of d t.scope t.tag.name m ≡ []
    → bytes (declared_as d t.scope t.tag.name (entry_meaning p.types m)) ≤ MAX_IMAGE_BYTES
one_more p d t is few (AliasOf target) h = subst (λ (n : ℕ). n ≤ MAX_IMAGE_BYTES) (sym (alias_adds_none d t.scope t.tag.name target)) few
one_more p d t is few (typed of dim) h =
    let a = append_none (where_true (is_none (find d.types of)) (OfType Y1)) _ h in
    let b = append_none (where_true (is_bool_base (find d.types of) && not (dim % 32 == 0)) (OfType Y4)) _ a.1 in
    subst (λ (ts : List TypeDecl). bytes (declared_as d t.scope t.tag.name (is_tag (data_type ts of dim))) ≤ MAX_IMAGE_BYTES) is (ltb-false MAX_IMAGE_BYTES _ (where_none _ _ b.1))

bytes_from : (p : Described) (all done rest : List ScopedTag) → all ≡ done ++ rest
    → bytes (declarations_of p done) ≤ MAX_IMAGE_BYTES
    → Each (λ e. tag_fault (declarations_of p (take e.0 all)) e.1 ≡ None) (enumerate_from (length done) rest)
    → bytes (declarations_of p all) ≤ MAX_IMAGE_BYTES
bytes_from p all done [] e few h = subst (λ (ts : List ScopedTag). bytes (declarations_of p ts) ≤ MAX_IMAGE_BYTES) (sym (e ∙ append-nil done)) few
bytes_from p all done (t ∷ ts) e few h =
    let d = declarations_of p done in
    let before : take (length done) all ≡ done = ap (take (length done)) e ∙ take-append_seam done (t ∷ ts) in
    let here : tag_fault d t ≡ None = subst (λ (us : List ScopedTag). tag_fault (declarations_of p us) t ≡ None) before h.0 in
    let added : declared_as d t.scope t.tag.name (entry_meaning p.types t.tag.meaning) ≡ declarations_of p (done ++ t ∷ []) =
    ap (λ (es : List Entry). record d { entries = es }) (sym (map-append (entry_of p.types) done (t ∷ []))) in
    let more : bytes (declarations_of p (done ++ t ∷ [])) ≤ MAX_IMAGE_BYTES = subst (λ (x : Declarations). bytes x ≤ MAX_IMAGE_BYTES) added (one_more p d t refl few t.tag.meaning (faultless_tag d t here)) in
    let next : length done + 1 ≡ length (done ++ t ∷ []) = sym (length-append done (t ∷ [])) in
    bytes_from p all (done ++ t ∷ []) ts (e ∙ sym (append_assoc done (t ∷ []) ts)) more (subst (λ (k : ℕ). Each (λ e. tag_fault (declarations_of p (take e.0 all)) e.1 ≡ None) (enumerate_from k ts)) next h.1)

pub small_image : (p : Described) → AreDeclared p → bytes (declarations p) ≤ MAX_IMAGE_BYTES
small_image p h =
    let none : bytes (declarations_of p []) ≡ 0 = nothing_ends p.types (range_with_len 0 (length p.programs)) in
    bytes_from p (scoped_tags p) [] (scoped_tags p) refl (omega (arith, none)) h
