-- Tags lie in the image one after the other.
use Rattle.std.specs.Prelude.{◌≡◌, ℕ, ◌+◌, ◌≤◌, List, [], ◌∷◌, Option, Some, None, refl}
use Rattle.std.specs.Option.{option_or}
use Rattle.std.proofs.Common.{sym, subst, arith}
use Rattle.spec_language.specs.declared.types.DataType.{DataType}
use Rattle.spec_language.specs.declared.types.TypeDecl.{TypeDecl}
use Rattle.spec_language.specs.declared.tag.Scope.{Scope}
use Rattle.spec_language.specs.declared.tag.Scope.TheVariants.{Controller, Program}
use Rattle.spec_language.specs.Layout.{round_up, size_of}
use Rattle.spec_language.specs.Declarations.{Entry, Declarations, is_named, in_scope, in_order, entry_size, laid_from, laid, end_of, bytes, entry_of}
use Rattle.spec_language.specs.Resolution.{seen_from, tag_found}
use Rattle.std.specs.List.{AllByRecursion as Each, range_with_len}
use Rattle.spec_language.specs.LayoutLaws.{IsSoundType}
use Rattle.spec_language.specs.ResolutionLaws.{EndsBy, IsSoundMeaning, Sound, LiesIn}
use Rattle.spec_base.proofs.Lists.{each_append, each_filter, each_flat, each_find}
use Rattle.spec_language.proofs.TypesFit.{width_of, begins_at}

abbrev pub LaidWell : List TypeDecl → ℕ → ℕ × Entry → Type 0
LaidWell types len x = (x.0 + entry_size types x.1 ≤ len) × IsSoundMeaning types x.1.meaning

pub ends_grow : (types : List TypeDecl) (at : ℕ) (es : List Entry) → at ≤ end_of types at es
ends_grow types at [] = omega arith
ends_grow types at (e ∷ es) = omega (arith, ends_grow types (round_up 4 (at + entry_size types e)) es)

pub laid_well : (types : List TypeDecl) (at : ℕ) (es : List Entry) → Each (λ e. IsSoundMeaning types e.meaning) es → Each (LaidWell types (end_of types at es)) (laid_from types at es)
laid_well types at [] s = tt
laid_well types at (e ∷ es) s = ((omega (arith, ends_grow types (round_up 4 (at + entry_size types e)) es), s.0), laid_well types (round_up 4 (at + entry_size types e)) es s.1)

pub ordered_sound : (d : Declarations) → Sound d → Each (λ e. IsSoundMeaning d.types e.meaning) (in_order d)
ordered_sound d s = each_append (λ e. IsSoundMeaning d.types e.meaning) (in_scope d.entries Controller) _ (each_filter (λ e. IsSoundMeaning d.types e.meaning) _ d.entries s.tags) (each_flat (λ e. IsSoundMeaning d.types e.meaning) (λ p. in_scope d.entries (Program p)) (range_with_len 0 d.programs) (λ p. each_filter (λ e. IsSoundMeaning d.types e.meaning) _ d.entries s.tags))

pub entry_well : (d : Declarations) (scope : Scope) (name : List ℕ) (x : ℕ × Entry) → Sound d → entry_of d scope name ≡ Some x → LaidWell d.types (bytes d) x
entry_well d scope name x s p = each_find (LaidWell d.types (bytes d)) (λ e. is_named scope name e.1) (laid d) x (laid_well d.types 0 (in_order d) (ordered_sound d s)) p

pub seen_well : (d : Declarations) (scope : Scope) (name : List ℕ) (x : ℕ × Entry) → Sound d → seen_from d scope name ≡ Some x → LaidWell d.types (bytes d) x
seen_well d Controller name x s p = entry_well d Controller name x s p
seen_well d (Program q) name x s p = go (entry_of d (Program q) name) refl p
  where
    go : (o : Option (ℕ × Entry)) → entry_of d (Program q) name ≡ o → option_or o (entry_of d Controller name) ≡ Some x → LaidWell d.types (bytes d) x
    go None r t = entry_well d Controller name x s t
    go (Some y) r t = entry_well d (Program q) name x s (cc (r, t))

pub tag_lies : (types : List TypeDecl) (len at : ℕ) (of : DataType) → at + size_of types of ≤ len → IsSoundType types of → LiesIn types len (tag_found types at of)
tag_lies types len at of h s = record { subscripts = tt; few = omega arith; inside = λ to q. subst (λ (b : ℕ). EndsBy types of (at + size_of types of) b) (sym q) (begins_at of.base at, omega (arith, width_of types of.base of.dim s.0)); stop = h; filled = s.1 }
