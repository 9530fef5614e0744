use Rattle.std.proofs.Common.{◌≡◌, ◌≤◌, ◌∙◌, ℕ, ap, sym, subst, arith, length}
use Rattle.std.specs.Prelude.{List, flat_map, IfOk, OnOk, Result, Ok, Err}
use Rattle.std.specs.List.{AllByRecursion as Each}
use Rattle.spec_base.specs.declared.limits.TheConstants.{MAX_IMAGE_BYTES}
use Rattle.spec_language.specs.declared.types.TypeDecl.{TypeDecl}
use Rattle.spec_language.specs.Declarations.{Entry, Declarations, bytes}
use Rattle.lgx_types.specs.Tables.{HasSize}
use Rattle.lgx_tags.specs.Layouts.{rows_of, order_of, place_tags, place_tags_end, placed_tags}
use Rattle.lgx_tags.specs.declared.layout.NumberedTag.{NumberedTag}
use Rattle.lgx_tags.specs.declared.layout.PlacedTag.{PlacedTag}
use Rattle.lgx_tags.proofs.Faults.{tags_few}
use Rattle.lgx_tags.proofs.Segments.{rows_flat, order_sized, ends_at}
use Rattle.lgx_tags.proofs.TagSpans.{all_within}
use Rattle.lgx_tags.proofs.declared.Declared.laid.Goals as goal

-- the rows of the entries, one after the other
in_order_of : (d : Declarations) (es : List Entry) (rows : List (List NumberedTag)) (order : List NumberedTag) → es ≡ d.entries → rows ≡ rows_of es d.programs → order ≡ flat_map (λ (row : List NumberedTag). row) rows → order ≡ order_of d
in_order_of d es rows order p q r = r ∙ ap (flat_map (λ (row : List NumberedTag). row)) (q ∙ ap (λ (es : List Entry). rows_of es d.programs) p) ∙ rows_flat d.entries d.programs

on_ok : {A E : Type 0} (r : Result A E) (P : Type 0) → P → OnOk r P
on_ok (Ok x) P p = p
on_ok (Err e) P p = tt

pub place_tags-requires-clause-sized : goal.place_tags-requires-clause-sized
place_tags-requires-clause-sized c =
    let inside : Declarations = record { types = c.self.inside.types; programs = c.self.inside.programs; entries = c.self.inside.entries.items } in
    let d : Declarations = c.args.self.now in
    let order : c.deref-3.result.now ≡ order_of d = c.deref-3.ensures.value ∙ in_order_of inside c.deref.result.now c.in_ok-rows.rows.items c.in_ok-order.order.items c.deref.ensures.value c.in_ok-rows.ensures.rows (c.in_ok-order.ensures ∙ ap (flat_map (λ (row : List NumberedTag). row)) c.deref-2.ensures.value) ∙ ap order_of c.self.view_is in
    subst (λ (ts : List TypeDecl). Each (λ (t : NumberedTag). HasSize ts t.of) c.deref-3.result.now) (sym c.types.ensures.value) (subst (Each (λ (t : NumberedTag). HasSize d.types t.of)) (sym order) (order_sized d c.types.ensures.admitted))

pub place_tags-requires-clause-room : goal.place_tags-requires-clause-room
place_tags-requires-clause-room c =
    let inside : Declarations = record { types = c.self.inside.types; programs = c.self.inside.programs; entries = c.self.inside.entries.items } in
    let d : Declarations = c.args.self.now in
    let order : c.deref-3.result.now ≡ order_of d = c.deref-3.ensures.value ∙ in_order_of inside c.deref.result.now c.in_ok-rows.rows.items c.in_ok-order.order.items c.deref.ensures.value c.in_ok-rows.ensures.rows (c.in_ok-order.ensures ∙ ap (flat_map (λ (row : List NumberedTag). row)) c.deref-2.ensures.value) ∙ ap order_of c.self.view_is in
    let end : bytes d ≡ place_tags_end c.types.result.now 0 c.deref-3.result.now = sym (ends_at d) ∙ ap (place_tags_end d.types 0) (sym order) ∙ ap (λ (ts : List TypeDecl). place_tags_end ts 0 c.deref-3.result.now) (sym c.types.ensures.value) in
    subst (λ (n : ℕ). n ≤ MAX_IMAGE_BYTES) end c.types.ensures.room

pub returns-clause-value : goal.returns-clause-value
returns-clause-value c =
    let inside : Declarations = record { types = c.self.inside.types; programs = c.self.inside.programs; entries = c.self.inside.entries.items } in
    let d : Declarations = c.args.self.now in
    let order : c.deref-3.result.now ≡ order_of d = c.deref-3.ensures.value ∙ in_order_of inside c.deref.result.now c.in_ok-rows.rows.items c.in_ok-order.order.items c.deref.ensures.value c.in_ok-rows.ensures.rows (c.in_ok-order.ensures ∙ ap (flat_map (λ (row : List NumberedTag). row)) c.deref-2.ensures.value) ∙ ap order_of c.self.view_is in
    subst (λ (ls : List PlacedTag). IfOk c.place_tags.result (λ laid. laid.items ≡ ls)) (ap (λ (ts : List TypeDecl). place_tags ts 0 c.deref-3.result.now) c.types.ensures.value ∙ ap (place_tags d.types 0) order) c.place_tags.ensures.laid

pub returns-clause-few : goal.returns-clause-few
returns-clause-few c =
    let few : length (placed_tags c.args.self.now) ≤ MAX_IMAGE_BYTES = omega (arith, tags_few c.args.self.now c.types.ensures.sound, c.types.ensures.room) in
    on_ok c.place_tags.result (length (placed_tags c.args.self.now) ≤ MAX_IMAGE_BYTES) few

pub returns-clause-within : goal.returns-clause-within
returns-clause-within c = on_ok c.place_tags.result _ (all_within c.args.self.now c.types.ensures.room)
