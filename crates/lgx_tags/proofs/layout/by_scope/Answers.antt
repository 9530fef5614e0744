use Rattle.std.proofs.Common.{◌≡◌, ℕ, ◌+◌, ◌++◌, ◌∷◌, [], ◌∙◌, sym, ap, arith, take, length}
use Rattle.std.specs.Prelude.{List}
use Rattle.std.proofs.lemmas.List.{take_more, length-take}
use Rattle.spec_language.specs.Declarations.{Entry}
use Rattle.spec_base.proofs.Lists.{each_get}
use Rattle.lgx_tags.specs.Scopes.{IsScopeOf}
use Rattle.lgx_tags.specs.Layouts.{with_entry, rows_of}
use Rattle.lgx_tags.specs.declared.layout.NumberedTag.{NumberedTag}
use Rattle.lgx_tags.proofs.Rows.{rows_snoc, rows_length, rows_empty, slot_within}
use Rattle.lgx_tags.proofs.layout.by_scope.Goals as goal
use Rattle.lgx_tags.proofs.Declares.{entry_there}

pub loop-i-init : goal.loop-i-init
loop-i-init c = c.in_ok-rows.ensures ∙ sym (rows_empty c.args.programs)

pub put_entry-requires : goal.put_entry-requires
put_entry-requires c =
    let e : Entry = c.index-entries-i.result in
    let placed : IsScopeOf c.args.programs e.scope = each_get (λ e. IsScopeOf c.args.programs e.scope) c.args.entries.now c.loop-i.i e c.requires.placed (entry_there c.args.entries.now c.loop-i.i e c.loop-i-test.true c.index-entries-i.is) in
    let long : length c.loop-i.rows.items ≡ c.args.programs + 1 = ap length c.loop-i.invariant ∙ rows_length (take c.loop-i.i c.args.entries.now) c.args.programs in
    rw long (slot_within c.args.programs e.scope placed)

pub loop-i-preserved : goal.loop-i-preserved
loop-i-preserved c =
    let e : Entry = c.index-entries-i.result in
    let es : List Entry = c.args.entries.now in
    let placed : IsScopeOf c.args.programs e.scope = each_get (λ e. IsScopeOf c.args.programs e.scope) es c.loop-i.i e c.requires.placed (entry_there es c.loop-i.i e c.loop-i-test.true c.index-entries-i.is) in
    let long : c.loop-i.i ≡ length (take c.loop-i.i es) = omega (arith, length-take {A = Entry}) in
    let more : take (c.loop-i.i + 1) es ≡ take c.loop-i.i es ++ e ∷ [] = take_more es c.loop-i.i e c.loop-i-test.true ∙ ap (λ (x : Entry). take c.loop-i.i es ++ x ∷ []) (sym c.index-entries-i.is) in
    c.in_ok-put_entry.ensures ∙ ap (λ (rows : List (List NumberedTag)). with_entry rows c.loop-i.i e.scope e.meaning) c.loop-i.invariant ∙ ap (λ (n : ℕ). with_entry (rows_of (take c.loop-i.i es) c.args.programs) n e.scope e.meaning) long ∙ rows_snoc (take c.loop-i.i es) c.args.programs e placed ∙ ap (λ (es : List Entry). rows_of es c.args.programs) (sym more)
