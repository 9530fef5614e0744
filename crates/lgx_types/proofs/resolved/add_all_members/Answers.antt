use Rattle.std.proofs.Common.{◌∙◌, ◌≡◌, ap, refl, sym, List, ℕ, ◌++◌, ◌∷◌, [], drop, take, true, false, map}
use Rattle.std.specs.Prelude.{flat_map, slice_get, Some}
use Rattle.std.specs.List.{enumerate_from}
use Rattle.std.proofs.Math.ListN.{drop_of_length-le}
use Rattle.std.proofs.lemmas.List.{take_all}
use Rattle.std.proofs.lemmas.Option.{slice_get_read}
use Rattle.std.proofs.lemmas.Result.{err_from_is_err_and}
use Rattle.spec_language.specs.declared.types.TypeDecl.{TypeDecl}
use Rattle.spec_language.specs.declared.types.DataType.{DataType}
use Rattle.spec_language.specs.TypeFaults.{structure_faults, name_taken, of_structure}
use Rattle.spec_language.specs.declared.types.TypeCode.TheVariants.{Y6}
use Rattle.lgx_types.specs.Tables.{fault}
use Rattle.lgx_types.specs.Outlines.{outline, member_names}
use Rattle.lgx_types.proofs.Found.{first_here, none_here, take_map_more, taken_first, not_taken}
use Rattle.lgx_types.proofs.resolved.add_all_members.Goals as goal

pub returns-then-is_taken-clause-fault : goal.returns-then-is_taken-clause-fault
returns-then-is_taken-clause-fault c =
    let d = c.index-decls-i.result in
    let got : slice_get c.args.decls.now c.loop-i.i ≡ Some d = slice_get_read c.args.decls.now _ c.loop-i.i d refl c.loop-i-test.true c.index-decls-i.is in
    let told : c.is_taken.result ≡ name_taken c.args.structures.now c.loop-i.i d = c.is_taken.ensures d (rw c.requires.same got) in
    let taken : name_taken c.args.decls.now c.loop-i.i d ≡ true = rw c.requires.same at (sym told ∙ c.if-is_taken.true) in
    rw c.fault_of.ensures (first_here (structure_faults c.args.decls.now) c.args.decls.now c.loop-i.i d _ c.loop-i-test.true c.index-decls-i.is c.loop-i.invariant.faults (Some (of_structure Y6 c.loop-i.i)) (taken_first c.args.decls.now c.loop-i.i d taken))

pub returns-in_err-names-clause-fault : goal.returns-in_err-names-clause-fault
returns-in_err-names-clause-fault c =
    let p = err_from_is_err_and c.from_residual.result c.from_residual.ensures.1 in
    let d = c.index-decls-i.result in
    let got : slice_get c.args.decls.now c.loop-i.i ≡ Some d = slice_get_read c.args.decls.now _ c.loop-i.i d refl c.loop-i-test.true c.index-decls-i.is in
    let told : c.is_taken.result ≡ name_taken c.args.structures.now c.loop-i.i d = c.is_taken.ensures d (rw c.requires.same got) in
    let taken : name_taken c.args.decls.now c.loop-i.i d ≡ false = rw c.requires.same at (sym told ∙ c.if-is_taken.false) in
    let f = c.in_err-names.ensures.fault in
    rw (p.1, p.2) (first_here (structure_faults c.args.decls.now) c.args.decls.now c.loop-i.i d _ c.loop-i-test.true c.index-decls-i.is c.loop-i.invariant.faults (fault c.in_err-names.field-0.0) (rw (not_taken c.args.decls.now c.loop-i.i d taken) (rw (c.requires.same, c.as_slice.ensures) at f)))

pub loop-i-preserved : goal.loop-i-preserved
loop-i-preserved c =
    let d = c.index-decls-i.result in
    let got : slice_get c.args.decls.now c.loop-i.i ≡ Some d = slice_get_read c.args.decls.now _ c.loop-i.i d refl c.loop-i-test.true c.index-decls-i.is in
    let told : c.is_taken.result ≡ name_taken c.args.structures.now c.loop-i.i d = c.is_taken.ensures d (rw c.requires.same got) in
    let taken : name_taken c.args.decls.now c.loop-i.i d ≡ false = rw c.requires.same at (sym told ∙ c.if-is_taken.false) in
    record {
      members = c.in_ok-push.ensures.items ∙ ap (λ (l : List (List (List ℕ))). l ++ c.in_ok-names.names ∷ []) c.loop-i.invariant.members ∙ ap (λ (n : List (List ℕ)). map (λ (o : TypeDecl). member_names o.members) (take c.loop-i.i c.args.decls.now) ++ n ∷ []) (c.in_ok-names.ensures.names ∙ ap member_names c.as_slice.ensures) ∙ sym (take_map_more (λ (o : TypeDecl). member_names o.members) c.args.decls.now c.loop-i.i d c.loop-i-test.true c.index-decls-i.is);
      outlines = c.in_ok-push-2.ensures.items ∙ ap (λ (l : List (List DataType)). l ++ c.in_ok-names.types ∷ []) c.loop-i.invariant.outlines ∙ ap (λ (n : List DataType). map (λ (o : TypeDecl). outline c.args.decls.now o.members) (take c.loop-i.i c.args.decls.now) ++ n ∷ []) (rw (c.requires.same, c.as_slice.ensures) at c.in_ok-names.ensures.types) ∙ sym (take_map_more (λ (o : TypeDecl). outline c.args.decls.now o.members) c.args.decls.now c.loop-i.i d c.loop-i-test.true c.index-decls-i.is);
      faults = none_here (structure_faults c.args.decls.now) c.args.decls.now c.loop-i.i d _ c.loop-i-test.true c.index-decls-i.is c.loop-i.invariant.faults (not_taken c.args.decls.now c.loop-i.i d taken ∙ (rw (c.requires.same, c.as_slice.ensures) at c.in_ok-names.ensures.in_order));
    }

pub returns : goal.returns
returns c =
    let decls : List TypeDecl = c.args.decls.now in
    let all : take c.loop-i.i decls ≡ decls = take_all c.loop-i.i decls c.loop-i-test.false in
    let none : drop c.loop-i.i decls ≡ [] = drop_of_length-le decls c.loop-i-test.false in
    record {
      members = c.loop-i.invariant.members ∙ ap (map (λ (d : TypeDecl). member_names d.members)) all;
      outlines = c.loop-i.invariant.outlines ∙ ap (map (λ (d : TypeDecl). outline decls d.members)) all;
      in_order = sym c.loop-i.invariant.faults ∙ ap (λ (ds : List TypeDecl). flat_map (structure_faults decls) (enumerate_from c.loop-i.i ds)) none;
      fault = tt;
    }
