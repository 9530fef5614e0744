use Rattle.std.proofs.Common.{◌∙◌, ◌≡◌, ap, sym, subst, List, ℕ, Bool, ◌++◌, ◌∷◌, drop, take}
use Rattle.std.proofs.Math.ListN.{drop_of_length-le}
use Rattle.std.proofs.lemmas.List.{take_all}
use Rattle.spec_language.specs.declared.types.DataType.{DataType}
use Rattle.spec_language.specs.Layout.{type_of}
use Rattle.spec_language.specs.declared.types.MemberDecl.{MemberDecl}
use Rattle.std.proofs.lemmas.Result.{err_from_is_err_and}
use Rattle.std.specs.Prelude.{[], flat_map}
use Rattle.std.specs.List.{enumerate_from}
use Rattle.spec_language.specs.TypeFaults.{member_faults, repeated}
use Rattle.lgx_types.specs.Outlines.{faults_by, member_names, outline}
use Rattle.lgx_types.specs.Tables.{fault}
use Rattle.spec_base.specs.Causes.{IsFaultOf}
use Rattle.spec_base.specs.FirstCause.{first}
use Rattle.lgx_types.proofs.Found.{first_here, none_here, repeated_is, take_map_more}
use Rattle.lgx_types.proofs.resolved.add_members.Goals as goal

pub returns-in_err-of-clause-fault : goal.returns-in_err-of-clause-fault
returns-in_err-of-clause-fault c =
    let p = err_from_is_err_and c.from_residual-in_err-of.result c.from_residual-in_err-of.ensures.1 in
    let m = c.index-members-k.result in
    let taken : c.is_some-taken.result ≡ repeated c.args.members.now c.loop-k.k m = rw (c.is_some-taken.ensures, c.find.ensures.number, c.bytes.ensures.bytes) (repeated_is c.args.members.now c.loop-k.names c.loop-k.k m c.loop-k.invariant.names) in
    rw (p.1, p.2) (first_here (member_faults c.args.structures.now c.args.i c.args.members.now) c.args.members.now c.loop-k.k m _ c.loop-k-test.true c.index-members-k.is c.loop-k.invariant.faults (fault c.in_err-of.field-0.0) (subst (λ (b : Bool). IsFaultOf (first (faults_by b c.args.structures.now c.args.i c.loop-k.k m)) (fault c.in_err-of.field-0.0)) taken c.in_err-of.ensures.fault))

pub loop-k-preserved : goal.loop-k-preserved
loop-k-preserved c =
    let m = c.index-members-k.result in
    let taken : c.is_some-taken.result ≡ repeated c.args.members.now c.loop-k.k m = rw (c.is_some-taken.ensures, c.find.ensures.number, c.bytes.ensures.bytes) (repeated_is c.args.members.now c.loop-k.names c.loop-k.k m c.loop-k.invariant.names) in
    record {
      names = c.in_ok-push.ensures.ok ∙ ap (λ (l : List (List ℕ)). l ++ m.name ∷ []) c.loop-k.invariant.names ∙ sym (take_map_more (λ (o : MemberDecl). o.name) c.args.members.now c.loop-k.k m c.loop-k-test.true c.index-members-k.is);
      types = c.in_ok-push-2.ensures.items ∙ ap (λ (l : List DataType). l ++ c.in_ok-of.of ∷ []) c.loop-k.invariant.types ∙ ap (λ (t : DataType). outline c.args.structures.now (take c.loop-k.k c.args.members.now) ++ t ∷ []) c.in_ok-of.ensures.value ∙ sym (take_map_more (type_of c.args.structures.now) c.args.members.now c.loop-k.k m c.loop-k-test.true c.index-members-k.is);
      faults = none_here (member_faults c.args.structures.now c.args.i c.args.members.now) c.args.members.now c.loop-k.k m _ c.loop-k-test.true c.index-members-k.is c.loop-k.invariant.faults (subst (λ (b : Bool). faults_by b c.args.structures.now c.args.i c.loop-k.k m ≡ []) taken c.in_ok-of.ensures.in_order);
    }

pub returns : goal.returns
returns c =
    let members : List MemberDecl = c.args.members.now in
    let all : take c.loop-k.k members ≡ members = take_all c.loop-k.k members c.loop-k-test.false in
    let none : drop c.loop-k.k members ≡ [] = drop_of_length-le members c.loop-k-test.false in
    record {
      names = c.loop-k.invariant.names ∙ ap member_names all;
      types = c.loop-k.invariant.types ∙ ap (outline c.args.structures.now) all;
      in_order = sym c.loop-k.invariant.faults ∙ ap (λ (ms : List MemberDecl). flat_map (member_faults c.args.structures.now c.args.i members) (enumerate_from c.loop-k.k ms)) none;
      fault = tt;
    }
