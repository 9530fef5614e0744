-- The instructions of a valid project's programs stand at their sites, and what a call wants returned are returns of its routine.
use Rattle.std.specs.Prelude.{◌||◌, nat_eq, slice_get, slice_index_or}
use Rattle.std.specs.List.{AllByRecursion as Each}
use Rattle.std.proofs.Common.{◌≡◌, ℕ, zero, suc, ◌+◌, ◌⊎◌, inl, inr, true, false, List, [], ◌∷◌, map, length, Some, refl, sym, ap, subst, arith, eq-eqb}
use Rattle.spec_base.proofs.Lists.{each_get}
use Rattle.lgx_num.specs.declared.place.Operand.{Operand}
use Rattle.lgx_num.specs.declared.place.Operand.TheVariants as operand
use Rattle.lgx_rung.specs.declared.ins.Ins.{Ins}
use Rattle.lgx_rung.specs.declared.op.Op.{Op}
use Rattle.lgx_rung.specs.declared.op.Op.TheVariants.{Jsr}
use Rattle.spec_scan.specs.declared.bound.Arg.{Arg}
use Rattle.spec_scan.specs.Arguments.{bind}
use Rattle.spec_scan.specs.Executable.{IsExecutable}
use Rattle.spec_scan.specs.Fits.{IsRoutine, OperandsFit}
use Rattle.spec_scan.specs.Instructions.{target}
use Rattle.spec_scan.specs.Parameters.{returns_of}
use Rattle.spec_scan.specs.Position.{NoZone, Rungs, routine_rungs, starts}
use Rattle.spec_scan.proofs.CallOperands.{IsCounted, call_operands}
use Rattle.spec_machine.specs.Edits.{book_of, selected}
use Rattle.spec_machine.specs.Project.{Project, ProgramText, RoutineText}
use Rattle.spec_machine.specs.ValidProject.{IsValidProject}
use Rattle.spec_reach.specs.Positions.{RungsHave}
use Rattle.spec_uses.specs.Uses.{Site, is_call_of, program_instructions, site, sites_of_program}
use Rattle.spec_beside.specs.Misses.{PlaceMisses, WritesBeside}
use Rattle.spec_beside.specs.Routines.{CallsStand, FramesBegin, FramesStay, IsReturnTo, RoutinesStand, StandsIn}
use Rattle.spec_beside.specs.Sites.{CallsBeside}
use Rattle.spec_beside.proofs.Frames.{next_has, steps_keep_frames}
use Rattle.spec_beside.proofs.Handed.{call_misses}
use Rattle.spec_beside.proofs.SiteTags.{text_is_executable}
use Rattle.spec_beside.proofs.TextLists.{EachFrom, each_both, each_numbered, each_passed, of_sites, sites_have, text_has}

-- ---- each routine's instructions

-- what a site knows: its number, and that its operands fit
pub record Known (g : ℕ) (program : ProgramText) (s : Site) : Type 0 where
  pub number : ℕ
  pub is : slice_get (sites_of_program (g, program)) number ≡ Some s
  pub fit : OperandsFit s.ins.op s.ins.args

routine_from : (P : ℕ → Rungs → Type 0) (n r : ℕ) (rs : List RoutineText) → ((n : ℕ) → P n []) → EachFrom (λ n (routine : RoutineText). P n routine.checked) n rs → P (n + r) (slice_index_or (map (λ (routine : RoutineText). routine.checked) rs) r [])
routine_from P n r [] none h = none (n + r)
routine_from P n zero (x ∷ xs) none h = subst (λ (m : ℕ). P m x.checked) (let z : n ≡ n + 0 = omega arith in z) h.0
routine_from P n (suc r) (x ∷ xs) none h = subst (λ (m : ℕ). P m (slice_index_or (map (λ (routine : RoutineText). routine.checked) xs) r [])) (let z : n + 1 + r ≡ n + suc r = omega arith in z) (routine_from P (n + 1) r xs none h.1)

pub routine_at : (P : ℕ → Rungs → Type 0) (r : ℕ) (rs : List RoutineText) → ((n : ℕ) → P n []) → EachFrom (λ n (routine : RoutineText). P n routine.checked) 0 rs → P r (slice_index_or (map (λ (routine : RoutineText). routine.checked) rs) r [])
routine_at P r rs none h = subst (λ (m : ℕ). P m (slice_index_or (map (λ (routine : RoutineText). routine.checked) rs) r [])) (let z : 0 + r ≡ r = omega arith in z) (routine_from P 0 r rs none h)

pub known_sites : (p : Project) (g : ℕ) (program : ProgramText) → IsValidProject p → slice_get p.programs g ≡ Some program → Each (Known g program) (sites_of_program (g, program))
known_sites p g program valid is =
    each_both (λ s. (n : ℕ) × (slice_get (sites_of_program (g, program)) n ≡ Some s)) (λ (s : Site). IsExecutable (length p.image) s.ins) (Known g program) (sites_of_program (g, program)) (λ s n e. record { number = n.0; is = n.1; fit = e.fit })
    (each_numbered (sites_of_program (g, program))) (sites_have (IsExecutable (length p.image)) g program (text_is_executable p g program valid is))

pub routines_stand : RoutinesStand
routines_stand p g program valid is r =
    routine_at (λ r rungs. RungsHave (StandsIn g program r) rungs) r program.routines (λ r. tt)
    (of_sites (Known g program) (StandsIn g program) g (λ r u n i k. record { site = site g r u (n, i); number = k.number; is = k.is; routine = refl; ins = refl; fit = k.fit }) program (known_sites p g program valid is))

-- ---- a call's returns

named_call : (routine : Operand) (others : List Operand) → IsRoutine routine → is_call_of (target (routine ∷ others)) (record { op = Jsr; args = routine ∷ others }) ≡ true
named_call (operand.Routine n) others h = go (eq-eqb n n refl)
  where
    go : nat_eq n n ≡ true → (nat_eq n n || false) ≡ true
    go e = ap (λ b. b || false) e
named_call _ others h = absurd h

abbrev Named : List Operand → Type 0
Named args = is_call_of (target args) (record { op = Jsr; args = args }) ≡ true

-- a JSR is a call of the routine that it names
pub is_own_call : (i : Ins) → OperandsFit i.op i.args → i.op ≡ Jsr → is_call_of (target i.args) i ≡ true
is_own_call i fit is = subst (λ (op : Op). is_call_of (target i.args) (record { op = op; args = i.args }) ≡ true) (sym is) (go (call_operands i.args (subst (λ (op : Op). OperandsFit op i.args) is fit)))
  where
    go : ((routine : Operand) × IsRoutine routine × (i.args ≡ routine ∷ [])) ⊎ IsCounted i.args → Named i.args
    go (inl alone) = subst Named (sym alone.2) (named_call alone.0 [] alone.1)
    go (inr c) = subst Named (sym c.are) (named_call c.routine _ c.names)

under : {A : Type 0} (C : ℕ → Type 0) (P : ℕ → A → Type 0) (xs : List A) → ((b : ℕ) → C b → Each (P b) xs) → Each (λ x. (b : ℕ) → C b → P b x) xs
under C P [] h = tt
under C P (x ∷ xs) h = ((λ b c. (h b c).0), under C P xs (λ b c. (h b c).1))

-- a call of the program that stands at a site writes beside each byte beside which all calls of its routine do
call_beside : (g : ℕ) (program : ProgramText) (r b : ℕ) (i : Ins) → StandsIn g program r i → i.op ≡ Jsr → CallsBeside b program (target i.args) → WritesBeside b i
call_beside g program r b i stands is h =
    let test = is_call_of (target i.args) in
    let all = sites_have (λ j. test j ≡ true → WritesBeside b j) g program (text_has (λ j. test j ≡ true → WritesBeside b j) program (each_passed (WritesBeside b) test (program_instructions program) h)) in
    let here = each_get (λ (s : Site). test s.ins ≡ true → WritesBeside b s.ins) (sites_of_program (g, program)) stands.number stands.site all stands.is in
    subst (λ (j : Ins). test j ≡ true → WritesBeside b j) stands.ins here (is_own_call i stands.fit is)

-- what a JSR wants returned
pub returns_miss : (i : Ins) (image : List ℕ) (bound : List Arg) (b : ℕ) → OperandsFit i.op i.args → i.op ≡ Jsr → WritesBeside b i → bind image i.args ≡ Some bound → Each (PlaceMisses b) (returns_of bound)
returns_miss i image bound b fit is h found =
    call_misses image i.args bound b (subst (λ (op : Op). OperandsFit op i.args) is fit) (subst (λ (op : Op). WritesBeside b (record { op = op; args = i.args })) is h) found

pub calls_stand : CallsStand
calls_stand p g program valid at r i image bound stands is found =
    under (λ b. CallsBeside b program (target i.args)) PlaceMisses (returns_of bound) (λ b c. returns_miss i image bound b stands.fit is (call_beside g program r b i stands is c) found)

-- ---- frames

pub frames_begin : FramesBegin
frames_begin p g program valid at =
    let rungs = selected (book_of program) in
    (record { cursor = next_has (StandsIn g program rungs.main) (starts NoZone) (routine_rungs rungs rungs.main) true (routines_stand p g program valid at rungs.main); returns = tt }, tt)

pub frames_stay : FramesStay
frames_stay p g program position image now first flags valid at stand =
    steps_keep_frames (StandsIn g program) (IsReturnTo program) (selected (book_of program)) position image now first flags (routines_stand p g program valid at) (calls_stand p g program valid at) stand
