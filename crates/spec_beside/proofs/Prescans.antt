-- The prescan of the change to Run changes no byte of a tag that has no writer.
use Rattle.std.specs.Prelude.{filter, flat_map, slice_get}
use Rattle.std.specs.List.{AllByRecursion as Each, enumerate_from}
use Rattle.std.proofs.Common.{◌≡◌, ℕ, suc, Bool, true, false, cond, List, [], ◌∷◌, ◌++◌, map, get_or, Some, refl, ap, ◌∙◌}
use Rattle.spec_base.proofs.Lists.{each_flat}
use Rattle.lgx_rung.specs.Tree.{instructions}
use Rattle.spec_scan.specs.Position.{ProgramRungs, routine_rungs}
use Rattle.spec_scan.specs.Prescan.{prescan, reached, reached_instructions}
use Rattle.spec_machine.specs.Actions.{prescan_all}
use Rattle.spec_machine.specs.Edits.{Book, book_of, selected}
use Rattle.spec_machine.specs.Project.{Project, ProgramText}
use Rattle.spec_machine.specs.ValidProject.{IsValidProject}
use Rattle.spec_reach.specs.Positions.{RungsHave, TreeHas}
use Rattle.spec_uses.specs.Changes.{IsByteOf}
use Rattle.spec_uses.specs.Uses.{Site, sites_of_program, span_at, writer_sites, writers, writes_tag}
use Rattle.spec_beside.specs.Prescans.{PrescanWritesBeside}
use Rattle.spec_beside.proofs.Prescanned.{IsBesideOf, all_same}
use Rattle.spec_beside.proofs.Routines.{Known, known_sites, routine_at}
use Rattle.spec_beside.proofs.SiteTags.{sites_write_beside}
use Rattle.spec_beside.proofs.TextLists.{each_both, each_flat_of, numbered_at, of_sites}

-- ---- a program whose instructions all write beside byte b

program_same : (program : ProgramRungs) (image : List ℕ) (b : ℕ) → ((r : ℕ) → RungsHave (IsBesideOf b) (routine_rungs program r)) → get_or (prescan program image) b 0 ≡ get_or image b 0
program_same program image b h =
    all_same (reached_instructions program) image b
    (each_flat (IsBesideOf b) (λ n. flat_map instructions (routine_rungs program n)) (reached program) (λ n. each_flat_of (TreeHas (IsBesideOf b)) (IsBesideOf b) instructions (routine_rungs program n) (λ t k. k) (h n)))

-- ---- a tag without writers

none_mapped : {A B : Type 0} (f : A → B) (xs : List A) → map f xs ≡ [] → xs ≡ []
none_mapped f [] h = refl
none_mapped f (x ∷ xs) h = absurd (cc h)

none_passes : {A : Type 0} (test : A → Bool) (xs : List A) → filter test xs ≡ [] → Each (λ x. test x ≡ false) xs
none_passes test [] h = tt
none_passes {A} test (x ∷ xs) h = go (test x) refl h (none_passes test xs)
  where
    go : (b : Bool) → test x ≡ b → cond b (x ∷ filter test xs) (filter test xs) ≡ [] → (filter test xs ≡ [] → Each (λ x. test x ≡ false) xs) → Each (λ x. test x ≡ false) (x ∷ xs)
    go true e k others = absurd (cc k)
    go false e k others = (e, others k)

none_before : {A : Type 0} (xs ys : List A) → (xs ++ ys) ≡ [] → (xs ≡ []) × (ys ≡ [])
none_before [] ys h = (refl, h)
none_before (x ∷ xs) ys h = absurd (cc h)

none_flat : {A B : Type 0} (f : A → List B) (xs : List A) → flat_map f xs ≡ [] → Each (λ x. f x ≡ []) xs
none_flat f [] h = tt
none_flat f (x ∷ xs) h = let k = none_before (f x) (flat_map f xs) h in (k.0, none_flat f xs k.1)

-- no site of any program writes it
none_writes : (p : Project) (g : ℕ) (program : ProgramText) (k : ℕ) → writers p k ≡ [] → slice_get p.programs g ≡ Some program → Each (λ s. writes_tag (span_at p.tags k) program s ≡ false) (sites_of_program (g, program))
none_writes p g program k none is =
    let test : ProgramText → Site → Bool = writes_tag (span_at p.tags k) in
    none_passes (test program) (sites_of_program (g, program))
    (numbered_at (λ x. filter (test x.1) (sites_of_program x) ≡ []) p.programs g program
    (none_flat (λ x. filter (test x.1) (sites_of_program x)) (enumerate_from 0 p.programs) (none_mapped (λ (s : Site). s.at) (writer_sites p k) none)) is)

text_same : (p : Project) (g : ℕ) (program : ProgramText) (k b : ℕ) (image : List ℕ) → IsValidProject p → IsByteOf p k b → writers p k ≡ [] → slice_get p.programs g ≡ Some program → get_or (prescan (selected (book_of program)) image) b 0 ≡ get_or image b 0
text_same p g program k b image valid byte none is =
    program_same (selected (book_of program)) image b (λ r. routine_at (λ r rungs. RungsHave (IsBesideOf b) rungs) r program.routines (λ r. tt) (of_sites (λ s. IsBesideOf b s.ins) (λ r i. IsBesideOf b i) g (λ r u n i h. h) program beside))
  where
    beside : Each (λ (s : Site). IsBesideOf b s.ins) (sites_of_program (g, program))
    beside =
        each_both (Known g program) (λ s. writes_tag (span_at p.tags k) program s ≡ false) (λ (s : Site). IsBesideOf b s.ins) (sites_of_program (g, program))
        (λ s known no. record { fit = known.fit; written = (sites_write_beside p g program known.number s k b valid byte is known.is no).written })
        (known_sites p g program valid is) (none_writes p g program k none is)

-- ---- all programs

-- the books' selected rungs are these programs', and none of these changes the byte
all_programs_same : (b : ℕ) (programs : List ProgramText) (books : List Book) (image : List ℕ) → map selected books ≡ map (λ q. selected (book_of q)) programs → ((g : ℕ) (program : ProgramText) → slice_get programs g ≡ Some program → (image : List ℕ) → get_or (prescan (selected (book_of program)) image) b 0 ≡ get_or image b 0) → get_or (prescan_all books image) b 0 ≡ get_or image b 0
all_programs_same b [] [] image same h = refl
all_programs_same b [] (x ∷ xs) image same h = absurd (cc same)
all_programs_same b (q ∷ qs) [] image same h = absurd (cc same)
all_programs_same b (q ∷ qs) (x ∷ xs) image same h =
    let first : selected x ≡ selected (book_of q) = cc same in
    let others : map selected xs ≡ map (λ q. selected (book_of q)) qs = cc same in
    all_programs_same b qs xs (prescan (selected x) image) others (λ g program is. h (suc g) program is)
    ∙ (ap (λ rungs. get_or (prescan rungs image) b 0) first ∙ h 0 q refl image)

pub prescan_writes_beside : PrescanWritesBeside
prescan_writes_beside p books image k b valid byte none same = all_programs_same b p.programs books image same (λ g program is image. text_same p g program k b image valid byte none is)
