-- The lists of a whole project are its writers and its readers.
use Rattle.std.proofs.Common.{◌≡◌, ℕ, ◌+◌, ◌<◌, ◌≤◌, Bool, List, [], ◌∷◌, ◌++◌, length, map, get_or, take, replicate, refl, sym, ap, ◌∙◌, subst, arith}
use Rattle.std.specs.Prelude.{filter, flat_map, slice_index_or}
use Rattle.std.specs.List.{enumerate_from, range_with_len}
use Rattle.std.proofs.lemmas.List.{get_or-replicate, length-replicate, map-append, take_all}
use Rattle.std.proofs.lemmas.List.FromFn.{fill_by_all, get_or-map-range_with_len, length-map-range_with_len}
use Rattle.lgx_edit.specs.Texts.{program_of}
use Rattle.lgx_edit.specs.declared.texts.ProgramText.{ProgramText as Program}
use Rattle.spec_language.specs.TagSpans.{spans_of}
use Rattle.spec_language.specs.declared.span.TagSpan.{TagSpan}
use Rattle.spec_machine.specs.Project.{Project, ProgramText}
use Rattle.spec_uses.specs.Uses.{Site, readers, reads_tag, sites_by, sites_of_program, span_at, writers, writes_tag}
use Rattle.spec_uses.specs.declared.uses.Use.{Use}
use Rattle.lgx_xref.specs.Apart.{span_in}
use Rattle.lgx_xref.specs.Gains.{Gains, program_uses}
use Rattle.lgx_xref.specs.Indexed.{Index}
use Rattle.lgx_xref.specs.Indexes.{index_of, tag_numbers}
use Rattle.lgx_xref.proofs.Listed.{mapped_more}
use Rattle.lgx_xref.proofs.Noted.{gains_more, gains_same}

-- ---- programs, one after another

pub program_noted : (test : ℕ → ProgramText → Site → Bool) (programs : List Program) (i : ℕ) (program : Program) (number : ℕ) (old lists new : List (List Use))
    → i < length programs → program ≡ get_or programs i program → number ≡ i
    → Gains old lists (λ k. flat_map (program_uses (test k)) (enumerate_from 0 (map program_of (take i programs))))
    → Gains lists new (λ k. program_uses (test k) (number, program_of program))
    → Gains old new (λ k. flat_map (program_uses (test k)) (enumerate_from 0 (map program_of (take (i + 1) programs))))
program_noted test programs i program number old lists new within is same before noted =
    let some : ℕ → List Use = λ k. flat_map (program_uses (test k)) (enumerate_from 0 (map program_of (take i programs))) in
    let one : ℕ → List Use = λ k. program_uses (test k) (number, program_of program) in
    gains_same old new (λ k. some k ++ one k) (λ k. flat_map (program_uses (test k)) (enumerate_from 0 (map program_of (take (i + 1) programs))))
    (λ k there.
    ap (λ n. some k ++ program_uses (test k) (n, program_of program)) same
    ∙ mapped_more (program_uses (test k)) program_of programs i program within is)
    (gains_more old lists new some one before noted)

pub programs_noted : (test : ℕ → ProgramText → Site → Bool) (programs : List Program) (i : ℕ) (old new : List (List Use)) → length programs ≤ i
    → Gains old new (λ k. flat_map (program_uses (test k)) (enumerate_from 0 (map program_of (take i programs))))
    → Gains old new (λ k. flat_map (program_uses (test k)) (enumerate_from 0 (map program_of programs)))
programs_noted test programs i old new past gains =
    subst (λ ps. Gains old new (λ k. flat_map (program_uses (test k)) (enumerate_from 0 (map program_of ps)))) (take_all i programs past) gains

-- ---- all lists

map-flat_map : {A B C : Type 0} (f : B → C) (g : A → List B) (xs : List A) → map f (flat_map g xs) ≡ flat_map (λ x. map f (g x)) xs
map-flat_map f g [] = refl
map-flat_map f g (x ∷ xs) = map-append f (g x) (flat_map g xs) ∙ ap (λ ys. map f (g x) ++ ys) (map-flat_map f g xs)

-- lists that gained all their uses from none
all_gained : (test : ℕ → ProgramText → Site → Bool) (p : Project) (n : ℕ) (lists : List (List Use))
    → Gains (replicate n []) lists (λ k. flat_map (program_uses (test k)) (enumerate_from 0 p.programs))
    → lists ≡ map (λ k. map (λ s. s.at) (sites_by (test k) p)) (range_with_len 0 n)
all_gained test p n lists gains =
    fill_by_all (λ k. map (λ s. s.at) (sites_by (test k) p)) lists n [] (gains.size ∙ length-replicate n [])
    (λ k within.
    gains.each k (subst (λ l. k < l) (sym (length-replicate n [])) within)
    ∙ ap (λ us. us ++ flat_map (program_uses (test k)) (enumerate_from 0 p.programs)) (get_or-replicate n k [] [] within)
    ∙ sym (map-flat_map (λ s. s.at) (λ g. filter (test k g.1) (sites_of_program g)) (enumerate_from 0 p.programs)))

-- ---- what a list is

pub lists_long : (p : Project) → length (index_of p).writers ≡ length (spans_of p.tags)
lists_long p = length-map-range_with_len (writers p) 0 (length (spans_of p.tags))

pub readers_long : (p : Project) → length (index_of p).readers ≡ length (spans_of p.tags)
readers_long p = length-map-range_with_len (readers p) 0 (length (spans_of p.tags))

pub writers_at : (p : Project) (k : ℕ) → k < length (spans_of p.tags) → slice_index_or (index_of p).writers k [] ≡ writers p k
writers_at p k within =
    let at : 0 + k ≡ k = omega arith in
    get_or-map-range_with_len (writers p) 0 (length (spans_of p.tags)) k k [] within at

pub readers_at : (p : Project) (k : ℕ) → k < length (spans_of p.tags) → slice_index_or (index_of p).readers k [] ≡ readers p k
readers_at p k within =
    let at : 0 + k ≡ k = omega arith in
    get_or-map-range_with_len (readers p) 0 (length (spans_of p.tags)) k k [] within at

-- ---- the walk over a project

-- the lists of writers, and those of readers, after the walk
pub writers_indexed : (p : Project) (programs : List Program) (spans : List TagSpan) (start lists : List (List Use))
    → p.programs ≡ map program_of programs → spans ≡ spans_of p.tags → start ≡ replicate (length (spans_of p.tags)) []
    → Gains start lists (λ k. flat_map (program_uses (writes_tag (span_in spans k))) (enumerate_from 0 (map program_of programs)))
    → lists ≡ map (writers p) (tag_numbers p)
writers_indexed p programs spans start lists same where_they_lie none gains =
    let count = length (spans_of p.tags) in
    let all : ℕ → List ProgramText → List Use = λ k ps. flat_map (program_uses (writes_tag (span_in (spans_of p.tags) k))) (enumerate_from 0 ps) in
    all_gained (λ k. writes_tag (span_at p.tags k)) p count lists
    (subst (λ ps. Gains (replicate count []) lists (λ k. all k ps)) (sym same)
    (subst (λ old. Gains old lists (λ k. all k (map program_of programs))) none
    (subst (λ ss. Gains start lists (λ k. flat_map (program_uses (writes_tag (span_in ss k))) (enumerate_from 0 (map program_of programs)))) where_they_lie gains)))

pub readers_indexed : (p : Project) (programs : List Program) (spans : List TagSpan) (start lists : List (List Use))
    → p.programs ≡ map program_of programs → spans ≡ spans_of p.tags → start ≡ replicate (length (spans_of p.tags)) []
    → Gains start lists (λ k. flat_map (program_uses (reads_tag (span_in spans k))) (enumerate_from 0 (map program_of programs)))
    → lists ≡ map (readers p) (tag_numbers p)
readers_indexed p programs spans start lists same where_they_lie none gains =
    let count = length (spans_of p.tags) in
    let all : ℕ → List ProgramText → List Use = λ k ps. flat_map (program_uses (reads_tag (span_in (spans_of p.tags) k))) (enumerate_from 0 ps) in
    all_gained (λ k. reads_tag (span_at p.tags k)) p count lists
    (subst (λ ps. Gains (replicate count []) lists (λ k. all k ps)) (sym same)
    (subst (λ old. Gains old lists (λ k. all k (map program_of programs))) none
    (subst (λ ss. Gains start lists (λ k. flat_map (program_uses (reads_tag (span_in ss k))) (enumerate_from 0 (map program_of programs)))) where_they_lie gains)))

abbrev pub made : List (List Use) → List (List Use) → Index
made writers readers = record { writers = writers; readers = readers }

pub index_is : (writers readers : List (List Use)) (p q : Project) → writers ≡ (index_of p).writers → readers ≡ (index_of p).readers → p ≡ q
    → made writers readers ≡ index_of q
index_is writers readers p q first second same =
    ap (λ w. made w readers) first ∙ ap (made (index_of p).writers) second ∙ ap index_of same
