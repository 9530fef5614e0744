-- An instruction that isn't among a tag's readers: its operands that are read, and all its subscripts, lie beside the tag.
use Rattle.std.specs.Prelude.{filter, slice_get}
use Rattle.std.specs.List.{AllByRecursion as Each, enumerate_from, list_any}
use Rattle.std.proofs.Common.{◌≡◌, ℕ, ◌+◌, Bool, true, false, ◌||◌, not, List, [], ◌∷◌, length, map, Some, refl, arith}
use Rattle.spec_base.proofs.Lists.{each_get}
use Rattle.lgx_num.specs.declared.place.Index.{Index}
use Rattle.lgx_num.specs.declared.place.Operand.{Operand}
use Rattle.lgx_num.specs.declared.place.Operand.TheVariants as operand
use Rattle.spec_scan.specs.Executable.{IsExecutable}
use Rattle.spec_machine.specs.Project.{Project, ProgramText}
use Rattle.spec_uses.specs.Changes.{IsByteOf}
use Rattle.spec_uses.specs.Uses.{Site, holds_bit, reader_sites, readers, reads_tag, sites_of_program, span_at}
use Rattle.spec_uses.specs.Written.{first_bits, is_written, kinds_of, read, reads_written, subscript_bits}
use Rattle.spec_beside.specs.InTags.{InsInTags, OperandInTag, PlaceInTag}
use Rattle.spec_beside.specs.Misses.{Misses, PlaceMisses}
use Rattle.spec_beside.proofs.Found.{Found, found_flat, found_mapped, found_passing, numbered}
use Rattle.spec_beside.proofs.SiteTags.{each_those, text_in_tags, text_is_executable}
use Rattle.spec_beside.proofs.TagsApart.{operands_miss, steps_miss}
use Rattle.spec_beside.proofs.TextLists.{none_of_both, sites_have}
use Rattle.spec_readers.specs.Others.{IsNoneOf, OthersReadNothing}
use Rattle.spec_readers.specs.Reads.{StepsSpare, SubscriptsSpare}
use Rattle.spec_readers.proofs.ReadRows.{row_reads_readers}

-- what holds of each element for every such byte
each_byte : {A : Type 0} (T : ℕ → Type 0) (P : ℕ → A → Type 0) (xs : List A) → ((b : ℕ) → T b → Each (P b) xs) → Each (λ x. (b : ℕ) → T b → P b x) xs
each_byte T P [] h = tt
each_byte T P (x ∷ xs) h = ((λ b t. (h b t).0), each_byte T P xs (λ b t. (h b t).1))

module _ (p : Project) (k : ℕ) where
  abbrev Unheld : List ℕ → Type 0
  Unheld bits = list_any (holds_bit (span_at p.tags k)) bits ≡ false

  -- a tag that has none of these bits isn't touched by these subscripts
  steps_spare : (steps : List Index) → Each (λ (i : Index). PlaceInTag p.tags i.of) steps → Unheld (map (λ (i : Index). i.of.at) steps) → StepsSpare (IsByteOf p k) steps
  steps_spare steps h none = each_byte (IsByteOf p k) (λ (b : ℕ) (i : Index). PlaceMisses b i.of) steps (λ b byte. steps_miss p k b byte steps h none)

  subscripts_spare : (os : List Operand) → Each (OperandInTag p.tags) os → Unheld (subscript_bits os) → Each (SubscriptsSpare (IsByteOf p k)) os
  subscripts_spare [] h none = tt
  subscripts_spare (operand.Cell path ∷ os) h none =
      let n = none_of_both (holds_bit (span_at p.tags k)) (map (λ (i : Index). i.of.at) path.steps) (subscript_bits os) none in
      (steps_spare path.steps h.0.subscripts n.0, subscripts_spare os h.1 n.1)
  subscripts_spare (operand.Timer path ∷ os) h none =
      let n = none_of_both (holds_bit (span_at p.tags k)) (map (λ (i : Index). i.of.at) path.steps) (subscript_bits os) none in
      (steps_spare path.steps h.0.subscripts n.0, subscripts_spare os h.1 n.1)
  subscripts_spare (operand.Counter path ∷ os) h none =
      let n = none_of_both (holds_bit (span_at p.tags k)) (map (λ (i : Index). i.of.at) path.steps) (subscript_bits os) none in
      (steps_spare path.steps h.0.subscripts n.0, subscripts_spare os h.1 n.1)
  subscripts_spare (operand.Block c ∷ os) h none =
      let n = none_of_both (holds_bit (span_at p.tags k)) (map (λ (i : Index). i.of.at) c.path.steps) (subscript_bits os) none in
      (steps_spare c.path.steps h.0.subscripts n.0, subscripts_spare os h.1 n.1)
  subscripts_spare (o ∷ os) h none = (tt, subscripts_spare os h.1 none)

  module _ (g : ℕ) (program : ProgramText) (n : ℕ) (s : Site) (there : slice_get (sites_of_program (g, program)) n ≡ Some s) where
    -- what reads the tag is among its readers
    unread : slice_get p.programs g ≡ Some program → IsNoneOf (readers p k) s.at → reads_tag (span_at p.tags k) program s ≡ false
    unread is none = go (reads_tag (span_at p.tags k) program s) refl
      where
        go : (b : Bool) → reads_tag (span_at p.tags k) program s ≡ b → b ≡ false
        go false e = refl
        go true e =
            let here = found_passing (reads_tag (span_at p.tags k) program) s (sites_of_program (g, program)) n there e in
            let at = numbered 0 g p.programs g program (let z : g ≡ 0 + g = omega arith in z) is in
            let found : Found s (reader_sites p k) = found_flat (λ (x : ℕ × ProgramText). filter (reads_tag (span_at p.tags k) x.1) (sites_of_program x)) (enumerate_from 0 p.programs) g (g, program) s at here in
            let listed = found_mapped (λ (x : Site). x.at) s (reader_sites p k) found in
            absurd (none listed.0 listed.1)

pub others_read_nothing : OthersReadNothing
others_read_nothing p g program n s k on now first frames flags x y valid is there none same =
    let bits = none_of_both (holds_bit (span_at p.tags k)) (first_bits (read s.ins)) (subscript_bits s.ins.args) (unread p k g program n s there is none) in
    let tags : InsInTags p.tags s.ins = each_get (λ (t : Site). InsInTags p.tags t.ins) (sites_of_program (g, program)) n s (sites_have (InsInTags p.tags) g program (text_in_tags p g program valid is)) there in
    let can : IsExecutable (length p.image) s.ins = each_get (λ (t : Site). IsExecutable (length p.image) t.ins) (sites_of_program (g, program)) n s (sites_have (IsExecutable (length p.image)) g program (text_is_executable p g program valid is)) there in
    let those = each_those (OperandInTag p.tags) (λ kind. reads_written s.ins.op || not (is_written kind)) (kinds_of s.ins) s.ins.args tags in
    row_reads_readers (IsByteOf p k) s.ins on now first frames flags x y can.fit
    (each_byte (IsByteOf p k) Misses (read s.ins) (λ b byte. operands_miss p k b byte (read s.ins) those bits.0))
    (subscripts_spare p k s.ins.args tags bits.1) same
