-- One step of a scan that stands: it stands afterwards, and a byte of a tag stays unless the step's instruction is a writer.
use Rattle.std.proofs.Common.{◌≡◌, ℕ, ◌⊎◌, inl, inr, Bool, true, false, List, [], ◌∷◌, Option, Some, None, refl, sym, ◌∙◌, ap, subst, arith}
use Rattle.std.specs.Prelude.{⊤, filter, nat_lt, slice_get, slice_index}
use Rattle.std.specs.List.{AllByRecursion as Each, enumerate_from}
use Rattle.std.proofs.lemmas.Bool.{cases_Bool, ltb-true}
use Rattle.spec_base.proofs.Lists.{each_flat, each_get, each_map}
use Rattle.lgx_num.specs.declared.place.Flags.{Flags}
use Rattle.lgx_rung.specs.Tree.{Tree, end, one, fork, instructions}
use Rattle.lgx_rung.specs.declared.ins.Ins.{Ins}
use Rattle.spec_scan.specs.declared.bound.Copying.{Copying}
use Rattle.spec_scan.specs.declared.bound.Effect.{Effect}
use Rattle.spec_scan.specs.declared.bound.Effect.TheVariants.{Copied, Left}
use Rattle.spec_scan.specs.Copies.{after_element}
use Rattle.spec_scan.specs.Instructions.{Control, StartCopy, row}
use Rattle.spec_scan.specs.Next.{FirstHas, NextHas}
use Rattle.spec_scan.specs.Position.{ProgramRungs, Frame, Position}
use Rattle.spec_scan.specs.Scan.{Advanced, after_row, in_frame, in_frames, in_progress, advance}
use Rattle.spec_machine.specs.Edits.{book_of, selected}
use Rattle.spec_machine.specs.Project.{Project, ProgramText}
use Rattle.spec_machine.specs.ValidProject.{IsValidProject}
use Rattle.spec_reach.specs.Positions.{TreeHas}
use Rattle.spec_uses.specs.Uses.{Site, site, sites_of_rung, sites_of_routine, sites_of_program, span_at, writes_tag, writer_sites}
use Rattle.spec_uses.specs.Changes.{first_of, IsWriter, IsByteOf}
use Rattle.spec_beside.specs.Copies.{CopyBeside}
use Rattle.spec_beside.specs.Frames.{FrameStands}
use Rattle.spec_beside.specs.Routines.{StandsIn, IsReturnTo, ScanStands}
use Rattle.spec_beside.specs.Sites.{CallsBeside, SiteBeside}
use Rattle.spec_beside.specs.Steps.{ExecutesBeside, GoesBeside, IfCopies}
use Rattle.spec_beside.specs.Misses.{WritesBeside, PlaceMisses}
use Rattle.spec_beside.proofs.Copies.{copies_start, copies_go_on}
use Rattle.spec_beside.proofs.Routines.{frames_stay}
use Rattle.spec_beside.proofs.SiteTags.{sites_write_beside}
use Rattle.spec_beside.proofs.Steps.{steps_write_beside}
use Rattle.spec_beside.proofs.Found.{Found, found_passing, found_flat, numbered, each_mapped}
use Rattle.spec_beside.proofs.Stands.{CopyStands, PositionStands}

-- ---- the instruction of a step, by its effect

-- the one that is executed, or that started the copy of which an element is copied
abbrev pub doer : Effect → (next last : Option Ins) → Option Ins
doer (Copied done sync) next last = last
doer (Left done) next last = None
doer _ next last = next

-- the one that the task has executed last then
abbrev pub last_by : Effect → (next last : Option Ins) → Option Ins
last_by (Copied done sync) next last = last
last_by (Left done) next last = last
last_by _ next last = next

-- an instruction of this program, as `acting` tells it
abbrev pub of_program : ℕ → Option Ins → Option (ℕ × Ins)
of_program n None = None
of_program n (Some i) = Some (n, i)

-- ---- writers

module _ (p : Project) (n : ℕ) (text : ProgramText) (is : slice_get p.programs n ≡ Some text) where
  -- the sites of a program have its number
  of_number : Each (λ s. s.at.program ≡ n) (sites_of_program (n, text))
  of_number =
      each_flat (λ (s : Site). s.at.program ≡ n) (sites_of_routine n) (enumerate_from 0 text.routines)
      (λ r. each_flat (λ (s : Site). s.at.program ≡ n) (sites_of_rung n r.0) (enumerate_from 0 r.1.checked)
      (λ u. each_mapped (λ (s : Site). s.at.program ≡ n) (site n r.0 u.0) (enumerate_from 0 (instructions u.1)) (λ x. refl)))

  -- an instruction whose site writes the tag is a writer
  is_writer : (k : ℕ) (s : Site) (number : ℕ) (i : Ins) → slice_get (sites_of_program (n, text)) number ≡ Some s → s.ins ≡ i → writes_tag (span_at p.tags k) text s ≡ true → IsWriter p k (Some (n, i))
  is_writer k s number i there same writes =
      let here = found_passing (writes_tag (span_at p.tags k) text) s (sites_of_program (n, text)) number there writes in
      let at = numbered 0 n p.programs n text (omega arith) is in
      let w : Found s (writer_sites p k) = found_flat (λ (g : ℕ × ProgramText). filter (writes_tag (span_at p.tags k) g.1) (sites_of_program g)) (enumerate_from 0 p.programs) n (n, text) s at here in
      (s, w.0, w.1, each_get (λ (x : Site). x.at.program ≡ n) (sites_of_program (n, text)) number s of_number there, same)

  -- ---- a step

  module _ (valid : IsValidProject p) (last : Option Ins) (program : ProgramRungs) (position : Position) (image : List ℕ) (now : ℕ) (first : Bool) (flags : Flags) where
    -- the instruction that acts
    abbrev acts_at : Option Copying → List Frame → Option Ins
    acts_at (Some c) fs = last
    acts_at None fs = first_of fs

    abbrev Does : Option Copying → List Frame → Advanced → Type 0
    Does o fs a = doer a.effect (first_of fs) last ≡ acts_at o fs

    does_row : (on : Bool) (im : List ℕ) (fl : Flags) (d : Control) (f : Frame) (outer : List Frame) (i : Ins) → doer (after_row program position image now first flags (record { on = on; image = im; flags = fl; control = d }) f outer).effect (Some i) last ≡ Some i
    does_row on im fl (StartCopy c) f outer i = refl
    does_row on im fl _ f outer i = refl

    does_frame : (f : Frame) (outer : List Frame) (rest : Tree Ins) → doer (in_frame program position image now first flags f outer rest).effect (elim rest [ one i more ↦ Some i | _ ↦ None ]) last ≡ elim rest [ one i more ↦ Some i | _ ↦ None ]
    does_frame f outer (one i rest) =
        let r = row i.op i.args f.cursor.on now first position.frames flags image in
        does_row r.on r.image r.flags r.control (record f { cursor = record f.cursor { rest = rest; on = r.on } }) outer i
    does_frame f outer end = refl
    does_frame f outer (fork t legs rest) = refl

    does_frames : (fs : List Frame) → Does None fs (in_frames program position image now first flags fs)
    does_frames [] = refl
    does_frames (f ∷ outer) = does_frame f outer f.cursor.rest

    does : (o : Option Copying) → Does o position.frames (in_progress program position image now first flags o)
    does (Some c) = refl
    does None = does_frames position.frames

    -- the copy in progress after it
    abbrev CopyAfter : Option Ins → Advanced → Type 0
    CopyAfter next a = IfCopies (CopyStands n text (last_by a.effect next last)) a.position.copy

    -- what a row asks for is no copy, or one that misses what the site's instruction misses
    abbrev Starts : Site → Control → Type 0
    Starts s (StartCopy c) = (b : ℕ) → SiteBeside b text s → CopyBeside b c
    Starts s _ = ⊤

    starts_by : (s : Site) (d : Control) → ((c : Copying) → d ≡ StartCopy c → (b : ℕ) → SiteBeside b text s → CopyBeside b c) → Starts s d
    starts_by s (StartCopy c) h = h c refl
    starts_by s _ h = tt

    copy_row : (r : ℕ) (i : Ins) (x : StandsIn n text r i) (on : Bool) (im : List ℕ) (fl : Flags) (d : Control) (f : Frame) (outer : List Frame) → Starts x.site d → CopyAfter (Some i) (after_row program position image now first flags (record { on = on; image = im; flags = fl; control = d }) f outer)
    copy_row r i x on im fl (StartCopy c) f outer h = record { site = x.site; number = x.number; is = x.is; executed = ap (λ (j : Ins). Some j) (sym x.ins); beside = h }
    copy_row r i x on im fl _ f outer h = tt

    copy_frame : (f : Frame) (outer : List Frame) (rest : Tree Ins) → FrameStands (StandsIn n text) (IsReturnTo text) (record f { cursor = record f.cursor { rest = rest } }) → CopyAfter (elim rest [ one i more ↦ Some i | _ ↦ None ]) (in_frame program position image now first flags f outer rest)
    copy_frame f outer (one i rest) h =
        let r = row i.op i.args f.cursor.on now first position.frames flags image in
        let x = h.cursor.rest.0 in
        copy_row f.routine i x r.on r.image r.flags r.control (record f { cursor = record f.cursor { rest = rest; on = r.on } }) outer
        (starts_by x.site r.control (λ c asks b beside. copies_start i f.cursor.on now first position.frames flags image b c x.fit (subst (WritesBeside b) x.ins beside.written) asks))
    copy_frame f outer end h = tt
    copy_frame f outer (fork t legs rest) h = tt

    copy_frames : (fs : List Frame) → Each (FrameStands (StandsIn n text) (IsReturnTo text)) fs → CopyAfter (first_of fs) (in_frames program position image now first flags fs)
    copy_frames [] h = tt
    copy_frames (f ∷ outer) h = copy_frame f outer f.cursor.rest h.0

    -- what is left of a copy after an element, if it goes on
    abbrev rest_of : Copying → Bool → Option Copying
    rest_of c true = Some (after_element c)
    rest_of c false = None

    copy_rest : (c : Copying) (b : Bool) → nat_lt 1 c.left ≡ b → CopyStands n text last c → IfCopies (CopyStands n text last) (rest_of c b)
    copy_rest c true more h = record { site = h.site; number = h.number; is = h.is; executed = h.executed; beside = λ b beside. copies_go_on c b (h.beside b beside) (ltb-true 1 c.left more) }
    copy_rest c false more h = tt

    copy_after : (o : Option Copying) → IfCopies (CopyStands n text last) o → Each (FrameStands (StandsIn n text) (IsReturnTo text)) position.frames → CopyAfter (first_of position.frames) (in_progress program position image now first flags o)
    copy_after (Some c) h k = copy_rest c (nat_lt 1 c.left) refl h
    copy_after None h k = copy_frames position.frames k

    -- ---- a byte of a tag

    module _ (k b : ℕ) (byte : IsByteOf p k b) where
      abbrev Writes : Option Ins → Type 0
      Writes o = IsWriter p k (of_program n o)

      -- a site is a writer's, or its instruction misses the byte
      by_site : (s : Site) (number : ℕ) (i : Ins) → slice_get (sites_of_program (n, text)) number ≡ Some s → s.ins ≡ i → Writes (Some i) ⊎ SiteBeside b text s
      by_site s number i there same =
          elim (cases_Bool (writes_tag (span_at p.tags k) text s)) [
            | inl t ↦ inl (is_writer k s number i there same t)
            | inr f ↦ inr (sites_write_beside p n text number s k b valid byte is there f)
          ]

      -- the next instruction is a writer, or it misses the byte
      goes_frame : (f : Frame) (outer : List Frame) (rest : Tree Ins) → TreeHas (StandsIn n text f.routine) rest → Each (IsReturnTo text f.routine) f.returns → Writes (elim rest [ one i more ↦ Some i | _ ↦ None ]) ⊎ FirstHas (ExecutesBeside b (f ∷ outer)) rest
      goes_frame f outer (one i more) h r =
          let x = h.0 in
          elim (by_site x.site x.number i x.is x.ins) [
            | inl w ↦ inl w
            | inr beside ↦ inr (record {
              fit = x.fit;
              written = subst (WritesBeside b) x.ins beside.written;
              returns = λ ret. each_map (IsReturnTo text f.routine) (PlaceMisses b) f.returns (λ place to. to b (subst (CallsBeside b text) x.routine (beside.returns (ap (λ (j : Ins). j.op) x.ins ∙ ret)))) r;
            })
          ]
      goes_frame f outer end h r = inr tt
      goes_frame f outer (fork t legs rest) h r = inr tt

      goes_frames : (fs : List Frame) → Each (FrameStands (StandsIn n text) (IsReturnTo text)) fs → Writes (first_of fs) ⊎ NextHas (ExecutesBeside b fs) fs
      goes_frames [] h = inr tt
      goes_frames (f ∷ outer) h = goes_frame f outer f.cursor.rest h.0.cursor.rest h.0.returns

      -- so is the one of the copy in progress
      goes : (o : Option Copying) → IfCopies (CopyStands n text last) o → Each (FrameStands (StandsIn n text) (IsReturnTo text)) position.frames → Writes (acts_at o position.frames) ⊎ GoesBeside b position.frames o
      goes (Some c) h stand =
          elim (by_site h.site h.number h.site.ins h.is refl) [
            | inl w ↦ inl (subst Writes (sym h.executed) w)
            | inr beside ↦ inr (h.beside b beside)
          ]
      goes None h stand = goes_frames position.frames stand

      -- it stays, or the instruction that acts is a writer
      pub step_writes : PositionStands n text last position → (slice_index (advance program position image now first flags).image b ≡ slice_index image b) ⊎ Writes (doer (advance program position image now first flags).effect (first_of position.frames) last)
      step_writes h =
          elim (goes position.copy h.copy h.frames) [
            | inl w ↦ inr (subst Writes (sym (does position.copy)) w)
            | inr g ↦ inl (steps_write_beside program position image now first flags b g)
          ]

    -- ---- it stands

    pub step_stands : program ≡ selected (book_of text) → PositionStands n text last position → PositionStands n text (last_by (advance program position image now first flags).effect (first_of position.frames) last) (advance program position image now first flags).position
    step_stands own h = record {
      frames = subst (λ (r : ProgramRungs). ScanStands n text (advance r position image now first flags).position) (sym own) (frames_stay p n text position image now first flags valid is h.frames);
      copy = copy_after position.copy h.copy h.frames;
    }
