-- A scan in progress has executed what stands before it.
use Rattle.std.proofs.Common.{◌≡◌, ℕ, zero, suc, ◌+◌, Bool, true, false, List, [], ◌∷◌, ◌++◌, length, map, Option, Some, None, refl, sym, ◌∙◌, ap, subst}
use Rattle.std.specs.Prelude.{◌&&◌, nat_lt, nat_le, slice_set, slice_index_or, option_to_list, IfSome, ⊤}
use Rattle.std.proofs.lemmas.Bool.{cond_both}
use Rattle.std.proofs.lemmas.List.{append-nil, append_assoc}
use Rattle.lgx_num.specs.declared.place.Flags.{Flags}
use Rattle.lgx_num.specs.declared.place.Operand.{Operand}
use Rattle.lgx_rung.specs.Tree.{Tree, end, one, fork}
use Rattle.lgx_rung.specs.declared.ins.Ins.{Ins}
use Rattle.lgx_rung.specs.declared.op.Op.{Op}
use Rattle.lgx_rung.specs.declared.op.Op.TheVariants.{Jsr, Ret, Tnd, Jmp, Cop, Cps, Fll}
use Rattle.spec_tables.specs.declared.task.Release.{Release}
use Rattle.spec_tables.specs.declared.task.Release.TheVariants.{Released, Overlap, Inhibited}
use Rattle.spec_tables.specs.Tasks.{release_answer}
use Rattle.spec_scan.specs.declared.bound.Copying.{Copying}
use Rattle.spec_scan.specs.declared.bound.Effect.{Effect}
use Rattle.spec_scan.specs.declared.bound.Effect.TheVariants as effect
use Rattle.spec_scan.specs.Instructions.{Control, Nothing, Call, Return, Jump, ToggleZone, Up, Down, TriggerTask, StartCopy, MinorFault, MajorFault, row, acts_when_false}
use Rattle.spec_scan.specs.Position.{ProgramRungs, Frame, Position, starts, settled}
use Rattle.spec_scan.specs.Scan.{Advanced, zone_after, after_row, in_frame, in_frames, in_progress}
use Rattle.spec_machine.specs.declared.answer.What.TheVariants as what
use Rattle.spec_machine.specs.ProcessorStep.{triggered, scan_ended, after_effect}
use Rattle.spec_machine.specs.Releases.{after_answer}
use Rattle.spec_machine.specs.State.{State, Scan, Progress, no_progress, dropped, progress_of, programs_of}
use Rattle.spec_uses.specs.Changes.{first_of}
use Rattle.spec_laws.specs.Marks.{condition_in}
use Rattle.spec_laws.specs.Orders.{leads_aside, is_aside}
use Rattle.spec_laws.proofs.Cursors.{to_come, Stops, Comes, settled_comes}
use Rattle.spec_laws.proofs.Marks.{first_in}
use Rattle.spec_laws.proofs.RowAsks.{Own, row_asks_own}

-- ---- the scan of a task after a step

-- of the progress of task t, once that of t or of another is set, or all is dropped
module _ (P : Option Scan → Type 0) (none : P None) where
  pub set_own : (qs : List Progress) (t : ℕ) (q : Progress) → P q.scan → P (slice_index_or (slice_set qs t q) t no_progress).scan
  set_own [] t q h = none
  set_own (x ∷ xs) zero q h = h
  set_own (x ∷ xs) (suc t) q h = set_own xs t q h

  set_dropped : (qs : List Progress) (k t : ℕ) (q : Progress) → P (slice_index_or qs t no_progress).scan → P (slice_index_or (slice_set qs k (dropped q)) t no_progress).scan
  set_dropped [] k t q h = none
  set_dropped (x ∷ xs) zero zero q h = none
  set_dropped (x ∷ xs) zero (suc t) q h = h
  set_dropped (x ∷ xs) (suc k) zero q h = h
  set_dropped (x ∷ xs) (suc k) (suc t) q h = set_dropped xs k t q h

  all_dropped : (qs : List Progress) (t : ℕ) → P (slice_index_or (map dropped qs) t no_progress).scan
  all_dropped [] t = none
  all_dropped (x ∷ xs) zero = none
  all_dropped (x ∷ xs) (suc t) = all_dropped xs t

  -- a scan's end or a major fault drops it; else it is that of the progress that the effect is told of
  abbrev pub IfGoesOn : Effect → Option Scan → Type 0
  IfGoesOn (effect.Left true) o = ⊤
  IfGoesOn (effect.Major code) o = ⊤
  IfGoesOn _ o = P o

  by_release : (s : State) (t other : ℕ) (n : ℕ) (answer : Release) → P (progress_of s t).scan → P (progress_of (triggered (what.Ran t n) other (after_answer answer other s)).state t).scan
  by_release s t other n Released h = set_dropped s.progress other t (progress_of s other) h
  by_release s t other n Overlap h = h
  by_release s t other n Inhibited h = h

  by_end : (s : State) (t : ℕ) (q : Progress) → P (progress_of (scan_ended t q s) t).scan
  by_end s t q =
      cond_both (nat_lt (q.ended + 1) (length (programs_of s t))) _ _ (λ (x : State). P (progress_of x t).scan) (λ e. set_own s.progress t _ none) (λ e. set_own s.progress t _ none)

  pub after_scan : (s : State) (t : ℕ) (q : Progress) (n : ℕ) (e : Effect) → IfGoesOn e (progress_of s t).scan → P (progress_of (after_effect s t q n e).state t).scan
  after_scan s t q n effect.Ran h = h
  after_scan s t q n effect.Up h = h
  after_scan s t q n effect.Down h = h
  after_scan s t q n (effect.Trigger other) h = by_release s t other n (release_answer s.table other) h
  after_scan s t q n (effect.CopyStart sync) h = h
  after_scan s t q n (effect.Copied true sync) h = h
  after_scan s t q n (effect.Copied false sync) h = h
  after_scan s t q n (effect.Left true) h = by_end s t q
  after_scan s t q n (effect.Left false) h = h
  after_scan s t q n effect.Minor h = h
  after_scan s t q n (effect.Major code) h = all_dropped s.progress t

-- ---- a row that goes on behind its instruction

abbrev GoesStraight : Control → Type 0
GoesStraight (Call n inputs returns) = ⊥
GoesStraight Return = ⊥
GoesStraight (Jump label) = ⊥
GoesStraight _ = ⊤

module _ (args : List Operand) (now : ℕ) (first : Bool) (frames : List Frame) (flags : Flags) (image : List ℕ) where
  abbrev OwnStraight : Bool → Op → Type 0
  OwnStraight on op = Own GoesStraight tt tt (λ code. tt) args on now first frames flags image op

  -- with a true condition it isn't one of the four, and with a false one they do nothing
  own_on : (op : Op) → (leads_aside op && true) ≡ false → OwnStraight true op
  own_on Jsr h = absurd (cc h)
  own_on Ret h = absurd (cc h)
  own_on Tnd h = absurd (cc h)
  own_on Jmp h = absurd (cc h)
  own_on Cop h = λ c. tt
  own_on Cps h = λ c. tt
  own_on Fll h = λ c. tt
  own_on _ h = tt

  own_off : (op : Op) → acts_when_false op ≡ true → OwnStraight false op
  own_off Jsr h = absurd (cc h)
  own_off Ret h = absurd (cc h)
  own_off Tnd h = absurd (cc h)
  own_off Jmp h = absurd (cc h)
  own_off Cop h = λ c. tt
  own_off Cps h = λ c. tt
  own_off Fll h = λ c. tt
  own_off _ h = tt

  row_straight : (op : Op) (on : Bool) → (leads_aside op && on) ≡ false → GoesStraight (row op args on now first frames flags image).control
  row_straight op true h = row_asks_own GoesStraight tt tt (λ code. tt) args true now first frames flags image op (λ acts. own_on op h)
  row_straight op false h = row_asks_own GoesStraight tt tt (λ code. tt) args false now first frames flags image op (own_off op)

-- ---- a step of the scan

-- With these instructions executed and its one frame's to come it makes up all.
pub record IsAt (all done : List Ins) (position : Position) : Type 0 where
  pub frame : Frame
  pub one_frame : position.frames ≡ frame ∷ []
  pub coming : List Ins
  pub comes : Comes frame.cursor coming
  pub parts : done ++ coming ≡ all

-- so it is of the scan of a task, if it has one
abbrev pub ScanIsAt : (all done : List Ins) → Option Scan → Type 0
ScanIsAt all done o = IfSome o (λ scan. IsAt all done scan.position)

-- what a step with this effect executes, where the scan stands before this instruction
abbrev pub done_by : Effect → Option Ins → Option Ins
done_by (effect.Copied done sync) next = None
done_by (effect.Left ended) next = None
done_by _ next = next

module _ (program : ProgramRungs) (position : Position) (image : List ℕ) (now : ℕ) (first : Bool) (flags : Flags) (all done : List Ins) where
  -- after a step with this effect, which executes this, the position is such, unless the scan is dropped
  abbrev pub ArrivesBy : Option Ins → Effect → Position → Type 0
  ArrivesBy o (effect.Left true) after = ⊤
  ArrivesBy o (effect.Major code) after = ⊤
  ArrivesBy o _ after = IsAt all (done ++ option_to_list o) after

  abbrev pub Arrives : Option Ins → Advanced → Type 0
  Arrives next a = ArrivesBy (done_by a.effect next) a.effect a.position

  -- with one instruction more
  one_more : (i : Ins) (coming rest : List Ins) → coming ≡ i ∷ rest → done ++ coming ≡ all → (done ++ i ∷ []) ++ rest ≡ all
  one_more i coming rest e h = append_assoc done (i ∷ []) rest ∙ (ap (λ (xs : List Ins). done ++ xs) (sym e) ∙ h)

  settled_at : (i : Ins) (f : Frame) (copy : Option Copying) → (done ++ i ∷ []) ++ to_come f.cursor ≡ all → IsAt all (done ++ i ∷ []) (record { frames = record f { cursor = settled (starts f.zone) f.cursor } ∷ []; copy = copy })
  settled_at i f copy h = record { frame = record f { cursor = settled (starts f.zone) f.cursor }; one_frame = refl; coming = to_come f.cursor; comes = settled_comes (starts f.zone) f.cursor; parts = h }

  by_control : (i : Ins) (on : Bool) (im : List ℕ) (fl : Flags) (d : Control) (f : Frame) → GoesStraight d → (done ++ i ∷ []) ++ to_come f.cursor ≡ all → Arrives (Some i) (after_row program position image now first flags (record { on = on; image = im; flags = fl; control = d }) f [])
  by_control i on im fl Nothing f g h = settled_at i f None h
  by_control i on im fl (Call n inputs returns) f g h = absurd g
  by_control i on im fl Return f g h = absurd g
  by_control i on im fl (Jump label) f g h = absurd g
  by_control i on im fl ToggleZone f g h = settled_at i (record f { zone = zone_after f.zone f.cursor.on }) None h
  by_control i on im fl Up f g h = settled_at i f None h
  by_control i on im fl Down f g h = settled_at i f None h
  by_control i on im fl (TriggerTask t) f g h = settled_at i f None h
  by_control i on im fl (StartCopy c) f g h = settled_at i f (Some c) h
  by_control i on im fl MinorFault f g h = settled_at i f None h
  by_control i on im fl (MajorFault code) f g h = tt

  -- a row's instruction is executed
  row_done : (on : Bool) (im : List ℕ) (fl : Flags) (d : Control) (f : Frame) (i : Ins) → done_by (after_row program position image now first flags (record { on = on; image = im; flags = fl; control = d }) f []).effect (Some i) ≡ Some i
  row_done on im fl Nothing f i = refl
  row_done on im fl (Call n inputs returns) f i = refl
  row_done on im fl Return f i = refl
  row_done on im fl (Jump label) f i = refl
  row_done on im fl ToggleZone f i = refl
  row_done on im fl Up f i = refl
  row_done on im fl Down f i = refl
  row_done on im fl (TriggerTask t) f i = refl
  row_done on im fl (StartCopy c) f i = refl
  row_done on im fl MinorFault f i = refl
  row_done on im fl (MajorFault code) f i = refl

  abbrev StepsFrom : List Frame → Type 0
  StepsFrom fs =
      let a = in_frames program position image now first flags fs in
      is_aside (done_by a.effect (first_of fs)) (condition_in fs) ≡ false → Arrives (first_of fs) a

  -- where the rest of the frame's leg is this
  abbrev FrameSteps : Frame → Tree Ins → Type 0
  FrameSteps f rest =
      let a = in_frame program position image now first flags f [] rest in
      is_aside (done_by a.effect (first_in rest)) f.cursor.on ≡ false → Arrives (first_in rest) a

  by_frame : (f : Frame) (coming : List Ins) (rest : Tree Ins) → f.cursor.rest ≡ rest → to_come f.cursor ≡ coming → done ++ coming ≡ all → FrameSteps f rest
  by_frame f coming (one i rest) is same h straight =
      let r = row i.op i.args f.cursor.on now first position.frames flags image in
      let f' = record f { cursor = record f.cursor { rest = rest; on = r.on } } in
      let first_here : coming ≡ i ∷ to_come f'.cursor = sym same ∙ ap (λ (t : Tree Ins). to_come (record f.cursor { rest = t })) is in
      let on : (leads_aside i.op && f.cursor.on) ≡ false = ap (λ (o : Option Ins). is_aside o f.cursor.on) (sym (row_done r.on r.image r.flags r.control f' i)) ∙ straight in
      by_control i r.on r.image r.flags r.control f' (row_straight i.args now first position.frames flags image i.op f.cursor.on on) (one_more i coming (to_come f'.cursor) first_here h)
  by_frame f coming end is same h straight = tt
  by_frame f coming (fork t legs rest) is same h straight = tt

  by_frames : IsAt all done position → StepsFrom position.frames
  by_frames x = subst StepsFrom (sym x.one_frame) (by_frame x.frame x.coming x.frame.cursor.rest refl x.comes.coming x.parts)

  abbrev pub Steps : Option Copying → Type 0
  Steps o =
      let a = in_progress program position image now first flags o in
      is_aside (done_by a.effect (first_of position.frames)) (condition_in position.frames) ≡ false → Arrives (first_of position.frames) a

  by_element : (c : Copying) (last : Bool) (after : Option Copying) → IsAt all done position → ArrivesBy None (effect.Copied last c.sync) (record position { copy = after })
  by_element c true after x = record { frame = x.frame; one_frame = x.one_frame; coming = x.coming; comes = x.comes; parts = ap (λ (xs : List Ins). xs ++ x.coming) (append-nil done) ∙ x.parts }
  by_element c false after x = record { frame = x.frame; one_frame = x.one_frame; coming = x.coming; comes = x.comes; parts = ap (λ (xs : List Ins). xs ++ x.coming) (append-nil done) ∙ x.parts }

  pub by_copy : (o : Option Copying) → IsAt all done position → Steps o
  by_copy None x straight = by_frames x straight
  by_copy (Some c) x straight = by_element c (nat_le c.left 1) _ x

  -- ---- its end

  -- a step that ends the scan stands behind the last instruction
  abbrev pub EndsBy : Effect → Type 0
  EndsBy (effect.Left true) = done ≡ all
  EndsBy _ = ⊤

  row_ends : (on : Bool) (im : List ℕ) (fl : Flags) (d : Control) (f : Frame) → EndsBy (after_row program position image now first flags (record { on = on; image = im; flags = fl; control = d }) f []).effect
  row_ends on im fl Nothing f = tt
  row_ends on im fl (Call n inputs returns) f = tt
  row_ends on im fl Return f = tt
  row_ends on im fl (Jump label) f = tt
  row_ends on im fl ToggleZone f = tt
  row_ends on im fl Up f = tt
  row_ends on im fl Down f = tt
  row_ends on im fl (TriggerTask t) f = tt
  row_ends on im fl (StartCopy c) f = tt
  row_ends on im fl MinorFault f = tt
  row_ends on im fl (MajorFault code) f = tt

  -- nothing is to come
  at_last : (coming : List Ins) (xs : List Ins) → xs ≡ coming → xs ≡ [] → done ++ coming ≡ all → done ≡ all
  at_last coming xs same none h = sym (append-nil done) ∙ (ap (λ (ys : List Ins). done ++ ys) (sym none ∙ same) ∙ h)

  frame_ends : (f : Frame) (coming : List Ins) (rest : Tree Ins) → f.cursor.rest ≡ rest → Comes f.cursor coming → done ++ coming ≡ all → EndsBy (in_frame program position image now first flags f [] rest).effect
  frame_ends f coming (one i rest) is c h =
      let r = row i.op i.args f.cursor.on now first position.frames flags image in
      row_ends r.on r.image r.flags r.control (record f { cursor = record f.cursor { rest = rest; on = r.on } })
  frame_ends f coming end is c h = at_last coming (to_come f.cursor) c.coming (subst (λ (t : Tree Ins). Stops t (to_come f.cursor)) is c.stops) h
  frame_ends f coming (fork t legs rest) is c h = at_last coming (to_come f.cursor) c.coming (subst (λ (x : Tree Ins). Stops x (to_come f.cursor)) is c.stops) h

  element_ends : (c : Copying) (last : Bool) → EndsBy (effect.Copied last c.sync)
  element_ends c true = tt
  element_ends c false = tt

  pub copy_ends : (o : Option Copying) → IsAt all done position → EndsBy (in_progress program position image now first flags o).effect
  copy_ends None x = subst (λ (fs : List Frame). EndsBy (in_frames program position image now first flags fs).effect) (sym x.one_frame) (frame_ends x.frame x.coming x.frame.cursor.rest refl x.comes x.parts)
  copy_ends (Some c) x = element_ends c (nat_le c.left 1)
