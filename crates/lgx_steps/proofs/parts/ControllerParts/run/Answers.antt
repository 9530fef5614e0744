use Rattle.std.proofs.Common.{◌≡◌, ◌≤◌, ℕ, Bool, true, List, length, map, Option, None, sym, ap, ◌∙◌, subst}
use Rattle.lgx_steps.specs.PartsView.{view_of}
use Rattle.std.specs.List.{AllByRecursion as Each}
use Rattle.std.specs.Global.{Vec}
use Rattle.std.specs.Vec.{with_items}
use Rattle.lgx_steps.specs.declared.parts.Progress.{Progress as KeptProgress}
use Rattle.std.proofs.lemmas.List.{with_items_is, length-map}
use Rattle.spec_machine.specs.declared.reply.Mode.TheVariants as mode
use Rattle.spec_machine.specs.declared.reply.Reply.TheVariants.{Done}
use Rattle.spec_tables.specs.Tasks.{start}
use Rattle.spec_language.specs.Declarations.{bytes}
use Rattle.spec_machine.specs.Edits.{Book}
use Rattle.spec_machine.specs.State.{State, Progress, dropped}
use Rattle.spec_machine.specs.Actions.{prescan_all}
use Rattle.spec_machine.specs.Releases.{mask_of}
use Rattle.lgx_sched.specs.Represents.{RepresentsTable as RepresentsTable}
use Rattle.lgx_edit.specs.EditsView.{books}
use Rattle.lgx_steps.specs.PartsView.{without_flags}
use Rattle.lgx_steps.specs.Plans.{IsReadyBook}
use Rattle.lgx_steps.specs.Represents.{RepresentsState}
use Rattle.lgx_steps.proofs.Reading.{many-books, many-firsts, few-known}
use Rattle.lgx_steps.proofs.Regions.{at_most-start}
use Rattle.lgx_steps.proofs.Running.{flags-cleared, marked}
use Rattle.lgx_steps.proofs.States.{cleared, with-image, with-firsts, with-no_flags, with-table, with-mode}
use Rattle.lgx_steps.proofs.parts.ControllerParts.run.Goals as goal

pub mask_of-released-requires : goal.mask_of-released-requires
mask_of-released-requires c =
    few-known c.requires.events (view_of c.args.self.now) c.requires.state c.requires.represents c.released_at_run.result c.released_at_run.ensures.known

pub prescan_all-requires : goal.prescan_all-requires
prescan_all-requires c =
    let v = view_of c.args.self.now in
    let s = c.requires.state in
    let h = c.requires.represents in
    let many : c.len.result ≡ s.plan.tags.programs = c.len.ensures ∙ (c.args.self.now.firsts.ok.0 ∙ many-firsts c.requires.events v s h) in
    record {
      many = many-books c.requires.events v s h ∙ sym many;
      few = subst (λ k. k ≤ _) (sym many) h.sane.plan.programs;
      ready = (
        length s.plan.schedule,
        c.requires.events,
        subst (λ (k : ℕ). Each (IsReadyBook k (length s.plan.schedule) c.requires.events) (books v.book)) (sym (ap (λ (b : List ℕ). length b) h.image ∙ h.sane.image))
            (subst (λ (bs : List Book). Each (IsReadyBook (bytes s.plan.tags) (length s.plan.schedule) c.requires.events) bs) (sym h.books) h.sane.books),
      );
    }

-- what a vector has of which each element was changed
changed : {A : Type 0} (f : A → A) (v : Vec A) (ws : List A) → ws ≡ map f v.items → (with_items v ws).items ≡ map f v.items
changed f v ws e = with_items_is v ws (ap length e ∙ (length-map v.items f ∙ sym v.ok.0)) ∙ e

pub leave_scans-requires : goal.leave_scans-requires
leave_scans-requires c =
    let s = c.requires.state in
    let h = c.requires.represents in
    let image : c.prescan_all.new.image.bytes ≡ prescan_all s.books s.image = c.prescan_all.ensures.bytes ∙ (ap (λ (bs : List Book). prescan_all bs c.args.self.now.image.bytes) h.books ∙ ap (λ (b : List ℕ). prescan_all s.books b) h.image) in
    let long : length (prescan_all s.books s.image) ≡ length s.image = ap (λ (b : List ℕ). length b) (sym image) ∙ (c.prescan_all.ensures.only_marked.same_length ∙ ap (λ (b : List ℕ). length b) h.image) in
    record { events = c.requires.events; state = record s { image = prescan_all s.books s.image }; room = c.requires.room; represents = with-image c.requires.events (view_of c.args.self.now) s h c.prescan_all.new.image (prescan_all s.books s.image) image long }

pub returns-clause-gives : goal.returns-clause-gives
returns-clause-gives c = λ n s h.
    let v = view_of c.args.self.now in
    let image : c.prescan_all.new.image.bytes ≡ prescan_all s.books s.image = c.prescan_all.ensures.bytes ∙ (ap (λ (bs : List Book). prescan_all bs c.args.self.now.image.bytes) h.books ∙ ap (λ (b : List ℕ). prescan_all s.books b) h.image) in
    let long : length (prescan_all s.books s.image) ≡ length s.image = ap (λ (b : List ℕ). length b) (sym image) ∙ (c.prescan_all.ensures.only_marked.same_length ∙ ap (λ (b : List ℕ). length b) h.image) in
    let s₁ : State = record s { image = prescan_all s.books s.image } in
    let h₁ = with-image n v s h c.prescan_all.new.image (prescan_all s.books s.image) image long in
    let v₂ = view_of c.leave_scans.new.self in
    let s₂ : State = record s₁ { progress = map dropped s.progress } in
    let h₂ = c.leave_scans.ensures.represents n s₁ h₁ in
    let P = c.leave_scans.new.self.progress in
    let is_cleared : c.clear_flags.new.progress ≡ map without_flags P.items = c.clear_flags.ensures ∙ ap (λ (xs : List KeptProgress). map without_flags xs) c.deref_mut.ensures.value in
    let progress : (with_items P c.clear_flags.new.progress).items ≡ map without_flags P.items = changed without_flags P c.clear_flags.new.progress is_cleared in
    let s₃ : State = record s₂ { progress = map cleared (map dropped s.progress) } in
    let v₃ = record v₂ { progress = (with_items P c.clear_flags.new.progress).items } in
    let h₃ = with-no_flags n v₂ s₂ h₂ (with_items P c.clear_flags.new.progress).items progress in
    let F = c.leave_scans.new.self.firsts in
    let is_marked : c.mark_all.new.firsts ≡ map (λ (b : Bool). true) F.items = c.mark_all.ensures ∙ ap (λ (xs : List Bool). map (λ (b : Bool). true) xs) c.deref_mut-2.ensures.value in
    let firsts : (with_items F c.mark_all.new.firsts).items ≡ map (λ (b : Bool). true) s.firsts = changed (λ (b : Bool). true) F c.mark_all.new.firsts is_marked ∙ ap (λ (xs : List Bool). map (λ (b : Bool). true) xs) h₂.firsts in
    let s₄ : State = record s₃ { firsts = map (λ (b : Bool). true) s.firsts } in
    let v₄ = record v₃ { firsts = (with_items F c.mark_all.new.firsts).items } in
    let h₄ = with-firsts n v₃ s₃ h₃ (with_items F c.mark_all.new.firsts).items (map (λ (b : Bool). true) s.firsts) firsts (marked s.firsts) in
    let table : RepresentsTable c.start.new.self (start s.tick s.table) = subst (λ (i : ℕ). RepresentsTable c.start.new.self (start i s.table)) h₂.tick (c.start.ensures.represents s.table h₂.table) in
    let s₅ : State = record s₄ { table = start s.tick s.table } in
    let v₅ = record v₄ { table = c.start.new.self } in
    let h₅ = with-table n v₄ s₄ h₄ c.start.new.self (start s.tick s.table) table c.start.ensures.defs (at_most-start n s.table s.tick) in
    let h₆ = with-mode n v₅ s₅ h₅ mode.Run in
    record {
      answers = ap (λ (m : ℕ). record { reply = Done; fault = None; released = m }) (c.mask_of-released.ensures ∙ ap (λ (o : Option ℕ). mask_of o) (c.released_at_run.ensures.represents s.table h.table));
      represents = subst (λ (ps : List Progress). RepresentsState n (record v₅ { mode = mode.Run }) (record s₅ { mode = mode.Run; progress = ps })) (flags-cleared s.progress) h₆;
    }
