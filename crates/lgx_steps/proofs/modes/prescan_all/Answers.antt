use Rattle.std.proofs.Common.{◌≡◌, ◌<◌, ◌≤◌, ℕ, List, length, sym, ap, ◌∙◌, subst}
use Rattle.std.proofs.lemmas.List.{length-map, take_all}
use Rattle.spec_machine.specs.Edits.{Book}
use Rattle.spec_machine.specs.Actions.{prescan_all}
use Rattle.lgx_image.proofs.Changes.{changes_follow_one_another}
use Rattle.lgx_edit.specs.EditsView.{EditsView, books}
use Rattle.std.specs.List.{AllByRecursion as Each}
use Rattle.lgx_steps.specs.Plans.{IsReadyBook}
use Rattle.lgx_steps.proofs.Running.{can-prescan, prescan-more}
use Rattle.lgx_steps.proofs.modes.prescan_all.Goals as goal

many-books : (all : List EditsView) (programs n : ℕ) → length all ≡ programs → n < programs → n < length (books all)
many-books all programs n e l = subst (λ k. n < k) (sym (length-map all (λ (x : EditsView). x.book) ∙ e)) l

pub prescan-requires : goal.prescan-requires
prescan-requires c =
    let b = c.args.book.now in
    let ready = c.requires.ready in
    let long : length c.args.image.now.bytes ≡ length c.loop-n.image.bytes = sym c.loop-n.invariant.only_marked.same_length in
    can-prescan b ready.0 ready.1 (length c.loop-n.image.bytes) c.loop-n.n c.selected.result.now (subst (λ k. Each (IsReadyBook k ready.0 ready.1) (books b)) long ready.2) (many-books b c.args.programs c.loop-n.n c.requires.many c.loop-n-test.true) c.selected.ensures

pub loop-n-preserved : goal.loop-n-preserved
loop-n-preserved c = record {
  bytes = prescan-more (books c.args.book.now) c.loop-n.n c.selected.result.now c.args.image.now.bytes c.loop-n.image.bytes c.prescan.new.image.bytes (many-books c.args.book.now c.args.programs c.loop-n.n c.requires.many c.loop-n-test.true) c.selected.ensures c.loop-n.invariant.bytes c.prescan.ensures.bytes;
  only_marked = changes_follow_one_another _ _ _ c.loop-n.invariant.only_marked c.prescan.ensures.only_marked;
}

pub returns-clause-bytes : goal.returns-clause-bytes
returns-clause-bytes c =
    let b = c.args.book.now in
    let past : length (books b) ≤ c.loop-n.n = subst (λ k. k ≤ c.loop-n.n) (sym (length-map b (λ (x : EditsView). x.book) ∙ c.requires.many)) c.loop-n-test.false in
    c.loop-n.invariant.bytes ∙ ap (λ (bs : List Book). prescan_all bs c.args.image.now.bytes) (take_all c.loop-n.n (books b) past)
