use Rattle.std.proofs.Common.{ℕ, List, [], inl, inr, sym, ap, ◌∙◌, le_refl}
use Rattle.std.proofs.lemmas.Bool.{cases_lt, false≢true}
use Rattle.lgx_image.specs.Words.{bit_of_words}
use Rattle.lgx_watch.specs.declared.bits.TheConstants.{MAX_WATCHES}
use Rattle.lgx_watch.specs.Index.{row}
use Rattle.lgx_watch.proofs.Rows.{index_has, index_only, no_row}
use Rattle.lgx_watch.proofs.watch_index.WatchIndex.of_row.Goals as goal

pub returns-in-Some-clause-members : goal.returns-in-Some-clause-members
returns-in-Some-clause-members c = λ w p at lies.
    let found = ap (λ (rows : List (List ℕ)). row rows c.args.word) (sym c.deref.ensures.value) ∙ sym (c.in-Some.ensures.lookup.4 (le_refl c.args.word) []) in
    let has = index_has c.self.inside.places.items c.args.self.now c.self.inside.rows.items c.args.word w p c.self.view_is c.self.invariant.0 at lies in
    c.of_words.ensures.within w has.0 ∙ ap (λ words. bit_of_words words w) (sym found) ∙ has.1

pub returns-in-Some-clause-no_other : goal.returns-in-Some-clause-no_other
returns-in-Some-clause-no_other c = λ w is.
    let found = ap (λ (rows : List (List ℕ)). row rows c.args.word) (sym c.deref.ensures.value) ∙ sym (c.in-Some.ensures.lookup.4 (le_refl c.args.word) []) in
    elim (cases_lt w MAX_WATCHES) [
      | inl within ↦ index_only c.self.inside.places.items c.args.self.now c.self.inside.rows.items c.args.word w c.self.view_is c.self.invariant.0 (ap (λ words. bit_of_words words w) found ∙ sym (c.of_words.ensures.within w within) ∙ is)
      | inr past ↦ absurd (false≢true (sym (c.of_words.ensures.past w past) ∙ is))
    ]

pub returns-in-None-clause-members : goal.returns-in-None-clause-members
returns-in-None-clause-members c = λ w p at lies.
    let has = index_has c.self.inside.places.items c.args.self.now c.self.inside.rows.items c.args.word w p c.self.view_is c.self.invariant.0 at lies in
    absurd (false≢true (sym (no_row c.self.inside.rows.items c.args.word w (rw (← c.deref.ensures.value) c.in-None.ensures.lookup.3)) ∙ has.1))
