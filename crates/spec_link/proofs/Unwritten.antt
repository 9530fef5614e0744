-- A tag that no instruction writes is left by every event but a word in on a connection of the tag.
use Rattle.std.proofs.Common.{◌≡◌, ◌⊎◌, ◌≤◌, ◌<◌, ◌+◌, ◌*◌, inl, inr, ℕ, zero, suc, Bool, true, false, List, [], ◌∷◌, ◌++◌, map, get_or, refl, sym, ◌∙◌, ap, arith, eqb-true, eq-eqb, true≢false}
use Rattle.std.specs.Prelude.{ℤ, Option, Some, None, IsTrue, nat_eq, slice_get}
use Rattle.std.specs.Int.{w32}
use Rattle.lgx_num.specs.Image.{signed_at}
use Rattle.lgx_num.proofs.Images.{piece-same}
use Rattle.lgx_num.specs.Number.{signed_of}
use Rattle.lgx_rung.specs.declared.ins.Ins.{Ins}
use Rattle.spec_tables.specs.declared.conn.ConnDef.{ConnDef}
use Rattle.spec_machine.specs.declared.event.Action.TheVariants as action
use Rattle.spec_machine.specs.declared.event.Event.{Event}
use Rattle.spec_machine.specs.declared.event.Event.TheVariants as events
use Rattle.spec_machine.specs.Machine.{run}
use Rattle.spec_machine.specs.Project.{Project}
use Rattle.spec_uses.specs.Uses.{Site, writers, writer_sites}
use Rattle.spec_uses.specs.Changes.{NoneAccepted, puts_into, IsRunOf, IsWriter, IsByteOf, acting, ChangesHaveWritersOf}
use Rattle.spec_link.specs.Consumed.{dints, words_after, IsTagOf}

-- as long as no edit is accepted
abbrev pub IsUnwritten : Project → ℕ → ConnDef → Type 0
IsUnwritten p k c = (journal : List Event) (e : Event) → NoneAccepted p (journal ++ e ∷ []) → puts_into p k e ≡ false
    → words_after p c (journal ++ e ∷ []) ≡ words_after p c journal

-- ---- no writers

no_site : (xs : List Site) (i : ℕ) (s : Site) → map (λ x. x.at) xs ≡ [] → slice_get xs i ≡ Some s → ⊥
no_site [] i s none h = absurd (cc h)
no_site (x ∷ xs) i s none h = absurd (cc none)

not_by_run : (p : Project) (k : ℕ) (e : Event) → writers p k ≡ [] → IsRunOf p k e → ⊥
not_by_run p k (events.Act lane action.ModeRun) none h = h none
not_by_run p k _ none h = h

not_by_writer : (p : Project) (k : ℕ) (a : Option (ℕ × Ins)) → writers p k ≡ [] → IsWriter p k a → ⊥
not_by_writer p k None none h = h
not_by_writer p k (Some a) none h = no_site (writer_sites p k) h.1 h.0 none h.2

-- ---- its bytes, and its words

same_words : (old new : List ℕ) (at n : ℕ) → ((b : ℕ) → at ≤ b → b < at + 4 * n → get_or new b 0 ≡ get_or old b 0) → dints new at n ≡ dints old at n
same_words old new at zero same = refl
same_words old new at (suc n) same =
    let first : signed_at w32 new at ≡ signed_at w32 old at = ap (signed_of w32) (piece-same old new at 4 (λ b above below. same b above (omega arith))) in
    let rest = same_words old new (at + 4) n (λ b above below. same b (omega arith) (omega arith)) in
    ap (λ (v : ℤ). v ∷ dints new (at + 4) n) first ∙ ap (λ (vs : List ℤ). signed_at w32 old at ∷ vs) rest

module _ (p : Project) (k : ℕ) (c : ConnDef) (law : ChangesHaveWritersOf p) (tag : IsTagOf p k c) (none : writers p k ≡ []) where
  no_cause : (journal : List Event) (e : Event) → puts_into p k e ≡ false → IsTrue (puts_into p k e) ⊎ (IsRunOf p k e ⊎ IsWriter p k (acting p journal e)) → ⊥
  no_cause journal e outside (inl put) = true≢false (sym put ∙ outside)
  no_cause journal e outside (inr (inl by_run)) = not_by_run p k e none by_run
  no_cause journal e outside (inr (inr writer)) = not_by_writer p k (acting p journal e) none writer

  same_byte : (journal : List Event) (e : Event) → NoneAccepted p (journal ++ e ∷ []) → puts_into p k e ≡ false → (b : ℕ) → c.byte ≤ b → b < c.byte + 4 * c.words
      → get_or (run p (journal ++ e ∷ [])).image b 0 ≡ get_or (run p journal).image b 0
  same_byte journal e quiet outside b above below = go (nat_eq (get_or (run p (journal ++ e ∷ [])).image b 0) (get_or (run p journal).image b 0)) refl
    where
      here : IsByteOf p k b
      here = record { tag = tag.tag; from = (let f = tag.from in omega arith); upto = (let u = tag.upto in omega arith) }

      go : (same : Bool) → nat_eq (get_or (run p (journal ++ e ∷ [])).image b 0) (get_or (run p journal).image b 0) ≡ same → get_or (run p (journal ++ e ∷ [])).image b 0 ≡ get_or (run p journal).image b 0
      go true is = eqb-true _ _ is
      go false is = absurd (no_cause journal e outside (law journal e k b quiet here (λ same. true≢false (sym (eq-eqb _ _ same) ∙ is))))

  pub unwritten : IsUnwritten p k c
  unwritten journal e quiet outside =
      same_words (run p journal).image (run p (journal ++ e ∷ [])).image c.byte c.words (λ b above below. same_byte journal e quiet outside b above below)
