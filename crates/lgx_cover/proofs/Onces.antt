-- Versions, each once.
use Rattle.std.proofs.Common.{◌≡◌, ℕ, List, [], ◌∷◌, ◌++◌, Bool, true, false, cond, not, ◌||◌, filter, nat_eq, inl, inr, refl, sym, ap, ◌∙◌, subst}
use Rattle.std.proofs.lemmas.Bool.{eqb-true, eq-eqb, and_parts, and_from, cases_Bool, not_from_false}
use Rattle.std.proofs.lemmas.List.Elements.{filter-append}
use Rattle.std.proofs.lemmas.Map.Views.{any-filter_same}
use Rattle.lgx_cover.specs.declared.version.Version.{Version}
use Rattle.lgx_cover.specs.Counts.{is_version, once}
use Rattle.lgx_cover.specs.Tables.{has}

-- ---- the same version

pub same_version : (v w : Version) → is_version v w ≡ true → v ≡ w
same_version v w is =
    let parts = and_parts (nat_eq v.program w.program) (nat_eq v.number w.number) is in
    let program : v.program ≡ w.program = eqb-true v.program w.program parts.0 in
    let number : v.number ≡ w.number = eqb-true v.number w.number parts.1 in
    let at_program : ℕ → Version = λ p. record { program = p; number = v.number } in
    let at_number : ℕ → Version = λ n. record { program = w.program; number = n } in
    ap at_program program ∙ ap at_number number

pub own_version : (v : Version) → is_version v v ≡ true
own_version v = and_from (nat_eq v.program v.program) (nat_eq v.number v.number) (eq-eqb v.program v.program refl) (eq-eqb v.number v.number refl)

-- ---- one version more

abbrev unless_there : Bool → Version → List Version
unless_there there w = cond there [] (w ∷ [])

-- without those that are v
abbrev without : Version → List Version → List Version
without v vs = filter (λ x. not (is_version v x)) vs

others_same : (v w x : Version) → is_version v w ≡ false → is_version x w ≡ true → not (is_version v x) ≡ true
others_same v w x other is =
    subst (λ y. not (is_version v y) ≡ true) (sym (same_version x w is)) (not_from_false (is_version v w) other)

without_new : (v w : Version) (os : List Version) → without v (unless_there (has os w) w) ≡ unless_there (has (v ∷ without v os) w) w
without_new v w os = elim (cases_Bool (is_version v w)) [
  | inl same ↦ here (has os w) same
  | inr other ↦ there other
]
  where
    here : (b : Bool) → is_version v w ≡ true → without v (unless_there b w) ≡ unless_there (is_version v w || has (without v os) w) w
    here true same = sym (ap (λ t. unless_there (t || has (without v os) w) w) same)
    here false same = ap (λ t. cond (not t) (w ∷ []) []) same ∙ sym (ap (λ t. unless_there (t || has (without v os) w) w) same)

    kept : (b : Bool) → is_version v w ≡ false → without v (unless_there b w) ≡ unless_there b w
    kept true other = refl
    kept false other = ap (λ t. cond (not t) (w ∷ []) []) other

    there : is_version v w ≡ false → without v (unless_there (has os w) w) ≡ unless_there (is_version v w || has (without v os) w) w
    there other =
        kept (has os w) other
        ∙ ap (λ t. unless_there t w) (sym (any-filter_same (λ x. is_version x w) (λ x. not (is_version v x)) true (λ x is. others_same v w x other is) os))
        ∙ sym (ap (λ t. unless_there (t || has (without v os) w) w) other)

pub once_more : (vs : List Version) (w : Version) → once (vs ++ w ∷ []) ≡ once vs ++ cond (has (once vs) w) [] (w ∷ [])
once_more [] w = refl
once_more (v ∷ vs) w =
    ap (λ os. v ∷ without v os) (once_more vs w)
    ∙ ap (λ os. v ∷ os) (filter-append (λ x. not (is_version v x)) (once vs) (unless_there (has (once vs) w) w) ∙ ap (λ os. without v (once vs) ++ os) (without_new v w (once vs)))
