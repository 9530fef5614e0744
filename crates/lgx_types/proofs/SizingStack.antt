-- The stack of structures that are being worked out.
use Rattle.std.specs.Prelude.{◌≡◌, ◌≢◌, ℕ, zero, suc, ◌+◌, ◌-◌, ◌<◌, ◌⊎◌, true, List, [], ◌∷◌, ◌++◌, length, map, replicate, drop, slice_get, slice_set, slice_index, Some, refl}
use Rattle.std.proofs.Common.{ap, sym, subst, arith, ◌∙◌, inl, inr, get_or, length-append}
use Rattle.std.proofs.lemmas.List.Sums.{sum_by-set}
use Rattle.spec_language.specs.declared.types.TypeDecl.{TypeDecl}
use Rattle.spec_language.specs.Layout.{round_up}
use Rattle.spec_language.specs.TypeFaults.{parts, among, reached_to, reaches_itself}
use Rattle.spec_language.proofs.Reaching.{parts_there, reach_more}
use Rattle.lgx_types.specs.declared.sizing.Visit.{Visit}
use Rattle.lgx_types.specs.declared.sizing.Visit.TheVariants.{Unvisited, InProgress, Sized}
use Rattle.lgx_types.specs.declared.sizing.Frame.{Frame}
use Rattle.lgx_types.specs.Sizing.{types_at, IsSized, IsBegun, AreVisits, IsSizing, IsVisited, ReachesItself, size_of_visit, weight, remaining}
use Rattle.std.proofs.Math.ListN.{length-replicate}
use Rattle.std.proofs.lemmas.List.{length-map, length-set}
use Rattle.std.proofs.lemmas.Option.{get_or_from_slice_get, slice_get_within}
use Rattle.spec_base.proofs.Lists.{get_mapped}
use Rattle.lgx_types.proofs.Cycles.{reach_bounded}
use Rattle.lgx_types.proofs.MemberSizes.{sized_at_end}

-- ---- elements of lists

module _ {A : Type 0} where
  pub get_split : (xs : List A) (y : A) (p : ℕ) (x : A) → slice_get (xs ++ y ∷ []) p ≡ Some x → (slice_get xs p ≡ Some x) ⊎ ((p ≡ length xs) × (y ≡ x))
  get_split [] y zero x h = inr (refl, cc h)
  get_split [] y (suc p) x h = absurd (cc h)
  get_split (z ∷ xs) y zero x h = inl h
  get_split (z ∷ xs) y (suc p) x h = go (get_split xs y p x h)
    where
      go : (slice_get xs p ≡ Some x) ⊎ ((p ≡ length xs) × (y ≡ x)) → (slice_get xs p ≡ Some x) ⊎ ((suc p ≡ suc (length xs)) × (y ≡ x))
      go (inl q) = inl q
      go (inr (q, r)) = inr (ap suc q, r)

  pub get_early : (xs ys : List A) (p : ℕ) (x : A) → slice_get xs p ≡ Some x → slice_get (xs ++ ys) p ≡ Some x
  get_early [] ys p x h = absurd (cc h)
  get_early (z ∷ xs) ys zero x h = h
  get_early (z ∷ xs) ys (suc p) x h = get_early xs ys p x h

  pub get_last : (xs : List A) (y : A) → slice_get (xs ++ y ∷ []) (length xs) ≡ Some y
  get_last [] y = refl
  get_last (z ∷ xs) y = get_last xs y

  pub get_there : (xs : List A) (p : ℕ) → p < length xs → (x : A) × (slice_get xs p ≡ Some x)
  get_there [] p h = absurd (omega (arith, h))
  get_there (x ∷ xs) zero h = (x, refl)
  get_there (x ∷ xs) (suc p) h = get_there xs p (omega (arith, h))

  pub get_set : (xs : List A) (i j : ℕ) (y x : A) → slice_get (slice_set xs i y) j ≡ Some x → ((i ≡ j) × (y ≡ x)) ⊎ ((i ≢ j) × (slice_get xs j ≡ Some x))
  get_set [] i j y x h = absurd (cc h)
  get_set (z ∷ xs) zero zero y x h = inl (refl, cc h)
  get_set (z ∷ xs) zero (suc j) y x h = inr ((λ e. absurd (omega (arith, e))), h)
  get_set (z ∷ xs) (suc i) zero y x h = inr ((λ e. absurd (omega (arith, e))), h)
  get_set (z ∷ xs) (suc i) (suc j) y x h = go (get_set xs i j y x h)
    where
      go : ((i ≡ j) × (y ≡ x)) ⊎ ((i ≢ j) × (slice_get xs j ≡ Some x)) → ((suc i ≡ suc j) × (y ≡ x)) ⊎ ((suc i ≢ suc j) × (slice_get xs j ≡ Some x))
      go (inl (e, f)) = inl (ap suc e, f)
      go (inr (e, f)) = inr ((λ g. e (omega (arith, g))), f)

-- ---- the stack

-- the frame on top goes on
pub frame_on : (types : List TypeDecl) (visits : List Visit) (stack : List Frame) (f g : Frame) → IsSizing types visits (stack ++ f ∷ []) → IsBegun types g → g.structure ≡ f.structure → IsSizing types visits (stack ++ g ∷ [])
frame_on types visits stack f g w b same = record {
  known = w.known;
  begun = λ p x h. begun p x (get_split stack g p x h);
  entered = λ i h. entered i (w.entered i h);
  leads = λ p x y h k. leads p x y (get_split stack g p x h) (get_split stack g (suc p) y k);
}
  where
    begun : (p : ℕ) (x : Frame) → (slice_get stack p ≡ Some x) ⊎ ((p ≡ length stack) × (g ≡ x)) → IsBegun types x
    begun p x (inl q) = w.begun p x (get_early stack (f ∷ []) p x q)
    begun p x (inr (q, r)) = subst (λ (z : Frame). IsBegun types z) r b

    entered : (i : ℕ) → (p : ℕ) × ((x : Frame) × ((slice_get (stack ++ f ∷ []) p ≡ Some x) × (x.structure ≡ i))) → (p : ℕ) × ((x : Frame) × ((slice_get (stack ++ g ∷ []) p ≡ Some x) × (x.structure ≡ i)))
    entered i (p, (x, (q, r))) = go (get_split stack f p x q)
      where
        go : (slice_get stack p ≡ Some x) ⊎ ((p ≡ length stack) × (f ≡ x)) → (p : ℕ) × ((x : Frame) × ((slice_get (stack ++ g ∷ []) p ≡ Some x) × (x.structure ≡ i)))
        go (inl s) = (p, (x, (get_early stack (g ∷ []) p x s, r)))
        go (inr (s, t)) = (length stack, (g, (get_last stack g, same ∙ ap (λ (z : Frame). z.structure) t ∙ r)))

    leads : (p : ℕ) (x y : Frame) → (slice_get stack p ≡ Some x) ⊎ ((p ≡ length stack) × (g ≡ x)) → (slice_get stack (suc p) ≡ Some y) ⊎ ((suc p ≡ length stack) × (g ≡ y)) → among (parts types x.structure) y.structure ≡ true
    leads p x y (inl q) (inl r) = w.leads p x y (get_early stack (f ∷ []) p x q) (get_early stack (f ∷ []) (suc p) y r)
    leads p x y (inl q) (inr (r, s)) =
        let last : slice_get (stack ++ f ∷ []) (suc p) ≡ Some f = subst (λ (n : ℕ). slice_get (stack ++ f ∷ []) n ≡ Some f) (sym r) (get_last stack f) in
        subst (λ (n : ℕ). among (parts types x.structure) n ≡ true) (sym same ∙ ap (λ (z : Frame). z.structure) s) (w.leads p x f (get_early stack (f ∷ []) p x q) last)
    leads p x y (inr (q, r)) (inl s) = absurd (omega (arith, q, slice_get_within stack (suc p) y s))
    leads p x y (inr (q, r)) (inr (s, t)) = absurd (omega (arith, q, s))

-- the structure on top is done
pub top_sized : (types : List TypeDecl) (visits : List Visit) (stack : List Frame) (f : Frame) (size : ℕ) → IsSizing types visits (stack ++ f ∷ []) → IsSized types f.structure size → IsSizing types (slice_set visits f.structure (Sized size)) stack
top_sized types visits stack f size w known = record {
  known = record { many = length-set visits f.structure (Sized size) ∙ w.known.many; sized = λ i s h. sized i s (get_set visits f.structure i (Sized size) (Sized s) h) };
  begun = λ p x h. w.begun p x (get_early stack (f ∷ []) p x h);
  entered = λ i h. entered i (get_set visits f.structure i (Sized size) InProgress h);
  leads = λ p x y h k. w.leads p x y (get_early stack (f ∷ []) p x h) (get_early stack (f ∷ []) (suc p) y k);
}
  where
    sized : (i s : ℕ) → ((f.structure ≡ i) × (Sized size ≡ Sized s)) ⊎ ((f.structure ≢ i) × (slice_get visits i ≡ Some (Sized s))) → IsSized types i s
    sized i s (inl (p, q)) = let e : size ≡ s = cc q in subst (λ (n : ℕ). IsSized types i n) e (subst (λ (n : ℕ). IsSized types n size) p known)
    sized i s (inr (p, q)) = w.known.sized i s q

    entered : (i : ℕ) → ((f.structure ≡ i) × (Sized size ≡ InProgress)) ⊎ ((f.structure ≢ i) × (slice_get visits i ≡ Some InProgress)) → (p : ℕ) × ((x : Frame) × ((slice_get stack p ≡ Some x) × (x.structure ≡ i)))
    entered i (inl (p, q)) = absurd (cc q)
    entered i (inr (p, q)) = go (w.entered i q)
      where
        go : (p : ℕ) × ((x : Frame) × ((slice_get (stack ++ f ∷ []) p ≡ Some x) × (x.structure ≡ i))) → (p : ℕ) × ((x : Frame) × ((slice_get stack p ≡ Some x) × (x.structure ≡ i)))
        go (k, (x, (r, s))) = at (get_split stack f k x r)
          where
            at : (slice_get stack k ≡ Some x) ⊎ ((k ≡ length stack) × (f ≡ x)) → (p : ℕ) × ((x : Frame) × ((slice_get stack p ≡ Some x) × (x.structure ≡ i)))
            at (inl t) = (k, (x, (t, s)))
            at (inr (t, u)) = absurd (p (ap (λ (z : Frame). z.structure) u ∙ s))

-- a frame of a structure that was just begun
abbrev pub begin : ℕ → Frame
begin i = record { structure = i; next = 0; at = 0 }

pub begin_is : (types : List TypeDecl) (i : ℕ) → i < length types → IsBegun types (begin i)
begin_is types i h = record { there = h; low = omega arith; alone = λ k. k; start = 0; rounds = λ k p. refl }

-- a structure is begun, inside the one on top if there is one
pub begun_inside : (types : List TypeDecl) (visits : List Visit) (stack : List Frame) (i : ℕ) → IsSizing types visits stack → i < length types → ((p : ℕ) (f : Frame) → slice_get stack p ≡ Some f → suc p ≡ length stack → among (parts types f.structure) i ≡ true) → IsSizing types (slice_set visits i InProgress) (stack ++ begin i ∷ [])
begun_inside types visits stack i w there inside = record {
  known = record { many = length-set visits i InProgress ∙ w.known.many; sized = λ j s h. sized j s (get_set visits i j InProgress (Sized s) h) };
  begun = λ p x h. begun p x (get_split stack (begin i) p x h);
  entered = λ j h. entered j (get_set visits i j InProgress InProgress h);
  leads = λ p x y h k. leads p x y (get_split stack (begin i) p x h) (get_split stack (begin i) (suc p) y k);
}
  where
    sized : (j s : ℕ) → ((i ≡ j) × (InProgress ≡ Sized s)) ⊎ ((i ≢ j) × (slice_get visits j ≡ Some (Sized s))) → IsSized types j s
    sized j s (inl (p, q)) = absurd (cc q)
    sized j s (inr (p, q)) = w.known.sized j s q

    begun : (p : ℕ) (x : Frame) → (slice_get stack p ≡ Some x) ⊎ ((p ≡ length stack) × (begin i ≡ x)) → IsBegun types x
    begun p x (inl q) = w.begun p x q
    begun p x (inr (q, r)) = subst (λ (z : Frame). IsBegun types z) r (begin_is types i there)

    entered : (j : ℕ) → ((i ≡ j) × (InProgress ≡ InProgress)) ⊎ ((i ≢ j) × (slice_get visits j ≡ Some InProgress)) → (p : ℕ) × ((x : Frame) × ((slice_get (stack ++ begin i ∷ []) p ≡ Some x) × (x.structure ≡ j)))
    entered j (inl (p, q)) = (length stack, (begin i, (get_last stack (begin i), p)))
    entered j (inr (p, q)) = let (k, (x, (r, s))) = w.entered j q in (k, (x, (get_early stack (begin i ∷ []) k x r, s)))

    leads : (p : ℕ) (x y : Frame) → (slice_get stack p ≡ Some x) ⊎ ((p ≡ length stack) × (begin i ≡ x)) → (slice_get stack (suc p) ≡ Some y) ⊎ ((suc p ≡ length stack) × (begin i ≡ y)) → among (parts types x.structure) y.structure ≡ true
    leads p x y (inl q) (inl r) = w.leads p x y q r
    leads p x y (inl q) (inr (r, s)) = subst (λ (n : ℕ). among (parts types x.structure) n ≡ true) (ap (λ (z : Frame). z.structure) s) (inside p x q r)
    leads p x y (inr (q, r)) (inl s) = absurd (omega (arith, q, slice_get_within stack (suc p) y s))
    leads p x y (inr (q, r)) (inr (s, t)) = absurd (omega (arith, q, s))

-- ---- rings

abbrev Leads : List TypeDecl → List Frame → Type 0
Leads types stack = (p : ℕ) (f g : Frame) → slice_get stack p ≡ Some f → slice_get stack (suc p) ≡ Some g → among (parts types f.structure) g.structure ≡ true

get_before : {A : Type 0} (xs : List A) (p : ℕ) (x : A) → slice_get xs (suc p) ≡ Some x → (y : A) × (slice_get xs p ≡ Some y)
get_before [] p x h = absurd (cc h)
get_before (y ∷ xs) zero x h = (y, refl)
get_before (y ∷ xs) (suc p) x h = get_before xs p x h

-- a structure in the stack is, or reaches, each one further on
reaches_on : (types : List TypeDecl) (stack : List Frame) → Leads types stack → (d p : ℕ) (f g : Frame) → slice_get stack p ≡ Some f → slice_get stack (p + d) ≡ Some g → (f.structure ≡ g.structure) ⊎ ((m : ℕ) × (among (reached_to m types f.structure) g.structure ≡ true))
reaches_on types stack leads zero p f g h k =
    let none : p + zero ≡ p = omega arith in
    let here : slice_get stack p ≡ Some g = subst (λ (n : ℕ). slice_get stack n ≡ Some g) none k in
    let same : f ≡ g = cc (h, here) in
    inl (ap (λ (x : Frame). x.structure) same)
reaches_on types stack leads (suc d) p f g h k =
    let one : p + suc d ≡ suc (p + d) = omega arith in
    let at : slice_get stack (suc (p + d)) ≡ Some g = subst (λ (n : ℕ). slice_get stack n ≡ Some g) one k in
    let (x, got) = get_before stack (p + d) g at in
    go x (reaches_on types stack leads d p f x h got) (leads (p + d) x g got at)
  where
    go : (x : Frame) → (f.structure ≡ x.structure) ⊎ ((m : ℕ) × (among (reached_to m types f.structure) x.structure ≡ true)) → among (parts types x.structure) g.structure ≡ true → (f.structure ≡ g.structure) ⊎ ((m : ℕ) × (among (reached_to m types f.structure) g.structure ≡ true))
    go x (inl e) q = inr (0, subst (λ (n : ℕ). among (parts types n) g.structure ≡ true) (sym e) q)
    go x (inr (m, r)) q = inr (suc m, reach_more types m f.structure x.structure g.structure r q)

-- a structure inside the one on top that is in the stack reaches itself
pub cycle_found : (types : List TypeDecl) (visits : List Visit) (stack : List Frame) (f : Frame) (j : ℕ) → IsSizing types visits (stack ++ f ∷ []) → slice_get visits j ≡ Some InProgress → among (parts types f.structure) j ≡ true → ReachesItself types j
cycle_found types visits stack f j w h q = (parts_there types f.structure j q, go (w.entered j h))
  where
    close : (x : Frame) → x.structure ≡ j → (x.structure ≡ f.structure) ⊎ ((m : ℕ) × (among (reached_to m types x.structure) f.structure ≡ true)) → reaches_itself types j ≡ true
    close x e (inl r) = reach_bounded types 0 j j (subst (λ (n : ℕ). among (parts types n) j ≡ true) (sym r ∙ e) q)
    close x e (inr (m, r)) = reach_bounded types (suc m) j j (reach_more types m j f.structure j (subst (λ (n : ℕ). among (reached_to m types n) f.structure ≡ true) e r) q)

    go : (p : ℕ) × ((x : Frame) × ((slice_get (stack ++ f ∷ []) p ≡ Some x) × (x.structure ≡ j))) → reaches_itself types j ≡ true
    go (p, (x, (r, s))) =
        let low : p < length (stack ++ f ∷ []) = slice_get_within (stack ++ f ∷ []) p x r in
        let far : p + (length stack - p) ≡ length stack = omega (arith, low, length-append stack (f ∷ [])) in
        let last : slice_get (stack ++ f ∷ []) (p + (length stack - p)) ≡ Some f = subst (λ (n : ℕ). slice_get (stack ++ f ∷ []) n ≡ Some f) (sym far) (get_last stack f) in
        close x s (reaches_on types (stack ++ f ∷ []) w.leads (length stack - p) p x f r last)

-- ---- each step has less left

pub remaining_sized : (visits : List Visit) (stack : List Frame) (f : Frame) (i size : ℕ) → i < length visits → remaining (slice_set visits i (Sized size)) stack < remaining visits (stack ++ f ∷ [])
remaining_sized visits stack f i size h = omega (arith, sum_by-set weight visits i (Sized size) InProgress h, length-append stack (f ∷ []))

pub remaining_entered : (visits : List Visit) (stack : List Frame) (f g b : Frame) (i : ℕ) → i < length visits → slice_get visits i ≡ Some Unvisited → remaining (slice_set visits i InProgress) ((stack ++ g ∷ []) ++ b ∷ []) < remaining visits (stack ++ f ∷ [])
remaining_entered visits stack f g b i h p =
    let unvisited : weight (get_or visits i InProgress) ≡ 2 = ap weight (get_or_from_slice_get visits i Unvisited InProgress p) in
    omega (arith, unvisited, sum_by-set weight visits i InProgress InProgress h, length-append stack (f ∷ []), length-append stack (g ∷ []), length-append (stack ++ g ∷ []) (b ∷ []))

pub visited_set : (visits : List Visit) (i : ℕ) (y : Visit) → (y ≡ Unvisited → ⊥) → (j : ℕ) → IsVisited visits j → IsVisited (slice_set visits i y) j
visited_set visits i y other j p q = go (get_set visits i j y Unvisited q)
  where
    go : ((i ≡ j) × (y ≡ Unvisited)) ⊎ ((i ≢ j) × (slice_get visits j ≡ Some Unvisited)) → ⊥
    go (inl (e, f)) = other f
    go (inr (e, f)) = p f

pub unvisited_else : (visits : List Visit) (i : ℕ) → i < length visits → ((size : ℕ) → slice_get visits i ≡ Some (Sized size) → ⊥) → (slice_get visits i ≡ Some InProgress → ⊥) → slice_get visits i ≡ Some Unvisited
unvisited_else [] i h p q = absurd (omega (arith, h))
unvisited_else (Unvisited ∷ ms) zero h p q = refl
unvisited_else (InProgress ∷ ms) zero h p q = absurd (q refl)
unvisited_else (Sized s ∷ ms) zero h p q = absurd (p s refl)
unvisited_else (m ∷ ms) (suc i) h p q = unvisited_else ms i (omega (arith, h)) p q

-- ---- a step

pub top_begun : (types : List TypeDecl) (visits : List Visit) (stack : List Frame) (f : Frame) → IsSizing types visits (stack ++ f ∷ []) → IsBegun types f
top_begun types visits stack f w = w.begun (length stack) f (get_last stack f)

pub step_sized : (types : List TypeDecl) (visits : List Visit) (stack : List Frame) (f g : Frame) (size : ℕ) → IsSizing types visits (stack ++ f ∷ []) → IsBegun types g → g.structure ≡ f.structure → drop g.next (types_at types g.structure) ≡ [] → size ≡ round_up 4 g.at → IsSizing types (slice_set visits g.structure (Sized size)) stack
step_sized types visits stack f g size w b same none e = top_sized types visits stack g size (frame_on types visits stack f g w b same) (rw e (sized_at_end types g b none))

pub step_entered : (types : List TypeDecl) (visits : List Visit) (stack : List Frame) (f g : Frame) (j : ℕ) → IsSizing types visits (stack ++ f ∷ []) → IsBegun types g → g.structure ≡ f.structure → among (parts types g.structure) j ≡ true → IsSizing types (slice_set visits j InProgress) ((stack ++ g ∷ []) ++ begin j ∷ [])
step_entered types visits stack f g j w b same p = begun_inside types visits (stack ++ g ∷ []) j (frame_on types visits stack f g w b same) (parts_there types g.structure j p) (λ q x h k. inside q x (get_split stack g q x h) k)
  where
    inside : (q : ℕ) (x : Frame) → (slice_get stack q ≡ Some x) ⊎ ((q ≡ length stack) × (g ≡ x)) → suc q ≡ length (stack ++ g ∷ []) → among (parts types x.structure) j ≡ true
    inside q x (inl r) k = absurd (omega (arith, k, slice_get_within stack q x r, length-append stack (g ∷ [])))
    inside q x (inr (r, s)) k = subst (λ (z : Frame). among (parts types z.structure) j ≡ true) s p

pub step_cycle : (types : List TypeDecl) (visits : List Visit) (stack : List Frame) (f g : Frame) (j : ℕ) → IsSizing types visits (stack ++ f ∷ []) → g.structure ≡ f.structure → among (parts types g.structure) j ≡ true → slice_get visits j ≡ Some InProgress → ReachesItself types j
step_cycle types visits stack f g j w same p o = cycle_found types visits stack f j w o (subst (λ (n : ℕ). among (parts types n) j ≡ true) same p)

pub inner_there : (types : List TypeDecl) (visits : List Visit) (i j : ℕ) → AreVisits types visits → among (parts types i) j ≡ true → j < length visits
inner_there types visits i j m p = rw m.many (parts_there types i j p)

-- ---- all structures

pub none_visited : (n i : ℕ) (m : Visit) → slice_get (replicate n Unvisited) i ≡ Some m → m ≡ Unvisited
none_visited zero i m h = absurd (cc h)
none_visited (suc n) zero m h = cc h
none_visited (suc n) (suc i) m h = none_visited n i m h

-- nothing is begun
pub all_unvisited : (types : List TypeDecl) (visits : List Visit) → visits ≡ replicate (length types) Unvisited → IsSizing types visits []
all_unvisited types visits e = record {
  known = record { many = rw e (length-replicate (length types) Unvisited); sized = λ i s h. absurd (cc (none_visited (length types) i (Sized s) (rw e at h))) };
  begun = λ p f h. absurd (cc h);
  entered = λ i h. absurd (cc (none_visited (length types) i InProgress (rw e at h)));
  leads = λ p f g h k. absurd (cc h);
}

-- every structure was looked at, and none is open: each has a size
pub all_sized : (types : List TypeDecl) (visits : List Visit) (sizes : List ℕ) → IsSizing types visits [] → ((i : ℕ) → i < length types → IsVisited visits i) → sizes ≡ map size_of_visit visits → (length sizes ≡ length types) × ((i : ℕ) → i < length types → IsSized types i (slice_index sizes i))
all_sized types visits sizes w visited e = (ap length e ∙ length-map visits size_of_visit ∙ w.known.many, λ i h. one i h (get_there visits i (rw w.known.many h)))
  where
    one : (i : ℕ) → i < length types → (m : Visit) × (slice_get visits i ≡ Some m) → IsSized types i (slice_index sizes i)
    one i h (Unvisited, q) = absurd (visited i h q)
    one i h (InProgress, q) = let (p, (f, (r, s))) = w.entered i q in absurd (cc r)
    one i h (Sized size, q) = subst (λ (n : ℕ). IsSized types i n) (sym (get_mapped size_of_visit visits i (Sized size) q) ∙ ap (λ (l : List ℕ). slice_index l i) (sym e)) (w.known.sized i size q)

pub visited_self : (visits : List Visit) (i : ℕ) (y : Visit) → (y ≡ Unvisited → ⊥) → IsVisited (slice_set visits i y) i
visited_self visits i y other q = go (get_set visits i i y Unvisited q)
  where
    go : ((i ≡ i) × (y ≡ Unvisited)) ⊎ ((i ≢ i) × (slice_get visits i ≡ Some Unvisited)) → ⊥
    go (inl (e, f)) = other f
    go (inr (e, f)) = e refl

pub first_begun : (types : List TypeDecl) (visits : List Visit) (i : ℕ) → IsSizing types visits [] → i < length types → IsSizing types (slice_set visits i InProgress) (begin i ∷ [])
first_begun types visits i w h = begun_inside types visits [] i w h (λ p f g k. absurd (cc g))
