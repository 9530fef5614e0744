-- What lanes did before the last action.
use Rattle.std.proofs.Common.{◌≡◌, ℕ, zero, suc, ◌+◌, ◌<◌, ◌≤◌, List, [], ◌∷◌, ◌++◌, length, get_or, take, map, refl, sym, ◌∙◌, ap, subst, arith}
use Rattle.std.specs.List.{AllZip}
use Rattle.std.proofs.lemmas.List.{map-append, same_from_push, take_more, length_push}
use Rattle.spec_machine.specs.declared.event.Action.{Action}
use Rattle.spec_machine.specs.declared.event.Event.{Event}
use Rattle.spec_machine.specs.declared.event.Event.TheVariants.{Act}
use Rattle.spec_text.specs.declared.script.Timed.{Timed}
use Rattle.spec_schedule.specs.Partial.{Made, made_by, LaneDid}
use Rattle.spec_lanes.specs.Turns.{done_by, ticks_of}
use Rattle.spec_lanes.proofs.LaneLists.{did_count}
use Rattle.spec_lanes.proofs.Appended.{made_own, made_now}

pub zip_pop : {A B : Type 0} (R : A → B → Type 0) (xs : List A) (ys : List B) (x : A) (y : B) → AllZip R (xs ++ x ∷ []) (ys ++ y ∷ []) → AllZip R xs ys × R x y
zip_pop R [] [] x y h = (tt, h.0)
zip_pop R [] (b ∷ []) x y h = absurd h.1
zip_pop R [] (b ∷ c ∷ bs) x y h = absurd h.1
zip_pop R (a ∷ []) [] x y h = absurd h.1
zip_pop R (a ∷ c ∷ rest) [] x y h = absurd h.1
zip_pop R (a ∷ rest) (b ∷ bs) x y h = let r = zip_pop R rest bs x y h.1 in ((h.0, r.0), r.1)

-- The last action is the next of the lane's list, and its tick had come; what was before is what the lane did with one fewer.
pub record DidBefore (journal : List Event) (lane : ℕ) (a : Action) (count : ℕ) (list : List Timed) : Type 0 where
  pub fewer : count ≡ done_by lane journal + 1
  pub timed : Timed
  pub within : done_by lane journal < length list
  pub next : get_or list (done_by lane journal) timed ≡ timed
  pub is : timed.action ≡ a
  pub come : timed.at ≤ ticks_of journal
  pub did : LaneDid journal lane (done_by lane journal) list

pub did_before : (journal : List Event) (lane : ℕ) (a : Action) (count : ℕ) (list : List Timed) → LaneDid (journal ++ Act lane a ∷ []) lane count list → DidBefore journal lane a count list
did_before journal lane a count list h =
    let made : List Made = made_by lane 0 journal in
    let now : Made = made_now a (ticks_of journal) in
    let own : made_by lane 0 (journal ++ Act lane a ∷ []) ≡ made ++ now ∷ [] = made_own lane a journal in
    let c : ℕ = done_by lane journal in
    let fewer : count ≡ c + 1 = sym (did_count (journal ++ Act lane a ∷ []) lane count list h) ∙ (ap (λ (ms : List Made). length ms) own ∙ length_push made now) in
    let enough = h.enough in
    let within : c < length list = omega arith in
    let d : Timed = record { at = 0; action = a } in
    let t : Timed = get_or list c d in
    let taken : take count list ≡ take c list ++ t ∷ [] = ap (λ n. take n list) fewer ∙ take_more list c d within in
    let order : map (λ (m : Made). m.action) made ++ a ∷ [] ≡ map (λ (x : Timed). x.action) (take c list) ++ t.action ∷ [] =
    sym (map-append (λ (m : Made). m.action) made (now ∷ []))
    ∙ (sym (ap (map (λ (m : Made). m.action)) own)
    ∙ (h.order
    ∙ (ap (map (λ (x : Timed). x.action)) taken ∙ map-append (λ (x : Timed). x.action) (take c list) (t ∷ [])))) in
    let acts = same_from_push (map (λ (m : Made). m.action) made) (map (λ (x : Timed). x.action) (take c list)) a t.action order in
    let zipped : AllZip (λ m x. x.at ≤ m.ticks) (made ++ now ∷ []) (take c list ++ t ∷ []) =
    subst (λ (ts : List Timed). AllZip (λ m x. x.at ≤ m.ticks) (made ++ now ∷ []) ts) taken
    (subst (λ (ms : List Made). AllZip (λ m x. x.at ≤ m.ticks) ms (take count list)) own h.due) in
    let due = zip_pop (λ m x. x.at ≤ m.ticks) made (take c list) now t zipped in
    record {
      fewer = fewer;
      timed = t;
      within = within;
      next = same_default list c d t within;
      is = sym acts.1;
      come = due.1;
      did = record { enough = omega arith; order = acts.0; due = due.0 };
    }
  where
    same_default : (list : List Timed) (i : ℕ) (d e : Timed) → i < length list → get_or list i e ≡ get_or list i d
    same_default [] i d e lt = absurd (omega arith)
    same_default (x ∷ xs) zero d e lt = refl
    same_default (x ∷ xs) (suc i) d e lt = same_default xs i d e (omega arith)
