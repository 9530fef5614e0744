-- A text that is a link script joins two connections of as many words, so that what is said of a pair of connections is said of it.
use Rattle.std.proofs.Common.{◌≡◌, ℕ, ◌+◌, Bool, true, false, List, [], ◌∷◌, refl, sym, ◌∙◌, ap, subst, eqb-true}
use Rattle.std.specs.Prelude.{Option, Some, None, Result, Ok, Err, slice_get}
use Rattle.std.proofs.lemmas.Bool.{false≢true}
use Rattle.std.proofs.lemmas.Option.{same_Some}
use Rattle.spec_base.specs.FirstCause.{◌>>=◌, unless, some_or}
use Rattle.spec_tables.specs.declared.conn.ConnDef.{ConnDef}
use Rattle.spec_machine.specs.Project.{Project}
use Rattle.spec_text.specs.TextLines.{lines, words, is_skipped}
use Rattle.spec_text.specs.JournalText.{is_line}
use Rattle.spec_link.specs.declared.script.LinkCode.{LinkCode}
use Rattle.spec_link.specs.declared.script.LinkCode.TheVariants.{J1, U1}
use Rattle.spec_link.specs.declared.script.LinkFault.{LinkFault}
use Rattle.spec_link.specs.declared.script.LinkScript.{LinkScript}
use Rattle.spec_link.specs.declared.script.LinkStep.{LinkStep}
use Rattle.spec_link.specs.LinkText.{are_alike, are_joined, connection, header_of, read_header, refused, with_steps, steps_from, no_counts, link_from}
use Rattle.spec_link.specs.Links.{Link, opened, link_run}
use Rattle.spec_link.specs.LinkOutput.{pair_of, linked_journals}
use Rattle.spec_link.specs.Consumed.{AreDints, ScriptsKeepWhole}
use Rattle.spec_link.proofs.Lines.{run_over}
use Rattle.spec_link.proofs.Theorem.{consumes_whole}
use Rattle.spec_link.proofs.Whole.{sent_stays}

-- ---- the first line joins

Joined : Project → Project → LinkScript → Type 0
Joined a b s = are_joined a b s.output s.input ≡ true

joined_if : (a b : Project) (t s : LinkScript) (fits : Bool) → are_joined a b t.output t.input ≡ fits → ((unless fits U1) >>= (λ _. Ok t)) ≡ Ok s → Joined a b s
unfolding Joined
joined_if a b t s true is h = let e : t ≡ s = cc h in subst (λ (x : LinkScript). are_joined a b x.output x.input ≡ true) e is
joined_if a b t s false is h = absurd (cc h)

joined_header : (a b : Project) (o : Option LinkScript) (s : LinkScript)
    → ((some_or o J1) >>= (λ t. (unless (are_joined a b t.output t.input) U1) >>= (λ _. Ok t))) ≡ Ok s → Joined a b s
joined_header a b None s h = absurd (cc h)
joined_header a b (Some t) s h = joined_if a b t s (are_joined a b t.output t.input) refl h

joined_line : (a b : Project) (o : Option LinkScript) (short : Bool) (s : LinkScript)
    → ((unless short J1) >>= (λ _. (some_or o J1) >>= (λ t. (unless (are_joined a b t.output t.input) U1) >>= (λ _. Ok t)))) ≡ Ok s → Joined a b s
joined_line a b o true s h = joined_header a b o s h
joined_line a b o false s h = absurd (cc h)

with_steps_joined : (a b : Project) (t s : LinkScript) (r : Result (List LinkStep) LinkFault) → Joined a b t → with_steps t r ≡ Ok s → Joined a b s
unfolding Joined
with_steps_joined a b t s (Err e) is h = absurd (cc h)
with_steps_joined a b t s (Ok steps) is h =
    let e : record t { steps = steps } ≡ s = cc h in subst (λ (x : LinkScript). are_joined a b x.output x.input ≡ true) e is

abbrev after_header : ℕ → List (List ℕ) → Result LinkScript LinkCode → Result LinkScript LinkFault
after_header n ls (Err code) = refused n code
after_header n ls (Ok t) = with_steps t (steps_from (n + 1) no_counts ls)

joined_from : (a b : Project) (n : ℕ) (ls : List (List ℕ)) (s : LinkScript) → link_from a b n ls ≡ Ok s → Joined a b s
joined_from a b n [] s h = absurd (cc h)
joined_from a b n (l ∷ ls) s h = go (is_skipped l) (λ later. joined_from a b (n + 1) ls s later) h
  where
    by_header : (r : Result LinkScript LinkCode) → read_header a b l ≡ r → after_header n ls r ≡ Ok s → Joined a b s
    by_header (Err code) is e = absurd (cc e)
    by_header (Ok t) is e = with_steps_joined a b t s (steps_from (n + 1) no_counts ls) (joined_line a b (header_of (words l)) (is_line l) t is) e

    go : (skipped : Bool) → (link_from a b (n + 1) ls ≡ Ok s → Joined a b s)
        → ◌≡◌ {A = Result LinkScript LinkFault} (elim skipped [ true ↦ link_from a b (n + 1) ls | false ↦ after_header n ls (read_header a b l) ]) (Ok s) → Joined a b s
    go true rest e = rest e
    go false rest e = by_header (read_header a b l) refl e

-- ---- the two connections

-- the produced connection, where the consumed one is known
produced : (o i : Option ConnDef) (c : ConnDef) → are_alike o i ≡ true → i ≡ Some c → (d : ConnDef) × (o ≡ Some d) × (d.words ≡ c.words)
produced None i c h e = absurd (false≢true h)
produced (Some d) None c h e = absurd (cc e)
produced (Some d) (Some x) c h e = (d, refl, eqb-true d.words x.words h ∙ ap (λ (y : ConnDef). y.words) (same_Some _ _ e))

pub scripts_keep_whole : ScriptsKeepWhole
unfolding Joined
scripts_keep_whole a b bytes script valid_a valid_b law read dints c k xs ys steps input tag leaves =
    let l = pair_of a b script in
    let d = produced (connection a true script.output) (connection b false script.input) c (joined_from a b 1 (lines bytes) script read) input in
    let whole : linked_journals a b script ≡ link_run l (link_run l opened xs) ys = ap (λ (zs : List LinkStep). link_run l opened zs) (sym steps) ∙ run_over l opened xs ys in
    let so_far : AreDints (link_run l opened xs).sent =
    λ n words at. dints n words (ap (λ (s : Link). slice_get s.sent n) whole ∙ sent_stays l (link_run l opened xs) ys n words at) in
    consumes_whole l d.0 c k xs ys valid_a valid_b law (record { output = d.1; input = input; alike = d.2; tag = tag }) so_far leaves
