-- What was made of nodes is among the nodes.
use Rattle.std.proofs.Common.{◌≡◌, ℕ, zero, suc, ◌+◌, ◌<◌, ◌≤◌, ◌⊎◌, inl, inr, List, [], ◌∷◌, ◌++◌, length, get_or, Option, Some, None, refl, sym, ◌∙◌, ap, subst, arith, length-append}
use Rattle.std.specs.Prelude.{Result, Ok, Err, IfErr, IsErrAnd, IfSome, IsTrue, slice_get}
use Rattle.std.specs.List.{Contains}
use Rattle.std.proofs.lemmas.Bool.{cases_lt}
use Rattle.std.proofs.lemmas.List.{append-nil, append_assoc, get_or_append_left, get_or_past}
use Rattle.std.proofs.lemmas.List.Elements.{Contains-append_left, Contains-push}
use Rattle.spec_machine.specs.declared.event.Action.{Action}
use Rattle.spec_machine.specs.declared.event.Event.TheVariants.{Act}
use Rattle.spec_machine.specs.Events.{steps_of}
use Rattle.spec_text.specs.declared.script.Timed.{Timed}
use Rattle.spec_machine.specs.Project.{Project}
use Rattle.spec_machine.specs.ValidProject.{IsValidProject}
use Rattle.spec_text.specs.Scripts.{Script, is_script}
use Rattle.spec_lanes.specs.Turns.{lane_of, done_by, if_due, due_action, paced_step, most_steps}
use Rattle.spec_lanes.specs.Laws.{with_one_more}
use Rattle.spec_explore.specs.declared.question.Question.{Question}
use Rattle.spec_explore.specs.Questions.{IsNeverBefore}
use Rattle.spec_explore.specs.Layers.{Goes, Steps, Acts, IsDone}
use Rattle.spec_explore.proofs.Layers.{layers_begin, layers_go_on, layers_end, layers_are_few}
use Rattle.lgx_explore.specs.declared.halt.Full.{Full}
use Rattle.lgx_explore.specs.declared.halt.Full.TheVariants as full
use Rattle.lgx_explore.specs.declared.node.Next.{Next}
use Rattle.lgx_explore.specs.declared.node.Stop.{Stop}
use Rattle.lgx_explore.specs.declared.node.Stop.TheVariants as stops
use Rattle.lgx_explore.specs.Shown.{IfShown, IsAction, stop_of}
use Rattle.lgx_explore.specs.Nodes.{Stands, Keeps, NodeShows, ShowsAt, HasSame, AddsTo, IsActed, NoneIsDue, LaneActed, NodeActed, IsStepped, NoneIsStepped, NodeStepped, IsOpened}

-- the i-th node is one
pub same_place : {Node : Type 0} (xs : List Node) (i : ℕ) (x y : Node) → i < length xs → get_or xs i x ≡ x → get_or xs i y ≡ y → x ≡ y
same_place [] i x y lt a b = absurd (omega arith)
same_place (z ∷ zs) zero x y lt a b = sym a ∙ b
same_place (z ∷ zs) (suc i) x y lt a b = same_place zs i x y (omega arith) a b

-- one of a list is its first or one of the others
in_first : {Node : Type 0} (x : Node) (xs : List Node) (y : Node) → Contains (x ∷ xs) y → (x ≡ y) ⊎ Contains xs y
in_first x xs y (zero, lt, at) = inl at
in_first x xs y (suc i, lt, at) = inr (i, (omega arith), at)

module _ {Node : Type 0} (stands : Stands Node) (keeps : Keeps Node) (script : Script) (q : Question) where
  pub lane_acted : (nodes : List Node) (before node : Node) (lane : ℕ) → IsActed stands keeps script q node before lane → HasSame stands nodes node → LaneActed stands script q nodes before lane
  lane_acted nodes before node lane acted same p k counts journal layer s action due window =
      let h = acted p k counts journal layer s in
      let is : h.action ≡ action = cc (sym h.due ∙ due) in
      let m = h.made in
      subst (λ (a : Action). Goes p script q (λ n. stands n p) nodes (with_one_more counts lane) journal (Act lane a ∷ [])) is (record {
        clear = m.clear;
        has = record { node = same.node; among = same.among; is = same.also p (with_one_more counts lane) (journal ++ Act lane h.action ∷ []) m.stands_for };
      })

  pub lane_idle : (nodes : List Node) (before : Node) (lane : ℕ) → NoneIsDue stands script q before lane → LaneActed stands script q nodes before lane
  lane_idle nodes before lane none p k counts journal layer s action due window = absurd (none p k counts journal layer s action due window)

  -- more nodes leave what was made
  pub lane_stays : (old new : List Node) (before : Node) (lane : ℕ) → AddsTo stands old new → LaneActed stands script q old before lane → LaneActed stands script q new before lane
  lane_stays old new before lane adds acted p k counts journal layer s action due window =
      let g = acted p k counts journal layer s action due window in
      record {
        clear = g.clear;
        has = record { node = g.has.node; among = subst (λ (ns : List Node). Contains ns g.has.node) (sym adds.is) (Contains-append_left old adds.more g.has.node g.has.among); is = g.has.is };
      }

  pub lane_acted_at : (xs nodes : List Node) (i lane : ℕ) (before node made : Node) (o : Option Node) → i < length xs → get_or xs i before ≡ before → get_or xs i node ≡ node → IfSome o (λ n. IsActed stands keeps script q n before lane) → o ≡ Some made → HasSame stands nodes made → LaneActed stands script q nodes node lane
  lane_acted_at xs nodes i lane before node made o lt a b acted is has =
      let one : IsActed stands keeps script q made before lane = subst (λ (x : Option Node). IfSome x (λ n. IsActed stands keeps script q n before lane)) is acted in
      subst (λ (n : Node). LaneActed stands script q nodes n lane) (same_place xs i before node lt a b) (lane_acted nodes before made lane one has)

  -- ---- nodes that were added

  pub adds_none : (xs : List Node) → AddsTo stands xs xs
  adds_none xs = record { more = []; is = sym (append-nil xs) }

  pub adds_both : (xs ys zs : List Node) → AddsTo stands xs ys → AddsTo stands ys zs → AddsTo stands xs zs
  adds_both xs ys zs a b = record { more = a.more ++ b.more; is = b.is ∙ (ap (λ (ns : List Node). ns ++ b.more) a.is ∙ append_assoc xs a.more b.more) }

  pub adds_length : (xs ys : List Node) (i : ℕ) → AddsTo stands xs ys → i < length xs → i < length ys
  adds_length xs ys i a lt = let l = length-append xs a.more in let e : length ys ≡ length (xs ++ a.more) = ap (λ (ns : List Node). length ns) a.is in omega arith

  pub adds_at : (xs ys : List Node) (i : ℕ) (x : Node) → AddsTo stands xs ys → i < length xs → get_or xs i x ≡ x → get_or ys i x ≡ x
  adds_at xs ys i x a lt e = ap (λ (ns : List Node). get_or ns i x) a.is ∙ (get_or_append_left xs a.more x i lt ∙ e)

  pub adds_back : (xs ys : List Node) (i : ℕ) (x : Node) → AddsTo stands xs ys → i < length xs → get_or ys i x ≡ x → get_or xs i x ≡ x
  adds_back xs ys i x a lt e = sym (get_or_append_left xs a.more x i lt) ∙ (sym (ap (λ (ns : List Node). get_or ns i x) a.is) ∙ e)

  -- ---- all lanes

  -- the lanes below this number
  abbrev pub LanesActed : List Node → Node → ℕ → Type 0
  LanesActed nodes node k = (lane : ℕ) → lane < k → LaneActed stands script q nodes node lane

  pub lanes_stay : (xs ys : List Node) (node : Node) (k : ℕ) → AddsTo stands xs ys → LanesActed xs node k → LanesActed ys node k
  lanes_stay xs ys node k a h lane lt = lane_stays xs ys node lane a (h lane lt)

  pub one_lane_more : (nodes : List Node) (node : Node) (k : ℕ) → LanesActed nodes node k → LaneActed stands script q nodes node k → LanesActed nodes node (k + 1)
  one_lane_more nodes node k h here lane lt =
      elim (cases_lt lane k) [
        | inl before ↦ h lane before
        | inr now ↦ subst (λ i. LaneActed stands script q nodes node i) (let e : k ≡ lane = omega arith in e) here
      ]

  -- no lane of a higher number has an action
  pub all_lanes : (nodes : List Node) (node : Node) → LanesActed nodes node (length script.lanes) → NodeActed stands script q nodes node
  all_lanes nodes node h lane =
      elim (cases_lt lane (length script.lanes)) [
        | inl within ↦ h lane within
        | inr beyond ↦ lane_idle nodes node lane (λ p j counts journal layer s action due window.
            let past : lane_of script lane ≡ [] = get_or_past script.lanes lane [] beyond in
            let none : due_action p script journal lane ≡ None = ap (λ (ts : List Timed). if_due p journal lane (slice_get ts (done_by lane journal))) past in
            cc (sym none ∙ due))
      ]

  -- ---- all nodes

  -- the nodes below this number
  abbrev pub NodesActed : List Node → ℕ → Type 0
  NodesActed nodes k = (node : Node) (i : ℕ) → i < k → get_or nodes i node ≡ node → NodeActed stands script q nodes node

  pub one_node_more : (old new : List Node) (k : ℕ) → k < length old → AddsTo stands old new → NodesActed old k → ((node : Node) → get_or old k node ≡ node → NodeActed stands script q new node) → NodesActed new (k + 1)
  one_node_more old new k within adds h here node i lt at =
      elim (cases_lt i k) [
        | inl before ↦ (λ lane. lane_stays old new node lane adds (h node i before (adds_back old new i node adds (omega arith) at) lane))
        | inr now ↦
            (let same : i ≡ k = omega arith in
            here node (adds_back old new k node adds within (subst (λ j. get_or new j node ≡ node) same at)))
      ]

  pub all_nodes : (nodes : List Node) (k : ℕ) → length nodes ≤ k → NodesActed nodes k → (node : Node) → Contains nodes node → NodeActed stands script q nodes node
  all_nodes nodes k le h node among = let within = among.1 in h node among.0 (omega arith) among.2

  -- ---- steps

  pub node_idle : (nodes : List Node) (before : Node) → NoneIsStepped stands script q before → NodeStepped stands script q nodes before
  node_idle nodes before none p k counts journal layer s unspent window = absurd (none p k counts journal layer s unspent window)

  pub node_stepped : (nodes : List Node) (before made : Node) → IsStepped stands keeps script q made before → HasSame stands nodes made → NodeStepped stands script q nodes before
  node_stepped nodes before made stepped same p k counts journal layer s unspent window =
      let m = (stepped p k counts journal layer s).made in
      record {
        clear = m.clear;
        has = record { node = same.node; among = same.among; is = same.also p counts (journal ++ paced_step script.pace (steps_of journal + 1)) m.stands_for };
      }

  pub step_stays : (old new : List Node) (before : Node) → AddsTo stands old new → NodeStepped stands script q old before → NodeStepped stands script q new before
  step_stays old new before adds stepped p k counts journal layer s unspent window =
      let g = stepped p k counts journal layer s unspent window in
      record {
        clear = g.clear;
        has = record { node = g.has.node; among = subst (λ (ns : List Node). Contains ns g.has.node) (sym adds.is) (Contains-append_left old adds.more g.has.node g.has.among); is = g.has.is };
      }

  -- the last of the nodes were stepped, and these are left
  pub record AreStepped (nodes left next : List Node) : Type 0 where
    pub done : List Node
    pub is : nodes ≡ left ++ done
    pub stepped : (node : Node) → Contains done node → NodeStepped stands script q next node

  pub none_stepped : (nodes next : List Node) → AreStepped nodes nodes next
  none_stepped nodes next = record { done = []; is = sym (append-nil nodes); stepped = λ node among. none_in node among }
    where
      none_in : (node : Node) → Contains [] node → NodeStepped stands script q next node
      none_in node among = let within = among.1 in absurd (omega arith)

  -- the last that is left
  last_left : (nodes left rest done : List Node) (here : Node) → nodes ≡ left ++ done → left ≡ rest ++ here ∷ [] → nodes ≡ rest ++ here ∷ done
  last_left nodes left rest done here is last = is ∙ (ap (λ (ns : List Node). ns ++ done) last ∙ append_assoc rest (here ∷ []) done)

  pub last_among : (nodes left rest next : List Node) (here : Node) → AreStepped nodes left next → left ≡ rest ++ here ∷ [] → Contains nodes here
  last_among nodes left rest next here h last =
      subst (λ (ns : List Node). Contains ns here) (sym h.is)
      (Contains-append_left left h.done here (subst (λ (ns : List Node). Contains ns here) (sym last) (Contains-push rest here)))

  pub one_step_more : (nodes left rest old new : List Node) (here : Node) → AreStepped nodes left old → left ≡ rest ++ here ∷ [] → AddsTo stands old new → NodeStepped stands script q new here → AreStepped nodes rest new
  one_step_more nodes left rest old new here h last adds now = record {
    done = here ∷ h.done;
    is = last_left nodes left rest h.done here h.is last;
    stepped = λ node among. elim (in_first here h.done node among) [
      | inl same ↦ subst (λ (n : Node). NodeStepped stands script q new n) same now
      | inr before ↦ step_stays old new node adds (h.stepped node before)
    ];
  }

  pub all_steps : (nodes left next : List Node) → left ≡ [] → AreStepped nodes left next → (node : Node) → Contains nodes node → NodeStepped stands script q next node
  all_steps nodes left next none h node among =
      h.stepped node (subst (λ (ns : List Node). Contains ns node) (h.is ∙ ap (λ (ns : List Node). ns ++ h.done) none) among)

  -- ---- layers

  module _ (p : Project) (valid : IsValidProject p) (proper : IsTrue (is_script script)) where
    acts_of : (k : ℕ) (nodes : List Node) → ((node : Node) → Contains nodes node → NodeActed stands script q nodes node) → Acts p script q (λ n. stands n p) k nodes
    acts_of k nodes acted node counts journal lane action among is layer due window = acted node among lane p k counts journal layer is action due window

    steps_of_nodes : (k : ℕ) (nodes next : List Node) → ((node : Node) → Contains nodes node → NodeStepped stands script q next node) → Steps p script q (λ n. stands n p) k nodes next
    steps_of_nodes k nodes next stepped node counts journal among is layer unspent window = stepped node among p k counts journal layer is unspent window

    pub first_done : (nodes : List Node) (first : Node) → Contains nodes first → IsOpened stands keeps script q p first → ((node : Node) → Contains nodes node → NodeActed stands script q nodes node) → IsDone p script q (λ n. stands n p) 0 nodes
    first_done nodes first among opened acted =
        layers_begin p script q (λ n. stands n p) valid proper nodes
        (λ window. record { clear = opened.clear; has = record { node = first; among = among; is = opened.stands_for } })
        (acts_of 0 nodes acted)

    pub next_done : (k : ℕ) (nodes next : List Node) → IsDone p script q (λ n. stands n p) k nodes → ((node : Node) → Contains nodes node → NodeStepped stands script q next node) → ((node : Node) → Contains next node → NodeActed stands script q next node) → IsDone p script q (λ n. stands n p) (k + 1) next
    next_done k nodes next done stepped acted =
        layers_go_on p script q (λ n. stands n p) valid proper k nodes next done (steps_of_nodes k nodes next stepped) (acts_of (k + 1) next acted)

    pub all_done : (k : ℕ) (nodes : List Node) → most_steps script < k → IsDone p script q (λ n. stands n p) k nodes → (n : ℕ) → IsNeverBefore p script q n
    all_done k nodes gt done = layers_end p script q (λ n. stands n p) valid proper k (layers_are_few p script q (λ n. stands n p) valid proper k nodes gt done)

    pub empty_done : (k : ℕ) (nodes : List Node) → nodes ≡ [] → IsDone p script q (λ n. stands n p) k nodes → (n : ℕ) → IsNeverBefore p script q n
    empty_done k nodes none done = layers_end p script q (λ n. stands n p) valid proper k (subst (λ (ns : List Node). IsDone p script q (λ n. stands n p) k ns) none done)

pub pushed_has : {Node : Type 0} (stands : Stands Node) (old new : List Node) (node : Node) → new ≡ old ++ node ∷ [] → HasSame stands new node
pushed_has stands old new node is = record { node = node; among = subst (λ ns. Contains ns node) (sym is) (Contains-push old node); also = λ p counts journal h. h }

-- a line that the i-th node shows
pub shows_at : {Node : Type 0} (stands : Stands Node) (script : Script) (q : Question) (nodes : List Node) (i : ℕ) (before : Node) (stop : Stop) → i < length nodes → get_or nodes i before ≡ before → IfShown stop (λ made line. NodeShows stands script q before made line) → IfShown stop (λ made line. ShowsAt stands script q nodes i made line)
shows_at stands script q nodes i before (stops.Shown made line) lt at shows =
    record { within = lt; shows = λ node here. subst (λ n. NodeShows stands script q n made line) (same_place nodes i before node lt at here) shows }
shows_at stands script q nodes i before stops.Limit lt at shows = tt
shows_at stands script q nodes i before stops.Memory lt at shows = tt

pub action_shows_at : {Node : Type 0} (stands : Stands Node) (script : Script) (q : Question) (nodes : List Node) (i : ℕ) (before : Node) (stop : Stop) → i < length nodes → get_or nodes i before ≡ before → IfShown stop (λ made line. IsAction made × NodeShows stands script q before made line) → IfShown stop (λ made line. IsAction made × ShowsAt stands script q nodes i made line)
action_shows_at stands script q nodes i before (stops.Shown made line) lt at shows =
    (shows.0, shows_at stands script q nodes i before (stops.Shown made line) lt at shows.1)
action_shows_at stands script q nodes i before stops.Limit lt at shows = tt
action_shows_at stands script q nodes i before stops.Memory lt at shows = tt

-- an error that is handed on
pub err_on : {A B : Type 0} (r : Result A B) (e : B) (P : B → Type 0) → IsErrAnd r (λ x. x ≡ e) → P e → IfErr r P
err_on (Ok x) e P h k = absurd h
err_on (Err x) e P h k = subst P (sym h) k

pub empty : {A : Type 0} (xs : List A) → length xs ≡ 0 → xs ≡ []
empty [] e = refl
empty (x ∷ xs) e = absurd (omega arith)

-- a node that isn't added shows nothing
pub full_shows : (f : Full) (P : Next → ℕ → Type 0) → IfShown (stop_of f) P
full_shows full.Limit P = tt
full_shows full.Memory P = tt
