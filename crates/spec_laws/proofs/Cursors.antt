-- The instructions that a routine in progress has to come, in the order of the text; settling keeps them.
use Rattle.std.proofs.Common.{◌≡◌, ◌||◌, Bool, false, List, [], ◌∷◌, ◌++◌, refl, sym, ◌∙◌, ap}
use Rattle.std.specs.Prelude.{flat_map, ⊤}
use Rattle.std.proofs.lemmas.List.{append_assoc}
use Rattle.lgx_rung.specs.Tree.{Tree, end, one, fork, Legs, last, leg, instructions, leg_instructions}
use Rattle.lgx_rung.specs.declared.ins.Ins.{Ins}
use Rattle.spec_scan.specs.Position.{Rungs, OpenFork, Cursor, along, along_legs, joined, next_rung, settled}

-- those of the open forks, the innermost first
abbrev pub in_forks : List OpenFork → List Ins
in_forks [] = []
in_forks (k ∷ ks) = leg_instructions k.legs ++ (instructions k.after ++ in_forks ks)

abbrev pub behind : List OpenFork → Rungs → List Ins
behind forks rungs = in_forks forks ++ flat_map instructions rungs

abbrev pub to_come : Cursor → List Ins
to_come c = instructions c.rest ++ behind c.forks c.rungs

-- it stands before an instruction, or nothing is to come
abbrev pub Stops : Tree Ins → List Ins → Type 0
Stops (one i rest) coming = ⊤
Stops _ coming = coming ≡ []

pub record Comes (c : Cursor) (all : List Ins) : Type 0 where
  pub coming : to_come c ≡ all
  pub stops : Stops c.rest (to_come c)

-- the same instructions
same : (c : Cursor) (xs ys : List Ins) → xs ≡ ys → Comes c xs → Comes c ys
same c xs ys e h = record { coming = h.coming ∙ e; stops = h.stops }

-- ---- lists end to end

inner_flat : (legs after forks rungs : List Ins) → (legs ++ (after ++ forks)) ++ rungs ≡ legs ++ (after ++ (forks ++ rungs))
inner_flat legs after forks rungs = append_assoc legs (after ++ forks) rungs ∙ ap (λ (xs : List Ins). legs ++ xs) (append_assoc after forks rungs)

fork_flat : (t legs rest forks rungs : List Ins) → t ++ ((legs ++ (rest ++ forks)) ++ rungs) ≡ (t ++ (legs ++ rest)) ++ (forks ++ rungs)
fork_flat t legs rest forks rungs =
    ap (λ (xs : List Ins). t ++ xs) (inner_flat legs rest forks rungs ∙ sym (append_assoc legs rest (forks ++ rungs))) ∙ sym (append_assoc t (legs ++ rest) (forks ++ rungs))

-- ---- settling

mutual
  along_comes : (t : Tree Ins) (on : Bool) (forks : List OpenFork) (rungs : Rungs) (next : Bool → Cursor) → ((b : Bool) → Comes (next b) (behind forks rungs)) → Comes (along t on forks rungs next) (instructions t ++ behind forks rungs)
  along_comes end on forks rungs next k = k on
  along_comes (one i rest) on forks rungs next k = record { coming = refl; stops = tt }
  along_comes (fork t legs rest) on forks rungs next k =
      let inner = behind (record { legs = legs; start = on; any = false; after = rest } ∷ forks) rungs in
      let flat : instructions t ++ inner ≡ (instructions t ++ (leg_instructions legs ++ instructions rest)) ++ behind forks rungs = fork_flat (instructions t) (leg_instructions legs) (instructions rest) (in_forks forks) (flat_map instructions rungs) in
      same _ (instructions t ++ inner) _ flat
      (along_comes t on (record { legs = legs; start = on; any = false; after = rest } ∷ forks) rungs _
      (λ on'. same _ (leg_instructions legs ++ (instructions rest ++ behind forks rungs)) inner (sym (inner_flat (leg_instructions legs) (instructions rest) (in_forks forks) (flat_map instructions rungs)))
      (legs_come legs on on' rest forks rungs _ (λ any. along_comes rest any forks rungs next k))))

  legs_come : (legs : Legs Ins) (start any : Bool) (after : Tree Ins) (forks : List OpenFork) (rungs : Rungs) (next : Bool → Cursor) → ((b : Bool) → Comes (next b) (instructions after ++ behind forks rungs)) → Comes (along_legs legs start any after forks rungs next) (leg_instructions legs ++ (instructions after ++ behind forks rungs))
  legs_come last start any after forks rungs next k = k any
  legs_come (leg t legs) start any after forks rungs next k =
      let inner = behind (record { legs = legs; start = start; any = any; after = after } ∷ forks) rungs in
      let coming = leg_instructions legs ++ (instructions after ++ behind forks rungs) in
      same _ (instructions t ++ inner) _ (ap (λ (xs : List Ins). instructions t ++ xs) (inner_flat (leg_instructions legs) (instructions after) (in_forks forks) (flat_map instructions rungs)) ∙ sym (append_assoc (instructions t) (leg_instructions legs) (instructions after ++ behind forks rungs)))
      (along_comes t start (record { legs = legs; start = start; any = any; after = after } ∷ forks) rungs _
      (λ on. same _ coming inner (sym (inner_flat (leg_instructions legs) (instructions after) (in_forks forks) (flat_map instructions rungs)))
      (legs_come legs start (any || on) after forks rungs next k)))

joined_comes : (ks : List OpenFork) (on : Bool) (rungs : Rungs) (next : Bool → Cursor) → ((b : Bool) → Comes (next b) (flat_map instructions rungs)) → Comes (joined ks on rungs next) (behind ks rungs)
joined_comes [] on rungs next k = k on
joined_comes (x ∷ ks) on rungs next k =
    same _ (leg_instructions x.legs ++ (instructions x.after ++ behind ks rungs)) _ (sym (inner_flat (leg_instructions x.legs) (instructions x.after) (in_forks ks) (flat_map instructions rungs)))
    (legs_come x.legs x.start (x.any || on) x.after ks rungs _ (λ any. along_comes x.after any ks rungs _ (λ on'. joined_comes ks on' rungs next k)))

pub next_comes : (start : Bool) (rungs : Rungs) (on : Bool) → Comes (next_rung start rungs on) (flat_map instructions rungs)
next_comes start [] on = record { coming = refl; stops = refl }
next_comes start (r ∷ rs) on = along_comes r start [] rs (next_rung start rs) (λ b. next_comes start rs b)

pub settled_comes : (start : Bool) (c : Cursor) → Comes (settled start c) (to_come c)
settled_comes start c = along_comes c.rest c.on c.forks c.rungs _ (λ on. joined_comes c.forks on c.rungs _ (λ b. next_comes start c.rungs b))
