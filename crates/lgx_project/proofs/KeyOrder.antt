-- An object that was read has its keys in order, and so each of them once.
use Rattle.std.proofs.Common.{◌≡◌, ℕ, List, [], ◌∷◌, Ordering, Less, Equal, Greater, Option, Some, None, option_map, option_and_then, refl, ap, ◌∙◌, subst}
use Rattle.std.specs.Prelude.{⊤}
use Rattle.std.specs.Cmp.Lexicographic.{slice_cmp}
use Rattle.std.specs.List.{AllByRecursion}
use Rattle.std.specs.List.Sorted.{IsStrictlySortedBy}
use Rattle.std.specs.Ordering.{nat_cmp, match_ordering, ordering_reverse}
use Rattle.std.proofs.lemmas.Cmp.{nat_list_cmp_total}
use Rattle.json.specs.Lex.{tokens}
use Rattle.json.specs.Json as json
use Rattle.serde_json.specs.Data.{Data, null, boolean, number, string, array, object, Items, no_items, item, Members, no_members, member, put}
use Rattle.serde_json.specs.Find.{get_member}
use Rattle.serde_json.specs.Read.{number_of, of_json, of_items, of_members, max_depth, read}
use Rattle.spec_project.specs.Judges.{keys}

abbrev pub AreInOrder : Members → Type 0
AreInOrder ms = IsStrictlySortedBy (slice_cmp nat_cmp) (keys ms)

-- each object in it has its keys in order
abbrev mutual
  pub IsOrdered : Data → Type 0
  IsOrdered null = ⊤
  IsOrdered (boolean b) = ⊤
  IsOrdered (number n) = ⊤
  IsOrdered (string s) = ⊤
  IsOrdered (array ds) = AreOrdered ds
  IsOrdered (object ms) = AreInOrder ms × MembersOrdered ms

  pub AreOrdered : Items → Type 0
  AreOrdered no_items = ⊤
  AreOrdered (item d ds) = IsOrdered d × AreOrdered ds

  pub MembersOrdered : Members → Type 0
  MembersOrdered no_members = ⊤
  MembersOrdered (member k d ms) = IsOrdered d × MembersOrdered ms

-- ---- a member put among others

abbrev AllAfter : List ℕ → List (List ℕ) → Type 0
AllAfter k ks = AllByRecursion (λ l. slice_cmp nat_cmp k l ≡ Less) ks

after_put_at : (o : Ordering) (m k l : List ℕ) (d e : Data) (ms : Members) → slice_cmp nat_cmp m k ≡ Less → AllAfter m (l ∷ keys ms) → AllAfter m (keys (put k d ms))
    → AllAfter m (keys (match_ordering o (member k d (member l e ms)) (member l d ms) (member l e (put k d ms))))
after_put_at Less m k l d e ms below all rest = (below, all)
after_put_at Equal m k l d e ms below all rest = all
after_put_at Greater m k l d e ms below all rest = (all.0, rest)

after_put : (m k : List ℕ) (d : Data) (ms : Members) → slice_cmp nat_cmp m k ≡ Less → AllAfter m (keys ms) → AllAfter m (keys (put k d ms))
after_put m k d no_members below all = (below, tt)
after_put m k d (member l e ms) below all = after_put_at (slice_cmp nat_cmp k l) m k l d e ms below all (after_put m k d ms below all.1)

all_after : (k l : List ℕ) (ks : List (List ℕ)) → slice_cmp nat_cmp k l ≡ Less → AllAfter l ks → AllAfter k ks
all_after k l [] below all = tt
all_after k l (m ∷ ks) below all = (nat_list_cmp_total.trans k l m below all.0, all_after k l ks below all.1)

in_order_put_at : (o : Ordering) (k l : List ℕ) (d e : Data) (ms : Members) → slice_cmp nat_cmp k l ≡ o → AreInOrder (member l e ms) → AreInOrder (put k d ms)
    → AreInOrder (match_ordering o (member k d (member l e ms)) (member l d ms) (member l e (put k d ms)))
unfolding IsStrictlySortedBy
in_order_put_at Less k l d e ms is all rest = ((is, all_after k l (keys ms) is all.0), all)
in_order_put_at Equal k l d e ms is all rest = all
in_order_put_at Greater k l d e ms is all rest =
    (after_put l k d ms (nat_list_cmp_total.antisymm l k ∙ ap ordering_reverse is) all.0, rest)

pub in_order_put : (k : List ℕ) (d : Data) (ms : Members) → AreInOrder ms → AreInOrder (put k d ms)
unfolding IsStrictlySortedBy
in_order_put k d no_members all = (tt, tt)
in_order_put k d (member l e ms) all = in_order_put_at (slice_cmp nat_cmp k l) k l d e ms refl all (in_order_put k d ms all.1)

ordered_put_at : (o : Ordering) (k l : List ℕ) (d e : Data) (ms : Members) → IsOrdered d → MembersOrdered (member l e ms) → MembersOrdered (put k d ms)
    → MembersOrdered (match_ordering o (member k d (member l e ms)) (member l d ms) (member l e (put k d ms)))
ordered_put_at Less k l d e ms one all rest = (one, all)
ordered_put_at Equal k l d e ms one all rest = (one, all.1)
ordered_put_at Greater k l d e ms one all rest = (all.0, rest)

pub ordered_put : (k : List ℕ) (d : Data) (ms : Members) → IsOrdered d → MembersOrdered ms → MembersOrdered (put k d ms)
ordered_put k d no_members one all = (one, tt)
ordered_put k d (member l e ms) one all = ordered_put_at (slice_cmp nat_cmp k l) k l d e ms one all (ordered_put k d ms one all.1)

-- ---- what is read

abbrev Holds : {A : Type 0} → (A → Type 0) → Option A → Type 0
Holds P None = ⊤
Holds P (Some a) = P a

mapped : {A B : Type 0} (P : A → Type 0) (Q : B → Type 0) (h : A → B) → ((a : A) → P a → Q (h a)) → (o : Option A) → Holds P o → Holds Q (option_map h o)
mapped P Q h k None x = tt
mapped P Q h k (Some a) x = k a x

chained : {A B : Type 0} (P : A → Type 0) (Q : B → Type 0) (h : A → Option B) → ((a : A) → P a → Holds Q (h a)) → (o : Option A) → Holds P o → Holds Q (option_and_then h o)
chained P Q h k None x = tt
chained P Q h k (Some a) x = k a x

anything : {A : Type 0} (o : Option A) → Holds (λ _. ⊤) o
anything None = tt
anything (Some a) = tt

abbrev AreWhole : Members → Type 0
AreWhole ms = AreInOrder ms × MembersOrdered ms

none_in_order : AreWhole no_members
unfolding IsStrictlySortedBy
none_in_order = (tt, tt)

mutual
  ordered_json : (j : json.Json) → Holds IsOrdered (of_json j)
  ordered_json json.null = tt
  ordered_json (json.boolean b) = tt
  ordered_json (json.number s) = mapped (λ _. ⊤) IsOrdered number (λ n x. tt) (number_of s) (anything (number_of s))
  ordered_json (json.string s) = tt
  ordered_json (json.array js) = mapped AreOrdered IsOrdered array (λ ds x. x) (of_items js) (ordered_items js)
  ordered_json (json.object ms) = mapped AreWhole IsOrdered object (λ ms x. x) (of_members ms no_members) (ordered_members ms no_members none_in_order)

  ordered_items : (js : json.Items) → Holds AreOrdered (of_items js)
  ordered_items json.no_items = tt
  ordered_items (json.item j js) =
      chained IsOrdered AreOrdered (λ d. option_map (item d) (of_items js)) (λ d x. mapped AreOrdered AreOrdered (item d) (λ ds y. (x, y)) (of_items js) (ordered_items js)) (of_json j) (ordered_json j)

  ordered_members : (ms : json.Members) (found : Members) → AreWhole found → Holds AreWhole (of_members ms found)
  ordered_members json.no_members found h = h
  ordered_members (json.member k j ms) found h =
      chained IsOrdered AreWhole (λ d. of_members ms (put k d found)) (λ d x. ordered_members ms (put k d found) (in_order_put k d found h.0, ordered_put k d found x h.1)) (of_json j) (ordered_json j)

pub ordered_read : (text : List ℕ) (d : Data) → read text ≡ Some d → IsOrdered d
ordered_read text d e =
    let o = option_and_then (λ p. json.if_last p.0 p.1) (json.value max_depth (tokens text)) in
    subst (Holds IsOrdered) e (chained (λ _. ⊤) IsOrdered of_json (λ j x. ordered_json j) o (anything o))

-- ---- looking for a key

-- no other member has the key of the first
pub not_later : (k : List ℕ) (ms : Members) → AllAfter k (keys ms) → get_member k ms ≡ None
not_later k no_members all = refl
not_later k (member l e ms) all = rw all.0 (not_later k ms all.1)
