-- A text is written of its tokens, and the tokens of a text that is written of a rung's tokens are these.
use Rattle.std.proofs.Common.{◌≡◌, ℕ, ◌+◌, Bool, true, false, List, [], ◌∷◌, ◌++◌, reverse, refl, ap, sym, ◌∙◌, subst, append_assoc, Option, Some, None, IsTrue}
use Rattle.std.specs.Prelude.{◌==◌, if◌then◌else◌}
use Rattle.std.specs.List.{list_all}
use Rattle.std.proofs.lemmas.List.{append-nil, reverse-append}
use Rattle.std.proofs.lemmas.List.Folds.{list_all-append}
use Rattle.std.proofs.lemmas.Bool.{and_from, and_parts, eqb-true}
use Rattle.lgx_num.specs.Name.{is_letter}
use Rattle.lgx_rung.specs.declared.op.Op.{Op}
use Rattle.lgx_rung.specs.declared.op.Op.TheVariants.{Xic}
use Rattle.lgx_rung.specs.Mnemonics.{op_of, text_of}
use Rattle.lgx_rung.specs.Text.{IsSpelling, IsWritten, unplaced, list_tokens, leg_tokens, rung_tokens, operands, more_operands, canon_token, canon_tokens, canon, has_operands}
use Rattle.lgx_rung.specs.Tokens.{is_blank, is_operand_byte, is_operand, in_run, word, run_token, mark, inside_after, end_run, put_byte, put_mark, tokens_from, tokens, Token, Mnemonic, Letters, Operand, OpenFork, CloseFork, OpenParen, CloseParen, Comma, Semicolon, Stray, Placed}
use Rattle.lgx_rung.specs.Lexemes.{EndsRun}
use Rattle.lgx_rung.proofs.Bytes.{blank_in_run, run_first}
use Rattle.lgx_rung.specs.Tree.{end, one, fork, Legs, last, leg, instructions, leg_instructions, SourceIns, Source}

-- ---- a text is written of its tokens

pub reverse-cons : (b : ℕ) (bs : List ℕ) → reverse (b ∷ bs) ≡ reverse bs ++ b ∷ []
reverse-cons b bs = reverse-append (b ∷ []) bs

spelled_if : (b n : ℕ) (t u : Token) → IsSpelling t (n ∷ []) → IsSpelling u (b ∷ []) → IsSpelling (if b == n then t else u) (b ∷ [])
spelled_if b n t u h k = go (b == n) refl
  where
    go : (x : Bool) → (b == n) ≡ x → IsSpelling (if x then t else u) (b ∷ [])
    go true e = subst (λ c. IsSpelling t (c ∷ [])) (sym (eqb-true b n e)) h
    go false e = k

spelled_mark : (b : ℕ) → IsSpelling (mark b) (b ∷ [])
spelled_mark b =
    spelled_if b 91 OpenFork _ refl (spelled_if b 93 CloseFork _ refl (spelled_if b 40 OpenParen _ refl (
    spelled_if b 41 CloseParen _ refl (spelled_if b 44 Comma _ refl (spelled_if b 59 Semicolon Stray refl refl)))))

blank_before : (b : ℕ) (text : List ℕ) (ts : List Token) → is_blank b ≡ true → IsWritten text ts → IsWritten (b ∷ text) ts
blank_before b text [] h w = and_from (is_blank b) (list_all is_blank text) h w
blank_before b text (t ∷ ts) h w =
    (b ∷ w.0, w.1, w.2, (ap (λ x. b ∷ x) w.3.0, and_from (is_blank b) (list_all is_blank w.0) h w.3.1, w.3.2, w.3.3))

-- a run of letters or of operand bytes spells its token
spelled_word : (run : List ℕ) (o : Option Op) → IsTrue (list_all is_letter run) → op_of run ≡ o → IsSpelling (word o) run
spelled_word run None h e = (h, e)
spelled_word run (Some op) h e = (h, e)

operand_of : (x : List ℕ) (b : ℕ) (bs : List ℕ) → x ≡ bs ++ b ∷ [] → IsTrue (list_all is_operand_byte x) → IsTrue (is_operand x)
operand_of [] b [] e h = cc
operand_of [] b (c ∷ cs) e h = cc
operand_of (x ∷ xs) b bs e h = h

pub list_all-reverse : (p : ℕ → Bool) (xs : List ℕ) → IsTrue (list_all p xs) → IsTrue (list_all p (reverse xs))
list_all-reverse p [] h = refl
list_all-reverse p (x ∷ xs) h =
    ap (list_all p) (reverse-cons x xs) ∙ list_all-append p (reverse xs) (x ∷ [])
    ∙ and_from _ _ (list_all-reverse p xs (and_parts (p x) (list_all p xs) h).1) (and_from (p x) true (and_parts (p x) (list_all p xs) h).0 refl)

spelled_run : (inside : Bool) (b : ℕ) (bs : List ℕ) → IsTrue (list_all (in_run inside) (b ∷ bs)) → IsSpelling (run_token inside (reverse (b ∷ bs))) (reverse (b ∷ bs))
spelled_run true b bs h = (refl, operand_of (reverse (b ∷ bs)) b (reverse bs) (reverse-cons b bs) (list_all-reverse is_operand_byte (b ∷ bs) h))
spelled_run false b bs h = spelled_word (reverse (b ∷ bs)) (op_of (reverse (b ∷ bs))) (list_all-reverse is_letter (b ∷ bs) h) refl

written_run : (inside : Bool) (at : ℕ) (run text : List ℕ) (ts : List Placed) → IsTrue (list_all (in_run inside) run) → IsWritten text (unplaced ts)
    → IsWritten (reverse run ++ text) (unplaced (end_run inside at run ts))
written_run inside at [] text ts h w = w
written_run inside at (b ∷ bs) text ts h w = ([], reverse (b ∷ bs), text, (refl, refl, spelled_run inside b bs h, w))

-- the tokens of what follows are what it is written of
abbrev IsRest : List ℕ → Type 0
IsRest text = (inside : Bool) (at : ℕ) (run : List ℕ) → IsTrue (list_all (in_run inside) run) → IsWritten (reverse run ++ text) (unplaced (tokens_from text inside at run))

written_byte : (x y : Bool) (b : ℕ) (bs : List ℕ) → IsRest bs → (inside : Bool) (at : ℕ) (run : List ℕ) → in_run inside b ≡ x → is_blank b ≡ y → IsTrue (list_all (in_run inside) run)
    → IsWritten (reverse run ++ b ∷ bs) (unplaced (put_byte x y b (tokens_from bs) inside at run))
written_byte true y b bs rest inside at run e f h =
    subst (λ text. IsWritten text (unplaced (tokens_from bs inside (at + 1) (b ∷ run)))) (ap (λ x. x ++ bs) (reverse-cons b run) ∙ append_assoc (reverse run) (b ∷ []) bs)
    (rest inside (at + 1) (b ∷ run) (and_from (in_run inside b) (list_all (in_run inside) run) e h))
written_byte false true b bs rest inside at run e f h =
    written_run inside at run (b ∷ bs) (tokens_from bs inside (at + 1) []) h (blank_before b bs (unplaced (tokens_from bs inside (at + 1) [])) f (rest inside (at + 1) [] refl))
written_byte false false b bs rest inside at run e f h =
    written_run inside at run (b ∷ bs) (put_mark inside at (mark b) (tokens_from bs)) h
    ([], b ∷ [], bs, (refl, refl, spelled_mark b, rest (inside_after inside (mark b)) (at + 1) [] refl))

written_from : (text : List ℕ) → IsRest text
written_from [] inside at run h = written_run inside at run [] [] h refl
written_from (b ∷ bs) inside at run h = written_byte (in_run inside b) (is_blank b) b bs (written_from bs) inside at run refl refl h

pub written_of_tokens : (text : List ℕ) → IsWritten text (unplaced (tokens text))
written_of_tokens text = written_from text false 0 [] refl

-- ---- the tokens of a text that is written of a rung's tokens

-- tokens that a reading of bytes tells apart: a run stands where such runs are read, and a mark follows it
abbrev IsMark : Token → Type 0
IsMark OpenParen = Unit {0}
IsMark CloseParen = Unit {0}
IsMark Comma = Unit {0}
IsMark Semicolon = Unit {0}
IsMark _ = ⊥

abbrev StartsByMark : List Token → Type 0
StartsByMark [] = ⊥
StartsByMark (t ∷ ts) = IsMark t

abbrev IsApart : Bool → List Token → Type 0
IsApart inside [] = Unit {0}
IsApart false (Mnemonic op ∷ ts) = StartsByMark ts × IsApart false ts
IsApart true (Operand x ∷ ts) = StartsByMark ts × IsApart true ts
IsApart false (OpenFork ∷ ts) = IsApart false ts
IsApart false (CloseFork ∷ ts) = IsApart false ts
IsApart inside (OpenParen ∷ ts) = IsApart true ts
IsApart inside (CloseParen ∷ ts) = IsApart false ts
IsApart inside (Comma ∷ ts) = IsApart inside ts
IsApart inside (Semicolon ∷ ts) = IsApart inside ts
IsApart _ _ = ⊥

apart_more : (xs : List (List ℕ)) (ts : List Token) → IsApart true (CloseParen ∷ ts) → StartsByMark (more_operands xs ++ CloseParen ∷ ts) × IsApart true (more_operands xs ++ CloseParen ∷ ts)
apart_more [] ts h = (tt, h)
apart_more (x ∷ xs) ts h = (tt, apart_more xs ts h)

apart_operands : (xs : List (List ℕ)) (ts : List Token) → IsApart true (CloseParen ∷ ts) → IsApart true (operands xs ++ CloseParen ∷ ts)
apart_operands [] ts h = h
apart_operands (x ∷ xs) ts h = apart_more xs ts h

mutual
  apart_list : (t : Source) (ts : List Token) → IsApart false ts → IsApart false (list_tokens t ++ ts)
  apart_list end ts h = h
  apart_list (one i rest) ts h =
      (tt, subst (IsApart true) (sym (append_assoc (operands i.texts) (CloseParen ∷ list_tokens rest) ts)) (apart_operands i.texts (list_tokens rest ++ ts) (apart_list rest ts h)))
  apart_list (fork t legs rest) ts h =
      subst (IsApart false) (sym (append_assoc (list_tokens t) (leg_tokens legs ++ CloseFork ∷ list_tokens rest) ts ∙ ap (λ x. list_tokens t ++ x) (append_assoc (leg_tokens legs) (CloseFork ∷ list_tokens rest) ts)))
      (apart_list t (leg_tokens legs ++ CloseFork ∷ (list_tokens rest ++ ts)) (apart_legs legs (CloseFork ∷ (list_tokens rest ++ ts)) (apart_list rest ts h)))

  apart_legs : (legs : Legs SourceIns) (ts : List Token) → IsApart false ts → IsApart false (leg_tokens legs ++ ts)
  apart_legs last ts h = h
  apart_legs (leg t legs) ts h =
      subst (IsApart false) (sym (append_assoc (list_tokens t) (leg_tokens legs) ts)) (apart_list t (leg_tokens legs ++ ts) (apart_legs legs ts h))

apart_rung : (r : Source) → IsApart false (rung_tokens r)
apart_rung r = apart_list r (Semicolon ∷ []) tt

-- at every place these tokens
abbrev Gives : List ℕ → (inside : Bool) → (run : List ℕ) → List Token → Type 0
Gives text inside run ts = (at : ℕ) → unplaced (tokens_from text inside at run) ≡ ts

over_blanks : (blanks text : List ℕ) (inside : Bool) (ts : List Token) → IsTrue (list_all is_blank blanks) → Gives text inside [] ts → Gives (blanks ++ text) inside [] ts
over_blanks [] text inside ts h g at = g at
over_blanks (b ∷ bs) text inside ts h g at =
    let parts = and_parts (is_blank b) (list_all is_blank bs) h in
    ap (λ x. unplaced (put_byte x (is_blank b) b (tokens_from (bs ++ text)) inside at [])) (blank_in_run inside b parts.0)
    ∙ ap (λ x. unplaced (put_byte false x b (tokens_from (bs ++ text)) inside at [])) parts.0
    ∙ over_blanks bs text inside ts parts.1 g (at + 1)

-- bytes of a run, put after those before them
abbrev pub onto : List ℕ → List ℕ → List ℕ
onto [] run = run
onto (b ∷ bs) run = onto bs (b ∷ run)

pub reverse-onto : (bs run : List ℕ) → reverse (onto bs run) ≡ reverse run ++ bs
reverse-onto [] run = sym (append-nil (reverse run))
reverse-onto (b ∷ bs) run = reverse-onto bs (b ∷ run) ∙ ap (λ x. x ++ bs) (reverse-cons b run) ∙ append_assoc (reverse run) (b ∷ []) bs

over_run : (bytes text : List ℕ) (inside : Bool) (run : List ℕ) (ts : List Token) → IsTrue (list_all (in_run inside) bytes) → Gives text inside (onto bytes run) ts → Gives (bytes ++ text) inside run ts
over_run [] text inside run ts h g at = g at
over_run (b ∷ bs) text inside run ts h g at =
    let parts = and_parts (in_run inside b) (list_all (in_run inside) bs) h in
    ap (λ x. unplaced (put_byte x (is_blank b) b (tokens_from (bs ++ text)) inside at run)) parts.0
    ∙ over_run bs text inside (b ∷ run) ts parts.1 g (at + 1)

run_ended : (y : Bool) (b : ℕ) (bs : List ℕ) (inside : Bool) (at c : ℕ) (cs : List ℕ)
    → unplaced (put_byte false y b (tokens_from bs) inside at (c ∷ cs)) ≡ run_token inside (reverse (c ∷ cs)) ∷ unplaced (put_byte false y b (tokens_from bs) inside at [])
run_ended y b bs inside at c cs = ap unplaced (run_first y b bs inside at c cs)

end_of_run : (text : List ℕ) (inside : Bool) (c : ℕ) (cs : List ℕ) (ts : List Token) → EndsRun inside text → Gives text inside [] ts → Gives text inside (c ∷ cs) (run_token inside (reverse (c ∷ cs)) ∷ ts)
end_of_run [] inside c cs ts h g at = ap (λ x. run_token inside (reverse (c ∷ cs)) ∷ x) (g at)
end_of_run (b ∷ bs) inside c cs ts h g at =
    ap (λ x. unplaced (put_byte x (is_blank b) b (tokens_from bs) inside at (c ∷ cs))) h
    ∙ run_ended (is_blank b) b bs inside at c cs
    ∙ ap (λ x. run_token inside (reverse (c ∷ cs)) ∷ unplaced (put_byte x (is_blank b) b (tokens_from bs) inside at [])) (sym h)
    ∙ ap (λ x. run_token inside (reverse (c ∷ cs)) ∷ x) (g at)

mark_ends_run : (t : Token) (inside : Bool) (bytes rest : List ℕ) → IsMark t → IsSpelling t bytes → EndsRun inside (bytes ++ rest)
mark_ends_run OpenParen true bytes rest m h = subst (λ x. EndsRun true (x ++ rest)) (sym h) refl
mark_ends_run OpenParen false bytes rest m h = subst (λ x. EndsRun false (x ++ rest)) (sym h) refl
mark_ends_run CloseParen true bytes rest m h = subst (λ x. EndsRun true (x ++ rest)) (sym h) refl
mark_ends_run CloseParen false bytes rest m h = subst (λ x. EndsRun false (x ++ rest)) (sym h) refl
mark_ends_run Comma true bytes rest m h = subst (λ x. EndsRun true (x ++ rest)) (sym h) refl
mark_ends_run Comma false bytes rest m h = subst (λ x. EndsRun false (x ++ rest)) (sym h) refl
mark_ends_run Semicolon true bytes rest m h = subst (λ x. EndsRun true (x ++ rest)) (sym h) refl
mark_ends_run Semicolon false bytes rest m h = subst (λ x. EndsRun false (x ++ rest)) (sym h) refl
mark_ends_run (Mnemonic op) inside bytes rest m h = absurd m
mark_ends_run Letters inside bytes rest m h = absurd m
mark_ends_run (Operand x) inside bytes rest m h = absurd m
mark_ends_run OpenFork inside bytes rest m h = absurd m
mark_ends_run CloseFork inside bytes rest m h = absurd m
mark_ends_run Stray inside bytes rest m h = absurd m

blanks_end_run : (blanks text : List ℕ) (inside : Bool) → IsTrue (list_all is_blank blanks) → EndsRun inside text → EndsRun inside (blanks ++ text)
blanks_end_run [] text inside h e = e
blanks_end_run (b ∷ bs) text inside h e = blank_in_run inside b (and_parts (is_blank b) (list_all is_blank bs) h).0

written_ends_run : (text : List ℕ) (ts : List Token) (inside : Bool) → StartsByMark ts → IsWritten text ts → EndsRun inside text
written_ends_run text [] inside s w = absurd s
written_ends_run text (t ∷ ts) inside s w =
    subst (EndsRun inside) (sym w.3.0) (blanks_end_run w.0 (w.1 ++ w.2) inside w.3.1 (mark_ends_run t inside w.1 w.2 s w.3.2))

run_ends : (run text : List ℕ) (inside : Bool) (b : ℕ) (bs : List ℕ) (ts : List Token) → reverse run ≡ b ∷ bs → EndsRun inside text → Gives text inside [] ts
    → Gives text inside run (run_token inside (b ∷ bs) ∷ ts)
run_ends [] text inside b bs ts e h g = cc
run_ends (c ∷ cs) text inside b bs ts e h g = subst (λ x. Gives text inside (c ∷ cs) (run_token inside x ∷ ts)) e (end_of_run text inside c cs ts h g)

run_gives : (bytes text : List ℕ) (inside : Bool) (b : ℕ) (bs : List ℕ) (ts : List Token) → bytes ≡ b ∷ bs → IsTrue (list_all (in_run inside) bytes) → EndsRun inside text → Gives text inside [] ts
    → Gives (bytes ++ text) inside [] (run_token inside (b ∷ bs) ∷ ts)
run_gives bytes text inside b bs ts e h r g =
    over_run bytes text inside [] (run_token inside (b ∷ bs) ∷ ts) h (run_ends (onto bytes []) text inside b bs ts (reverse-onto bytes [] ∙ e) r g)

mnemonic_gives : (bytes text : List ℕ) (op : Op) (ts : List Token) → IsSpelling (Mnemonic op) bytes → EndsRun false text → Gives text false [] ts → Gives (bytes ++ text) false [] (Mnemonic op ∷ ts)
mnemonic_gives [] text op ts h r g = let none : op_of [] ≡ Some op = h.1 in cc
mnemonic_gives (b ∷ bs) text op ts h r g =
    subst (λ o. Gives ((b ∷ bs) ++ text) false [] (word o ∷ ts)) h.1 (run_gives (b ∷ bs) text false b bs ts refl h.0 r g)

operand_gives : (x text : List ℕ) (ts : List Token) → IsTrue (is_operand x) → EndsRun true text → Gives text true [] ts → Gives (x ++ text) true [] (Operand x ∷ ts)
operand_gives [] text ts h r g = cc
operand_gives (b ∷ bs) text ts h r g = run_gives (b ∷ bs) text true b bs ts refl h r g

-- what the tokens that follow give, read inside and outside
abbrev After : List ℕ → List Token → Type 0
After rest ts = (inside : Bool) → IsApart inside ts → Gives rest inside [] ts

token_gives : (t : Token) (ts : List Token) (inside : Bool) (bytes rest : List ℕ) → IsApart inside (t ∷ ts) → IsSpelling t bytes → IsWritten rest ts → After rest ts → Gives (bytes ++ rest) inside [] (t ∷ ts)
token_gives (Mnemonic op) ts false bytes rest a h w k = mnemonic_gives bytes rest op ts h (written_ends_run rest ts false a.0 w) (k false a.1)
token_gives (Mnemonic op) ts true bytes rest a h w k = absurd a
token_gives (Operand x) ts true bytes rest a h w k =
    subst (λ y. Gives (y ++ rest) true [] (Operand x ∷ ts)) (sym h.0) (operand_gives x rest ts h.1 (written_ends_run rest ts true a.0 w) (k true a.1))
token_gives (Operand x) ts false bytes rest a h w k = absurd a
token_gives OpenFork ts false bytes rest a h w k = subst (λ y. Gives (y ++ rest) false [] (OpenFork ∷ ts)) (sym h) (λ at. ap (λ x. OpenFork ∷ x) (k false a (at + 1)))
token_gives OpenFork ts true bytes rest a h w k = absurd a
token_gives CloseFork ts false bytes rest a h w k = subst (λ y. Gives (y ++ rest) false [] (CloseFork ∷ ts)) (sym h) (λ at. ap (λ x. CloseFork ∷ x) (k false a (at + 1)))
token_gives CloseFork ts true bytes rest a h w k = absurd a
token_gives OpenParen ts true bytes rest a h w k = subst (λ y. Gives (y ++ rest) true [] (OpenParen ∷ ts)) (sym h) (λ at. ap (λ x. OpenParen ∷ x) (k true a (at + 1)))
token_gives OpenParen ts false bytes rest a h w k = subst (λ y. Gives (y ++ rest) false [] (OpenParen ∷ ts)) (sym h) (λ at. ap (λ x. OpenParen ∷ x) (k true a (at + 1)))
token_gives CloseParen ts true bytes rest a h w k = subst (λ y. Gives (y ++ rest) true [] (CloseParen ∷ ts)) (sym h) (λ at. ap (λ x. CloseParen ∷ x) (k false a (at + 1)))
token_gives CloseParen ts false bytes rest a h w k = subst (λ y. Gives (y ++ rest) false [] (CloseParen ∷ ts)) (sym h) (λ at. ap (λ x. CloseParen ∷ x) (k false a (at + 1)))
token_gives Comma ts true bytes rest a h w k = subst (λ y. Gives (y ++ rest) true [] (Comma ∷ ts)) (sym h) (λ at. ap (λ x. Comma ∷ x) (k true a (at + 1)))
token_gives Comma ts false bytes rest a h w k = subst (λ y. Gives (y ++ rest) false [] (Comma ∷ ts)) (sym h) (λ at. ap (λ x. Comma ∷ x) (k false a (at + 1)))
token_gives Semicolon ts true bytes rest a h w k = subst (λ y. Gives (y ++ rest) true [] (Semicolon ∷ ts)) (sym h) (λ at. ap (λ x. Semicolon ∷ x) (k true a (at + 1)))
token_gives Semicolon ts false bytes rest a h w k = subst (λ y. Gives (y ++ rest) false [] (Semicolon ∷ ts)) (sym h) (λ at. ap (λ x. Semicolon ∷ x) (k false a (at + 1)))
token_gives Letters ts true bytes rest a h w k = absurd a
token_gives Letters ts false bytes rest a h w k = absurd a
token_gives Stray ts true bytes rest a h w k = absurd a
token_gives Stray ts false bytes rest a h w k = absurd a

gives : (ts : List Token) (text : List ℕ) → IsWritten text ts → After text ts
gives [] text w inside a =
    subst (λ x. Gives x inside [] []) (append-nil text) (over_blanks text [] inside [] w (λ at. refl))
gives (t ∷ ts) text w inside a =
    subst (λ x. Gives x inside [] (t ∷ ts)) (sym w.3.0)
    (over_blanks w.0 (w.1 ++ w.2) inside (t ∷ ts) w.3.1 (token_gives t ts inside w.1 w.2 a w.3.2 w.3.3 (gives ts w.2 w.3.3)))

pub tokens_of_written : (text : List ℕ) (r : Source) → IsWritten text (rung_tokens r) → unplaced (tokens text) ≡ rung_tokens r
tokens_of_written text r w = gives (rung_tokens r) text w false (apart_rung r) 0

-- ---- the canonical spelling

written_token : (t : Token) (ts : List Token) → IsSpelling t (canon_token t) → IsWritten (canon_tokens ts) ts → IsWritten (canon_tokens (t ∷ ts)) (t ∷ ts)
written_token t ts h w = ([], canon_token t, canon_tokens ts, (refl, refl, h, w))

spelled_op : (op : Op) → IsSpelling (Mnemonic op) (text_of op)
spelled_op Xic = (refl, refl)
spelled_op _ = (refl, refl)

more_written : (xs : List (List ℕ)) (ts : List Token) → IsTrue (list_all is_operand xs) → IsWritten (canon_tokens ts) ts → IsWritten (canon_tokens (more_operands xs ++ ts)) (more_operands xs ++ ts)
more_written [] ts h w = w
more_written (x ∷ xs) ts h w =
    let parts = and_parts (is_operand x) (list_all is_operand xs) h in
    written_token Comma (Operand x ∷ (more_operands xs ++ ts)) refl (written_token (Operand x) (more_operands xs ++ ts) (refl, parts.0) (more_written xs ts parts.1 w))

operands_written : (xs : List (List ℕ)) (ts : List Token) → IsTrue (list_all is_operand xs) → IsWritten (canon_tokens ts) ts → IsWritten (canon_tokens (operands xs ++ ts)) (operands xs ++ ts)
operands_written [] ts h w = w
operands_written (x ∷ xs) ts h w =
    let parts = and_parts (is_operand x) (list_all is_operand xs) h in
    written_token (Operand x) (more_operands xs ++ ts) (refl, parts.0) (more_written xs ts parts.1 w)

abbrev are_operands : SourceIns → Bool
are_operands i = list_all is_operand i.texts

abbrev IsCanonical : List Token → Type 0
IsCanonical ts = IsWritten (canon_tokens ts) ts

mutual
  list_written : (t : Source) (ts : List Token) → IsTrue (list_all are_operands (instructions t)) → IsCanonical ts → IsCanonical (list_tokens t ++ ts)
  list_written end ts h w = w
  list_written (one i rest) ts h w =
      let parts = and_parts (are_operands i) (list_all are_operands (instructions rest)) h in
      written_token (Mnemonic i.op) (OpenParen ∷ ((operands i.texts ++ CloseParen ∷ list_tokens rest) ++ ts)) (spelled_op i.op)
      (written_token OpenParen ((operands i.texts ++ CloseParen ∷ list_tokens rest) ++ ts) refl
      (subst IsCanonical (sym (append_assoc (operands i.texts) (CloseParen ∷ list_tokens rest) ts))
      (operands_written i.texts (CloseParen ∷ (list_tokens rest ++ ts)) parts.0 (written_token CloseParen (list_tokens rest ++ ts) refl (list_written rest ts parts.1 w)))))
  list_written (fork t legs rest) ts h w =
      let parts = and_parts (list_all are_operands (instructions t)) (list_all are_operands (leg_instructions legs ++ instructions rest)) (sym (list_all-append are_operands (instructions t) (leg_instructions legs ++ instructions rest)) ∙ h) in
      let more = and_parts (list_all are_operands (leg_instructions legs)) (list_all are_operands (instructions rest)) (sym (list_all-append are_operands (leg_instructions legs) (instructions rest)) ∙ parts.1) in
      written_token OpenFork ((list_tokens t ++ (leg_tokens legs ++ CloseFork ∷ list_tokens rest)) ++ ts) refl
      (subst IsCanonical (sym (append_assoc (list_tokens t) (leg_tokens legs ++ CloseFork ∷ list_tokens rest) ts ∙ ap (λ x. list_tokens t ++ x) (append_assoc (leg_tokens legs) (CloseFork ∷ list_tokens rest) ts)))
      (list_written t (leg_tokens legs ++ CloseFork ∷ (list_tokens rest ++ ts)) parts.0
      (legs_written legs (CloseFork ∷ (list_tokens rest ++ ts)) more.0 (written_token CloseFork (list_tokens rest ++ ts) refl (list_written rest ts more.1 w)))))

  legs_written : (legs : Legs SourceIns) (ts : List Token) → IsTrue (list_all are_operands (leg_instructions legs)) → IsCanonical ts → IsCanonical (leg_tokens legs ++ ts)
  legs_written last ts h w = w
  legs_written (leg t legs) ts h w =
      let parts = and_parts (list_all are_operands (instructions t)) (list_all are_operands (leg_instructions legs)) (sym (list_all-append are_operands (instructions t) (leg_instructions legs)) ∙ h) in
      written_token Comma ((list_tokens t ++ leg_tokens legs) ++ ts) refl
      (subst IsCanonical (sym (append_assoc (list_tokens t) (leg_tokens legs) ts)) (list_written t (leg_tokens legs ++ ts) parts.0 (legs_written legs ts parts.1 w)))

pub canon_written : (r : Source) → IsTrue (has_operands r) → IsWritten (canon r) (rung_tokens r)
canon_written r h = list_written r (Semicolon ∷ []) h (written_token Semicolon [] refl refl)
