-- What an answer says of a text.
use Rattle.std.proofs.Common.{◌≡◌, ℕ, List, ◌∷◌, ap, sym, subst, ◌∙◌, Result, Ok, Err, IfOk, OnOk}
use Rattle.std.proofs.lemmas.Result.{IfOk-at_ok}
use Rattle.lgx_rung.specs.declared.fault.TextFault.{TextFault}
use Rattle.lgx_rung.specs.Text.{Spells, IsTextCause}
use Rattle.lgx_rung.specs.declared.op.Op.{Op}
use Rattle.lgx_rung.specs.Joined.{operands_in}
use Rattle.lgx_rung.specs.Tokens.{Token, Mnemonic, Placed, Reader, At, Element, add_element, instruction, read_token, read_tokens, read_on, read_rung}
use Rattle.lgx_rung.proofs.Reading.{IsFit, element_fit, read_token_fit}
use Rattle.lgx_rung.specs.Tree.{Source}
use Rattle.lgx_rung.proofs.Causes.{cause_of_read, read_of_cause}
use Rattle.lgx_rung.proofs.Laws.{spells_read, read_spelled}
use Rattle.lgx_neutral.specs.declared.fault.RungError.{RungError}
use Rattle.lgx_neutral.specs.declared.fault.RungError.TheVariants.{Text, Memory}
use Rattle.lgx_neutral.specs.declared.fault.Refusal.{Refusal}
use Rattle.lgx_neutral.specs.declared.fault.Refusal.TheVariants.{Text as refused_text, Memory as refused_memory}
use Rattle.lgx_neutral.specs.declared.reader.Reader.{Reader as Held}
use Rattle.lgx_neutral.specs.declared.reader.Expected.TheVariants as Expected
use Rattle.lgx_neutral.specs.Instructions.{GoesOn, ReadsInstruction}
use Rattle.lgx_neutral.specs.Reading.{reading, reading_at}
use Rattle.lgx_neutral.specs.Taking.{Takes, refusal_at}
use Rattle.lgx_neutral.specs.Answer.{AnswersRung, IfFault}

-- ---- in the words of the grammar

pub spelled : (text : List ℕ) (answer : Result Source RungError) → AnswersRung (read_rung text) answer → IfOk answer (λ r. Spells text r)
spelled text (Ok r) h = spells_read text r h
spelled text (Err (Text f)) h = tt
spelled text (Err Memory) h = tt

pub caused : (text : List ℕ) (answer : Result Source RungError) → AnswersRung (read_rung text) answer → IfFault answer (λ f. IsTextCause text f)
caused text (Ok r) h = tt
caused text (Err (Text f)) h = cause_of_read text f h
caused text (Err Memory) h = tt

answers_same : (said also : Result Source TextFault) (answer : Result Source RungError) → said ≡ also → AnswersRung said answer → AnswersRung also answer
answers_same said also (Ok r) e h = sym e ∙ h
answers_same said also (Err (Text f)) e h = sym e ∙ h
answers_same said also (Err Memory) e h = tt

pub every_rung : (text : List ℕ) (answer : Result Source RungError) → AnswersRung (read_rung text) answer → (r : Source) → Spells text r → AnswersRung (Ok r) answer
every_rung text answer h r s = answers_same (read_rung text) (Ok r) answer (read_spelled text r s) h

pub every_fault : (text : List ℕ) (answer : Result Source RungError) → AnswersRung (read_rung text) answer → (f : TextFault) → IsTextCause text f → AnswersRung (Err f) answer
every_fault text answer h f s = answers_same (read_rung text) (Err f) answer (read_of_cause text f s) h

-- ---- a token more

pub taken : {A : Type 0} (len at : ℕ) (t : Token) (ts : List Placed) (r s : Reader) (result : Result A Refusal) → Takes (read_token r t) s result
    → GoesOn (read_tokens len (record { at = at; token = t } ∷ ts) r) at len ts s result
taken len at t ts r s (Ok x) h = sym (ap (λ q. read_on q at (read_tokens len ts)) h)
taken len at t ts r s (Err (refused_text code)) h = ap (λ q. read_on q at (read_tokens len ts)) h
taken len at t ts r s (Err refused_memory) h = tt

pub refused : (said also : Result Source TextFault) (at len : ℕ) (left : List Placed) (r : Reader) (refusal : Refusal) (e : RungError)
    → GoesOn {A = Unit {0}} said at len left r (Err refusal) → e ≡ refusal_at refusal at → said ≡ also → AnswersRung also (Err e)
refused said also at len left r (refused_text code) e h is same = subst (λ x. AnswersRung also (Err x)) (sym is) (sym same ∙ h)
refused said also at len left r refused_memory e h is same = subst (λ x. AnswersRung also (Err x)) (sym is) tt

pub still_fits : {A : Type 0} (r s : Reader) (t : Token) (result : Result A Refusal) → IsFit r → Takes (read_token r t) s result → OnOk result (IsFit s)
still_fits r s t (Ok x) fit h = IfOk-at_ok IsFit h (read_token_fit r t fit)
still_fits r s t (Err refusal) fit h = tt

-- ---- an instruction more

pub whole_taken : (old : Held) (op : Op) (operands : List ℕ) (new : Reader) (ts us : List Placed) (len at : ℕ) → old.place ≡ Expected.Element → ReadsInstruction operands ts us
    → new ≡ add_element old.forks old.leg (instruction op (operands_in operands)) → read_tokens len us new ≡ read_tokens len (record { at = at; token = Mnemonic op } ∷ ts) (reading old)
whole_taken old op operands new ts us len at e reads is =
    sym (ap (λ p. read_tokens len (record { at = at; token = Mnemonic op } ∷ ts) (reading_at p old.texts old.forks old.leg)) e
    ∙ reads len op old.forks old.leg
    ∙ ap (read_tokens len us) (sym is))

pub whole_fits : (old : Held) (op : Op) (operands : List ℕ) (new : Reader) → old.place ≡ Expected.Element → IsFit (reading old)
    → new ≡ add_element old.forks old.leg (instruction op (operands_in operands)) → IsFit new
whole_fits old op operands new e h is =
    let fit : IsFit (At Element old.forks old.leg) = subst (λ p. IsFit (reading_at p old.texts old.forks old.leg)) e h in
    subst IsFit (sym is) (element_fit old.forks old.leg op (operands_in operands) fit.0, fit.1)
