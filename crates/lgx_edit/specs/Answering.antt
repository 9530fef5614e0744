-- What is answered: what is meant, or that there was no memory.
use Rattle.std.specs.Prelude.{◌≡◌, Result, Ok, Err, ⊤}
use Rattle.spec_machine.specs.declared.reply.EditFault.{EditFault}
use Rattle.lgx_edit.specs.declared.error.EditError.{EditError}
use Rattle.lgx_edit.specs.declared.error.EditError.TheVariants.{Edit, Memory}

-- the value that is answered stands for what is meant, by what it is seen as
abbrev pub AnswersAs : {A B : Type 0} → (A → B) → Result B EditFault → Result A EditError → Type 0
AnswersAs seen meant (Ok x) = meant ≡ Ok (seen x)
AnswersAs seen meant (Err (Edit fault)) = meant ≡ Err fault
AnswersAs seen meant (Err Memory) = ⊤

abbrev pub AnswersDraft : {A : Type 0} → Result A EditFault → Result A EditError → Type 0
AnswersDraft meant answer = AnswersAs (λ x. x) meant answer
