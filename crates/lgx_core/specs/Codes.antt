-- How controllers are told apart: each is stored as its fields.
use Rattle.std.specs.Prelude.{ℕ, Bool, List, refl}
use Rattle.std.specs.Coded.{Coded, code_by, coded×, coded_ℕ}
use Rattle.spec_tables.specs.declared.fault.Fault.{Fault}
use Rattle.spec_tables.specs.Forces.{Forces}
use Rattle.spec_machine.specs.declared.reply.Mode.{Mode}
use Rattle.spec_machine.specs.State.{Plan}
use Rattle.lgx_image.specs.Grains.{ImageView}
use Rattle.lgx_sched.specs.TableView.{TableView}
use Rattle.lgx_edit.specs.EditsView.{EditsView}
use Rattle.lgx_steps.specs.declared.parts.Progress.{Progress}
use Rattle.lgx_steps.specs.PartsView.{PartsView}
use Rattle.lgx_core.specs.ControllerView.{ControllerView}

-- the parts but for the books
abbrev pub Rest : Type 0
Rest = ((Plan × Bool) × (Mode × ℕ)) × ((TableView × (List Progress × List Bool)) × (ImageView × (Forces × List Fault)))

abbrev pub parts_code : Coded (List EditsView) → Coded Rest → Coded PartsView
parts_code book rest =
    code_by (List EditsView × Rest) (coded× book rest)
    (λ v. (v.book, (((v.plan, v.sealed), (v.mode, v.tick)), ((v.table, (v.progress, v.firsts)), (v.image, (v.forces, v.faults))))))
    (λ p. record {
      plan = p.1.0.0.0;
      sealed = p.1.0.0.1;
      mode = p.1.0.1.0;
      tick = p.1.0.1.1;
      table = p.1.1.0.0;
      progress = p.1.1.0.1.0;
      firsts = p.1.1.0.1.1;
      image = p.1.1.1.0;
      book = p.0;
      forces = p.1.1.1.1.0;
      faults = p.1.1.1.1.1;
    })
    (λ _. refl)

abbrev pub controller_code : Coded (List EditsView) → Coded Rest → Coded ControllerView
controller_code book rest =
    code_by (PartsView × ℕ) (coded× (parts_code book rest) coded_ℕ)
    (λ c. (c.parts, c.spent)) (λ p. record { parts = p.0; spent = p.1 }) (λ _. refl)
