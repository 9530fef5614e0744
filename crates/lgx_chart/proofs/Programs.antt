-- What follows from the bytes of a report.
use Rattle.std.proofs.Common.{◌≡◌, ℕ, List, Option, Some, None, Result, Ok, Err, inl, inr, refl, sym, subst}
use Rattle.lgx_answer.specs.declared.status.Verdict.{Verdict}
use Rattle.lgx_answer.specs.Plan.{Says}
use Rattle.lgx_answer.specs.Endings as ending
use Rattle.lgx_answer.specs.Answered.{Told, Failures, Answered}
use Rattle.lgx_chart.specs.declared.entry.Chart.{Chart}
use Rattle.lgx_chart.specs.declared.error.ChartFault.{ChartFault}
use Rattle.lgx_chart.specs.Charts.{chart_of}
use Rattle.lgx_chart.specs.ChartPlan.{refused, of_report, on_report, drawn, chart_plan}

pub drawn_says : (picture : Chart → List ℕ) (bytes : List ℕ) (chart : Chart) (said : Verdict) (text : List ℕ) → chart_of bytes ≡ Ok chart → Says (drawn picture chart) said text → Says (on_report (drawn picture) bytes) said text
drawn_says picture bytes chart said text is says =
    let P : Result Chart ChartFault → Type 0 = λ r. Says (of_report (drawn picture) r) said text in
    subst P (sym is) says

pub refused_says : (picture : Chart → List ℕ) (bytes : List ℕ) (fault : ChartFault) (said : Verdict) (text : List ℕ) → chart_of bytes ≡ Err fault → Says (refused fault) said text → Says (on_report (drawn picture) bytes) said text
refused_says picture bytes fault said text is says =
    let P : Result Chart ChartFault → Type 0 = λ r. Says (of_report (drawn picture) r) said text in
    subst P (sym is) says

-- memory ran out before anything was read or written
pub out_of_memory : (usage : List ℕ) (wanted : Option (Chart → List ℕ)) (told : Told) (failures : Failures) (held : Option (List ℕ)) (faults : ℕ)
    → Answered (chart_plan usage wanted) (record {
      told = told;
      failures = record { old = failures; new = failures };
      held = record { old = held; new = held };
      faults = record { old = faults; new = faults };
      answer = ending.Memory;
    })
out_of_memory usage None told failures held faults = ((inr refl, refl), refl)
out_of_memory usage (Some picture) told failures held faults = inl (refl, record { held = refl; faults = refl })
