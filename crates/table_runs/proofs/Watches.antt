-- A pass that looks on.
use Rattle.std.proofs.Common.{◌≡◌, sym, ◌∙◌, subst}
use Rattle.dep_table.specs.declared.table.DepTable.{DepTable}
use Rattle.dep_table.specs.Passes.{IsPassOf}
use Rattle.dep_table.specs.Tables.{id_of}
use Rattle.dep_table.specs.Views.{PassView, shown}
use Rattle.table_runs.specs.declared.watcher.Watcher.{Watcher}
use Rattle.table_runs.specs.Watching.{IsWatcher}

-- it still looks on if it runs what it ran, as after it gave a turn back
pub watches_on : (S T : DepTable) → S ≡ T → (w : Watcher) (q : PassView) → IsPassOf (id_of S) q
    → (shown q).running ≡ (shown w.pass).running → IsWatcher T w → IsWatcher T (record { pass = q; idle = w.idle })
watches_on S T e w q of same h = record {
  pass = record { of = subst (λ (b : DepTable). IsPassOf (id_of b) q) e of; task = λ t runs. h.pass.task t (sym same ∙ runs) };
  idle = λ yes. same ∙ h.idle yes;
}
