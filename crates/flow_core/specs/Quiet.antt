-- What may happen next in a run: claims of tasks, and sends of items.
use Rattle.std.specs.Prelude.{List, IsTrue, Option}
use Rattle.ptg_base.specs.Lists.{IsIn}
use Rattle.ptg_base.specs.Task.{Task}
use Rattle.plan_core.specs.declared.plan.Plan.{Plan}
use Rattle.dep_iter.specs.Items.{items}
use Rattle.flow_meaning.specs.Ending.{Ended, has_outputs}
use Rattle.flow_meaning.specs.Machine.{SentItem}
use Rattle.flow_core.specs.SentItems.{IsUnsent}

-- something holds of a member of the list: std's `Any`, by membership in place of an index
abbrev pub HasOne : {A : Type 0} → (A → Type 0) → List A → Type 0
HasOne {A} Q xs = (x : A) × IsIn x xs × Q x

-- a claimed task has ended without a trap, and one of its items was not sent
abbrev pub Owes : Plan → List SentItem → Task × Option Ended → Type 0
Owes P sends c = IsTrue (has_outputs c.1) × HasOne (IsUnsent sends) (items P c.0)
