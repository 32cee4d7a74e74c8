-- What a reading shows of a text.
use Rattle.std.proofs.Common.{◌≡◌, ℕ, List, sym, ◌∙◌, subst, Option, None, Result, Err}
use Rattle.ptg_base.specs.Task.{Task}
use Rattle.ptg_base.specs.declared.refusal.Refusal.{Refusal}
use Rattle.ptg_base.specs.declared.refusal.Refusal.TheVariants.{Fault}
use Rattle.plan_core.specs.declared.plan.Plan.{Plan}
use Rattle.trace_core.specs.declared.fault.TraceFault.{TraceFault}
use Rattle.trace_core.specs.Reading.{IsListOf, IsReadAs, IsReading}
use Rattle.trace_core.proofs.Lists.{is_list}

-- a refusal has one fault
pub fault_is : {T : Type 0} (r : Result T (Refusal TraceFault)) (f g : TraceFault) → r ≡ Err (Fault g) → r ≡ Err (Fault f) → g ≡ f
fault_is r f g h k = let e : Err (Fault g) ≡ Err (Fault f) = sym h ∙ k in cc

pub same_refusal : {T : Type 0} (x y : Refusal TraceFault) (r : Result T (Refusal TraceFault)) → r ≡ Err x → r ≡ Err y → x ≡ y
same_refusal x y r h k = let e : Err x ≡ Err y = sym h ∙ k in cc

-- if no row has a fault, the text is that of its tasks
pub list_read : (P : Plan) (text : List ℕ) (ts : List Task) (fault : Option TraceFault) → IsReading P text ts fault → fault ≡ None → IsListOf P text ts
list_read P text ts fault r is = is_list P text r.entries ts r.at_most r.spelled (subst (IsReadAs P r.entries ts) is r.read)
