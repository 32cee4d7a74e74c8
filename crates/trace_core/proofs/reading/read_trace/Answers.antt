use Rattle.std.proofs.Common.{◌≡◌, Err, Ok, Some, ap, refl, ◌∙◌, inl, inr, subst}
use Rattle.ptg_base.specs.declared.refusal.Refusal.TheVariants.{Fault}
use Rattle.trace_core.specs.Reading.{IsReading}
use Rattle.trace_core.proofs.OneReading.{exactly}
use Rattle.trace_core.proofs.ReadFaults.{fault_is, list_read, same_refusal}
use Rattle.trace_core.proofs.reading.read_trace.Goals as goal

pub returns-in-Err-clause-exact : goal.returns-in-Err-clause-exact
returns-in-Err-clause-exact c = exactly c.args.m.now c.args.bytes.now (Err c.in-Err.refusal) tt (λ f e.
    let same = same_refusal c.in-Err.refusal (Fault f) (Err c.in-Err.refusal) refl e in
    inl (c.read_rows.ensures.fault f (c.in-Err.is ∙ ap (λ x. Err x) same)))

pub returns-in-Some-clause-exact : goal.returns-in-Some-clause-exact
returns-in-Some-clause-exact c = exactly c.args.m.now c.args.bytes.now (Err (Fault c.in-Some.fault)) tt (λ f e.
    let same = fault_is (Err (Fault c.in-Some.fault)) f c.in-Some.fault refl e in
    let read = subst (IsReading c.args.m.now c.args.bytes.now c.in-Ok.reading.tasks) c.in-Some.is c.in-Ok.ensures.read in
    inr (c.in-Ok.reading.tasks, subst (λ x. IsReading c.args.m.now c.args.bytes.now c.in-Ok.reading.tasks (Some x)) same read))

pub returns-in-None-clause-exact : goal.returns-in-None-clause-exact
returns-in-None-clause-exact c = exactly c.args.m.now c.args.bytes.now (Ok c.in-Ok.reading.tasks)
    (subst (IsReading c.args.m.now c.args.bytes.now c.in-Ok.reading.tasks) c.in-None.is c.in-Ok.ensures.read)
    (λ f e. let never : Ok c.in-Ok.reading.tasks ≡ Err (Fault f) = e in absurd cc)

pub returns-in-None-clause-found : goal.returns-in-None-clause-found
returns-in-None-clause-found c = list_read c.args.m.now c.args.bytes.now c.in-Ok.reading.tasks c.in-Ok.reading.fault c.in-Ok.ensures.read c.in-None.is
