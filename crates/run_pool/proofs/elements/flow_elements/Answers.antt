use Rattle.std.proofs.Common.{◌≡◌, ◌∙◌, ap, sym, Some, None, slice_get}
use Rattle.plan_core.specs.Kinds.{flow_of}
use Rattle.dep_iter.specs.Tasks.{flows_of}
use Rattle.list_lemmas.proofs.Places.{slice_get_at, slice_index_at}
use Rattle.std.proofs.lemmas.Option.{slice_get_past}
use Rattle.shard_meaning.proofs.CallerLemmas.{flow_is}
use Rattle.task_run.proofs.CallerLemmas.{known}
use Rattle.run_pool.specs.Bytes.{elements_of}
use Rattle.run_pool.proofs.elements.flow_elements.Goals as goal

pub elements-requires : goal.elements-requires
elements-requires c =
    let P = c.args.plan.now in
    let here : slice_get (flows_of P c.args.t.now) c.args.flow ≡ Some c.in-Some.f.now = ap
    (λ fs. slice_get fs c.args.flow) (sym c.flows_of.ensures.flows)
    ∙ slice_get_at c.flows_of.result.now c.args.flow c.in-Some.f.now c.in-Some.ensures.lookup.3.0
    c.in-Some.ensures.lookup.1 in
    known P c.args.t.now c.args.flow c.in-Some.f.now c.requires here

pub returns-in-Some : goal.returns-in-Some
returns-in-Some c =
    let P = c.args.plan.now in
    let here : slice_get (flows_of P c.args.t.now) c.args.flow ≡ Some c.in-Some.f.now = ap
    (λ fs. slice_get fs c.args.flow) (sym c.flows_of.ensures.flows)
    ∙ slice_get_at c.flows_of.result.now c.args.flow c.in-Some.f.now c.in-Some.ensures.lookup.3.0
    c.in-Some.ensures.lookup.1 in
    let flow : flow_of P.classes c.args.t.now.class c.args.flow ≡ Some c.in-Some.f.now = sym (flow_is P c.args.t.now c.args.flow) ∙ here in
    c.from.ensures ∙ (sym (slice_index_at P.elems c.in-Some.f.now.datatype c.elements.result c.elements.ensures.elements) ∙ ap (elements_of P) (sym flow))

pub returns-in-None : goal.returns-in-None
returns-in-None c =
    let P = c.args.plan.now in
    let here : slice_get (flows_of P c.args.t.now) c.args.flow ≡ None = ap (λ fs. slice_get fs c.args.flow)
    (sym c.flows_of.ensures.flows) ∙ slice_get_past c.flows_of.result.now c.args.flow c.in-None.ensures.lookup.3 in
    ap (elements_of P) (sym (sym (flow_is P c.args.t.now c.args.flow) ∙ here))
