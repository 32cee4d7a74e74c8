use Rattle.std.proofs.Common.{◌≡◌, [], length, ap, sym, subst, ◌∙◌, slice_get, Some}
use Rattle.std.specs.Option.{option_map_or}
use Rattle.term_core.specs.WellBody.{IsWellBody}
use Rattle.plan_core.specs.declared.class.ClassPlan.{ClassPlan}
use Rattle.flow_meaning.proofs.CallerLemmas.{class_of, length-locals_of}
use Rattle.flow_core.proofs.body.run_task.Goals as goal

pub run_body-requires : goal.run_body-requires
run_body-requires c =
    let P = c.args.at.now.plan.now in
    let t = c.args.at.now.task.now in
    let class = c.class-class.result.now in
    let h = class_of P t c.args.at.now.of_job in
    let is : slice_get P.classes t.class ≡ Some class = ap (slice_get P.classes) (sym c.class.ensures) ∙ c.class-class.ensures.class in
    let locals : length c.args.at.now.locals.now ≡ length h.space.defs = ap length c.args.at.now.are_locals ∙ length-locals_of P t c.args.at.now.of_job in
    let flows : length c.as_mut_slice.result.now ≡ length class.flows =
    ap length c.as_mut_slice.ensures.value ∙ c.requires ∙ ap (λ o. length (option_map_or (λ (k : ClassPlan). k.flows) o [])) is in
    let well = (c.class-class.ensures.well_made h.space (ap (slice_get P.spaces) c.class.ensures ∙ h.space_is)).body in
    subst (λ n. IsWellBody n (length c.as_mut_slice.result.now) class.body) (sym locals)
    (subst (λ n. IsWellBody (length h.space.defs) n class.body) (sym flows) well)
