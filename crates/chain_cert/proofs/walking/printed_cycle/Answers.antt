use Rattle.std.proofs.Common.{refl, ◌≡◌, ◌∷◌, ◌++◌, [], false, drop, reverse, inl, sym, ◌∙◌, ap, subst, length, arith, length-append}
use Rattle.std.specs.List.{list_any}
use Rattle.std.proofs.lemmas.List.{take_rest}
use Rattle.std.proofs.lemmas.Result.{IfOk-weaker}
use Rattle.ptg_base.specs.TaskComparing.{same_task}
use Rattle.plan_core.specs.declared.plan.Plan.{Plan}
use Rattle.list_lemmas.proofs.Members.{IsIn-append_right}
use Rattle.dep_iter.specs.Tasks.{IsTask}
use Rattle.dep_iter.specs.Edges.{sources}
use Rattle.chain_cert.specs.Finding.{IsLeastWhere, is_left}
use Rattle.chain_cert.proofs.WalkingBack.{IsWalking, closes, found_is, inserted_keys, walk_left, walk_next, walk_on, walk_room, walk_start}
use Rattle.chain_cert.proofs.walking.printed_cycle.Goals as goal

pub loop-next-init : goal.loop-next-init
loop-next-init c = λ order l.
    subst (λ ks. IsWalking c.args.m.now order ks c.least_task_left-next.result) (sym c.new-met.ensures.empty)
    (record { once = tt; walk = walk_start c.args.m.now order c.args.table.now.entries l c.least_task_left-next.result c.least_task_left-next.ensures })

pub least_source_left-next-requires : goal.least_source_left-next-requires
least_source_left-next-requires c =
    let P = c.args.m.now in
    let met = c.loop-next.met.keys in
    let t = c.in-Some.t in
    let w = subst (IsWalking P c.requires.0 met) c.in-Some.is (c.loop-next.invariant c.requires.0 c.requires.1) in
    let job = (walk_left P c.plan-plan.ensures.consistent c.requires.0 (met ++ t ∷ []) w.walk t (IsIn-append_right t met (t ∷ []) (inl refl))).task in
    subst (λ (p : Plan). IsTask p t) (sym c.plan-plan.ensures.same) job

pub returns : goal.returns
returns c = λ order l. absurd (subst (IsWalking c.args.m.now order c.loop-next.met.keys) c.in_default.is (c.loop-next.invariant order l)).walk

pub returns-in-Some-get_full : goal.returns-in-Some-get_full
returns-in-Some-get_full c =
    let met = c.loop-next.met.keys in
    let at = c.in-Some-get_full.at in
    let rest = take_rest c.as_slice.result.now at ∙ ap (drop at) c.as_slice.ensures.keys in
    IfOk-weaker c.turned.result _ _
    (λ cycle is order l.
    closes c.args.m.now order met c.in-Some.t _ at cycle c.in-Some-get_full.ensures.stored (found_is c.in-Some.t met _ (sym c.in-Some-get_full.ensures.key))
    (subst (IsWalking c.args.m.now order met) c.in-Some.is (c.loop-next.invariant order l)) (is ∙ ap reverse rest))
    c.turned.ensures

pub loop-next-smaller : goal.loop-next-smaller
loop-next-smaller c =
    let P = c.args.m.now in
    let met = c.loop-next.met.keys in
    let t = c.in-Some.t in
    let unmet : list_any (same_task t) met ≡ false = sym c.in_default-get_full.ensures.found in
    let w = subst (IsWalking P c.requires.0 met) c.in-Some.is (c.loop-next.invariant c.requires.0 c.requires.1) in
    let room = walk_room P c.plan-plan.ensures.consistent c.requires.0 met t unmet w in
    omega (arith, room, ap length (inserted_keys t met c.insert.new.self.keys unmet c.in_ok-insert.ensures.keys), length-append met (t ∷ []))

pub loop-next-preserved : goal.loop-next-preserved
loop-next-preserved c = λ order l.
    let P = c.args.m.now in
    let met = c.loop-next.met.keys in
    let t = c.in-Some.t in
    let o = c.least_source_left-next.result in
    let unmet : list_any (same_task t) met ≡ false = sym c.in_default-get_full.ensures.found in
    let w = subst (IsWalking P order met) c.in-Some.is (c.loop-next.invariant order l) in
    let h = subst (λ (p : Plan). IsLeastWhere (is_left c.args.table.now.entries) (sources p t) o) c.plan-plan.ensures.same c.least_source_left-next.ensures in
    walk_on P order met c.insert.new.self.keys t o unmet (inserted_keys t met c.insert.new.self.keys unmet
    c.in_ok-insert.ensures.keys) w (walk_next P order c.args.table.now.entries l c.plan-plan.ensures.consistent met
    t o w.walk h)
