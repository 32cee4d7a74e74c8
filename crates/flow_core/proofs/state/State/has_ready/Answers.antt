use Rattle.std.proofs.Common.{inl, ap, refl, ◌∙◌, subst}
use Rattle.std.proofs.lemmas.Bool.{false≢true}
use Rattle.dep_iter.specs.Tasks.{all_tasks}
use Rattle.dep_iter.proofs.CallerLemmas.{listed}
use Rattle.flow_meaning.specs.Machine.{MayClaim}
use Rattle.flow_core.specs.RunState.{machine}
use Rattle.flow_core.proofs.Quiet.{IsSearched, search_begins, search_ends, search_finds, search_goes_on}
use Rattle.flow_core.proofs.state.State.has_ready.Goals as goal

pub loop-t-init : goal.loop-t-init
loop-t-init c =
    let Q = MayClaim c.args.m.now (machine c.args.self.now) in
    let items = c.into_iter-t-iterator.result in
    let all = c.into_iter-t-iterator.ensures.into_iter_gives ∙ c.all_tasks-t-items.ensures ∙ ap all_tasks c.plan.ensures.same in
    record { can_next = tt; is_finite = tt; searched = subst (λ l. IsSearched Q l items) all (search_begins Q items) }

pub is_ready-requires : goal.is_ready-requires
is_ready-requires c =
    let P = c.args.m.now in
    let s = subst (IsSearched (MayClaim P (machine c.args.self.now)) (all_tasks P)) c.in-Some.ensures.steps c.loop-t.invariant.searched in
    record { task = (listed P c.in-Some.t).1 (s.among c.in-Some.t (inl refl)) }

pub loop-t-preserved : goal.loop-t-preserved
loop-t-preserved c =
    let P = c.args.m.now in
    let Q = MayClaim P (machine c.args.self.now) in
    let s = subst (IsSearched Q (all_tasks P)) c.in-Some.ensures.steps c.loop-t.invariant.searched in
    let exact = c.if-is_ready.ensures.exact c.requires.0 c.requires.1 in
    record { can_next = tt; is_finite = tt; searched = search_goes_on Q (all_tasks P) c.next.new.self c.in-Some.t s (λ may. false≢true (exact.1 may)) }

pub returns-then-is_ready : goal.returns-then-is_ready
returns-then-is_ready c =
    let P = c.args.m.now in
    let Q = MayClaim P (machine c.args.self.now) in
    let s = subst (IsSearched Q (all_tasks P)) c.in-Some.ensures.steps c.loop-t.invariant.searched in
    let exact = c.if-is_ready.ensures.exact c.requires.0 c.requires.1 in
    search_finds Q (all_tasks P) c.next.new.self c.in-Some.t s (exact.0 refl)

pub returns : goal.returns
returns c =
    let P = c.args.m.now in
    let Q = MayClaim P (machine c.args.self.now) in
    search_ends Q (all_tasks P) (subst (IsSearched Q (all_tasks P)) c.in-None.ensures.steps.0 c.loop-t.invariant.searched)
