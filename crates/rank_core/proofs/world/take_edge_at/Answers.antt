use Rattle.std.proofs.Common.{Some, ap, sym, ◌∙◌, subst}
use Rattle.std.proofs.lemmas.Option.{slice_get-get_or}
use Rattle.shard_calls.specs.Taken.{MayTakeEdge, TakesEdge}
use Rattle.rank_core.proofs.Setting.{stays_at, takes_at}
use Rattle.rank_core.proofs.world.take_edge_at.Goals as goal
use Rattle.std.proofs.lemmas.Result.{on_err_weaker, on_ok_weaker}

pub take_edge-requires : goal.take_edge-requires
take_edge-requires c =
    let at = slice_get-get_or c.args.ranks.now.items c.args.k c.index_mut.result.now c.requires.within
    ∙ ap (λ x. Some x) (sym c.index_mut.ensures.value) in
    subst (λ o. MayTakeEdge c.args.m.now c.args.message.now.edge o c.index_mut.result.now) (sym c.as_ref.ensures.value)
    (c.requires.may c.index_mut.result.now at)

pub returns-clause-ok : goal.returns-clause-ok
returns-clause-ok c =
    let at = slice_get-get_or c.args.ranks.now.items c.args.k c.index_mut.result.now c.requires.within
    ∙ ap (λ x. Some x) (sym c.index_mut.ensures.value) in
    on_ok_weaker c.take_edge.result
    (λ takes. takes_at c.args.m.now c.args.message.now c.args.k c.args.ranks.now.items c.index_mut.result.now
    c.take_edge.new.shard at
    (subst (λ o. TakesEdge c.args.m.now c.args.message.now.edge o c.index_mut.result.now c.take_edge.new.shard)
    c.as_ref.ensures.value takes)) c.take_edge.ensures.takes

pub returns-clause-err : goal.returns-clause-err
returns-clause-err c =
    let at = slice_get-get_or c.args.ranks.now.items c.args.k c.index_mut.result.now c.requires.within
    ∙ ap (λ x. Some x) (sym c.index_mut.ensures.value) in
    on_err_weaker c.take_edge.result (λ same. stays_at c.args.k c.args.ranks.now.items c.index_mut.result.now
    c.take_edge.new.shard at same) c.take_edge.ensures.same
