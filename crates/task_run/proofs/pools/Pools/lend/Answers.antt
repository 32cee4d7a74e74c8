use Rattle.std.proofs.Common.{◌≡◌, ◌++◌, ◌∷◌, [], length, ap, sym, ◌∙◌, subst, Some, arith, replicate, pos, slice_index}
use Rattle.std.proofs.Common.{slice_set, unwrap_or}
use Rattle.std.specs.Option.{option_copied}
use Rattle.task_run.specs.Pools.{AreBelow, Lent}
use Rattle.task_run.specs.declared.pools.TypePool.{TypePool}
use Rattle.task_run.proofs.PoolLemmas.{below_more, one_lent, pools_along, below_along, has_spare, map_set, some_type}
use Rattle.task_run.proofs.Lending.{at, elems_is, elems_of, length_along, within}
use Rattle.task_run.proofs.pools.Pools.lend.Goals as goal
use Rattle.list_lemmas.proofs.Places.{length-zeros}
use Rattle.std.proofs.lemmas.List.{length-set}

pub copy_in-requires-clause-spare : goal.copy_in-requires-clause-spare
copy_in-requires-clause-spare c =
    let pools = c.self.inside.pools.items in
    let lent = c.self.inside.lent.items in
    let p = c.index_mut.result.now in
    let k = c.args.datatype in
    has_spare lent k p.pool p.zeros (c.self.invariant.0 k p (at pools lent c.args.self.now c.self.view_is k
    c.requires.known p c.index_mut.ensures.value))
    (omega (arith, c.requires.flows, ap (λ (b : Lent). length b.lent) c.self.view_is))

pub copy_in-requires-clause-length : goal.copy_in-requires-clause-length
copy_in-requires-clause-length c =
    let k = c.args.datatype in
    length_along (option_copied c.args.from) (slice_index c.args.self.now.elems k) c.index_mut.result.now.pool.elems
    (elems_is c.self.inside.pools.items c.self.inside.lent.items c.args.self.now c.self.view_is k c.requires.known
    c.index_mut.result.now c.index_mut.ensures.value) c.requires.length

pub copy_in-requires-clause-zeros : goal.copy_in-requires-clause-zeros
copy_in-requires-clause-zeros c =
    let pools = c.self.inside.pools.items in
    let lent = c.self.inside.lent.items in
    let p = c.index_mut.result.now in
    let k = c.args.datatype in
    ap length (c.self.invariant.0 k p (at pools lent c.args.self.now c.self.view_is k c.requires.known p
    c.index_mut.ensures.value)).zeros ∙ length-zeros p.pool.elems

pub invariant_of-self : goal.invariant_of-self
invariant_of-self c =
    let pools = c.self.inside.pools.items in
    let lent = c.self.inside.lent.items in
    let k = c.args.datatype in
    let p = c.index_mut.result.now in
    let new = slice_set pools k c.copy_in.new.p in
    let is = at pools lent c.args.self.now c.self.view_is k c.requires.known p c.index_mut.ensures.value in (
      pools_along new c.push.ensures.items (one_lent pools lent k p c.copy_in.new.p c.self.invariant.0 is
          c.copy_in.ensures.taken c.copy_in.ensures.zeros),
      below_along (length new) c.push.ensures.items
          (subst (λ n. AreBelow n (lent ++ Some k ∷ [])) (sym (length-set pools k c.copy_in.new.p))
          (below_more (length pools) lent (Some k) c.self.invariant.1
          (λ j e. some_type (length pools) k j (within pools lent c.args.self.now c.self.view_is k c.requires.known)
          e))),
    )

pub returns-clause-tile : goal.returns-clause-tile
returns-clause-tile c =
    let pools = c.self.inside.pools.items in
    let lent = c.self.inside.lent.items in
    let p = c.index_mut.result.now in
    let k = c.args.datatype in
    let is = at pools lent c.args.self.now c.self.view_is k c.requires.known p c.index_mut.ensures.value in
    c.copy_in.ensures.tile ∙ ap (unwrap_or (option_copied c.args.from)) ((c.self.invariant.0 k p is).zeros
    ∙ ap (λ n. replicate n (pos 0)) (sym (elems_is pools lent c.args.self.now c.self.view_is k c.requires.known p
    c.index_mut.ensures.value)))

pub returns-clause-lent : goal.returns-clause-lent
returns-clause-lent c =
    let pools = c.self.inside.pools.items in
    let lent = c.self.inside.lent.items in
    let p = c.index_mut.result.now in
    let k = c.args.datatype in
    let is = at pools lent c.args.self.now c.self.view_is k c.requires.known p c.index_mut.ensures.value in
    let same : elems_of (slice_set pools k c.copy_in.new.p) ≡ c.args.self.now.elems = map_set
    (λ (q : TypePool). q.pool.elems) pools k p c.copy_in.new.p is c.copy_in.ensures.taken.elems
    ∙ ap (λ (b : Lent). b.elems) c.self.view_is in
    let more : c.push.new.self.items ≡ c.args.self.now.lent ++ Some k ∷ [] = c.push.ensures.items
    ∙ ap (λ (b : Lent). b.lent ++ Some k ∷ []) c.self.view_is in
    λ i. record { elems = same i; lent = more i }
