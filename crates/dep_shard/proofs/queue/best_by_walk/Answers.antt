use Rattle.std.proofs.Common.{rules, arith, ◌≡◌, ◌+◌, ◌∙◌, sym, ap, subst, length, Option, None, Some}
use Rattle.std.specs.Option.{option_cmp}
use Rattle.std.specs.Ordering.{ord_max}
use Rattle.dep_shard.specs.Content.{HasNoReady}
use Rattle.dep_shard.specs.Queue.{Candidate, order}
use Rattle.dep_shard.proofs.QueueLemmas.{if_none}
use Rattle.dep_shard.proofs.Searches.{IsBestBelow, goes_on, walk_none, walk_some}
use Rattle.dep_shard.proofs.queue.best_by_walk.Goals as goal

pub loop-index-preserved : goal.loop-index-preserved
loop-index-preserved c =
    let es = c.args.table.now.entries in
    let n = c.loop-index.index in
    subst (λ (b : Option Candidate). IsBestBelow es (n + 1) b)
    (sym (c.max-best.ensures ∙ ap (ord_max (option_cmp order) c.loop-index.best) c.candidate_at.ensures))
    (goes_on es n c.loop-index.best c.loop-index.invariant)

pub returns-in_err-_priority-clause-none : goal.returns-in_err-_priority-clause-none
returns-in_err-_priority-clause-none c =
    let es = c.args.table.now.entries in
    let n = c.loop-index.index in
    let all : n ≡ length es = omega (arith, c.loop-index-test.false, c.loop-index.auto.index-end, c.len-index-end.ensures.len) in
    let nothing : c.loop-index.best ≡ None = search rules in
    let none : HasNoReady es = walk_none es n all (subst (λ (b : Option Candidate). IsBestBelow es n b) nothing c.loop-index.invariant) in
    if_none _ _ none

pub returns-clause-some : goal.returns-clause-some
returns-clause-some c =
    let es = c.args.table.now.entries in
    let n = c.loop-index.index in
    let all : n ≡ length es = omega (arith, c.loop-index-test.false, c.loop-index.auto.index-end, c.len-index-end.ensures.len) in
    let found : Candidate = (c.in_ok-_priority._priority, c.in_ok-_priority.field-0-1) in
    let one : c.loop-index.best ≡ Some found = search rules in
    walk_some es n found all c.len-index-end.ensures.distinct (subst (λ (b : Option Candidate). IsBestBelow es n b) one c.loop-index.invariant)
