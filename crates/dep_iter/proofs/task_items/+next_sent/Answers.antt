use Rattle.std.proofs.Common.{refl, sym, ◌∙◌}
use Rattle.std.proofs.lemmas.Bool.{OnTrue_at}
use Rattle.dep_iter.specs.Links.{link}
use Rattle.dep_iter.specs.Walking.{link_item}
use Rattle.dep_iter.proofs.Sending.{items_to-links, links_left, none_first, none_left, one_left, only_link}
use Rattle.dep_iter.proofs.task_items.+next_sent.Goals as goal

pub returns-in_err-target-clause-found : goal.returns-in_err-target-clause-found
returns-in_err-target-clause-found t c =
    let links = c.args.at_hand.now in
    let none = none_first links (sym c.has_next.ensures ∙ c.if-has_next.false) in
    let found = c.in_err-target.ensures.found in
    let old = none_left c.args.task.now c.args.env.now links c.args.p.now none found.0 in
    let new = none_left c.args.task.now c.args.env.now links c.next_target.new.p none found.1 in
    rw c.from_residual.ensures (old, new)

pub returns-then-push_only-clause-found : goal.returns-then-push_only-clause-found
returns-then-push_only-clause-found t c =
    let task = c.args.task.now in
    let env = c.args.env.now in
    let links = c.args.at_hand.now in
    let new = c.next_target.new.p in
    let none = none_first links (sym c.has_next.ensures ∙ c.if-has_next.false) in
    let only = OnTrue_at c.if-push_only.true (rw (c.as_slice-in-Task.ensures, c.new-params.ensures) at c.push_only.ensures) in
    let one = only_link task env new.flow c.in-Task.class c.in-Task.flow c.in-Task.args c.push_only.new.values only in
    let edge = link_item task (link new.flow c.in-Task.class c.in-Task.flow c.push_only.new.values) in
    rw (c.link_item.ensures, c.as_slice-then-push_only.ensures.same)
    (one_left task env links c.args.p.now new new.flow c.in_ok-target.target.now edge none c.in_ok-target.ensures.found (rw c.in-Task.is one))

pub returns-else-push_only-clause-found : goal.returns-else-push_only-clause-found
returns-else-push_only-clause-found t c =
    let task = c.args.task.now in
    let env = c.args.env.now in
    let links = c.args.at_hand.now in
    let new = c.next_target.new.p in
    let none = none_first links (sym c.has_next.ensures ∙ c.if-has_next.false) in
    let same = items_to-links task env new.flow c.in-Task.class c.in-Task.flow c.in-Task.args in
    let left = links_left task env links c.args.p.now new new.flow c.in_ok-target.target.now c.restart.new.self none
    c.in_ok-target.ensures.found (rw (c.restart.ensures, c.in-Task.is) same) in
    rw left c.next_sent.ensures.found

pub returns-in-Element-clause-found : goal.returns-in-Element-clause-found
returns-in-Element-clause-found t c =
    let links = c.args.at_hand.now in
    let new = c.next_target.new.p in
    let none = none_first links (sym c.has_next.ensures ∙ c.if-has_next.false) in
    rw (c.write_item.ensures, c.as_slice-in-Element.ensures)
    (one_left c.args.task.now c.args.env.now links c.args.p.now new new.flow c.in_ok-target.target.now _ none
    c.in_ok-target.ensures.found (rw c.in-Element.is refl))
