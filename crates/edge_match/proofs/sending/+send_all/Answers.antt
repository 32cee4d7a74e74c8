use Rattle.std.proofs.Common.{false, sym}
use Rattle.std.specs.List.{flat_map}
use Rattle.list_lemmas.proofs.Truth.{on_true_weaker}
use Rattle.dep_iter.specs.Active.{held_targets}
use Rattle.dep_iter.specs.Items.{items_to}
use Rattle.dep_iter.proofs.CallerLemmas.{held-more, held-none}
use Rattle.edge_match.proofs.SentItems.{sent_append}
use Rattle.edge_match.proofs.sending.+send_all.Goals as goal

pub returns-in_default-held_target : goal.returns-in_default-held_target
returns-in_default-held_target m c = λ t n.
    rw (
      c.in-Some.ensures.cases.0,
      held-none false c.in-Some.d.now c.in-Some.later.now c.args.env.now
          (sym c.in_default-held_target.ensures),
    ) (c.send_all.ensures t n)

pub returns : goal.returns
returns m c = λ t n.
    let env = c.args.env.now in
    let later = c.in-Some.later.now in
    let x = c.in-Some-held_target.target.now in
    rw (c.in-Some.ensures.cases.0, held-more c.in-Some.d.now later env x (sym c.in-Some-held_target.ensures))
    (on_true_weaker c.send_all-2.result
    (sent_append c.args.plan.now.colls c.args.outs.now c.send_target.new.outs c.send_all-2.new.outs (items_to t env n x)
    (flat_map (items_to t env n) (held_targets false later env)) (c.if-not-send_target.ensures t n))
    (c.send_all-2.ensures t n))
