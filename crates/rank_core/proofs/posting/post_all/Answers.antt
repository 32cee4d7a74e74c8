use Rattle.std.proofs.Common.{◌≤◌, List, length, sym, ◌∙◌, subst}
use Rattle.indexmap.specs.IndexMap.{spare}
use Rattle.std.proofs.lemmas.List.{nil_from_length}
use Rattle.rank_core.specs.declared.message.Message.{Message}
use Rattle.rank_core.specs.RunningTasks.{AreBlank, its_edges_between, plan_of}
use Rattle.rank_core.proofs.Outgoings.{PostedSoFar, post_few, post_room, post_shape, post_then, posted_first}
use Rattle.rank_core.proofs.Outgoings.{posted_last}
use Rattle.rank_core.proofs.posting.post_all.Goals as goal

pub loop-message-init : goal.loop-message-init
loop-message-init c =
    let v = c.args.at.now in
    record {
      can_next = tt;
      is_finite = tt;
      so_far = posted_first v c.requires.runs c.args.bench.now.tiles c.requires.tiles
          c.into_iter-message-iterator.result.rest.items c.args.mail.now
          (subst (λ ms. AreBlank (plan_of v) (its_edges_between v) ms)
          (sym c.into_iter-message-iterator.ensures.into_iter_gives.0) c.requires.blank)
          c.requires.mail (subst (λ ms. length ms ≤ spare c.args.mail.now.under_way)
          (sym c.into_iter-message-iterator.ensures.into_iter_gives.0) c.requires.room);
    }

pub post-requires : goal.post-requires
post-requires c =
    let v = c.args.at.now in
    let h = c.requires.runs in
    let l = subst (λ (ms : List Message). PostedSoFar v c.args.bench.now.tiles ms c.loop-message.mail)
    c.in-Some.ensures.steps.0 c.loop-message.invariant.so_far in
    record {
      room = post_room v h c.args.bench.now.tiles c.requires.tiles c.in-Some.message c.next.new.self.rest.items
          c.loop-message.mail l;
      at_most = post_few v h c.args.bench.now.tiles c.requires.tiles c.in-Some.message c.next.new.self.rest.items
          c.loop-message.mail l;
      shape = post_shape v h c.args.bench.now.tiles c.requires.tiles c.in-Some.message c.next.new.self.rest.items
          c.loop-message.mail l;
    }

pub loop-message-preserved : goal.loop-message-preserved
loop-message-preserved c =
    let v = c.args.at.now in
    let h = c.requires.runs in
    let l = subst (λ (ms : List Message). PostedSoFar v c.args.bench.now.tiles ms c.loop-message.mail)
    c.in-Some.ensures.steps.0 c.loop-message.invariant.so_far in
    record {
      can_next = tt;
      is_finite = tt;
      so_far = post_then v h c.args.bench.now.tiles c.requires.tiles
          c.in-Some.message c.next.new.self.rest.items c.loop-message.mail l c.post.new.mail c.post.ensures.table
          c.post.ensures.sent c.post.ensures.room;
    }

pub returns : goal.returns
returns c =
    let v = c.args.at.now in
    let l = subst (λ (ms : List Message). PostedSoFar v c.args.bench.now.tiles ms c.loop-message.mail)
    (nil_from_length c.loop-message.message-iterator.rest.items
    (sym c.loop-message.message-iterator.rest.ok.0 ∙ c.in-None.ensures.steps.0)) c.loop-message.invariant.so_far in
    posted_last v c.requires.runs c.args.bench.now.tiles c.requires.tiles c.loop-message.mail l
