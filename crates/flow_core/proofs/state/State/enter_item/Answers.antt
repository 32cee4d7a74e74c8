use Rattle.std.proofs.Common.{◌≡◌, ◌+◌, None, ap, subst, sym, ◌∙◌}
use Rattle.list_lemmas.specs.Counting.{as_number}
use Rattle.flow_meaning.specs.Machine.{SentItem}
use Rattle.flow_core.specs.Arrivals.{edge_count_to, is_edge_to}
use Rattle.flow_core.specs.Kept.{AreKept, SentAndKept, kept_with, sent_as}
use Rattle.flow_core.specs.RunState.{RunState, mark_of}
use Rattle.flow_core.specs.SentItems.{IsUnsent}
use Rattle.flow_core.proofs.Fitting.{counts_push}
use Rattle.flow_core.proofs.Kept.{kept_as, kept_push, unread_waiting, unsent_as}
use Rattle.flow_core.proofs.state.State.enter_item.Goals as goal
use Rattle.flow_meaning.specs.Numbers.{number_for}

pub add-requires : goal.add-requires
add-requires c =
    let i = c.args.item.now in
    let claims = c.self.inside.claims.entries in
    let sent = c.self.inside.sent in
    let unread = unread_waiting claims i (λ u k. ap (λ (r : RunState). mark_of r u) c.self.view_is ∙ (c.requires.target u k).0) in
    let none : sent_as i sent.sends ≡ None = (unsent_as i sent.sends).1 (subst (λ (r : RunState). IsUnsent r.sends i) (sym c.self.view_is) c.requires.unsent) in
    subst (λ j. sent_as j (kept_with j sent) ≡ None) (sym c.copy_of_item.ensures) (kept_as claims sent c.self.invariant.tiles i unread ∙ none)

pub invariant_of-self-2 : goal.invariant_of-self-2
invariant_of-self-2 c =
    let sent = c.self.inside.sent in
    let x : SentItem = record { item = c.copy_of_item.result; tile = c.in_ok-tile.tile } in
    record {
      counts = λ t none.
          counts_push c.self.inside.arrived.entries c.count_item.new.table.entries c.self.inside.claims.entries sent.sends x c.self.invariant.counts
          (λ u. c.count_item.ensures u ∙ (λ i. number_for (c.in_ok-reserve.ensures.entries i) u + as_number
          (is_edge_to u (sym c.copy_of_item.ensures i)))) t none
          ∙ ap (λ (s : SentAndKept). edge_count_to t s.sends) (sym c.in_ok-add.ensures.ok);
      tiles = subst (AreKept c.self.inside.claims.entries) (sym c.in_ok-add.ensures.ok) (kept_push c.self.inside.claims.entries sent x c.self.invariant.tiles);
    }
