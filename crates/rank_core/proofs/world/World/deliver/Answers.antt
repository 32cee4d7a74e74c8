use Rattle.std.proofs.Common.{◌≡◌, ◌<◌, length, ap, sym, ◌∙◌, subst, arith, slice_get}
use Rattle.std.specs.Option.{option_copied}
use Rattle.rank_core.specs.World.{rank_of}
use Rattle.rank_core.specs.Changes.{TakesEdgeAt}
use Rattle.rank_core.specs.Views.{WorldView}
use Rattle.rank_core.proofs.Keeping.{under_way_some}
use Rattle.rank_core.proofs.Kept.{delivered, stays, takes, target}
use Rattle.rank_core.proofs.world.World.deliver.Goals as goal

pub home_of-k-requires-clause-task : goal.home_of-k-requires-clause-task
home_of-k-requires-clause-task c =
    let i = c.self.inside in
    let m = c.in-Some.message.now in
    let found = sym (ap option_copied c.in-Some.is) ∙ c.get.ensures.value ∙ c.self.invariant.mail.under_way c.args.n in
    let is = under_way_some i.history.state.machine (slice_get i.history.state.messages c.args.n) m found in
    target i.matched.now i.given i.history.state i.ranks.items i.bench i.mail c.self.invariant c.args.n m is.0 is.1

pub take_edge_at-requires : goal.take_edge_at-requires
take_edge_at-requires c =
    let i = c.self.inside in
    let m = c.in-Some.message.now in
    let found = sym (ap option_copied c.in-Some.is) ∙ c.get.ensures.value ∙ c.self.invariant.mail.under_way c.args.n in
    let is = under_way_some i.history.state.machine (slice_get i.history.state.messages c.args.n) m found in
    let count : c.len.result ≡ length i.ranks.items = c.len.ensures ∙ i.ranks.ok.0 in
    let number : c.home_of-k.result ≡ rank_of i.matched.now (length i.ranks.items)
    m.edge.to = c.home_of-k.ensures.number ∙ ap (λ r. rank_of i.matched.now r m.edge.to) count in
    record {
      within = omega (arith, c.home_of-k.ensures.within, count);
      may = λ y at. takes i.matched.now i.given i.history.state i.ranks.items i.bench i.mail c.self.invariant c.args.n m
          is.0 is.1 c.data_are_well_made.ensures y (ap (slice_get i.ranks.items) (sym number) ∙ at);
    }

pub invariant_of-self : goal.invariant_of-self
invariant_of-self c =
    let i = c.self.inside in
    let count : c.len.result ≡ length i.ranks.items = c.len.ensures ∙ i.ranks.ok.0 in
    stays i.matched.now i.given i.history.state i.ranks.items i.bench i.mail c.self.invariant c.home_of-k.result
    c.take_edge_at.new.ranks.items (omega (arith, c.home_of-k.ensures.within, count))
    c.in_err-take_edge_at.ensures.err

pub invariant_of-self-2 : goal.invariant_of-self-2
invariant_of-self-2 c =
    let i = c.self.inside in
    let m = c.in-Some.message.now in
    let found = sym (ap option_copied c.in-Some.is) ∙ c.get.ensures.value ∙ c.self.invariant.mail.under_way c.args.n in
    let is = under_way_some i.history.state.machine (slice_get i.history.state.messages c.args.n) m found in
    let count : c.len.result ≡ length i.ranks.items = c.len.ensures ∙ i.ranks.ok.0 in
    let number : c.home_of-k.result ≡ rank_of i.matched.now (length i.ranks.items)
    m.edge.to = c.home_of-k.ensures.number ∙ ap (λ r. rank_of i.matched.now r m.edge.to) count in
    let few = subst (λ (w : WorldView). c.args.n < length w.state.messages) (sym c.self.view_is) c.requires in
    delivered i.matched.now i.given i.history.state i.ranks.items i.bench i.mail c.self.invariant c.args.n m is.0 is.1
    c.take_edge_at.new.ranks.items (record { under_way = c.swap_remove-message.new.self; sent = i.mail.sent })
    c.with_delivery-self-inside.result.state
    c.with_delivery-self-inside.ensures few (subst (λ k. TakesEdgeAt i.matched.now m k i.ranks.items
    c.take_edge_at.new.ranks.items) number c.in_ok-take_edge_at.ensures.ok) (λ k. i.mail.sent)
    c.swap_remove-message.ensures.updates.0

pub returns-clause-sound : goal.returns-clause-sound
returns-clause-sound c =
    let i = c.self.inside in
    let m = c.in-Some.message.now in
    let found = sym (ap option_copied c.in-Some.is) ∙ c.get.ensures.value ∙ c.self.invariant.mail.under_way c.args.n in
    let is = under_way_some i.history.state.machine (slice_get i.history.state.messages c.args.n) m found in
    let count : c.len.result ≡ length i.ranks.items = c.len.ensures ∙ i.ranks.ok.0 in
    let number : c.home_of-k.result ≡ rank_of i.matched.now (length i.ranks.items)
    m.edge.to = c.home_of-k.ensures.number ∙ ap (λ r. rank_of i.matched.now r m.edge.to) count in
    let few = subst (λ (w : WorldView). c.args.n < length w.state.messages) (sym c.self.view_is) c.requires in
    (delivered i.matched.now i.given i.history.state i.ranks.items i.bench i.mail c.self.invariant c.args.n m is.0 is.1
    c.take_edge_at.new.ranks.items (record { under_way = c.swap_remove-message.new.self; sent = i.mail.sent })
    c.with_delivery-self-inside.result.state
    c.with_delivery-self-inside.ensures few (subst (λ k. TakesEdgeAt i.matched.now m k i.ranks.items
    c.take_edge_at.new.ranks.items) number c.in_ok-take_edge_at.ensures.ok) (λ k. i.mail.sent)
    c.swap_remove-message.ensures.updates.0).sound
