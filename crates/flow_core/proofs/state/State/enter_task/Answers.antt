use Rattle.std.proofs.Common.{sym, subst}
use Rattle.flow_core.specs.Keeping.{Keeps}
use Rattle.flow_core.proofs.Fitting.{counts_claim, entered, grown}
use Rattle.flow_core.proofs.Kept.{kept_claim}
use Rattle.list_lemmas.proofs.Lookups.{turned}
use Rattle.flow_core.proofs.state.State.enter_task.Goals as goal

pub returns-clause-ok : goal.returns-clause-ok
returns-clause-ok c =
    entered c.self.inside.claims.entries c.insert.new.self.entries c.self.inside.sent.sends
    c.self.inside.outputs.entries c.args.self.now c.args.t.now c.copy.result
    c.self.view_is c.requires c.copy.ensures c.in_ok-insert.ensures.entries

pub invariant_of-self-2 : goal.invariant_of-self-2
invariant_of-self-2 c =
    let t = c.args.t.now in
    let claims = c.self.inside.claims.entries in
    let sent = c.self.inside.sent in
    let now = grown claims c.insert.new.self.entries sent.sends c.self.inside.outputs.entries c.args.self.now t
    c.copy.result c.self.view_is c.requires c.copy.ensures c.in_ok-insert.ensures.entries in
    subst (λ cs. Keeps cs c.swap_remove.new.self.entries sent) (sym now) (record {
      counts = counts_claim c.self.inside.arrived.entries c.swap_remove.new.self.entries claims sent.sends t
          c.self.invariant.counts (λ u apart. c.swap_remove.ensures.updates.2 u (turned u t apart));
      tiles = kept_claim claims t sent c.self.invariant.tiles;
    })
