use Rattle.flow_core.proofs.Lookups.{added}
use Rattle.flow_core.proofs.arrivals.add_one.Goals as goal
use Rattle.list_lemmas.proofs.Options.{on_success}

pub returns : goal.returns
returns c = λ u.
    added c.args.table.now.entries c.insert.new.self.entries c.args.t.now c.copy.result u c.number_at-n.result
    c.copy.ensures c.number_at-n.ensures ((on_success _ _ c.unwrap-old.ensures c.insert.ensures.updates).0 u)
