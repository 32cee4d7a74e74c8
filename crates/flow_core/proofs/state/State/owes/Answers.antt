use Rattle.std.proofs.Common.{ap, refl, sym, ◌∙◌}
use Rattle.std.proofs.lemmas.Bool.{false≢true}
use Rattle.flow_meaning.specs.Ending.{has_outputs}
use Rattle.flow_core.proofs.Quiet.{edge_owed, write_owed}
use Rattle.flow_core.proofs.state.State.owes.Goals as goal

pub owes_edge-requires : goal.owes_edge-requires
owes_edge-requires c = record { task = c.requires.task; outputs = ap has_outputs c.requires.end ∙ sym c.if-not-has_outputs.ensures; fits = c.requires.fits }

pub owes_write-requires : goal.owes_write-requires
owes_write-requires c = record { task = c.requires.task; outputs = ap has_outputs c.requires.end ∙ sym c.if-not-has_outputs.ensures; fits = c.requires.fits }

pub returns-then-owes_edge : goal.returns-then-owes_edge
returns-then-owes_edge c = edge_owed c.args.m.now c.args.self.now.sends c.args.t.now c.args.end.now
    (sym c.if-not-has_outputs.ensures) (c.if-owes_edge.ensures.0 refl)

pub returns : goal.returns
returns c =
    write_owed c.args.m.now c.args.self.now.sends c.args.t.now c.args.end.now (sym c.if-not-has_outputs.ensures)
    (λ one. false≢true (c.if-owes_edge.ensures.1 one)) c.owes_write.result c.owes_write.ensures
