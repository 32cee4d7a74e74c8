use Rattle.edge_match.proofs.edges.check_edge.Goals as goal

pub returns-in-Connecting : goal.returns-in-Connecting
returns-in-Connecting c = λ earlier same. rw c.in-Connecting.is (c.connect_edge.ensures earlier)
