-- What proofs of other crates cite of this crate's proofs, and when. They import no other file of it.
-- == Belonging: Which links belong to targets, and to tasks.
-- links to a class's flow: one for each list of parameters
pub use Rattle.dep_iter.proofs.Belonging.{to_links}
-- a link made from a list of combinations has this class and these flows, and one combination
pub use Rattle.dep_iter.proofs.Belonging.{from_links}
-- each link to the targets of flow n has the near flow n
pub use Rattle.dep_iter.proofs.Belonging.{near_among}
-- a target that is listed with the number of a flow is a target of that flow
pub use Rattle.dep_iter.proofs.Belonging.{from_by_flow}
-- the links of a list of flows are those of the first flow, then those of the later ones
pub use Rattle.dep_iter.proofs.Belonging.{by_flow-links}
-- the link of an edge into a task, and that of an edge out of a task
pub use Rattle.dep_iter.proofs.Belonging.{link_in}
-- (definition) an edge as a link of its sender
pub use Rattle.dep_iter.proofs.Belonging.{link_out}
-- an edge made of a list of links into a task is to the task, and its link is in the list
pub use Rattle.dep_iter.proofs.Belonging.{from_edges_in}
-- an edge is one into a task if and only if its link is one of the flow that it goes into
pub use Rattle.dep_iter.proofs.Belonging.{in_edge_is}
-- an edge is an out edge of a task iff it is from the task and a link of its out flow's targets
pub use Rattle.dep_iter.proofs.Belonging.{out_edge_is}
-- the active targets of dependences, by whether the first dependence holds
pub use Rattle.dep_iter.proofs.Belonging.{held-none}
-- if only the first counts: the target of a first dependence that holds is the only one
pub use Rattle.dep_iter.proofs.Belonging.{held-first}
-- if all dependences count: the target of a first one that holds comes before the later targets
pub use Rattle.dep_iter.proofs.Belonging.{held-more}
-- these dependences of the flow stand for the edge
pub use Rattle.dep_iter.proofs.Belonging.{IsGiven}
-- an edge at a flow of the task is one of the task's iff the flow's dependences give it
pub use Rattle.dep_iter.proofs.Belonging.{edge-by}
-- an edge at a flow is among those before dependence k iff the first k dependences give it
pub use Rattle.dep_iter.proofs.Belonging.{before-by}
-- before the first dependence of a flow there are no edges
pub use Rattle.dep_iter.proofs.Belonging.{before-no_dependences}
-- == Directed: The dependences of a flow in one direction: their targets are those of the flow, and they fit if all of
-- the flow's do.
-- if the dependences of a flow fit in both directions, they fit in the given one
pub use Rattle.dep_iter.proofs.Directed.{fit_of}
-- == Distinctness: No combination occurs twice.
-- no edge into a task from one target of a flow occurs twice
pub use Rattle.dep_iter.proofs.Distinctness.{distinct_in}
-- no edge from a task to one target of a flow occurs twice
pub use Rattle.dep_iter.proofs.Distinctness.{distinct_out}
-- == Fitting: The targets of a well made plan fit it. The locals of its tasks.
-- if a list of locals of a task is its only one, it is the task's locals
pub use Rattle.dep_iter.proofs.Fitting.{locals_with-only}
-- == Items: The edges and the write-backs of a list of items.
-- edges that are the same item are equal
pub use Rattle.dep_iter.proofs.Items.{Edge-injective}
-- write-backs that are the same item are equal
pub use Rattle.dep_iter.proofs.Items.{Write-injective}
-- an edge is one of the edges of a list of items if and only if it is one of the items; likewise a write-back
pub use Rattle.dep_iter.proofs.Items.{edge_item}
-- an edge that is one of the items is an edge of the list of items
pub use Rattle.dep_iter.proofs.Items.{item_edge}
-- a write-back of a list of items is one of its items
pub use Rattle.dep_iter.proofs.Items.{write_item}
-- a write-back that is one of the items is a write-back of the list of items
pub use Rattle.dep_iter.proofs.Items.{item_write}
-- == Joining: Lists that are joined from parts, and the edges of a task as its links.
-- the in edges of a task are the edges of its links
pub use Rattle.dep_iter.proofs.Joining.{in_edges-links}
-- the edges that the targets of one flow stand for, in either direction, are their links as edges
pub use Rattle.dep_iter.proofs.Joining.{edges_into-among}
-- == Listing: The tasks of a job as one list.
-- the tasks of a job are those of the list
pub use Rattle.dep_iter.proofs.Listing.{listed}
-- the list of the tasks of all classes is as long as their total count
pub use Rattle.dep_iter.proofs.Listing.{length-tasks_from}
-- == Once: No task is listed twice. In a consistent job no task has an edge or a write-back twice, and none sends an
-- item twice.
-- each space of a plan is well made
pub use Rattle.dep_iter.proofs.Once.{well_space}
-- no task of a plan is listed twice
pub use Rattle.dep_iter.proofs.Once.{once-all_tasks}
-- no in edge of a task occurs twice
pub use Rattle.dep_iter.proofs.Once.{once-in_edges}
-- no out edge of a task occurs twice
pub use Rattle.dep_iter.proofs.Once.{once-out_edges}
-- no write-back of a task occurs twice
pub use Rattle.dep_iter.proofs.Once.{once-write_backs}
-- no item is sent twice
pub use Rattle.dep_iter.proofs.Once.{once-items}
