-- What proofs of other crates cite of this crate's proofs, and when. They import no other file of it.
-- == Answered: The answer of a quiescent sound state is that of the backward meaning.
-- the answer of the state is that of the meaning
pub use Rattle.flow_meaning.proofs.Answered.{answer_same}
-- == Arriving: What a send changes: one more edge has arrived at its target, and nothing else changes.
-- in a consistent job an edge that is sent goes into its target
pub use Rattle.flow_meaning.proofs.Arriving.{sent_edge_in}
-- an edge that is not in a list is there zero times
pub use Rattle.flow_meaning.proofs.Arriving.{no_edge}
-- an edge occurs at most once among edges without repeats
pub use Rattle.flow_meaning.proofs.Arriving.{edge_once}
-- an edge that is sent adds one to what has come to its target
pub use Rattle.flow_meaning.proofs.Arriving.{arrives}
-- and nothing to any other task
pub use Rattle.flow_meaning.proofs.Arriving.{arrives_not}
-- a write-back changes no count of edges that have come
pub use Rattle.flow_meaning.proofs.Arriving.{writes_not}
-- once an edge is sent, it delivers the tile of its flow
pub use Rattle.flow_meaning.proofs.Arriving.{delivers_now}
-- an item that is sent changes no tile that another edge delivers
pub use Rattle.flow_meaning.proofs.Arriving.{delivers_as_before}
-- == Comparing: The test of sameness of items holds of one item alone.
-- the test `same_item` holds if and only if the items are equal
pub use Rattle.flow_meaning.proofs.Comparing.{same_item-decides}
-- == Destinations: The targets of a flow's out dependences, and the flow that a write-back comes from.
-- an active target of an out dependence is one that the flow may have
pub use Rattle.flow_meaning.proofs.Destinations.{destination}
-- a write-back of a task is one of its flows', with the place that the flow writes to
pub use Rattle.flow_meaning.proofs.Destinations.{writing_flow}
-- == Enough: As many rounds as a job has tasks are enough.
-- a task that ended with outputs has ended
pub use Rattle.flow_meaning.proofs.Enough.{with_outputs}
-- how a task ends is determined by how its sources end
pub use Rattle.flow_meaning.proofs.Enough.{fixed}
-- a task ends if its sources all have outputs
pub use Rattle.flow_meaning.proofs.Enough.{ends_after}
-- == Events: What each event keeps: the state stays sound.
-- a task that was claimed is one of the claims, and the other way round
pub use Rattle.flow_meaning.proofs.Events.{claim_member}
-- a task among the claims is claimed
pub use Rattle.flow_meaning.proofs.Events.{member_claim}
-- an item that was sent is the item of one of the sends
pub use Rattle.flow_meaning.proofs.Events.{send_member}
-- an item among the sends is sent
pub use Rattle.flow_meaning.proofs.Events.{member_send}
-- an item that is not sent was sent zero times
pub use Rattle.flow_meaning.proofs.Events.{unsent}
-- if as many edges into a task were sent as there are, each was
pub use Rattle.flow_meaning.proofs.Events.{each_arrived}
-- an edge that was sent delivers its tile
pub use Rattle.flow_meaning.proofs.Events.{delivers}
-- if all edges into a task were sent, it ends as the backward meaning says
pub use Rattle.flow_meaning.proofs.Events.{ends_so}
-- so the task ends
pub use Rattle.flow_meaning.proofs.Events.{it_ends}
-- and the tiles that were sent to it are its inputs
pub use Rattle.flow_meaning.proofs.Events.{has_inputs}
-- a claim that may happen keeps the state sound
pub use Rattle.flow_meaning.proofs.Events.{claim_sound}
-- a send that may happen keeps the state sound
pub use Rattle.flow_meaning.proofs.Events.{send_sound}
-- an event that is possible keeps the state sound
pub use Rattle.flow_meaning.proofs.Events.{event_sound}
-- no item of a task that was not claimed was sent
pub use Rattle.flow_meaning.proofs.Events.{unclaimed_unsent}
-- the opening state is sound, as nothing has happened
pub use Rattle.flow_meaning.proofs.Events.{opening_sound}
-- every list of events leads from a sound state to a sound state
pub use Rattle.flow_meaning.proofs.Events.{happen_sound}
-- == Members: The edges into a task and out of it.
-- the edges into a task go to it
pub use Rattle.flow_meaning.proofs.Members.{in_edge_to}
-- the edges out of a task come from it
pub use Rattle.flow_meaning.proofs.Members.{out_edge_from}
-- in a consistent job an edge into a task is an item of the task that it comes from
pub use Rattle.flow_meaning.proofs.Members.{in_edge_item}
-- the source of an in edge is a task of the plan
pub use Rattle.flow_meaning.proofs.Members.{source_is_task}
-- == Once: No task is listed twice. In a quiescent state, each task that runs was claimed once.
-- no task of a job is listed twice
pub use Rattle.flow_meaning.proofs.Once.{tasks_once}
-- no more tasks are claimed than there are
pub use Rattle.flow_meaning.proofs.Once.{claims_at_most}
-- the claimed tasks are those that run, each once
pub use Rattle.flow_meaning.proofs.Once.{claims_members}
-- the claimed tasks that trap are those of the meaning
pub use Rattle.flow_meaning.proofs.Once.{traps_same}
-- == Orders: Legal orders.
-- a legal order stays legal with one more task that may follow
pub use Rattle.flow_meaning.proofs.Orders.{legal_push}
-- == Quiet: A quiescent sound state has what the backward meaning says.
-- a claimed task ends
pub use Rattle.flow_meaning.proofs.Quiet.{claimed_ends}
-- the tasks that were claimed are those that run
pub use Rattle.flow_meaning.proofs.Quiet.{claims_are_ran}
-- the items that were sent are those of the tasks that have outputs
pub use Rattle.flow_meaning.proofs.Quiet.{sent_are_items}
-- == Reordering: The order in which tasks were claimed and items sent does not matter to a state.
-- the test `same_sent_item` holds if and only if the items that were sent are equal
pub use Rattle.flow_meaning.proofs.Reordering.{same_sent_item-decides}
-- a claim is one in another order
pub use Rattle.flow_meaning.proofs.Reordering.{claim_in}
-- a sound state is so in another order
pub use Rattle.flow_meaning.proofs.Reordering.{reordered_sound}
-- a quiescent state is so in another order
pub use Rattle.flow_meaning.proofs.Reordering.{reordered_quiescent}
-- another order, the other way round
pub use Rattle.flow_meaning.proofs.Reordering.{back}
-- there is no tile for an item that was not sent
pub use Rattle.flow_meaning.proofs.Reordering.{first_none}
-- an event that is possible is so in the same state in another order
pub use Rattle.flow_meaning.proofs.Reordering.{possible_there}
-- a table holds the same
pub use Rattle.flow_meaning.proofs.Reordering.{table_same}
-- == Rest: A sound state is quiescent if and only if no task may be claimed and each claimed task is finished.
-- an item of a task has that task as its sender
pub use Rattle.flow_meaning.proofs.Rest.{item_sender}
-- a write-back of a task comes from it
pub use Rattle.flow_meaning.proofs.Rest.{write_from}
-- a state is quiescent if and only if it is at rest
pub use Rattle.flow_meaning.proofs.Rest.{rests}
-- == Rounds: What a round of the backward meaning takes from the round before it.
-- the same tiles come to a task if the edges into it deliver the same
pub use Rattle.flow_meaning.proofs.Rounds.{delivered_tiles-same}
-- a task that has ended had all its sources
pub use Rattle.flow_meaning.proofs.Rounds.{has_sources}
-- == Sizes: The tiles that tasks leave have the sizes of their flows' types.
-- the flows of a task are those of its class
pub use Rattle.flow_meaning.proofs.Sizes.{flow_is}
-- a task that ended with outputs ended with tiles
pub use Rattle.flow_meaning.proofs.Sizes.{with_tiles}
-- the collection of the source has the type of the flow
pub use Rattle.flow_meaning.proofs.Sizes.{coll_type}
-- the tiles that a task leaves have the shape of those that it starts on
pub use Rattle.flow_meaning.proofs.Sizes.{ended_shape}
-- the tiles that a task leaves have the sizes of its flows
pub use Rattle.flow_meaning.proofs.Sizes.{ended_sized}
-- the tiles are as many as the task has flows
pub use Rattle.flow_meaning.proofs.Sizes.{ended_places}
-- each item of a data flow has a tile
pub use Rattle.flow_meaning.proofs.Sizes.{item_sized}
-- == SourceEdges: If the source of a data flow is an edge, that edge is one of those into the task.
-- a task of the plan has a class of the plan
pub use Rattle.flow_meaning.proofs.SourceEdges.{class_of}
-- the edge that a flow's data come by is one of the task's in edges
pub use Rattle.flow_meaning.proofs.SourceEdges.{source_in}
-- if an edge goes into the flow, it is the flow's source
pub use Rattle.flow_meaning.proofs.SourceEdges.{only_source}
-- the source of a flow goes into it
pub use Rattle.flow_meaning.proofs.SourceEdges.{source_at_flow}
-- == Starting: The sizes of what a task starts on: its flows, its locals and its datatypes.
-- there is an entry for each flow
pub use Rattle.flow_meaning.proofs.Starting.{length-tiles_from}
-- a task starts with one entry for each of its flows
pub use Rattle.flow_meaning.proofs.Starting.{length-starting_tiles}
-- a task has a local for each definition of its class
pub use Rattle.flow_meaning.proofs.Starting.{length-locals_of}
-- a type of a flow with data is one of the types
pub use Rattle.flow_meaning.proofs.Starting.{known_type}
-- the type of a flow is one of the plan's
pub use Rattle.flow_meaning.proofs.Starting.{known_datatype}
-- the tile of a flow has a known type
pub use Rattle.flow_meaning.proofs.Starting.{found_known}
