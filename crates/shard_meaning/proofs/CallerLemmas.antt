-- What proofs of other crates cite of this crate's proofs, and when. They import no other file of it.
-- == Calming: Calm moments: none of the shards has work. With all claimed tasks finished, such a moment is at rest.
-- a run is calm if each shard is
pub use Rattle.shard_meaning.proofs.Calming.{calm_by_shards}
-- and at a calm moment no shard has work
pub use Rattle.shard_meaning.proofs.Calming.{calm_shard}
-- a calm run whose tasks have finished is quiescent
pub use Rattle.shard_meaning.proofs.Calming.{calm_quiescent}
-- a claim leaves the tasks that have ended finished
pub use Rattle.shard_meaning.proofs.Calming.{finished-claim}
-- a send leaves the tasks that have ended finished
pub use Rattle.shard_meaning.proofs.Calming.{finished-send}
-- a task that ends has trapped, or all its items were sent
pub use Rattle.shard_meaning.proofs.Calming.{finished-end}
-- == Claims: A claim changes the shard of its task as the call that takes the entry does, and no other shard.
-- a shard of a run has the entries of its tasks
pub use Rattle.shard_meaning.proofs.Claims.{entries_of}
-- a shard that takes a task's entry shows the run after the claim
pub use Rattle.shard_meaning.proofs.Claims.{claim_here}
-- a claim of another shard's task changes nothing here
pub use Rattle.shard_meaning.proofs.Claims.{claim_away}
-- == Destinations: The flow from which an item is sent; a tile comes only to a data flow.
-- the flows of a task are those of its class
pub use Rattle.shard_meaning.proofs.Destinations.{flow_is}
-- a write-back of a task is one of its flows', with the place that the flow writes to
pub use Rattle.shard_meaning.proofs.Destinations.{writes_from}
-- == Due: What is still due at a moment: an event makes nothing due, and one thing that was due no longer is.
-- an item that may be sent is not sent yet
pub use Rattle.shard_meaning.proofs.Due.{unsent_yet}
-- how often other tasks run after the end of a task
pub use Rattle.shard_meaning.proofs.Due.{runs_as_before}
-- a task that ends runs once less
pub use Rattle.shard_meaning.proofs.Due.{runs_once_less}
-- == Ends: The end of a task changes its shard as the calls that end it do, and no other shard.
-- a shard of which nothing but the spares has changed
pub use Rattle.shard_meaning.proofs.Ends.{unchanged}
-- a shard that notes an end shows the run after it
pub use Rattle.shard_meaning.proofs.Ends.{end_here}
-- a shard that notes a trap shows the run after the task's end
pub use Rattle.shard_meaning.proofs.Ends.{trap_here}
-- the end of another shard's task changes nothing here
pub use Rattle.shard_meaning.proofs.Ends.{end_away}
-- == Entries: What an event changes in the entries that a shard should hold.
-- an edge that may be sent has delivered nothing yet
pub use Rattle.shard_meaning.proofs.Entries.{nothing_yet}
-- what the edge finds in the shard of its target: as the table has it
pub use Rattle.shard_meaning.proofs.Entries.{finds}
-- == Holding: What the holder of a shard knows: which tasks may be claimed, what a claim hands out, and the bounds of
-- its two numbers.
-- a task that may be claimed ends
pub use Rattle.shard_meaning.proofs.Holding.{claim_ends}
-- a task with a ready entry may be claimed
pub use Rattle.shard_meaning.proofs.Holding.{ready_may}
-- and a task of the shard that may be claimed has one
pub use Rattle.shard_meaning.proofs.Holding.{may_ready}
-- a claim hands out the inputs of its task
pub use Rattle.shard_meaning.proofs.Holding.{claim_inputs}
-- as many tasks of the shard run or have ended as were claimed, so no more than a job may have
pub use Rattle.shard_meaning.proofs.Holding.{numbers_at_most}
-- and fewer, if a task has an entry
pub use Rattle.shard_meaning.proofs.Holding.{numbers_with_entry}
-- if a task of the shard runs, the shard's number of running tasks is not 0
pub use Rattle.shard_meaning.proofs.Holding.{some_runs}
-- == Listing: Members, counts and weights of lists.
-- the weight of a list without one of its tasks
pub use Rattle.shard_meaning.proofs.Listing.{weigh-without}
-- == Openings: What shards hold, and which spares they need, before the first event.
-- no edge has come before the first event
pub use Rattle.shard_meaning.proofs.Openings.{none_arrived}
-- a shard with the entries of the tasks without in edges shows the start of a run
pub use Rattle.shard_meaning.proofs.Openings.{opening_share}
-- what is reserved at the start is enough for the run
pub use Rattle.shard_meaning.proofs.Openings.{opening_reserve}
-- no task is claimed, so all claimed tasks are finished
pub use Rattle.shard_meaning.proofs.Openings.{opening_finished}
-- == Placing: The number of a task's shard is below the number of shards.
-- the home of a task is one of the shards
pub use Rattle.shard_meaning.proofs.Placing.{home_below}
-- the shard of a task is one of the shards
pub use Rattle.shard_meaning.proofs.Placing.{shard_below}
-- == ReadyCount: How many tasks are ready: with the claimed ones no more than the job has, one fewer after a claim, one
-- more after a send that makes a task ready.
-- the ready tasks are those of the job that are ready
pub use Rattle.shard_meaning.proofs.ReadyCount.{ready_count}
-- the tasks that are ready and those that were claimed are no more than there are
pub use Rattle.shard_meaning.proofs.ReadyCount.{ready_at_most}
-- a claim makes one fewer ready
pub use Rattle.shard_meaning.proofs.ReadyCount.{ready-claim}
-- a send of the last edge into a task makes it ready
pub use Rattle.shard_meaning.proofs.ReadyCount.{ready-fires}
-- a send of another one makes none ready
pub use Rattle.shard_meaning.proofs.ReadyCount.{ready-waits}
-- a write-back changes no count of ready tasks
pub use Rattle.shard_meaning.proofs.ReadyCount.{ready-write}
-- == Reordered: In whatever order tasks were claimed and items sent, shards hold the same, and the moment is as sound,
-- finished and calm.
-- what is reserved is enough in another order
pub use Rattle.shard_meaning.proofs.Reordered.{reordered_reserve}
-- tasks that have ended are finished in another order
pub use Rattle.shard_meaning.proofs.Reordered.{reordered_finished}
-- a sound moment is so in another order
pub use Rattle.shard_meaning.proofs.Reordered.{reordered_moment}
-- a shard shows its part of a run in another order
pub use Rattle.shard_meaning.proofs.Reordered.{reordered_share}
-- a calm moment is so in another order
pub use Rattle.shard_meaning.proofs.Reordered.{reordered_calm}
-- == Reserving: Each event keeps the reserve of every shard; in its own shard, also after the call has used what it
-- needs.
-- nothing has happened, and the call has used nothing
pub use Rattle.shard_meaning.proofs.Reserving.{reserve-unchanged}
-- a claim keeps what is reserved
pub use Rattle.shard_meaning.proofs.Reserving.{reserve-claim_away}
-- a send to another shard keeps what is reserved here
pub use Rattle.shard_meaning.proofs.Reserving.{reserve-send_away}
-- the end of another shard's task keeps what is reserved here
pub use Rattle.shard_meaning.proofs.Reserving.{reserve-end_away}
-- a claim here
pub use Rattle.shard_meaning.proofs.Reserving.{reserve-claim}
-- an end here without a trap
pub use Rattle.shard_meaning.proofs.Reserving.{reserve-end}
-- there is a row to spare for a task that runs
pub use Rattle.shard_meaning.proofs.Reserving.{spare-trap}
-- an end here by a trap
pub use Rattle.shard_meaning.proofs.Reserving.{reserve-trap}
-- == SendReserving: The reserve of a shard is enough for a send of an edge to one of its tasks or of a write-back of
-- one, and the send keeps it.
-- an edge uses one entry and one tile of those that are reserved
pub use Rattle.shard_meaning.proofs.SendReserving.{reserve-edge}
-- there is a spare entry, and a spare tile, if they are needed
pub use Rattle.shard_meaning.proofs.SendReserving.{spare-entry}
-- there is a reserved tile for an edge that may be sent
pub use Rattle.shard_meaning.proofs.SendReserving.{spare-edge_tile}
-- a write-back uses one of those that are reserved
pub use Rattle.shard_meaning.proofs.SendReserving.{reserve-write}
-- there is a spare place for the write-back, and a spare tile
pub use Rattle.shard_meaning.proofs.SendReserving.{spare-write}
-- there is a reserved tile for a write-back that may happen
pub use Rattle.shard_meaning.proofs.SendReserving.{spare-write_tile}
-- == Sends: A send changes the shard of its item as the call that notes it does, and no other shard.
-- a shard to which an edge comes shows the run after it
pub use Rattle.shard_meaning.proofs.Sends.{edge_here}
-- an edge to another shard's task changes nothing here
pub use Rattle.shard_meaning.proofs.Sends.{edge_away}
-- a shard that keeps a write-back shows the run after it
pub use Rattle.shard_meaning.proofs.Sends.{write_here}
-- a write-back to another shard changes nothing here
pub use Rattle.shard_meaning.proofs.Sends.{write_away}
-- == Sharing: A job may be shared between threads: its plan, its edges and its data, type by type from expressions
-- upwards; a shard may be sent and shared.
-- a struct may be shared if its fields may be
pub use Rattle.shard_meaning.proofs.Sharing.{declared_sync}
-- a matched plan may be shared between threads
pub use Rattle.shard_meaning.proofs.Sharing.{matched_sync}
-- data may be shared between threads
pub use Rattle.shard_meaning.proofs.Sharing.{given_sync}
-- a shard may move to another thread
pub use Rattle.shard_meaning.proofs.Sharing.{shard_send}
-- a shard may be shared between threads
pub use Rattle.shard_meaning.proofs.Sharing.{shard_sync}
-- == SoundMoments: Sound moments, and what follows from the bounds of a job.
-- no item of a task that was not claimed was sent
pub use Rattle.shard_meaning.proofs.SoundMoments.{unclaimed_unsent}
-- no more tasks are claimed than there are
pub use Rattle.shard_meaning.proofs.SoundMoments.{claims_at_most}
-- the event machine may send whatever a running task may send next
pub use Rattle.shard_meaning.proofs.SoundMoments.{next_may}
-- what is sent with an item is what its task leaves
pub use Rattle.shard_meaning.proofs.SoundMoments.{sent_is}
-- == Targets: What an edge that may be sent finds at its target: an entry that waits for it, or none yet.
-- the target of an edge is a task of the plan
pub use Rattle.shard_meaning.proofs.Targets.{target_is_task}
-- the flow of an edge's target is one of eight
pub use Rattle.shard_meaning.proofs.Targets.{target_flow}
-- the target of an edge waits for at least one edge
pub use Rattle.shard_meaning.proofs.Targets.{target_goal}
-- the target waits
pub use Rattle.shard_meaning.proofs.Targets.{target_waits}
-- the edge makes it ready if and only if it is the last
pub use Rattle.shard_meaning.proofs.Targets.{target_fires}
-- an entry that is there has the goal and the priority of the plan, and it is what the edge finds
pub use Rattle.shard_meaning.proofs.Targets.{target_entry}
-- == Typing: The tile of an item is of the type of the flow that it comes to, or that it is written from.
-- the flow that an edge goes to
pub use Rattle.shard_meaning.proofs.Typing.{edge_flow}
-- an edge to a CTL flow carries no tile
pub use Rattle.shard_meaning.proofs.Typing.{edge_empty}
-- and one to a data flow a tile of its type
pub use Rattle.shard_meaning.proofs.Typing.{edge_typed}
-- a write-back has a tile of the type of its flow
pub use Rattle.shard_meaning.proofs.Typing.{write_typed}
