-- What proofs of other crates cite of this crate's proofs, and when. They import no other file of it.
-- == Happening: What happens in a world is what some events of the event machine do.
-- a run of a task is its claim, and a send of each item within its rank
pub use Rattle.rank_core.proofs.Happening.{run_happens}
-- a delivery is the send of an edge, or nothing
pub use Rattle.rank_core.proofs.Happening.{delivered}
-- == Items: The items of a task: those within its rank, and its edges to other ranks.
-- an item of a task stays within its rank or goes to another
pub use Rattle.rank_core.proofs.Items.{within_or_between}
-- == Quiet: A world is quiescent if and only if its state of the event machine is.
-- a world is quiet if and only if its state is quiescent
pub use Rattle.rank_core.proofs.Quiet.{quiet_iff}
-- == Worlds: What each event of a world keeps.
-- an event that is possible keeps the world sound
pub use Rattle.rank_core.proofs.Worlds.{event_sound}
-- nothing has happened yet, so nothing is wrong
pub use Rattle.rank_core.proofs.Worlds.{opening_sound_world}
