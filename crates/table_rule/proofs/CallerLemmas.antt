-- What proofs of other crates cite of this crate's proofs, and when. They import no other file of it.
-- == AllNames: Lists of all passes: the first pass, after a split, after a join, in another order.
-- two passes joined as one are all passes as before
pub use Rattle.table_rule.proofs.AllNames.{join_all}
-- all passes are so in another order
pub use Rattle.table_rule.proofs.AllNames.{order_all}
-- == Alone: A pass with all names is the only one that has done anything.
-- the rule holds at what it did
pub use Rattle.table_rule.proofs.Alone.{alone_parts}
-- if it holds no turn, each turn is free
pub use Rattle.table_rule.proofs.Alone.{alone_free}
-- a pass alone: its stamps are those of the stamp word
pub use Rattle.table_rule.proofs.Alone.{alone_stamps}
-- == Ending: A turn is given back with the end of the running task.
-- the tasks that run are among the claims, so a sound state and the running tasks are a sound moment
pub use Rattle.table_rule.proofs.Ending.{sound_moment}
-- == Handing: What a pass was handed with its claims, as its record grows.
-- tasks were handed their inputs: the same for equal lists
pub use Rattle.table_rule.proofs.Handing.{handed_same}
-- == Living: The live word and the stamps in a step that draws no stamp, and how large the two words get.
-- whether two stamps are the same
pub use Rattle.table_rule.proofs.Living.{same_stamp}
-- the test `same_stamp` holds if and only if the stamps are equal
pub use Rattle.table_rule.proofs.Living.{same_stamp-decides}
-- and the stamp word is at most the number of tasks
pub use Rattle.table_rule.proofs.Living.{stamps_few}
-- == SameMembers: The rule depends on no order: it holds at each moment with the same members, and so at that of all
-- passes, joined.
-- the rule holds at the moment of all passes, joined
pub use Rattle.table_rule.proofs.SameMembers.{joined_parts}
-- == Seeing: What a pass that has taken the turn of a shard knows.
-- a shard that was seen is one of the table's
pub use Rattle.table_rule.proofs.Seeing.{seen_shard}
-- a shard that was seen shows its part of what all passes did
pub use Rattle.table_rule.proofs.Seeing.{seen_share}
-- a shard that was seen in a preloaded run has what it needs reserved
pub use Rattle.table_rule.proofs.Seeing.{seen_reserve}
-- the task that the pass runs is among the running tasks of the moment
pub use Rattle.table_rule.proofs.Seeing.{seen_runs}
-- and what it may send next, by its own record, may be sent
pub use Rattle.table_rule.proofs.Seeing.{seen_next}
-- == Sharing: The words of a table may be shared between threads, and a seat sent to one, as fields of other structs.
-- a job
pub use Rattle.table_rule.proofs.Sharing.{job_fields}
-- the words
pub use Rattle.table_rule.proofs.Sharing.{words_fields}
-- a seat
pub use Rattle.table_rule.proofs.Sharing.{seat_fields}
-- == Weighing: Weights of lists that change in one place, and lists that weigh no more than others.
-- one weight is at most the sum of all
pub use Rattle.table_rule.proofs.Weighing.{term_le}
-- == WordSteps: Steps on the halt word and on the live word: halt is raised, the live word is raised, lowered and read.
-- how large the live word and the stamp word get
pub use Rattle.table_rule.proofs.WordSteps.{live_at_most}
