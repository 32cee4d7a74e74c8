-- What proofs of other crates cite of this crate's proofs, and when. They import no other file of it.
-- == Accepted: What the fields of an accepted collection and of an accepted tile spell, test by test.
-- the shape and the type that a collection asked for
pub use Rattle.data_read.proofs.Accepted.{IsAsked}
-- an accepted collection has a known datatype, a shape that its fields spell, and room for its tiles
pub use Rattle.data_read.proofs.Accepted.{asked}
-- the index and the tile of a record
pub use Rattle.data_read.proofs.Accepted.{IsNewTile}
-- for an accepted tile: its fields spell a free index and no more values than it has elements
pub use Rattle.data_read.proofs.Accepted.{accepted_tile}
-- == Choices: What the outcome of a choice, a test or a value shows.
-- to prove P by the two cases of an option, with the equation of each case
pub use Rattle.data_read.proofs.Choices.{by_option}
-- a fault is no value
pub use Rattle.data_read.proofs.Choices.{no_value}
-- == Meanings: The meanings of names, as integers, collections and tiles are added.
-- whether any element passes, after one more: any of those before does, or the new one
pub use Rattle.data_read.proofs.Meanings.{any_push}
-- == SoundRecords: Each record keeps the data so far sound.
-- after an accepted first record the data so far are sound
pub use Rattle.data_read.proofs.SoundRecords.{begun_sound}
-- == SoundTiles: Records of tiles, and so all records, keep the data so far sound.
-- a collection found by its name is the one at its index in the data so far
pub use Rattle.data_read.proofs.SoundTiles.{coll_is_there}
-- each record after the first keeps the data so far sound
pub use Rattle.data_read.proofs.SoundTiles.{later_sound}
-- == Soundness: What holds for the data so far after each record, and that at the end the data are well made.
-- (definition) the data so far: types, counts, collections and their total are within the limits
pub use Rattle.data_read.proofs.Soundness.{IsSound}
-- when all records are read, sound data so far become well made data
pub use Rattle.data_read.proofs.Soundness.{well_made}
