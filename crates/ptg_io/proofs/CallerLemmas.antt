-- What proofs of other crates cite of this crate's proofs, and when. They import no other file of it.
-- == Loads: Lists of reads that grow by the reads of one file in turn, and by pieces of known files.
-- two parts of a file read one after another are one part
pub use Rattle.ptg_io.proofs.Loads.{more_pieces}
