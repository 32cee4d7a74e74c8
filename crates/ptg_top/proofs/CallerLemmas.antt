-- What proofs of other crates cite of this crate's proofs, and when. They import no other file of it.
-- == JdfFiles: The tree of a JDF file: when one was read, when its text is refused, and what `show` then denotes.
-- the first fault of a text, too long or not
pub use Rattle.ptg_top.proofs.JdfFiles.{fault_refuses}
