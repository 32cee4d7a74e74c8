-- What proofs of other crates cite of this crate's proofs, and when. They import no other file of it.
-- == Fronts: The unit found at a position is the longest one there; if none is found, the text does not end the unit
-- that begins there.
-- No word of a unit is empty.
pub use Rattle.jdf_lex.proofs.Fronts.{spelling_is_some}
-- (definition) the unit at the front and its length, or nothing
pub use Rattle.jdf_lex.proofs.Fronts.{Found}
-- (definition) the result of a search that found this unit with this length
pub use Rattle.jdf_lex.proofs.Fronts.{found_unit}
-- The unit found begins here, and is the longest.
pub use Rattle.jdf_lex.proofs.Fronts.{front_found}
-- If none is found, no front is spelled as the unit that begins here.
pub use Rattle.jdf_lex.proofs.Fronts.{front_none}
-- == Scanning: Steps of the scanner from unit to unit, and its results.
-- a unit found at the front of the rest of the text is the longest one at that index
pub use Rattle.jdf_lex.proofs.Scanning.{unit_here}
-- for the scanner's loop: at the first byte, with no tokens, the text before it is scanned
pub use Rattle.jdf_lex.proofs.Scanning.{scanned_at_start}
-- for the scanner's loop: after a blank or a comment the text before the cursor is scanned
pub use Rattle.jdf_lex.proofs.Scanning.{scanned_dropped}
-- for the scanner's loop: after one more token the text before the cursor is scanned
pub use Rattle.jdf_lex.proofs.Scanning.{scanned_token}
-- if the cursor of a scan is at the end of the text, its tokens are those of the text
pub use Rattle.jdf_lex.proofs.Scanning.{lexed_at_end}
-- if no unit is found before the end of the text, it has the fault Unclosed here
pub use Rattle.jdf_lex.proofs.Scanning.{fault_unclosed}
-- if a token is next after 1000000 tokens, the text has the fault TooManyTokens here
pub use Rattle.jdf_lex.proofs.Scanning.{fault_many}
-- == Uniqueness: A text has at most one list of tokens and at most one first fault. At most one unit is at a position,
-- so two scans of a text agree as far as both go.
-- at most one lexical unit begins at a position
pub use Rattle.jdf_lex.proofs.Uniqueness.{one_begins}
-- a word at the same position that is spelled as the unit and is no shorter is the unit's word
pub use Rattle.jdf_lex.proofs.Uniqueness.{longest_is}
-- a text has at most one list of tokens, and one spot at its end
pub use Rattle.jdf_lex.proofs.Uniqueness.{one_list}
-- A text that has tokens has no first fault.
pub use Rattle.jdf_lex.proofs.Uniqueness.{no_fault}
-- A text has at most one first fault.
pub use Rattle.jdf_lex.proofs.Uniqueness.{one_fault}
