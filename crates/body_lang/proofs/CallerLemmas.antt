-- What proofs of other crates cite of this crate's proofs, and when. They import no other file of it.
-- == Blocks: How the statements of a block are resolved, one after another.
-- a statement and the rest of its block resolve one after the other
pub use Rattle.body_lang.proofs.Blocks.{resolved-then}
-- == Once: Tokens are the text of at most one body, or have at most one first fault, never both.
-- tokens are the text of at most one body, with one list of trap words
pub use Rattle.body_lang.proofs.Once.{one_body}
-- the tokens of a body have at most one first fault
pub use Rattle.body_lang.proofs.Once.{one_fault}
-- tokens that are the text of a body have no fault
pub use Rattle.body_lang.proofs.Once.{body_or_fault}
-- == WellBlocks: A resolved body is well made: its statements.
-- the bindings after a whole body, and that the body is well made
pub use Rattle.body_lang.proofs.WellBlocks.{whole_well}
-- == WholeText: One token of lookahead reads a whole body.
-- if reading all tokens of a body returns its statements, the tokens derive them without a fault
pub use Rattle.body_lang.proofs.WholeText.{found}
-- if reading all tokens of a body fails, the fault is the first one of the tokens
pub use Rattle.body_lang.proofs.WholeText.{faulty}
-- == Words: Each trap of a body has the number of its own word.
-- what holds for everything
pub use Rattle.body_lang.proofs.Words.{Anything}
-- the value satisfies P, if there is no fault
pub use Rattle.body_lang.proofs.Words.{IfValue}
-- for two steps of resolving: if the value of the first has P, the value of both has Q
pub use Rattle.body_lang.proofs.Words.{after_if_value}
-- a first step that adds no words
pub use Rattle.body_lang.proofs.Words.{past}
-- for a resolved body: the number of each trap is the index of its own word
pub use Rattle.body_lang.proofs.Words.{own_words}
-- for a resolved body: its trap words are those of its statements in order of first use, each once
pub use Rattle.body_lang.proofs.Words.{words_once}
