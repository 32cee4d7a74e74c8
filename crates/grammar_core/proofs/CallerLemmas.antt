-- What proofs of other crates cite of this crate's proofs, and when. They import no other file of it.
-- == Ends: If all of the tokens were read as a text, a token after them is never a syntax fault: reading continues with
-- it, or ends before it.
-- If all of w was read, reading more tokens never has a syntax fault right after w.
pub use Rattle.grammar_core.proofs.Ends.{no_syntax_fault_after}
-- == Fuel: The bounds of the recursions of reading are never met.
-- reading a production leaves no more tokens, and fewer if its text is never empty
pub use Rattle.grammar_core.proofs.Fuel.{run_shrinks}
-- Reading a nonterminal is reading its production.
pub use Rattle.grammar_core.proofs.Fuel.{nonterminal_is}
-- reading a nonterminal leaves no more tokens than there were
pub use Rattle.grammar_core.proofs.Fuel.{nonterminal_shrinks}
-- Reading a list, one element unfolded.
pub use Rattle.grammar_core.proofs.Fuel.{many_is}
-- == Loops: The steps of reading that a loop of the code takes, for every grammar.
-- (definition) a read that succeeds with the first tree paired with the second one
pub use Rattle.grammar_core.proofs.Loops.{pair_with}
-- (definition) a read that succeeds with a function of the tree, at the same tokens
pub use Rattle.grammar_core.proofs.Loops.{applied}
-- to pair two reads and apply f to the pair is to apply f after the second read
pub use Rattle.grammar_core.proofs.Loops.{regroup}
-- if the first of two reads returns a refusal, both in sequence return it
pub use Rattle.grammar_core.proofs.Loops.{fails_before}
-- (definition) what was read before, followed by what the rest reads
unfoldable pub use Rattle.grammar_core.proofs.Loops.{so_far}
-- reading leaves no more tokens than there were
pub use Rattle.grammar_core.proofs.Loops.{reading_shrinks}
-- and fewer if a text of the production is never empty
pub use Rattle.grammar_core.proofs.Loops.{reading_consumes}
-- a production and an optional one after it
pub use Rattle.grammar_core.proofs.Loops.{followed_reads}
-- (definition) reads the elements of a list from index i on
unfoldable pub use Rattle.grammar_core.proofs.Loops.{many_from}
-- g is never empty, and f is its first set
pub use Rattle.grammar_core.proofs.Loops.{IsListed}
-- the elements from index i on are one element and those from the next index on, or none
pub use Rattle.grammar_core.proofs.Loops.{many_step}
-- for a loop that reads a list: before the first element, the rest is the whole list
pub use Rattle.grammar_core.proofs.Loops.{many_begins}
-- if the list is not full and an element is next, the list goes on with that element
pub use Rattle.grammar_core.proofs.Loops.{many_goes_on}
-- for a loop that reads a list: if an element's reading is refused, so is the list's
pub use Rattle.grammar_core.proofs.Loops.{many_fails}
-- for a loop that reads a list: an element that is too many is a fault with the limit's code
pub use Rattle.grammar_core.proofs.Loops.{many_is_full}
-- for a loop that reads a list: if no element is next, the list is what was read before
pub use Rattle.grammar_core.proofs.Loops.{many_ends}
-- == Refusals: What a refusal of the code implies about reading.
-- If the code refuses with a fault, reading returns that fault.
pub use Rattle.grammar_core.proofs.Refusals.{fault_is as fault_is_of_refusals}
-- == Sets: What the tests of all terminals imply.
-- two sets with the same terminals have the same tokens
pub use Rattle.grammar_core.proofs.Sets.{alike_at}
-- == Sound: Sound reading of a language: what is read is derived with the same tree, and the tokens before a fault can
-- be completed to a text. Neither depends on more than the next token.
-- both lists begin with the same token, or both are empty
pub use Rattle.grammar_core.proofs.Sound.{SameHead}
-- (definition) at these tokens each tree read is derived, and each fault follows the front of a text
pub use Rattle.grammar_core.proofs.Sound.{Sound}
-- == Whole: If each nonterminal passes the test, reading is exact: it returns the tree that is derived, or the first
-- fault.
-- No limit of the production has the code Syntax.
pub use Rattle.grammar_core.proofs.Whole.{LimitsOnly}
-- a first fault is at a token, or at the end
pub use Rattle.grammar_core.proofs.Whole.{fault_index}
-- Reading returns what a production derives if the next token does not continue it.
pub use Rattle.grammar_core.proofs.Whole.{reads}
-- reading a production that passes the test is sound for the language the production derives
pub use Rattle.grammar_core.proofs.Whole.{sound}
-- if reading all of a text succeeds with a tree, the text derives it without a fault
pub use Rattle.grammar_core.proofs.Whole.{text_found}
-- for a text that derives the tree without a fault: reading all of it succeeds with that tree
pub use Rattle.grammar_core.proofs.Whole.{text_only}
-- a fault of reading leaves no more tokens than the text has
pub use Rattle.grammar_core.proofs.Whole.{fault_within}
-- if reading all of a text fails, the fault is the first one of the text
pub use Rattle.grammar_core.proofs.Whole.{fault_is as fault_is_of_whole}
-- The first fault is the one that reading returns.
pub use Rattle.grammar_core.proofs.Whole.{one_fault}
-- == Windows: Reading only the tokens up to a limit (a window) returns what reading all of them returns.
-- a result that ends inside the window is the result of reading all tokens
pub use Rattle.grammar_core.proofs.Windows.{window_ok}
-- a fault before the end of the window is the fault of reading all tokens
pub use Rattle.grammar_core.proofs.Windows.{window_err}
-- a text that does not end inside the window is too long
pub use Rattle.grammar_core.proofs.Windows.{window_long}
