-- What proofs of other crates cite of this crate's proofs, and when. They import no other file of it.
-- == Fine: The grammar is predictive: it is read with one token of lookahead, and a second one if two productions begin
-- alike.
-- Each nonterminal of the grammar passes the test.
pub use Rattle.jdf_tree.proofs.Fine.{productions_fine}
-- == Limits: No limit of the grammar has the code Syntax.
-- no limit of an outermost expression has the code Syntax
pub use Rattle.jdf_tree.proofs.Limits.{outer_limits}
-- no limit of the production of a JDF file has the code Syntax
pub use Rattle.jdf_tree.proofs.Limits.{file_limits}
-- no limit of the production of a body's text has the code Syntax
pub use Rattle.jdf_tree.proofs.Limits.{body_text_limits}
-- no limit of a nonterminal's production has the code Syntax
pub use Rattle.jdf_tree.proofs.Limits.{productions_limits}
-- == Lists: Lists of the grammar, element by element, as a loop reads them.
-- reading one element of a list leaves fewer tokens than there were
pub use Rattle.jdf_tree.proofs.Lists.{list_moves}
-- (definition) reads all elements of a list without a limit from these tokens on
unfoldable pub use Rattle.jdf_tree.proofs.Lists.{rest_of}
-- in a list without a limit, the rest after one element is read as if from the first
pub use Rattle.jdf_tree.proofs.Lists.{again}
-- for a loop that reads a list without a limit: before the first element, the rest is the whole list
pub use Rattle.jdf_tree.proofs.Lists.{rest_begins}
-- for a loop that reads a list without a limit: after one more element the rest is read the same way
pub use Rattle.jdf_tree.proofs.Lists.{rest_goes_on}
-- for a loop that reads a list without a limit: if an element's reading is refused, so is the list's
pub use Rattle.jdf_tree.proofs.Lists.{rest_fails}
-- for a loop that reads a list without a limit: if no element is next, the list is what was read before
pub use Rattle.jdf_tree.proofs.Lists.{rest_ends}
-- == Numbers: What the tests of a number imply.
-- a decimal number has digits alone, and is at most the bound
pub use Rattle.jdf_tree.proofs.Numbers.{decimal_parts}
-- == Predictive: The grammar of a JDF text passes the test for predictive grammars.
-- the production of a JDF file passes the test for predictive grammars
pub use Rattle.jdf_tree.proofs.Predictive.{file_fine}
-- the grammar of a JDF file is predictive, so that reading it is exact
pub use Rattle.jdf_tree.proofs.Predictive.{file_predictive}
-- == TreeLimits: The tree of a text without a fault is within the limits.
-- if two parts in sequence have no fault, neither part has one
pub use Rattle.jdf_tree.proofs.TreeLimits.{both_none}
-- a text without a fault at the limit has no other fault, and no more tokens than the limit
pub use Rattle.jdf_tree.proofs.TreeLimits.{cut_none}
-- the tree of a JDF text without a fault is within the limits
pub use Rattle.jdf_tree.proofs.TreeLimits.{texts_within}
