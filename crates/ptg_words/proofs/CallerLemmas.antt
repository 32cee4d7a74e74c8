-- What proofs of other crates cite of this crate's proofs, and when. They import no other file of it.
-- == OneCommand: Words form at most one command; its files are text, and its numbers are in range.
-- the same words form at most one command
pub use Rattle.ptg_words.proofs.OneCommand.{one_command}
-- == Proper: All words are proper, or one is not.
-- all words are proper, or one is not
pub use Rattle.ptg_words.proofs.Proper.{all_or_any}
-- == Rules: Which rules the words break, from their parts.
-- if the parts of the words break a rule, the words do
pub use Rattle.ptg_words.proofs.Rules.{to_rule}
-- arguments whose parts break no rule break none
pub use Rattle.ptg_words.proofs.Rules.{breaks_none}
-- words whose parts have a bad number, as an operand or a count, are a usage error
pub use Rattle.ptg_words.proofs.Rules.{breaks_number}
-- == ValuesRead: From clap's clauses to what was read of the parts of the words.
-- parts that can be read have n operands and no option twice
pub use Rattle.ptg_words.proofs.ValuesRead.{counted}
