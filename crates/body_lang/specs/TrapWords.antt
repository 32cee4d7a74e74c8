-- The trap words of a body, as its text and as the body itself have them.
-- Carried by: law `body_laws::traps_have_their_words`.
-- Tested by: `body_traps.txt`.
use Rattle.std.specs.Prelude.{ℕ, List, [], ◌∷◌, ◌++◌, Option, Some, None}
use Rattle.name_table.specs.Names.{index_named}
use Rattle.jdf_tree.specs.Statements.{Statements, Done, DeclareThen, SetThen, PutThen, IfThen, ForThen, TrapThen}
use Rattle.term_core.specs.StatementList.{StatementList}
use Rattle.term_core.specs.StatementList as list

-- the word of each trap, in the text's order
abbrev pub words_of : Statements → List (List ℕ)
words_of Done = []
words_of (DeclareThen w e rest) = words_of rest
words_of (SetThen w e rest) = words_of rest
words_of (PutThen w at e rest) = words_of rest
words_of (IfThen c first second rest) = (words_of first ++ words_of second) ++ words_of rest
words_of (ForThen w lo hi turn rest) = words_of turn ++ words_of rest
words_of (TrapThen w rest) = w.text ∷ words_of rest

-- the number of each trap, in the same order
abbrev pub numbers_of : StatementList → List ℕ
numbers_of list.Done = []
numbers_of (list.SetThen n e rest) = numbers_of rest
numbers_of (list.PutThen flow at e rest) = numbers_of rest
numbers_of (list.IfThen c first second rest) = (numbers_of first ++ numbers_of second) ++ numbers_of rest
numbers_of (list.ForThen n lo hi turn rest) = numbers_of turn ++ numbers_of rest
numbers_of (list.TrapThen n rest) = n ∷ numbers_of rest

-- the words so far with this one added, unless it has a number among them
abbrev pub with_word : List (List ℕ) → List ℕ → Option ℕ → List (List ℕ)
with_word front w None = front ++ w ∷ []
with_word front w (Some n) = front

-- the words so far, then the new ones of the second list in the order of their first use
abbrev pub words_in_order : List (List ℕ) → List (List ℕ) → List (List ℕ)
words_in_order front [] = front
words_in_order front (w ∷ more) = words_in_order (with_word front w (index_named front w)) more
