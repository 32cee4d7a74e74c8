-- Arguments form one command or break a rule, and never both.
-- Carried by: law `words_form_one_command`.
use Rattle.std.specs.Prelude.{◌≡◌, ◌⊎◌, ℕ, List}
use Rattle.ptg_words.specs.declared.order.Order.{Order}
use Rattle.ptg_words.specs.Words.{IsUsage, Orders}

-- arguments form at most one command
abbrev pub OneCommand : Type 0
OneCommand = (words : List (List ℕ)) (a b : Order) → Orders words a → Orders words b → a ≡ b

-- arguments that break a rule form no command
abbrev pub NeverBoth : Type 0
NeverBoth = (words : List (List ℕ)) (order : Order) → Orders words order → IsUsage words → ⊥

-- arguments form a command or break a rule
abbrev pub CommandOrUsage : Type 0
CommandOrUsage = (words : List (List ℕ)) → ((order : Order) × Orders words order) ⊎ IsUsage words
