-- The command of each verb, as clap sees it: operands by their ids, and the options of the verb.
use Rattle.std.specs.Prelude.{List, [], ◌∷◌, ◌++◌, map, Some, true, codes}
use Rattle.clap.specs.Walk.{Rule, Text}
use Rattle.clap.specs.Simple.{App, new_rule, new_shape, on_top}
use Rattle.clap.specs.declared.builder.action.ArgAction.TheVariants.{Set, SetTrue}
use Rattle.ptg_words.specs.declared.options.Options.{Options}
use Rattle.ptg_words.specs.declared.options.Options.TheVariants.{NoOptions, Counts, CountsAndPreload}

-- an operand, which must be given
abbrev pub operand_rule : Text → Rule
operand_rule id = record (new_rule id) { required = true; action = Some Set }

-- an option `--NAME` with a value
abbrev pub option_rule : Text → Rule
option_rule name = record (new_rule name) { long = Some name; action = Some Set }

-- an option `--NAME` without a value
abbrev pub flag_rule : Text → Rule
flag_rule name = record (new_rule name) { long = Some name; action = Some SetTrue }

-- a command with these rules, and no help flag
abbrev pub command : Text → List Rule → App
command name rules = record { top = record (new_shape name) { rules = rules; disable_help_flag = true }; subs = [] }

-- the rules of the options
abbrev pub option_rules : Options → List Rule
option_rules NoOptions = []
option_rules Counts = option_rule (codes "workers") ∷ option_rule (codes "shards") ∷ []
option_rules CountsAndPreload =
    option_rule (codes "workers") ∷ option_rule (codes "shards") ∷ flag_rule (codes "preload") ∷ []

-- the command with these rules added at the end
abbrev pub with_rules : App → List Rule → App
with_rules app rules = on_top (λ s. record s { rules = s.rules ++ rules }) app

-- the command of a verb with these operands and options
abbrev pub verb_command : Text → List Text → Options → App
verb_command name ids options = command name (map operand_rule ids ++ option_rules options)
