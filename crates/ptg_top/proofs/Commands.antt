-- What is done for a command: it has the same files, and its names and numbers are valid.
use Rattle.std.proofs.Common.{◌≡◌, refl, arith}
use Rattle.std.specs.List.{AllByRecursion}
use Rattle.std.specs.Str.{IsUtf8}
use Rattle.ptg_base.specs.Limits.{AreRunCounts, usual_shards, usual_workers}
use Rattle.ptg_words.specs.Laws.{HasNumbersInRange, files_of}
use Rattle.ptg_words.specs.declared.order.Order.{Order}
use Rattle.ptg_words.specs.declared.order.Order.TheVariants.{Run, Show, Check, Demo, Trace, Replay, Certify, Ranks}
use Rattle.ptg_top.specs.Commands.{IsValid, command_of, files_of_steps}

pub same_files : (command : Order) → files_of command ≡ files_of_steps (command_of command)
same_files (Run jdf data_name workers shards preload) = refl
same_files (Show jdf) = refl
same_files (Check jdf data_name) = refl
same_files (Demo rows) = refl
same_files (Trace jdf data_name workers shards) = refl
same_files (Replay jdf data_name trace) = refl
same_files (Certify jdf data_name) = refl
same_files (Ranks jdf data_name ranks seed) = refl

usual_counts : AreRunCounts usual_workers usual_shards
usual_counts = ((omega arith, omega arith), (omega arith, omega arith))

pub is_valid : (command : Order) → AllByRecursion IsUtf8 (files_of command) → HasNumbersInRange command → IsValid (command_of command)
is_valid (Run jdf data_name workers shards preload) text numbers = ((text.0, text.1.0), numbers)
is_valid (Show jdf) text numbers = text.0
is_valid (Check jdf data_name) text numbers = ((text.0, text.1.0), tt)
is_valid (Demo rows) text numbers = (numbers, usual_counts)
is_valid (Trace jdf data_name workers shards) text numbers = ((text.0, text.1.0), (numbers, refl))
is_valid (Replay jdf data_name trace) text numbers = ((text.0, text.1.0), text.1.1.0)
is_valid (Certify jdf data_name) text numbers = ((text.0, text.1.0), usual_counts)
is_valid (Ranks jdf data_name ranks seed) text numbers = ((text.0, text.1.0), numbers.0)
