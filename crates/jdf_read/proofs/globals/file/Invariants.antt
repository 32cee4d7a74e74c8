use Rattle.std.proofs.Common.{◌≡◌, length}
use Rattle.grammar_core.specs.Reading.{reading}
use Rattle.jdf_tree.specs.Grammar.{productions, file}
use Rattle.jdf_read.proofs.BeforeClasses.{opened, with_front}
use Rattle.jdf_read.proofs.globals.file.Given as goal

abbrev pub invariant-more : goal.invariant-more
invariant-more l = with_front l.globals (opened l.rest) ≡ reading productions file l.tokens

abbrev pub decreases-more : goal.decreases-more
decreases-more l = length l.rest
