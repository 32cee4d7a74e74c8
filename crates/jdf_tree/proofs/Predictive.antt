-- The grammar of a JDF text passes the test for predictive grammars.
use Rattle.std.proofs.Common.{◌≡◌, true}
use Rattle.grammar_core.specs.Predictive.{is_fine, are_names}
use Rattle.grammar_core.specs.ExactReading.{IsPredictive}
use Rattle.jdf_tree.specs.Nonterminal.{a_file}
use Rattle.jdf_tree.specs.Grammar.{productions, file, claims}
use Rattle.jdf_tree.proofs.Fine.{productions_fine}
use Rattle.jdf_tree.proofs.Limits.{productions_limits, file_limits}
use Rattle.std.specs.Cmp.{first_so}

fine_by_names : are_names productions claims a_file ≡ true → is_fine claims (productions a_file) ≡ true
fine_by_names h = first_so (is_fine claims (productions a_file)) _ h

pub file_fine : is_fine claims file ≡ true
unfolding productions
file_fine = fine_by_names (productions_fine a_file)

pub file_predictive : IsPredictive productions claims file
file_predictive = record { nonterminals = productions_fine; nonterminal_limits = productions_limits; start = file_fine; start_limits = file_limits }
