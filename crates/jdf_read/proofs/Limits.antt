-- Whole texts of the grammar are read exactly.
use Rattle.std.proofs.Common.{◌≡◌, ℕ, List, Ok, Err}
use Rattle.std.specs.Prelude.{length, ◌-◌, None}
use Rattle.grammar_core.specs.declared.token.Token.{Token}
use Rattle.grammar_core.specs.declared.code.Code.{Code}
use Rattle.grammar_core.specs.Production.{IsText, IsFirstFault}
use Rattle.grammar_core.specs.Reading.{whole, fault_from_end}
use Rattle.grammar_core.proofs.CallerLemmas.{fault_is_of_whole as fault_is, one_fault, text_found, text_only}
use Rattle.jdf_tree.specs.declared.tree.Jdf.{Jdf}
use Rattle.jdf_tree.specs.Grammar.{productions, file, claims}
use Rattle.jdf_tree.proofs.CallerLemmas.{file_fine, file_limits, productions_fine, productions_limits}

pub found : (s : List Token) (t : Jdf) → whole productions file s ≡ Ok t → IsText productions file s t None
found s t e = text_found productions claims productions_fine productions_limits file file_fine file_limits s t e

pub only : (s : List Token) (t : Jdf) → IsText productions file s t None → whole productions file s ≡ Ok t
only s t h = text_only productions claims productions_fine productions_limits file file_fine file_limits s t h

pub faulty : (s : List Token) (n : ℕ) (c : Code) → whole productions file s ≡ Err (fault_from_end n c) → IsFirstFault productions file s (length s - n) c
faulty s n c e = fault_is productions claims productions_fine productions_limits file file_fine file_limits s (fault_from_end n c) e

pub fault_read : (s : List Token) (token_index : ℕ) (c : Code) → IsFirstFault productions file s token_index c
    → whole productions file s ≡ Err (fault_from_end (length s - token_index) c)
fault_read s token_index c h = one_fault productions claims productions_fine productions_limits file file_fine file_limits s token_index c h
