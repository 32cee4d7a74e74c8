-- The canonical spelling of a tree reads back as that tree.
-- Carried by: law `reads_back`.
use Rattle.std.specs.Prelude.{ℕ, ◌≤◌, List, length}
use Rattle.ptg_base.specs.Limits.{most_bytes, most_tokens}
use Rattle.jdf_tree.specs.declared.tree.Jdf.{Jdf}
use Rattle.jdf_tree.specs.Jdf.{IsJdf}
use Rattle.jdf_print.specs.Fragments.{token_count}
use Rattle.jdf_print.specs.Spelling.{fragments, spelling}
use Rattle.print_laws.specs.Same.{IsSame}

-- If some text has this tree, and its canonical spelling has at most 16 MiB and 1,000,000 tokens, then the spelling is
-- again the text of a tree. That tree is the same but for spots and the indices of tokens.
abbrev pub ReadsBack : Type 0
ReadsBack =
    (bytes : List ℕ) (jdf : Jdf) → IsJdf bytes jdf → length (spelling jdf) ≤ most_bytes
    → token_count (fragments jdf) ≤ most_tokens
    → (again : Jdf) × IsJdf (spelling jdf) again × IsSame again jdf
