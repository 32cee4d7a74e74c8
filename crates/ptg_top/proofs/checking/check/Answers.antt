use Rattle.std.proofs.Common.{Result, subst, sym}
use Rattle.std.specs.Prelude.{Option, IfOk, IfErr}
use Rattle.ptg_io.proofs.CallerLemmas.{more_pieces}
use Rattle.ptg_io.specs.Reads.{AddsPieces}
use Rattle.jdf_tree.specs.declared.tree.Jdf.{Jdf}
use Rattle.ptg_top.specs.declared.command.Source.{Source}
use Rattle.ptg_top.specs.declared.verdict.Verdict.{Verdict}
use Rattle.ptg_top.specs.Denotation.{denoted}
use Rattle.ptg_top.specs.Operands.{NamedFiles}
use Rattle.ptg_top.specs.Steps.{CheckEndsWith, IsTreeRead, TreeIsRefused}
use Rattle.ptg_top.proofs.Checked.{tree_result_ends, refusal_ends}
use Rattle.ptg_top.proofs.Summed.{made_ends}
use Rattle.ptg_top.proofs.checking.check.Goals as goal

-- the check of the data file
pub returns-in-Ok-clause-verdict : goal.returns-in-Ok-clause-verdict
returns-in-Ok-clause-verdict g c =
    let old = g.F.Files.reads c.args.files.now in
    let middle = g.F.Files.reads c.tree_of_file.new.files in
    let new = g.F.Files.reads c.check_data.new.files in
    let failed = g.F.Files.faults c.args.files.now in
    let failed_between = g.F.Files.faults c.tree_of_file.new.files in
    let failed_since = g.F.Files.faults c.check_data.new.files in
    let Tree : Result Jdf Verdict → Type 0 = λ r. IfOk r (IsTreeRead old middle failed failed_between c.in-Files.jdf) in
    let Ends : Source → Type 0 = λ s. IfOk c.check_data.result (λ v. CheckEndsWith old new failed failed_since s (denoted v)) in
    subst Ends (sym c.in-Files.is)
    (tree_result_ends old middle new failed failed_between failed_since c.in-Files.jdf c.in-Files.data_name
    c.in-Ok.tree c.check_data.result (subst Tree c.in-Ok.is c.in_ok-read-in-Files.ensures.tree) c.check_data.ensures.verdict)

-- the pieces of both files
pub returns-in-Ok-clause-pieces : goal.returns-in-Ok-clause-pieces
returns-in-Ok-clause-pieces g c =
    let Pieces : Option NamedFiles → Type 0 = λ t. AddsPieces t (g.F.Files.reads c.tree_of_file.new.files) (g.F.Files.reads c.check_data.new.files) in
    more_pieces (g.F.Files.contents c.args.files.now) (g.F.Files.reads c.args.files.now)
    (g.F.Files.reads c.tree_of_file.new.files) (g.F.Files.reads c.check_data.new.files)
    c.tree_of_file.ensures.pieces (subst Pieces c.tree_of_file.ensures.stays c.check_data.ensures.pieces)

-- a refusal of the JDF file
pub returns-in-Err-clause-verdict : goal.returns-in-Err-clause-verdict
returns-in-Err-clause-verdict g c =
    let old = g.F.Files.reads c.args.files.now in
    let new = g.F.Files.reads c.tree_of_file.new.files in
    let failed = g.F.Files.faults c.args.files.now in
    let failed_since = g.F.Files.faults c.tree_of_file.new.files in
    let Refusal : Result Jdf Verdict → Type 0 = λ r. IfErr r (λ v. TreeIsRefused old new failed failed_since c.in-Files.jdf (denoted v)) in
    let Ends : Source → Type 0 = λ s. CheckEndsWith old new failed failed_since s (denoted c.in-Err.refused) in
    subst Ends (sym c.in-Files.is)
    (refusal_ends old new failed failed_since c.in-Files.jdf c.in-Files.data_name (denoted c.in-Err.refused)
    (subst Refusal c.in-Err.is c.in_ok-read-in-Files.ensures.refused))

-- the made job
pub returns-in-Made-clause-verdict : goal.returns-in-Made-clause-verdict
returns-in-Made-clause-verdict g c =
    made_ends c.in-Made.rows (g.F.Files.reads c.args.files.now) (g.F.Files.faults c.args.files.now) c.args.source.now
    c.check_made.result c.in-Made.is c.check_made.ensures.denotes
