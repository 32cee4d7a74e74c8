use Rattle.std.proofs.Common.{Result, subst}
use Rattle.std.specs.Prelude.{IfOk, IfErr}
use Rattle.jdf_tree.specs.declared.tree.Jdf.{Jdf}
use Rattle.ptg_top.specs.declared.verdict.Verdict.{Verdict}
use Rattle.ptg_top.specs.Denotation.{denoted}
use Rattle.ptg_top.specs.Steps.{IsTreeRead, TreeIsRefused}
use Rattle.ptg_top.proofs.JdfFiles.{tree_shown, refusal_shown}
use Rattle.ptg_top.proofs.showing.show.Goals as goal

-- the spelling of the tree
pub returns-in_ok-text-in-Ok-clause-verdict : goal.returns-in_ok-text-in-Ok-clause-verdict
returns-in_ok-text-in-Ok-clause-verdict g c =
    let old = g.F.Files.reads c.args.files.now in
    let new = g.F.Files.reads c.tree_of_file.new.files in
    let failed = g.F.Files.faults c.args.files.now in
    let failed_since = g.F.Files.faults c.tree_of_file.new.files in
    let Tree : Result Jdf Verdict → Type 0 = λ r. IfOk r (IsTreeRead old new failed failed_since c.args.jdf.now) in
    tree_shown old new failed failed_since c.args.jdf.now c.in-Ok.tree c.in_ok-text-in-Ok.text
    (subst Tree c.in-Ok.is c.in_ok-read.ensures.tree) c.in_ok-text-in-Ok.ensures

-- a refusal of the JDF file
pub returns-in-Err-clause-verdict : goal.returns-in-Err-clause-verdict
returns-in-Err-clause-verdict g c =
    let old = g.F.Files.reads c.args.files.now in
    let new = g.F.Files.reads c.tree_of_file.new.files in
    let failed = g.F.Files.faults c.args.files.now in
    let failed_since = g.F.Files.faults c.tree_of_file.new.files in
    let Refusal : Result Jdf Verdict → Type 0 = λ r. IfErr r (λ v. TreeIsRefused old new failed failed_since c.args.jdf.now (denoted v)) in
    refusal_shown old new failed failed_since c.args.jdf.now (denoted c.in-Err.refused) (subst Refusal c.in-Err.is c.in_ok-read.ensures.refused)
