use Rattle.std.proofs.Common.{◌≡◌, ℕ, ◌≤◌, List, ◌++◌, length, take, drop, Result, Ok, Err, ◌∙◌}
use Rattle.std.specs.Prelude.{Option, Some, IfOk}
use Rattle.std.proofs.lemmas.List.{take-append-le}
use Rattle.ptg_io.specs.Files.{NamedFiles, ReadsPiece}
use Rattle.ptg_io.specs.declared.files.Failed.{Failed}
use Rattle.ptg_io.proofs.bytewise.ByteFilesFiles.read.Goals as goal

-- what a read into the first byte of the buffer gave, the whole buffer has
of_first : (contents : Option NamedFiles) (name : List ℕ) (from : ℕ) (first rest : List ℕ) (result : Result ℕ Failed)
    → ((files : NamedFiles) → contents ≡ Some files → IfOk result (λ n. ReadsPiece files name from n first)) → IfOk result (λ n. n ≤ length first)
    → (files : NamedFiles) → contents ≡ Some files → IfOk result (λ n. ReadsPiece files name from n (first ++ rest))
of_first contents name from first rest (Err e) given within files known = tt
of_first contents name from first rest (Ok n) given within files known =
    let p = given files known in
    let same : take n (first ++ rest) ≡ take n first = take-append-le n first rest within in
    (p.0, p.1, record { piece = same ∙ p.2.piece; end = p.2.end })

pub returns-clause-given : goal.returns-clause-given
returns-clause-given c =
    of_first (Some c.args.self.now.files.files) c.args.name.now c.args.from c.read.new.into (drop 1 c.args.into.now)
    c.read.result c.read.ensures.given c.read.ensures.within
