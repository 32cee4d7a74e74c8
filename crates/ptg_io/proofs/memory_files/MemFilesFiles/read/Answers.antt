use Rattle.std.proofs.Common.{◌≡◌, List, ℕ, ◌-◌, min, length, get_or, Some, ap, sym, ◌∙◌}
use Rattle.ptg_io.specs.Files.{file_of}
use Rattle.ptg_io.specs.Memory.{MemoryFiles, index_of}
use Rattle.ptg_io.proofs.FileIndex.{file_at_index}
use Rattle.ptg_io.proofs.memory_files.MemFilesFiles.read.Goals as goal

pub returns-in-Some-clause-given : goal.returns-in-Some-clause-given
returns-in-Some-clause-given c files contents =
    let all = c.self.inside.all in
    let held : all ≡ c.args.self.now.files = ap (λ (h : MemoryFiles). h.files) c.self.view_is in
    let same : all ≡ files = cc in
    let index : index_of all c.args.name.now ≡ Some c.in-Some.at = cc in
    let found = file_at_index all c.args.name.now c.in-Some.at c.get.result.now index in
    let item : c.get.result.now ≡ get_or all c.in-Some.at c.get.result.now = cc (c.get.ensures.item c.get.result.now) in
    let bytes : (get_or all c.in-Some.at c.get.result.now).1 ≡ c.bytes.result.now = ap (λ (f : List ℕ × List ℕ). f.1) (sym item) ∙ sym c.bytes.ensures in
    (c.bytes.result.now, cc, c.copy_piece-n.ensures.given)

pub returns-in-Some-clause-whole : goal.returns-in-Some-clause-whole
returns-in-Some-clause-whole c bytes named =
    let all = c.self.inside.all in
    let held : all ≡ c.args.self.now.files = ap (λ (h : MemoryFiles). h.files) c.self.view_is in
    let index : index_of all c.args.name.now ≡ Some c.in-Some.at = cc in
    let found = file_at_index all c.args.name.now c.in-Some.at c.get.result.now index in
    let item : c.get.result.now ≡ get_or all c.in-Some.at c.get.result.now = cc (c.get.ensures.item c.get.result.now) in
    let read : (get_or all c.in-Some.at c.get.result.now).1 ≡ c.bytes.result.now = ap (λ (f : List ℕ × List ℕ). f.1) (sym item) ∙ sym c.bytes.ensures in
    let both : Some c.bytes.result.now ≡ Some bytes =
    sym (ap Some read) ∙ sym found ∙ ap (λ (files : List (List ℕ × List ℕ)). file_of files c.args.name.now) held ∙ named in
    let same : c.bytes.result.now ≡ bytes = cc in
    c.copy_piece-n.ensures.whole ∙ ap (λ (xs : List ℕ). min (length c.copy_piece-n.new.into) (length xs - c.args.from)) same
