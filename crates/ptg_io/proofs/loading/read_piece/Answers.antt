use Rattle.std.proofs.Common.{◌≡◌, ◌≤◌, ◌++◌, List, ℕ, length, take, sym, subst, ◌∙◌, arith}
use Rattle.ptg_io.specs.Files.{IsPiece}
use Rattle.ptg_io.proofs.Pieces.{whole_at_end, more_so_far}
use Rattle.ptg_io.proofs.loading.read_piece.Goals as goal

pub returns-then-n-eq0-clause-end : goal.returns-then-n-eq0-clause-end
returns-then-n-eq0-clause-end g c _ files contents =
    let p = c.in_ok-n.ensures.given files contents in
    let so_far = c.requires.so_far files p.0 contents p.1 in
    let end : length p.0 ≤ c.len.result = p.2.end c.if-n-eq0.true in
    let whole = whole_at_end _ p.0 so_far (omega (arith, end, c.args.bytes.now.ok.0)) in
    rw whole p.1

pub returns-clause-still : goal.returns-clause-still
returns-clause-still g c files file contents is =
    let told_before = sym c.in_ok-n.ensures.stays ∙ contents in
    let p = c.in_ok-n.ensures.given files told_before in
    let same : p.0 ≡ file = cc in
    let so_far = c.requires.so_far files file told_before is in
    let piece : IsPiece file c.len.result c.in_ok-n.n c.read.new.into = subst (λ (f : List ℕ). IsPiece f c.len.result c.in_ok-n.n c.read.new.into) same p.2 in
    let grown : c.extend_from_slice.new.self.items ≡ c.args.bytes.now.items ++ take c.in_ok-n.n c.read.new.into =
    grind (arith, c.in_ok-extend_from_slice.ensures.items) in
    let start : c.len.result ≡ length c.args.bytes.now.items = omega (arith, c.args.bytes.now.ok.0) in
    more_so_far _ _ file _ _ _ grown start so_far c.in_ok-n.ensures.within piece.piece
