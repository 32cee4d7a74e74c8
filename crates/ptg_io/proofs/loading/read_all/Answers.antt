use Rattle.std.proofs.Common.{◌<◌, length, ◌∙◌, subst, arith, rules}
use Rattle.std.specs.Prelude.{Option, IsErrOf}
use Rattle.ptg_io.specs.Files.{NamedFiles}
use Rattle.ptg_io.specs.Reads.{AddsPieces}
use Rattle.ptg_io.specs.declared.loading.LoadFault.TheVariants.{TooLong}
use Rattle.ptg_io.proofs.Loads.{added_some, begun_or_more, holds_on_err, loaded_past, loaded_to_the_end, more_pieces, one_more_given}
use Rattle.ptg_io.proofs.Turns.{no_error, one_more_read}
use Rattle.ptg_io.proofs.loading.read_all.Goals as goal

pub pieces-preserved : goal.pieces-preserved
pieces-preserved g c =
    let read = c.in_ok-read_piece.ensures.read in
    let adds = c.in_ok-read_piece.ensures.adds in
    let some : 0 < length adds.0 = added_some _ _ adds.0 adds.1
    (omega (
      arith,
      c.in_ok-read_piece.ensures.more c.if-not-branch.false,
      c.pieces.bytes.ok.0,
      c.read_piece.new.bytes.ok.0,
    )) in
    record {
      stays = c.read_piece.ensures.stays ∙ c.pieces.invariant.stays;
      grows = λ other. omega (arith, c.pieces.invariant.grows other, c.read_piece.ensures.grows other);
      no_fault = λ other. c.read_piece.ensures.no_fault (no_error _ _ _ c.in_ok-read_piece.was) other ∙ c.pieces.invariant.no_fault other;
      bounded = c.in_ok-read_piece.ensures.still_bounded;
      reads = one_more_read _ _ _ _ _ _ read.0 _ c.pieces.invariant.reads read.1 read.2;
      given = one_more_given _ _ _ adds.0 _ _ _ c.pieces.invariant.given adds.2 adds.1 some;
      pieces =
          more_pieces _ _ _ _ c.pieces.invariant.pieces
          (subst (λ (t : Option NamedFiles). AddsPieces t (g.F.Files.reads c.pieces.files)
          (g.F.Files.reads c.read_piece.new.files)) c.pieces.invariant.stays c.read_piece.ensures.pieces);
      so_far = c.in_ok-read_piece.ensures.still;
    }

pub returns-in_err-read_piece-clause-long : goal.returns-in_err-read_piece-clause-long
returns-in_err-read_piece-clause-long g c is =
    let was : IsErrOf c.read_piece.result TooLong = search rules in
    let adds = c.read_piece.ensures.too_many was in
    loaded_past _ _ _ adds.0 _ _ c.pieces.invariant.given (omega (arith, c.pieces.bytes.ok.0)) adds.1 adds.2

pub returns-in_err-read_piece-clause-begun : goal.returns-in_err-read_piece-clause-begun
returns-in_err-read_piece-clause-begun g c not =
    let once = c.in_err-read_piece.ensures.begun (λ was. not (search rules)) in
    holds_on_err _ _ (begun_or_more _ _ _ _ _ c.pieces.invariant.given (omega (arith, c.pieces.bytes.ok.0)) once)

pub returns-in_err-read_piece-clause-pieces : goal.returns-in_err-read_piece-clause-pieces
returns-in_err-read_piece-clause-pieces g c =
    more_pieces _ _ _ _ c.pieces.invariant.pieces
    (subst (λ (t : Option NamedFiles). AddsPieces t (g.F.Files.reads c.pieces.files)
    (g.F.Files.reads c.read_piece.new.files)) c.pieces.invariant.stays c.read_piece.ensures.pieces)

pub returns-then-not-branch-clause-loaded : goal.returns-then-not-branch-clause-loaded
returns-then-not-branch-clause-loaded g c =
    let adds = c.in_ok-read_piece.ensures.adds in
    loaded_to_the_end _ _ _ _ adds.0 _ _ c.pieces.invariant.given (omega (arith, c.pieces.bytes.ok.0)) adds.2 adds.1
    (c.in_ok-read_piece.ensures.none_more c.if-not-branch.true)

pub returns-then-not-branch-clause-pieces : goal.returns-then-not-branch-clause-pieces
returns-then-not-branch-clause-pieces g c =
    more_pieces _ _ _ _ c.pieces.invariant.pieces
    (subst (λ (t : Option NamedFiles). AddsPieces t (g.F.Files.reads c.pieces.files)
    (g.F.Files.reads c.read_piece.new.files)) c.pieces.invariant.stays c.read_piece.ensures.pieces)
