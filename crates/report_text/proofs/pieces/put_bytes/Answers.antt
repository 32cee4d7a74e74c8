use Rattle.std.proofs.Common.{arith}
use Rattle.report_text.proofs.Loops.{bytes_more, bytes_cut}
use Rattle.report_text.proofs.pieces.put_bytes.Goals as goal

pub returns-in_err-put_byte : goal.returns-in_err-put_byte
returns-in_err-put_byte g c = bytes_cut c.args.bytes.now c.loop-byte.byte-index (omega arith) c.loop-byte.invariant
    c.in_err-put_byte.ensures c.from_residual.ensures.0

pub loop-byte-preserved : goal.loop-byte-preserved
loop-byte-preserved g c = bytes_more c.args.bytes.now c.loop-byte.byte-index (omega arith) c.loop-byte.invariant c.in_ok-put_byte.ensures
