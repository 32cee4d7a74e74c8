use Rattle.std.proofs.Common.{◌≡◌, drop}
use Rattle.data_read.specs.Fields.{after_blanks}
use Rattle.data_read.proofs.field.first_blanks.Given as goal

-- the bytes passed so far are blanks
abbrev pub invariant-bytes : goal.invariant-bytes
invariant-bytes l = after_blanks (drop l.i l.bytes) ≡ after_blanks l.bytes
