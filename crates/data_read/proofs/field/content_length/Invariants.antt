use Rattle.std.proofs.Common.{◌≡◌, ◌-◌, take}
use Rattle.data_read.specs.Fields.{content_length}
use Rattle.data_read.proofs.field.content_length.Given as goal

-- the bytes passed so far, at the end, are blanks
abbrev pub invariant-bytes : goal.invariant-bytes
invariant-bytes l = content_length (take (l.len - l.k) l.bytes) ≡ content_length l.bytes
