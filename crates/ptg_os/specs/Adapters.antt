-- What is known of the system's files and of a writer after a call of an adapter, according to the kit's own rules for
-- reads and writes.
use Rattle.std.specs.Prelude.{◌≡◌, ℕ, ◌+◌, ◌-◌, ◌^◌, min, List, Option, Some, None, Ok, IfSome}
use Rattle.std.specs.Io.KnownBytes.{ReadConsumes}
use Rattle.ptg_io.specs.declared.files.Failed.{Failed}
use Rattle.ptg_os.specs.declared.files.Opened.{Opened}
use Rattle.ptg_os.specs.declared.files.OsFiles.{OsFiles}
use Rattle.ptg_os.specs.declared.sink.OsSink.{OsSink}

-- the file that is kept open, with its name and its offset
abbrev pub kept_open : {R File Dir : Type 0} → OsFiles R File Dir → Option (Opened File)
kept_open files = files.last

-- the writer of a sink
abbrev pub writer_of : {W : Type 0} → OsSink W → W
writer_of sink = sink.writer

-- a read of the open file `before` gave the first n bytes of the buffer, and left the file as `after`
abbrev pub GaveBytes : {File : Type 0} → (File → Option (List ℕ)) → File → File → ℕ → List ℕ → Type 0
GaveBytes remaining before after n buffer = ReadConsumes {E = Failed} (remaining before) (remaining after) (Ok n) buffer

-- the offset after n more bytes; it stops at the greatest u64
abbrev pub after_bytes : ℕ → ℕ → ℕ
after_bytes offset n = min (offset + n) (2 ^ 64 - 1)

-- an open file has this name and is at this offset
abbrev pub IsAt : {File : Type 0} → Opened File → List ℕ → ℕ → Type 0
IsAt opened name offset = (opened.name ≡ Some name) × (opened.offset ≡ offset)

-- an open file is at this offset, and has this name or, if there was no memory for it, none
abbrev pub StandsAt : {File : Type 0} → Opened File → List ℕ → ℕ → Type 0
StandsAt opened name offset = IfSome opened.name (λ text. text ≡ name) × (opened.offset ≡ offset)

-- A read of a name from an offset gave the first n bytes of a buffer, from an open file. That file is kept open as the
-- read left it, at the offset after the bytes. If the file kept open before had this name and was at this offset, it is
-- the one that was read, and its name stays.
abbrev pub GaveFrom : {File : Type 0} → (File → Option (List ℕ)) → Option (Opened File) → List ℕ → ℕ
    → Option (Opened File) → ℕ → List ℕ → Type 0
GaveFrom remaining last name from None n buffer = ⊥
GaveFrom {File} remaining last name from (Some opened) n buffer = (before : File)
    × IfSome last (λ kept. IsAt kept name from → (before ≡ kept.file) × (opened.name ≡ kept.name))
    × GaveBytes remaining before opened.file n buffer
    × StandsAt opened name (after_bytes from n)
