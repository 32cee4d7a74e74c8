-- Files and a sink in memory, some of whose reads and writes fail, for tests.
-- Carried by: `MemFiles`, `MemSink`.
-- Tested by: `unread.txt`, `unwritten.txt`.
use Rattle.std.specs.Prelude.{◌≡◌, ◌≢◌, ◌⊎◌, ℕ, List, Option, None, Some, slice_index, position, Contains}
use Rattle.std.specs.Str.{bytes_eq}
use Rattle.ptg_io.specs.Faults.{one_more}
use Rattle.ptg_io.specs.Files.{NamedFiles}
use Rattle.ptg_io.specs.Reads.{Read}

-- the index of the first file with this name, counted from 0
abbrev pub index_of : NamedFiles → List ℕ → Option ℕ
index_of files name = position (λ (other, bytes). bytes_eq other name) files

-- the count of failed reads of a file, by its index, or the one count of all missing names
abbrev pub fault_count : List ℕ → ℕ → Option ℕ → ℕ
fault_count failed missing None = missing
fault_count failed missing (Some index) = slice_index failed index

-- What files in memory are: the files as names and bytes, with the number of failed reads of each; how many reads of
-- missing names failed; and the number of reads so far. Then come the numbers of the reads that fail, from 1, and the
-- reads that did not fail.
pub record MemoryFiles : Type 0 where
  pub files : NamedFiles
  pub failed : List ℕ
  pub missing : ℕ
  pub reads : ℕ
  pub fails : List ℕ
  pub history : List Read

-- how many reads of this name failed
abbrev pub failed_reads : MemoryFiles → List ℕ → ℕ
failed_reads files name = fault_count files.failed files.missing (index_of files.files name)

-- What a failed read of a name does to the counts of faults: its own count has one more, and the others stay. All
-- missing names share one count.
pub record CountsFault (old new : MemoryFiles) (name : List ℕ) : Type 0 where
  pub own : (other : List ℕ) → index_of old.files other ≡ index_of old.files name
      → failed_reads new other ≡ one_more (failed_reads old other)
  pub others : (other : List ℕ) → index_of old.files other ≢ index_of old.files name
      → failed_reads new other ≡ failed_reads old other

-- A read that does not fail has the next number, which is none of those that fail. Besides, only the history may
-- change.
pub record CountsRead (old new : MemoryFiles) : Type 0 where
  pub allowed : ¬ Contains old.fails new.reads
  pub next : new
      ≡ record {
        files = old.files;
        failed = old.failed;
        missing = old.missing;
        reads = one_more old.reads;
        fails = old.fails;
        history = new.history;
      }

-- A failed read of a name has the next number. It fails because its number is one of those that fail, or because the
-- name is missing. Besides, only the counts of faults change.
pub record CountsFailedRead (old new : MemoryFiles) (name : List ℕ) : Type 0 where
  pub cause : Contains old.fails new.reads ⊎ (index_of old.files name ≡ None)
  pub next : new.reads ≡ one_more old.reads
  pub faults : CountsFault old new name
  pub files : new.files ≡ old.files
  pub fails : new.fails ≡ old.fails
  pub history : new.history ≡ old.history

-- what a sink in memory is: the bytes written, how many writes failed, the number of writes so far, and the numbers of
-- the writes that fail, from 1
pub record MemorySink : Type 0 where
  pub bytes : List ℕ
  pub failed : ℕ
  pub writes : ℕ
  pub fails : List ℕ
