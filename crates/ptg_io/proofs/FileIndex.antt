-- The index of a file among files in memory.
use Rattle.std.proofs.Common.{◌≡◌, ℕ, zero, suc, ◌<◌, List, [], ◌∷◌, length, get_or, true, false, Some, refl, arith}
use Rattle.std.specs.Str.{bytes_eq}
use Rattle.std.proofs.lemmas.List.Quantifiers.{position-Some}
use Rattle.ptg_io.specs.Files.{file_of}
use Rattle.ptg_io.specs.Memory.{index_of}

-- the first file that passes is the file of that name
first_file : (files : List (List ℕ × List ℕ)) (name : List ℕ) (at : ℕ) (d : List ℕ × List ℕ) → at < length files
    → bytes_eq (get_or files at d).0 name ≡ true → ((k : ℕ) → k < at → bytes_eq (get_or files k d).0 name ≡ false)
    → file_of files name ≡ Some (get_or files at d).1
first_file [] name at d within is before = absurd (omega arith)
first_file (file ∷ files) name zero d within is before = rw is refl
first_file (file ∷ files) name (suc at) d within is before =
    rw (before 0 (omega arith)) (first_file files name at d (omega arith) is (λ k below. before (suc k) (omega arith)))

-- the file at the index of a name
pub file_at_index : (files : List (List ℕ × List ℕ)) (name : List ℕ) (at : ℕ) (d : List ℕ × List ℕ)
    → index_of files name ≡ Some at → file_of files name ≡ Some (get_or files at d).1
file_at_index files name at d index =
    let found = position-Some (λ (file : List ℕ × List ℕ). bytes_eq file.0 name) files at d index in
    first_file files name at d found.0 found.1 found.2
