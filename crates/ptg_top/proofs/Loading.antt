-- Files that were loaded, by their names and texts as values.
use Rattle.std.proofs.Common.{◌≡◌, ℕ, ◌<◌, List, length, Ok, Err, sym, subst}
use Rattle.std.specs.Prelude.{IsErrOf}
use Rattle.ptg_io.specs.Reads.{IsLoaded}
use Rattle.ptg_io.specs.declared.loading.LoadFault.{LoadFault}
use Rattle.ptg_io.specs.declared.loading.LoadFault.TheVariants.{Failed, TooLong}
use Rattle.ptg_top.specs.Operands.{Read, load_of}
use Rattle.ptg_top.specs.Steps.{LoadedAs}
use Rattle.ptg_top.specs.Reports.{NoneFailed}

module _ (old new : List Read) (failed failed_since : List ℕ → ℕ) (name read : List ℕ) (is : read ≡ name) where
  -- the file was loaded with this text
  pub loaded_as : (text bytes : List ℕ) → bytes ≡ text → IsLoaded (load_of read text) old new
      → NoneFailed failed failed_since → LoadedAs old new failed failed_since name bytes
  loaded_as text bytes same loaded none =
      let named : IsLoaded (load_of name text) old new = subst (λ (n : List ℕ). IsLoaded (load_of n text) old new) is loaded in
      (subst (λ (t : List ℕ). IsLoaded (load_of name t) old new) (sym same) named, none)

  -- or it is too long
  pub long_as : (text : List ℕ) × (16777216 < length text) × IsLoaded (load_of read text) old new
      → (text : List ℕ) × (16777216 < length text) × IsLoaded (load_of name text) old new
  long_as (text, long, loaded) = (text, long, subst (λ (n : List ℕ). IsLoaded (load_of n text) old new) is loaded)

-- no value and no file that is too long is a failed read
pub value_is_no_fault : {T : Type 0} (value : T) → IsErrOf {T = T} {E = LoadFault} (Ok value) Failed → ⊥
value_is_no_fault value e = absurd cc

pub long_is_no_fault : {T : Type 0} (fault : LoadFault) → fault ≡ TooLong → IsErrOf {T = T} {E = LoadFault} (Err fault) Failed → ⊥
long_is_no_fault fault is e = absurd cc
