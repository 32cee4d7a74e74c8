-- The data of the records so far, as the code has them, and what its calls return.
use Rattle.std.specs.Prelude.{◌≡◌, ℕ, ℤ, Bool, List, Option, Some, None, Result, Ok, Err, bytes_eq, if◌then◌else◌}
use Rattle.std.specs.List.{list_any}
use Rattle.coll_data.specs.declared.fault.DataCode.{DataCode}
use Rattle.coll_data.specs.declared.fault.DataFault.{DataFault}
use Rattle.name_table.specs.Names.{value_named}
use Rattle.ptg_base.specs.declared.refusal.Refusal.{Refusal}
use Rattle.ptg_base.specs.declared.refusal.Refusal.TheVariants.{Fault, OutOfMemory}
use Rattle.ptg_base.specs.Returns.{ReturnsRefusal}
use Rattle.data_read.specs.declared.growing.Growing.{Growing}
use Rattle.data_read.specs.declared.growing.GrowingColl.{GrowingColl}
use Rattle.data_read.specs.declared.growing.Known.{Known}
use Rattle.data_read.specs.declared.growing.Known.TheVariants.{Integer, Collection}
use Rattle.data_read.specs.Draft.{Draft, coll_index}

-- the data without their place in memory
abbrev pub draft_of : Growing → Draft
draft_of all =
    record { types = all.types; elems = all.elems; ints = all.ints; colls = all.colls.items; elements = all.elements }

-- a collection, or else an integer if there is one
abbrev pub coll_or_int : Option ℕ → Bool → Option Known
coll_or_int (Some at) int = Some (Collection at)
coll_or_int None int = if int then Some Integer else None

-- the meaning of a name, if it has one
abbrev pub meaning : List (List ℕ × ℤ) → List GrowingColl → List ℕ → Option Known
meaning ints colls name =
    coll_or_int (coll_index name colls) (list_any (λ ((other, value) : List ℕ × ℤ). bytes_eq name other) ints)

-- the table has exactly the names of the integers and the collections
abbrev pub IsKeyed : Growing → Type 0
IsKeyed all = (name : List ℕ) → value_named all.names name ≡ meaning all.ints all.colls.items name

-- the refusal of the record of this number, which is the row of its fault
abbrev pub refusal_at : ℕ → Refusal DataCode → Refusal DataFault
refusal_at row OutOfMemory = OutOfMemory
refusal_at row (Fault code) = Fault (record { row = row; code = code })

-- the call made the draft of the definition, or returned the definition's fault, or is out of memory
abbrev pub ReturnsDraft : {F : Type 0} → Result Unit (Refusal F) → Result Draft F → Draft → Type 0
ReturnsDraft (Ok u) given d = given ≡ Ok d
ReturnsDraft (Err refusal) given d = ReturnsRefusal refusal given
