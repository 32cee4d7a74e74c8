-- The result of a call for which a definition gives a value or a fault: that value, that fault, or out of memory.
-- Carried by: `body_lang::read_body`, `data_read::read_data`, `job_stages::given_of`, `jdf_read::read`,
-- `type_check::check`, `body_lang::resolve`.
use Rattle.std.specs.Prelude.{◌≡◌, ◌⊎◌, Result, Ok, Err, IfOk}
use Rattle.ptg_base.specs.declared.refusal.Refusal.{Refusal}
use Rattle.ptg_base.specs.declared.refusal.Refusal.TheVariants.{Fault, OutOfMemory}

-- what `next` returns for the value; a fault stays as it is
abbrev pub and_then : {A B F : Type 0} → Result A F → (A → Result B F) → Result B F
and_then (Ok x) next = next x
and_then (Err e) next = Err e

-- the refusal is the fault that the definition gives, or out of memory
abbrev pub ReturnsRefusal : {Y F : Type 0} → Refusal F → Result Y F → Type 0
ReturnsRefusal OutOfMemory given = Unit {0}
ReturnsRefusal (Fault fault) given = given ≡ Err fault

-- the call returns what the definition gives, its value seen by `view`, or out of memory
abbrev pub Returns : {X Y F : Type 0} → (X → Y) → Result X (Refusal F) → Result Y F → Type 0
Returns view (Ok x) given = given ≡ Ok (view x)
Returns view (Err refusal) given = ReturnsRefusal refusal given

-- A call that looks for the value of its input, or for its fault. It returns only such a value or such a fault. If
-- there is one, it returns that one or out of memory.
pub record FindsOrRefuses {A F : Type 0} (IsValue : A → Type 0) (IsFault : F → Type 0)
    (result : Result A (Refusal F)) : Type 0 where
  pub found : IfOk result IsValue
  pub only : (value : A) → IsValue value → (result ≡ Ok value) ⊎ (result ≡ Err OutOfMemory)
  pub fault : (fault : F) → result ≡ Err (Fault fault) → IsFault fault
  pub refused : (fault : F) → IsFault fault → (result ≡ Err (Fault fault)) ⊎ (result ≡ Err OutOfMemory)
