-- What a call adds to a sink, some of it kept back until there is a whole piece.
-- Carried by: `report`, `consistent`, `refusal`.
-- Tested by: `check.txt`, `type_faults.txt`.
use Rattle.std.specs.Prelude.{◌≡◌, ℕ, ◌≤◌, List, ◌++◌, length, take, Result, OnOk, OnErr}
use Rattle.ptg_io.specs.Faults.{Rose}

-- the size of a full piece in bytes
abbrev pub piece_size : ℕ
piece_size = 4096

-- the first list is a prefix of the second
abbrev pub Precedes : List ℕ → List ℕ → Type 0
Precedes front whole = (rest : List ℕ) × (front ++ rest ≡ whole)

-- a call put a text: the sink's bytes, followed by those that are kept back, grew by the text. If the call failed, the
-- sink has a prefix of all that and no other bytes, and a write failed; otherwise no write failed
pub record Puts {S T E : Type 0} (bytes : S → List ℕ) (faults : S → ℕ) (result : Result T E)
    (sink : S) (kept : List ℕ) (sink_after : S) (kept_after : List ℕ) (text : List ℕ) : Type 0 where
  pub ok : OnOk result (bytes sink_after ++ kept_after ≡ bytes sink ++ kept ++ text)
  pub cut : OnErr result (Precedes (bytes sink_after) (bytes sink ++ kept ++ text))
  pub onward : Precedes (bytes sink) (bytes sink_after)
  pub grows : faults sink ≤ faults sink_after
  pub failed : OnErr result (Rose (faults sink) (faults sink_after))
  pub no_fault : OnOk result (faults sink_after ≡ faults sink)

-- the second is the first and then a prefix of a text
abbrev pub HasPrefix : List ℕ → List ℕ → List ℕ → Type 0
HasPrefix before after text = (n : ℕ) × (n ≤ length text) × (after ≡ before ++ take n text)

-- a call printed a text: the sink's bytes grew by the whole text, or by a prefix if the call failed. The call failed
-- only if a write failed; otherwise no write failed
pub record PrintsText {S T E : Type 0} (bytes : S → List ℕ) (faults : S → ℕ) (result : Result T E)
    (sink sink_after : S) (text : List ℕ) : Type 0 where
  pub ok : OnOk result (bytes sink_after ≡ bytes sink ++ text)
  pub prefix : OnErr result (HasPrefix (bytes sink) (bytes sink_after) text)
  pub grows : faults sink ≤ faults sink_after
  pub failed : OnErr result (Rose (faults sink) (faults sink_after))
  pub no_fault : OnOk result (faults sink_after ≡ faults sink)
