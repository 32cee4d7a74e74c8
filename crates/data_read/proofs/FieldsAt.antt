-- The field with a given number in a record.
use Rattle.std.proofs.Common.{◌≡◌, ℕ, zero, suc, List, [], ◌∷◌, get_or, Option, unwrap_or, refl}
use Rattle.csv.specs.Records.{field_at}

pub field_or_none : (fields : List (List ℕ)) (at : ℕ) (o : Option (List ℕ)) → o ≡ field_at fields at → unwrap_or o [] ≡ get_or fields at []
unfolding field_at
field_or_none [] at o e = rw e refl
field_or_none (f ∷ fields) zero o e = rw e refl
field_or_none (f ∷ fields) (suc at) o e = field_or_none fields at o e
