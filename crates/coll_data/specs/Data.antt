-- The data of a job, as contracts see them.
-- Carried by: `Given::new`, `Given::tile`, `Given::elements`.
-- Tested by: `data_forms.txt`, `jobs.txt`.
use Rattle.std.specs.Prelude.{ℕ, ℤ, List}
use Rattle.coll_data.specs.declared.coll.Coll.{Coll}

-- the types after DEFAULT with their numbers of elements, the number of elements of DEFAULT, the integers, the
-- collections, and how many records there were
pub record Data : Type 0 where
  pub types : List (List ℕ × ℕ)
  pub elems : ℕ
  pub ints : List (List ℕ × ℤ)
  pub colls : List Coll
  pub records_read : ℕ
