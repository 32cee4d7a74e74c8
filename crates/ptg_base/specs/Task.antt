-- Tasks as contracts see them. Source: the JDF documentation (a task is an instance of its class, named by its
-- parameters).
use Rattle.std.specs.Prelude.{ℕ, ℤ, List}

-- A task: the number of its class, from 0 in the order of the file, and the values of its parameters in order.
pub record Task : Type 0 where
  pub class : ℕ
  pub params : List ℤ
