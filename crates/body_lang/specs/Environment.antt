-- What the names in a body mean besides its own variables.
-- Carried by: `resolve`.
-- Tested by: `body_names.txt`, `body_variables.txt`.
use Rattle.std.specs.Prelude.{ℕ, ◌≤◌, ℤ, Bool, List, length, Option, is_some}
use Rattle.ptg_base.specs.Limits.{most_flows, most_locals}
use Rattle.name_table.specs.Names.{value_named}
use Rattle.body_lang.specs.declared.scope.Scope.{Scope}
use Rattle.body_lang.specs.declared.scope.FlowName.{FlowName}

-- what the names in a body mean besides its own variables
pub record Environment : Type 0 where
  -- the definitions of the class, in the text's order
  pub locals : List (List ℕ)
  -- the value of a global that is an integer
  pub integer : List ℕ → Option ℤ
  -- whether a global is a collection
  pub is_collection : List ℕ → Bool
  -- the flows of the class, in the text's order
  pub flows : List FlowName
  pub locals_at_most : length locals ≤ most_locals
  pub flows_at_most : length flows ≤ most_flows

-- the meanings in a scope, which has the globals in tables
abbrev pub environment_of : Scope → Environment
environment_of scope =
    record {
      locals = scope.locals;
      integer = λ name. value_named scope.ints.now name;
      is_collection = λ name. is_some (value_named scope.colls.now name);
      flows = scope.flows;
      locals_at_most = scope.locals_at_most;
      flows_at_most = scope.flows_at_most;
    }
