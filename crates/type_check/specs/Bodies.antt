-- The body of a class: what its names may mean, and the result of reading it. Source: the JDF documentation, for the
-- parts of a class; the language of bodies is this project's own choice.
-- Carried by: `check`; law `one_answer`.
-- Tested by: `type_faults.txt`, `type_places.txt`, `type_datatypes.txt`.
use Rattle.std.specs.Prelude.{◌≡◌, ℕ, List, map, is_some, Ok, Err}
use Rattle.term_core.specs.declared.body.Body.{Body}
use Rattle.expr_names.specs.Symbols.{Resolved}
use Rattle.body_lang.specs.Environment.{Environment}
use Rattle.body_lang.specs.declared.scope.FlowName.{FlowName}
use Rattle.body_lang.specs.Body.{IsBody, IsBodyFault}
use Rattle.type_rules.specs.TreesAndFaults.{DefTree, FlowTree, ClassTree}
use Rattle.type_rules.specs.Names.{Job, int_named, coll_named}

-- the names of the definitions of a class
abbrev pub local_names : List DefTree → List (List ℕ)
local_names defs = map (λ (d : DefTree). d.name.text) defs

-- the names and kinds of the flows of a class
abbrev pub flow_names : List FlowTree → List FlowName
flow_names flows = map (λ (f : FlowTree). record { name = f.name.text; kind = f.kind }) flows

-- In the body of a class, a name may mean one of its definitions, a global or one of its flows.
pub record IsEnvironment (job : Job) (class : ClassTree) (scope : Environment) : Type 0 where
  pub locals : scope.locals ≡ local_names class.defs
  pub integer : (name : List ℕ) → scope.integer name ≡ int_named job name
  pub is_collection : (name : List ℕ) → scope.is_collection name ≡ is_some (coll_named job name)
  pub flows : scope.flows ≡ flow_names class.flows

-- the result of reading a body: the body and its trap words, or its first fault
abbrev pub BodyResult : Type 0
BodyResult = Resolved (Body × List (List ℕ))

-- The tokens of a body form this body, or this is their first fault. If the text is broken, names after its fault do
-- not count.
abbrev pub ReadsAs : Environment → ClassTree → BodyResult → Type 0
ReadsAs scope class (Ok x) = IsBody scope class.body x
ReadsAs scope class (Err f) = IsBodyFault scope class.body class.finish f

-- Reading the body of a class has this result: the body with its trap words, or its first fault.
pub record ReadsBody (job : Job) (class : ClassTree) (body : BodyResult) : Type 0 where
  pub scope : Environment
  pub means : IsEnvironment job class scope
  pub reads : ReadsAs scope class body
