-- Laws of whole texts: each has one tree or one first fault, and not both.
use Rattle.std.specs.Prelude.{◌≡◌, ℕ, List, ◌⊎◌}
use Rattle.jdf_lex.specs.declared.fault.JdfFault.{JdfFault}
use Rattle.jdf_tree.specs.declared.tree.Jdf.{Jdf}
use Rattle.jdf_tree.specs.Jdf.{IsJdf}
use Rattle.jdf_tree.specs.Fault.{IsJdfFault}

-- A text has at most one tree.
abbrev pub OneTree : Type 0
OneTree = (bytes : List ℕ) (a b : Jdf) → IsJdf bytes a → IsJdf bytes b → a ≡ b

-- A text has at most one first fault.
abbrev pub OneFault : Type 0
OneFault = (bytes : List ℕ) (f g : JdfFault) → IsJdfFault bytes f → IsJdfFault bytes g → f ≡ g

-- Each text, whatever its bytes, has a tree or a first fault.
abbrev pub TreeOrFault : Type 0
TreeOrFault = (bytes : List ℕ) → ((jdf : Jdf) × IsJdf bytes jdf) ⊎ ((fault : JdfFault) × IsJdfFault bytes fault)

-- No text has a tree and a fault.
abbrev pub NotBoth : Type 0
NotBoth = (bytes : List ℕ) (jdf : Jdf) (fault : JdfFault) → IsJdf bytes jdf → IsJdfFault bytes fault → ⊥
