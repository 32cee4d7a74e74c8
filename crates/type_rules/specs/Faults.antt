-- Faults in the order of the text, and the first of several. A text is refused with the first of all its faults.
-- Carried by: law `check_laws::the_first_fault_is_the_least`.
use Rattle.std.specs.Prelude.{ℕ, Bool, true, false, ◌&&◌, ◌||◌, nat_eq, nat_lt, List, [], ◌∷◌, Option, Some, None, if◌then◌else◌, option_to_list}
use Rattle.std.specs.Result.{result_err}
use Rattle.expr_names.specs.Symbols.{Resolved}
use Rattle.type_rules.specs.TreesAndFaults.{Spot, JdfCode, JdfFault}
use denote.Enum.Declared.{tag_of}
use Rattle.jdf_lex.specs.contracts.fault.JdfCode.{the_type}

-- the number of a code in the order of their declarations; of two codes at one spot, the one declared first is reported
abbrev pub code_number : JdfCode → ℕ
code_number = tag_of the_type

-- whether a fault comes before another: by its spot or, at the same spot, by its code
abbrev pub is_before : JdfFault → JdfFault → Bool
is_before f g =
    nat_lt f.spot.line g.spot.line
    || (nat_eq f.spot.line g.spot.line && (nat_lt f.spot.column g.spot.column
    || (nat_eq f.spot.column g.spot.column && nat_lt (code_number f.code) (code_number g.code))))

-- the earlier of two faults
abbrev pub earlier : JdfFault → JdfFault → JdfFault
earlier f g = if is_before g f then g else f

-- the earlier of two faults; either may be missing
abbrev pub earlier_of : Option JdfFault → Option JdfFault → Option JdfFault
earlier_of None other = other
earlier_of (Some f) None = Some f
earlier_of (Some f) (Some g) = Some (earlier f g)

-- the first of a list of faults, if it has any; the list may be in any order
abbrev pub first_fault : List JdfFault → Option JdfFault
first_fault [] = None
first_fault (f ∷ faults) = earlier_of (Some f) (first_fault faults)

-- the fault with this code at a spot
abbrev pub fault : Spot → JdfCode → JdfFault
fault spot code = record { spot = spot; code = code }

-- that fault, if the condition holds
abbrev pub fault_if : Bool → Spot → JdfCode → List JdfFault
fault_if true spot code = fault spot code ∷ []
fault_if false spot code = []

-- the fault of a result, if it is one
abbrev pub resolved_faults : {A : Type 0} → Resolved A → List JdfFault
resolved_faults r = option_to_list (result_err r)
