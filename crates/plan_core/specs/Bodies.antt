-- What a body may read and change: tiles according to the kinds of their flows, trap words, and the variables of loops.
-- Source: PaRSEC 2013 for the kinds; the language of bodies is this project's own choice.
-- Carried by: `Plan::new`.
-- Tested by: `check_codes.txt`, `type_places.txt`.
use Rattle.std.specs.Prelude.{ℕ, List, Bool, true, not, ◌&&◌, ◌==◌, nat_lt, slice_get}
use Rattle.term_core.specs.Term.{Term, Num, Local, Elem, Unary, Binary, Choose}
use Rattle.term_core.specs.StatementList.{StatementList, Done, SetThen, PutThen, IfThen, ForThen, TrapThen}
use Rattle.term_core.specs.declared.flow.FlowKind.{FlowKind}
use Rattle.plan_core.specs.Kinds.{is_data, is_writable}

-- whether each element that an expression reads is of a flow with a tile; the list has the kinds of the flows
abbrev pub reads_data : List FlowKind → Term → Bool
reads_data kinds (Num z) = true
reads_data kinds (Local n) = true
reads_data kinds (Elem flow at) = is_data (slice_get kinds flow) && reads_data kinds at
reads_data kinds (Unary o a) = reads_data kinds a
reads_data kinds (Binary o a b) = reads_data kinds a && reads_data kinds b
reads_data kinds (Choose c a b) = reads_data kinds c && reads_data kinds a && reads_data kinds b

-- whether statements read only flows with a tile, and change no tile of a READ flow
abbrev pub respects_kinds : List FlowKind → StatementList → Bool
respects_kinds kinds Done = true
respects_kinds kinds (SetThen n e rest) = reads_data kinds e && respects_kinds kinds rest
respects_kinds kinds (PutThen flow at e rest) =
    is_writable (slice_get kinds flow) && reads_data kinds at && reads_data kinds e && respects_kinds kinds rest
respects_kinds kinds (IfThen c first second rest) =
    reads_data kinds c && respects_kinds kinds first && respects_kinds kinds second && respects_kinds kinds rest
respects_kinds kinds (ForThen n lo hi turn rest) =
    reads_data kinds lo && reads_data kinds hi && respects_kinds kinds turn && respects_kinds kinds rest
respects_kinds kinds (TrapThen w rest) = respects_kinds kinds rest

-- whether each trap has a word among this many
abbrev pub has_words : ℕ → StatementList → Bool
has_words count Done = true
has_words count (SetThen n e rest) = has_words count rest
has_words count (PutThen flow at e rest) = has_words count rest
has_words count (IfThen c first second rest) = has_words count first && has_words count second && has_words count rest
has_words count (ForThen n lo hi turn rest) = has_words count turn && has_words count rest
has_words count (TrapThen w rest) = nat_lt w count && has_words count rest

-- whether no statement sets the variable with this number
abbrev pub never_sets : ℕ → StatementList → Bool
never_sets v Done = true
never_sets v (SetThen n e rest) = not (n == v) && never_sets v rest
never_sets v (PutThen flow at e rest) = never_sets v rest
never_sets v (IfThen c first second rest) = never_sets v first && never_sets v second && never_sets v rest
never_sets v (ForThen n lo hi turn rest) = not (n == v) && never_sets v turn && never_sets v rest
never_sets v (TrapThen w rest) = never_sets v rest

-- whether no statement in a loop sets the loop's own variable
abbrev pub keeps_loop_variables : StatementList → Bool
keeps_loop_variables Done = true
keeps_loop_variables (SetThen n e rest) = keeps_loop_variables rest
keeps_loop_variables (PutThen flow at e rest) = keeps_loop_variables rest
keeps_loop_variables (IfThen c first second rest) =
    keeps_loop_variables first && keeps_loop_variables second && keeps_loop_variables rest
keeps_loop_variables (ForThen n lo hi turn rest) =
    never_sets n turn && keeps_loop_variables turn && keeps_loop_variables rest
keeps_loop_variables (TrapThen w rest) = keeps_loop_variables rest
