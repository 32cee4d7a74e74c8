-- The text of a refusal.
-- Carried by: `refusal`.
-- Tested by: `check.txt`, `type_faults.txt`.
use Rattle.std.specs.Prelude.{ℕ, List, [], ◌∷◌, ◌++◌, map, codes, Option, Some, None}
use Rattle.std.specs.Fmt.{decimal, signed_decimal}
use Rattle.edge_match.specs.declared.fault.MatchFault.{MatchFault}
use Rattle.report_text.specs.declared.refusal_line.Line.{Line}
use Rattle.report_text.specs.declared.refusal_line.Line.TheVariants.{Usage, Jdf, Data, Match, Unread, Preload, Trace}
use Rattle.report_text.specs.Field.{line}
use Rattle.report_text.specs.Codes.{jdf_code, data_code, match_code, trace_code}

-- the flow of a fault: its name, or `-` if the fault is at no flow
abbrev pub flow_text : Option ℕ → List ℕ → List ℕ
flow_text None name = codes "-"
flow_text (Some flow) name = name

-- the line of a job that is not consistent: the code of its fault, the class, the numbers and the flow
abbrev pub inconsistent_line : MatchFault → List ℕ → List ℕ → List ℕ
inconsistent_line fault class flow =
    line
    (codes "inconsistent" ∷ match_code fault.code ∷ class
    ∷ (map signed_decimal fault.numbers ++ flow_text fault.flow flow ∷ []))

-- the line for arguments that form no command
abbrev pub usage_line : List ℕ
usage_line = line (codes "usage" ∷ [])

-- the line that names a file which could not be read
abbrev pub unread_line : List ℕ → List ℕ
unread_line name = line (codes "unread" ∷ name ∷ [])

-- the line for a preload that is too large
abbrev pub preload_line : List ℕ
preload_line = line (codes "preload" ∷ [])

-- the text of a refusal
abbrev pub refusal_text : Line → List ℕ
refusal_text Usage = usage_line
refusal_text (Jdf fault) =
    line (codes "refused" ∷ decimal fault.spot.line ∷ decimal fault.spot.column ∷ jdf_code fault.code ∷ [])
refusal_text (Data fault) = line (codes "data" ∷ decimal fault.row ∷ data_code fault.code ∷ [])
refusal_text (Match fault class flow) = inconsistent_line fault.now class.now flow.now
refusal_text (Unread name) = unread_line name.now
refusal_text Preload = preload_line
refusal_text (Trace fault) = line (codes "trace" ∷ decimal fault.row ∷ trace_code fault.code ∷ [])
