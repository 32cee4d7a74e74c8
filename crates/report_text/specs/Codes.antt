-- The codes of refusals, as they are printed.
-- Carried by: `refusal`.
-- Tested by: `check.txt`, `type_faults.txt`.
use Rattle.std.specs.Prelude.{ℕ, List, codes}
use Rattle.jdf_lex.specs.declared.fault.JdfCode.{JdfCode}
use Rattle.jdf_lex.specs.declared.fault.JdfCode.TheVariants as jdf
use Rattle.coll_data.specs.declared.fault.DataCode.{DataCode}
use Rattle.coll_data.specs.declared.fault.DataCode.TheVariants as data_file
use Rattle.edge_match.specs.declared.fault.MatchCode.{MatchCode}
use Rattle.edge_match.specs.declared.fault.MatchCode.TheVariants as match_fault
use Rattle.trace_core.specs.declared.fault.TraceCode.{TraceCode}
use Rattle.trace_core.specs.declared.fault.TraceCode.TheVariants as trace_fault

-- the code of a refused JDF text
abbrev pub jdf_code : JdfCode → List ℕ
jdf_code jdf.TooLong = codes "TooLong"
jdf_code jdf.NotUtf8 = codes "NotUtf8"
jdf_code jdf.Unclosed = codes "Unclosed"
jdf_code jdf.TooManyTokens = codes "TooManyTokens"
jdf_code jdf.Syntax = codes "Syntax"
jdf_code jdf.Truncated = codes "Truncated"
jdf_code jdf.BadNumber = codes "BadNumber"
jdf_code jdf.ExprTooLong = codes "ExprTooLong"
jdf_code jdf.TooManyClasses = codes "TooManyClasses"
jdf_code jdf.TooManyParams = codes "TooManyParams"
jdf_code jdf.TooManyLocals = codes "TooManyLocals"
jdf_code jdf.TooManyFlows = codes "TooManyFlows"
jdf_code jdf.TooManyDeps = codes "TooManyDeps"
jdf_code jdf.TooDeep = codes "TooDeep"
jdf_code jdf.TooManyVars = codes "TooManyVars"
jdf_code jdf.NameTwice = codes "NameTwice"
jdf_code jdf.LocalTwice = codes "LocalTwice"
jdf_code jdf.ParamUndefined = codes "ParamUndefined"
jdf_code jdf.RangedLocal = codes "RangedLocal"
jdf_code jdf.UnknownName = codes "UnknownName"
jdf_code jdf.WrongKind = codes "WrongKind"
jdf_code jdf.NoSuchFlow = codes "NoSuchFlow"
jdf_code jdf.Arity = codes "Arity"
jdf_code jdf.CtlMixed = codes "CtlMixed"
jdf_code jdf.WriteInput = codes "WriteInput"
jdf_code jdf.NewSent = codes "NewSent"
jdf_code jdf.RangeInDataInput = codes "RangeInDataInput"
jdf_code jdf.RangeInPlace = codes "RangeInPlace"
jdf_code jdf.Datatype = codes "Datatype"
jdf_code jdf.MixedTypes = codes "MixedTypes"
jdf_code jdf.TypeDiffers = codes "TypeDiffers"
jdf_code jdf.ReadAssigned = codes "ReadAssigned"
jdf_code jdf.NotAssignable = codes "NotAssignable"

-- the code of a refused data file
abbrev pub data_code : DataCode → List ℕ
data_code data_file.TooLong = codes "TooLong"
data_code data_file.NoElems = codes "NoElems"
data_code data_file.ElemsTwice = codes "ElemsTwice"
data_code data_file.UnknownRow = codes "UnknownRow"
data_code data_file.FieldCount = codes "FieldCount"
data_code data_file.BadElems = codes "BadElems"
data_code data_file.BadName = codes "BadName"
data_code data_file.NameTwice = codes "NameTwice"
data_code data_file.TypeTwice = codes "TypeTwice"
data_code data_file.TooManyTypes = codes "TooManyTypes"
data_code data_file.UnknownType = codes "UnknownType"
data_code data_file.UnknownColl = codes "UnknownColl"
data_code data_file.TileCount = codes "TileCount"
data_code data_file.BadNumber = codes "BadNumber"
data_code data_file.TooManyTiles = codes "TooManyTiles"
data_code data_file.TooManyElements = codes "TooManyElements"
data_code data_file.BadIndex = codes "BadIndex"
data_code data_file.TileTwice = codes "TileTwice"
data_code data_file.MissingName = codes "MissingName"

-- the code of a job that is not consistent
abbrev pub match_code : MatchCode → List ℕ
match_code match_fault.BadExpr = codes "BadExpr"
match_code match_fault.TooManyTasks = codes "TooManyTasks"
match_code match_fault.BadPlace = codes "BadPlace"
match_code match_fault.NoInput = codes "NoInput"
match_code match_fault.OutOfSpace = codes "OutOfSpace"
match_code match_fault.TooManyEdges = codes "TooManyEdges"
match_code match_fault.NullSent = codes "NullSent"
match_code match_fault.DoubleWrite = codes "DoubleWrite"
match_code match_fault.NoMatchingOut = codes "NoMatchingOut"
match_code match_fault.NoMatchingIn = codes "NoMatchingIn"
match_code match_fault.DoubleEdge = codes "DoubleEdge"

-- the code of a refused trace
abbrev pub trace_code : TraceCode → List ℕ
trace_code trace_fault.TooLong = codes "TooLong"
trace_code trace_fault.BadTrace = codes "BadTrace"
trace_code trace_fault.UnknownTask = codes "UnknownTask"
trace_code trace_fault.RanTwice = codes "RanTwice"
trace_code trace_fault.TooEarly = codes "TooEarly"
trace_code trace_fault.Unfinished = codes "Unfinished"
