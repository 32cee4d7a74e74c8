-- The types of trees and faults that the definitions of names, targets and flows share.
pub use Rattle.grammar_core.specs.declared.token.Spot.{Spot}
pub use Rattle.jdf_lex.specs.declared.fault.JdfCode.{JdfCode}
pub use Rattle.jdf_lex.specs.declared.fault.JdfCode.TheVariants.{TooLong, NotUtf8, Unclosed, TooManyTokens, Syntax, Truncated, BadNumber}
pub use Rattle.jdf_lex.specs.declared.fault.JdfCode.TheVariants.{ExprTooLong, TooManyClasses, TooManyParams, TooManyLocals, TooManyFlows}
pub use Rattle.jdf_lex.specs.declared.fault.JdfCode.TheVariants.{TooManyDeps, TooDeep, TooManyVars, NameTwice, LocalTwice, ParamUndefined}
pub use Rattle.jdf_lex.specs.declared.fault.JdfCode.TheVariants.{RangedLocal, UnknownName, WrongKind, NoSuchFlow, Arity, CtlMixed, WriteInput}
pub use Rattle.jdf_lex.specs.declared.fault.JdfCode.TheVariants.{NewSent, RangeInDataInput, RangeInPlace, Datatype, MixedTypes, TypeDiffers}
pub use Rattle.jdf_lex.specs.declared.fault.JdfCode.TheVariants.{ReadAssigned, NotAssignable}
pub use Rattle.jdf_lex.specs.declared.fault.JdfFault.{JdfFault}
pub use Rattle.jdf_tree.specs.declared.expression.Word.{Word}
pub use Rattle.jdf_tree.specs.declared.tree.Jdf.{Jdf}
pub use Rattle.jdf_tree.specs.declared.tree.ArgTree.{ArgTree}
pub use Rattle.jdf_tree.specs.declared.tree.DefTree.{DefTree}
pub use Rattle.jdf_tree.specs.declared.tree.TargetTree.{TargetTree}
pub use Rattle.jdf_tree.specs.declared.tree.DepTree.{DepTree}
pub use Rattle.jdf_tree.specs.declared.tree.FlowTree.{FlowTree}
pub use Rattle.jdf_tree.specs.declared.tree.ClassTree.{ClassTree}
