-- Full lists of locals in which the parameters have given values. Source: the JDF documentation.
use Rattle.std.specs.Prelude.{◌≡◌, ℕ, suc, ℤ, List, [], ◌∷◌, ◌++◌, ◌==◌, Option, Some, None, IfSome, IsSome, if◌then◌else◌}
use Rattle.std.specs.Result.{result_unwrap_or}
use Rattle.ptg_base.specs.Lists.{IsIn}
use Rattle.term_core.specs.declared.space.Def.{Def}
use Rattle.term_core.specs.declared.space.Def.TheVariants.{Span, Value}
use Rattle.range_space.specs.Tasks.{def_values}

-- the value that is given to the definition with this number, if it defines a parameter
abbrev pub param_value : List ℕ → List ℤ → ℕ → Option ℤ
param_value [] values n = None
param_value (p ∷ ps) [] n = None
param_value (p ∷ ps) (v ∷ values) n = if p == n then Some v else param_value ps values n

-- a value is the given one, if any is given
abbrev pub AgreesWith : Option ℤ → ℤ → Type 0
AgreesWith given v = IfSome given (λ w. v ≡ w)

-- the result is the only one of the values that agrees with what is given; None if none does
abbrev pub IsOnlyAgreeing : List ℤ → Option ℤ → Option ℤ → Type 0
IsOnlyAgreeing values given None = (v : ℤ) → IsIn v values → AgreesWith given v → ⊥
IsOnlyAgreeing values given (Some v) =
    IsIn v values × AgreesWith given v × ((w : ℤ) → IsIn w values → AgreesWith given w → w ≡ v)

-- if the definition is a range, a value is given for it
abbrev pub IsGivenIfRanged : Def → Option ℤ → Type 0
IsGivenIfRanged (Span r) given = IsSome given
IsGivenIfRanged (Value e) given = Unit {0}

-- there is one local for each definition: a value of the definition under the locals before it
abbrev pub AreLocals : List Def → List ℤ → List ℤ → Type 0
AreLocals [] outer [] = Unit {0}
AreLocals [] outer (v ∷ locals) = ⊥
AreLocals (d ∷ ds) outer [] = ⊥
AreLocals (d ∷ ds) outer (v ∷ locals) =
    IsIn v (result_unwrap_or (def_values d outer) []) × AreLocals ds (outer ++ v ∷ []) locals

-- these locals, numbered from n on, agree with the values given to the parameters
abbrev pub AllAgree : List ℕ → List ℤ → ℕ → List ℤ → Type 0
AllAgree ps values n [] = Unit {0}
AllAgree ps values n (v ∷ locals) = AgreesWith (param_value ps values n) v × AllAgree ps values (suc n) locals

-- `now` extends `outer` by locals that agree with the given values
pub record IsCompletion (ds : List Def) (ps : List ℕ) (values : List ℤ) (n : ℕ) (outer now : List ℤ) : Type 0 where
  pub locals : List ℤ
  pub extends : now ≡ outer ++ locals
  pub are_locals : AreLocals ds outer locals
  pub all_agree : AllAgree ps values n locals

-- no locals that extend `outer` agree with all given values
abbrev pub HasNoCompletion : List Def → List ℕ → List ℤ → ℕ → List ℤ → Type 0
HasNoCompletion ds ps values n outer = (locals : List ℤ) → AreLocals ds outer locals → AllAgree ps values n locals → ⊥
