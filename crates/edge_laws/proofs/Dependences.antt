-- The dependences of a flow that are reached, and what the walk over them finds.
use Rattle.std.proofs.Common.{◌≡◌, ℤ, Bool, true, false, List, [], ◌∷◌, ◌++◌, ◌⊎◌, inl, inr, Option, Some, None, refl, ap, sym, ◌∙◌, subst}
use Rattle.std.specs.Prelude.{Result, Ok, Err, IsOk}
use Rattle.ptg_base.specs.Lists.{IsIn}
use Rattle.term_core.specs.Term.{Term}
use Rattle.term_core.specs.Arith.{holds}
use Rattle.ptg_base.specs.Returns.{and_then}
use Rattle.term_core.specs.Value.{value}
use Rattle.term_core.specs.declared.fault.ExprFault.{ExprFault}
use Rattle.plan_core.specs.declared.flow.DepPlan.{DepPlan}
use Rattle.plan_core.specs.declared.target.Target.{Target}
use Rattle.plan_core.specs.declared.target.Target.TheVariants as target
use Rattle.dep_iter.specs.Active.{active_target, guard_value, held_target, held_targets, held_then, target_by}
use Rattle.dep_iter.specs.Well.{are_well, has_arg, has_arguments, has_value, is_well_then}
use Rattle.std.specs.Result.{result_unwrap_or}
use Rattle.edge_laws.specs.Values.{ArgumentsHaveValues, HasValue}
use Rattle.list_lemmas.proofs.Members.{list_all-from_members, member_passes}
use Rattle.std.proofs.lemmas.Bool.{and_from}
use Rattle.std.specs.Cmp.{first_so, second_so}

pub to_arguments : (env : List ℤ) (x : Target) → has_arguments env x ≡ true → ArgumentsHaveValues env x
to_arguments env (target.Task class flow args) e = member_passes (has_arg env) args e
to_arguments env (target.Element coll indices) e = member_passes (has_value env) indices e
to_arguments env target.New e = tt
to_arguments env target.Null e = tt

pub from_arguments : (env : List ℤ) (x : Target) → ArgumentsHaveValues env x → has_arguments env x ≡ true
from_arguments env (target.Task class flow args) have = list_all-from_members (has_arg env) args have
from_arguments env (target.Element coll indices) have = list_all-from_members (has_value env) indices have
from_arguments env target.New have = refl
from_arguments env target.Null have = refl

-- the guard of a dependence has a value, if the dependence has a guard
abbrev pub GuardHasValue : List ℤ → DepPlan → Type 0
GuardHasValue env d = (e : Term) → d.guard ≡ Some e → HasValue env e

known : {A E : Type 0} (r : Result A E) (x : A) → r ≡ Ok x → IsOk r
known (Ok y) x e = refl
known (Err f) x e = absurd cc

-- if finding a dependence's target doesn't fail, its guard has a value
guard_of : (env : List ℤ) (d : DepPlan) (o : Option Target) → active_target d env ≡ Ok o → GuardHasValue env d
guard_of env d o e c is = by (value c env) refl where
  by : (r : Result ℤ ExprFault) → value c env ≡ r → HasValue env c
  by (Ok v) at = known (value c env) v at
  by (Err f) at =
      let guard : guard_value d.guard env ≡ Err f = ap (λ g. guard_value g env) is ∙ ap (λ r. and_then r (λ v. Ok (holds v))) at in
      let fault : active_target d env ≡ Err f = ap (λ r. and_then r (λ b. Ok (target_by d b))) guard in
      absurd cc

target_of : (env : List ℤ) (d : DepPlan) → GuardHasValue env d → IsOk (active_target d env)
target_of env d has = by d.guard refl where
  valued : (r : Result ℤ ExprFault) → IsOk r → IsOk (and_then (and_then r (λ v. Ok (holds v))) (λ b. Ok (target_by d b)))
  valued (Ok v) k = refl
  valued (Err f) k = absurd cc

  by : (g : Option Term) → d.guard ≡ g → IsOk (and_then (guard_value g env) (λ b. Ok (target_by d b)))
  by None is = refl
  by (Some c) is = valued (value c env) (has c is)

-- a dependence of a list is reached: if only the first that holds counts, none before it holds
pub record IsReachedIn (first_only : Bool) (env : List ℤ) (ds : List DepPlan) (d : DepPlan) : Type 0 where
  pub before : List DepPlan
  pub after : List DepPlan
  pub listed : ds ≡ before ++ d ∷ after
  pub none_before : first_only ≡ true → (b : DepPlan) → IsIn b before → held_target b env ≡ None

none_reached : (first_only : Bool) (env : List ℤ) (d : DepPlan) → IsReachedIn first_only env [] d → ⊥
none_reached first_only env d reached = by reached.before reached.listed where
  by : (before : List DepPlan) → [] ≡ before ++ d ∷ reached.after → ⊥
  by [] e = cc
  by (b ∷ bs) e = cc

reached_first : (first_only : Bool) (env : List ℤ) (d : DepPlan) (ds : List DepPlan) → IsReachedIn first_only env (d ∷ ds) d
reached_first first_only env d ds = record { before = []; after = ds; listed = refl; none_before = λ e b among. absurd among }

reached_later : (first_only : Bool) (env : List ℤ) (d e : DepPlan) (ds : List DepPlan)
    → (first_only ≡ true → held_target d env ≡ None) → IsReachedIn first_only env ds e
    → IsReachedIn first_only env (d ∷ ds) e
reached_later first_only env d e ds none reached = record {
  before = d ∷ reached.before;
  after = reached.after;
  listed = ap (λ l. d ∷ l) reached.listed;
  none_before = λ f b among. elim among [
    | inl same ↦ subst (λ z. held_target z env ≡ None) (sym same) (none f)
    | inr later ↦ reached.none_before f b later
  ];
}

-- a reached dependence is the first, or is reached in the list after it
reached_cases : (first_only : Bool) (env : List ℤ) (d e : DepPlan) (ds : List DepPlan)
    → IsReachedIn first_only env (d ∷ ds) e → (e ≡ d) ⊎ (IsReachedIn first_only env ds e
    × (first_only ≡ true → held_target d env ≡ None))
reached_cases first_only env d e ds reached = by reached.before reached.listed reached.none_before where
  by : (before : List DepPlan) → d ∷ ds ≡ before ++ e ∷ reached.after
      → (first_only ≡ true → (b : DepPlan) → IsIn b before → held_target b env ≡ None)
      → (e ≡ d) ⊎ (IsReachedIn first_only env ds e × (first_only ≡ true → held_target d env ≡ None))
  by [] listed none = let same : e ≡ d = cc in inl same
  by (b ∷ bs) listed none =
      let same : d ≡ b = cc in
      let rest : ds ≡ bs ++ e ∷ reached.after = cc in
      inr (record { before = bs; after = reached.after; listed = rest; none_before = λ f c among. none f c (inr among) }, λ f. none f d (inl same))

-- the guards of the reached dependences and the arguments of the active targets have their values
pub record HaveValues (first_only : Bool) (env : List ℤ) (ds : List DepPlan) : Type 0 where
  pub guards : (d : DepPlan) → IsReachedIn first_only env ds d → GuardHasValue env d
  pub arguments : (x : Target) → IsIn x (held_targets first_only ds env) → ArgumentsHaveValues env x

not_some : {A : Type 0} (o : Option A) (x : A) → o ≡ Some x → o ≡ None → ⊥
not_some o x e f = cc

module _ (env : List ℤ) where
  held : (d : DepPlan) (o : Option Target) → active_target d env ≡ Ok o → held_target d env ≡ o
  held d o at = ap (λ r. result_unwrap_or r None) at

  targets_then : (first_only : Bool) (d : DepPlan) (ds : List DepPlan) (o : Option Target) → active_target d env ≡ Ok o
      → held_targets first_only (d ∷ ds) env ≡ held_then first_only o (held_targets first_only ds env)
  targets_then first_only d ds o at = ap (λ h. held_then first_only h (held_targets first_only ds env)) (held d o at)

  -- if the walk finds the list well, the list has its values
  after_one : (first_only : Bool) (d : DepPlan) (ds : List DepPlan) (r : Result (Option Target) ExprFault)
      → active_target d env ≡ r → (are_well first_only env ds ≡ true → HaveValues first_only env ds)
      → is_well_then first_only env r (are_well first_only env ds) ≡ true → HaveValues first_only env (d ∷ ds)
  after_one first_only d ds (Err f) at later e = absurd cc
  after_one first_only d ds (Ok None) at later e =
      let have = later e in
      record {
        guards = λ g reached. elim (reached_cases first_only env d g ds reached) [
          | inl same ↦ subst (GuardHasValue env) (sym same) (guard_of env d None at)
          | inr there ↦ have.guards g there.0
        ];
        arguments = λ x among. have.arguments x (subst (IsIn x) (targets_then first_only d ds None at) among);
      }
  after_one true d ds (Ok (Some x)) at later e = record {
    guards = λ g reached. elim (reached_cases true env d g ds reached) [
      | inl same ↦ subst (GuardHasValue env) (sym same) (guard_of env d (Some x) at)
      | inr there ↦ absurd (not_some (held_target d env) x (held d (Some x) at) (there.1 refl))
    ];
    arguments = λ y among. elim (subst (IsIn y) (targets_then true d ds (Some x) at) among) [
      | inl same ↦ subst (ArgumentsHaveValues env) (sym same) (to_arguments env x e)
      | inr none ↦ absurd none
    ];
  }
  after_one false d ds (Ok (Some x)) at later e =
      let have = later (second_so (has_arguments env x) (are_well false env ds) e) in
      record {
        guards = λ g reached. elim (reached_cases false env d g ds reached) [
          | inl same ↦ subst (GuardHasValue env) (sym same) (guard_of env d (Some x) at)
          | inr there ↦ have.guards g there.0
        ];
        arguments = λ y among. elim (subst (IsIn y) (targets_then false d ds (Some x) at) among) [
          | inl same ↦ subst (ArgumentsHaveValues env) (sym same) (to_arguments env x (first_so (has_arguments env x) (are_well false env ds) e))
          | inr there ↦ have.arguments y there
        ];
      }

  pub well_have : (first_only : Bool) (ds : List DepPlan) → are_well first_only env ds ≡ true → HaveValues first_only env ds
  well_have first_only [] e = record { guards = λ d reached. absurd (none_reached first_only env d reached); arguments = λ x among. absurd among }
  well_have first_only (d ∷ ds) e = after_one first_only d ds (active_target d env) refl (well_have first_only ds) e

  -- if the list has its values, the walk finds it well
  before_one : (first_only : Bool) (d : DepPlan) (ds : List DepPlan) (r : Result (Option Target) ExprFault)
      → active_target d env ≡ r → IsOk r → (HaveValues first_only env ds → are_well first_only env ds ≡ true)
      → HaveValues first_only env (d ∷ ds) → is_well_then first_only env r (are_well first_only env ds) ≡ true
  before_one first_only d ds (Err f) at ok later have = absurd cc
  before_one first_only d ds (Ok None) at ok later have =
      later (record {
        guards = λ g reached. have.guards g (reached_later first_only env d g ds (λ f. held d None at) reached);
        arguments = λ x among. have.arguments x (subst (IsIn x) (sym (targets_then first_only d ds None at)) among);
      })
  before_one true d ds (Ok (Some x)) at ok later have =
      from_arguments env x (have.arguments x (subst (IsIn x) (sym (targets_then true d ds (Some x) at)) (inl refl)))
  before_one false d ds (Ok (Some x)) at ok later have =
      and_from (has_arguments env x) (are_well false env ds)
      (from_arguments env x (have.arguments x (subst (IsIn x) (sym (targets_then false d ds (Some x) at)) (inl refl))))
      (later (record {
        guards = λ g reached. have.guards g (reached_later false env d g ds (λ f. absurd cc) reached);
        arguments = λ y among. have.arguments y (subst (IsIn y) (sym (targets_then false d ds (Some x) at)) (inr among));
      }))

  pub have_well : (first_only : Bool) (ds : List DepPlan) → HaveValues first_only env ds → are_well first_only env ds ≡ true
  have_well first_only [] have = refl
  have_well first_only (d ∷ ds) have =
      before_one first_only d ds (active_target d env) refl (target_of env d (have.guards d (reached_first first_only env d ds))) (have_well first_only ds) have

  -- the active targets are those of what is reached and holds
  active_one : (first_only : Bool) (d : DepPlan) (ds : List DepPlan) (x : Target) (o : Option Target)
      → held_target d env ≡ o → (IsIn x (held_targets first_only ds env)
      → (e : DepPlan) × IsReachedIn first_only env ds e × (held_target e env ≡ Some x))
      → IsIn x (held_then first_only o (held_targets first_only ds env))
      → (e : DepPlan) × IsReachedIn first_only env (d ∷ ds) e × (held_target e env ≡ Some x)
  active_one first_only d ds x None at later among = let p = later among in (p.0, reached_later first_only env d p.0 ds (λ f. at) p.1, p.2)
  active_one true d ds x (Some y) at later among = elim among [
    | inl same ↦ (d, reached_first true env d ds, at ∙ ap Some (sym same))
    | inr none ↦ absurd none
  ]
  active_one false d ds x (Some y) at later among = elim among [
    | inl same ↦ (d, reached_first false env d ds, at ∙ ap Some (sym same))
    | inr there ↦ let p = later there in (p.0, reached_later false env d p.0 ds (λ f. absurd cc) p.1, p.2)
  ]

  pub active_reached : (first_only : Bool) (ds : List DepPlan) (x : Target) → IsIn x (held_targets first_only ds env)
      → (d : DepPlan) × IsReachedIn first_only env ds d × (held_target d env ≡ Some x)
  active_reached first_only [] x among = absurd among
  active_reached first_only (d ∷ ds) x among = active_one first_only d ds x (held_target d env) refl (active_reached first_only ds x) among

  here_active : (first_only : Bool) (d : DepPlan) (ds : List DepPlan) (x : Target) → held_target d env ≡ Some x → IsIn x (held_targets first_only (d ∷ ds) env)
  here_active true d ds x at = subst (λ o. IsIn x (held_then true o (held_targets true ds env))) (sym at) (inl refl)
  here_active false d ds x at = subst (λ o. IsIn x (held_then false o (held_targets false ds env))) (sym at) (inl refl)

  later_active : (first_only : Bool) (d : DepPlan) (ds : List DepPlan) (x : Target) (o : Option Target)
      → held_target d env ≡ o → (first_only ≡ true → held_target d env ≡ None) → IsIn x (held_targets first_only ds env)
      → IsIn x (held_then first_only o (held_targets first_only ds env))
  later_active first_only d ds x None at none among = among
  later_active true d ds x (Some y) at none among = absurd (not_some (held_target d env) y at (none refl))
  later_active false d ds x (Some y) at none among = inr among

  pub reached_active : (first_only : Bool) (ds : List DepPlan) (x : Target) (e : DepPlan)
      → IsReachedIn first_only env ds e → held_target e env ≡ Some x → IsIn x (held_targets first_only ds env)
  reached_active first_only [] x e reached at = absurd (none_reached first_only env e reached)
  reached_active first_only (d ∷ ds) x e reached at = elim (reached_cases first_only env d e ds reached) [
    | inl same ↦ here_active first_only d ds x (subst (λ z. held_target z env ≡ Some x) same at)
    | inr there ↦ later_active first_only d ds x (held_target d env) refl there.1 (reached_active first_only ds x e there.0 at)
  ]

-- if not only the first counts, each is reached
pub each_reached : (env : List ℤ) (ds : List DepPlan) (d : DepPlan) → IsIn d ds → IsReachedIn false env ds d
each_reached env [] d among = absurd among
each_reached env (e ∷ es) d among = elim among [
  | inl same ↦ subst (IsReachedIn false env (e ∷ es)) (sym same) (reached_first false env e es)
  | inr later ↦ reached_later false env e d es (λ f. absurd cc) (each_reached env es d later)
]

pub reached_among : (first_only : Bool) (env : List ℤ) (ds : List DepPlan) (d : DepPlan) → IsReachedIn first_only env ds d → IsIn d ds
reached_among first_only env ds d reached = subst (IsIn d) (sym reached.listed) (within reached.before) where
  within : (before : List DepPlan) → IsIn d (before ++ d ∷ reached.after)
  within [] = inl refl
  within (b ∷ bs) = inr (within bs)
