-- Desk by desk, the passes on the desks and the first pass stay all passes of the table.
use Rattle.std.proofs.Common.{◌≡◌, ◌<◌, ℕ, List, [], ◌∷◌, ◌++◌, length, map, ap, sym, ◌∙◌, subst, inl, inr, arith, Option, Some, None, slice_get}
use Rattle.table_rule.specs.Seats.{TableId}
use Rattle.crossbeam_utils.specs.Padded.{padded_value}
use Rattle.ptg_base.specs.Lists.{IsIn}
use Rattle.list_lemmas.proofs.Members.{from_append}
use Rattle.std.proofs.lemmas.List.{map-append}
use Rattle.list_lemmas.proofs.Counts.{weigh-push}
use Rattle.list_lemmas.proofs.Places.{place_of_member, slice_get_push}
use Rattle.std.proofs.lemmas.Option.{slice_get_within}
use Rattle.ready_deques.specs.Hands.{Account}
use Rattle.plan_core.specs.declared.plan.Plan.{Plan}
use Rattle.list_lemmas.specs.Counting.{HasSameMembers}
use Rattle.task_run.specs.Bench.{IsBenchOf}
use Rattle.work_board.specs.declared.record.PassRecord.{PassRecord}
use Rattle.table_rule.specs.Names.{AreAll}
use Rattle.dep_table.specs.Passes.{IsPassOf}
use Rattle.dep_table.specs.Views.{PassView, shown}
use Rattle.run_pool.specs.Desks.{AreReady, IsReady}
use Rattle.run_pool.specs.Seated.{PaddedDesk, pass_on, record_on}

-- one ready desk more
pub ready_more : (table : TableId) (plan : Plan) (ds : List PaddedDesk) (d : PaddedDesk) (es : List PaddedDesk)
    → AreReady (IsPassOf table) shown plan ds → IsReady (IsPassOf table) shown plan (padded_value d) → es ≡ ds ++ d ∷ []
    → AreReady (IsPassOf table) shown plan es
ready_more table plan ds d es all one is = subst (AreReady (IsPassOf table) shown plan) (sym is)
    (λ k e at. elim (slice_get_push ds d k e at) [
      | inl before ↦ all k e before
      | inr same ↦ subst
          (λ x. IsReady (IsPassOf table) shown plan (padded_value x)) same one
    ])

abbrev Reorders : Type 0
Reorders = (vs ws : List PassRecord) → HasSameMembers vs ws → AreAll vs → AreAll ws

records_more : (ds : List PaddedDesk) (d : PaddedDesk) (es : List PaddedDesk) (v : PassRecord) → record_on d ≡ v
    → es ≡ ds ++ d ∷ [] → map record_on ds ++ v ∷ [] ≡ map record_on es
records_more ds d es v same is = sym (ap (map record_on) is ∙ map-append record_on ds (d ∷ []) ∙ ap (λ x. map record_on ds ++ x ∷ []) same)

-- one more pass, on the last desk
pub all_more : Reorders → (u v : PassRecord) (ds : List PaddedDesk) (d : PaddedDesk) (es : List PaddedDesk)
    → AreAll (u ∷ v ∷ map record_on ds) → record_on d ≡ v → es ≡ ds ++ d ∷ [] → AreAll (u ∷ map record_on es)
all_more order u v ds d es all same is =
    let moved = order (u ∷ v ∷ map record_on ds) (u ∷ (map record_on ds ++ v ∷ [])) (λ f. omega (arith, weigh-push f (map record_on ds) v)) all in
    subst (λ vs. AreAll (u ∷ vs)) (records_more ds d es v same is) moved

-- the first pass on the last desk
pub all_seated : Reorders → (v : PassRecord) (ds : List PaddedDesk) (d : PaddedDesk) (es : List PaddedDesk)
    → AreAll (v ∷ map record_on ds) → record_on d ≡ v → es ≡ ds ++ d ∷ [] → AreAll (map record_on es)
all_seated order v ds d es all same is =
    subst AreAll (records_more ds d es v same is) (order (v ∷ map record_on ds) (map record_on ds ++ v ∷ [])
    (λ f. omega (arith, weigh-push f (map record_on ds) v)) all)

-- a desk with an idle pass and a bench
pub ready_desk : (table : TableId) (plan : Plan) (d : PaddedDesk) (p : PassView) → pass_on d ≡ p → IsPassOf table p
    → (shown p).running ≡ [] → IsBenchOf plan (padded_value d).bench
    → IsReady (IsPassOf table) shown plan (padded_value d)
ready_desk table plan d p on pass idle bench = record {
  pass = subst (IsPassOf table) (sym on) pass;
  idle = ap (λ (q : PassView). (shown q).running) on ∙ idle;
  bench = bench;
}

-- one more desk for which this holds
pub each_more : (Q : PaddedDesk → Type 0) (ds : List PaddedDesk) (d : PaddedDesk) (es : List PaddedDesk)
    → ((x : PaddedDesk) → IsIn x ds → Q x) → Q d → es ≡ ds ++ d ∷ [] → (x : PaddedDesk) → IsIn x es → Q x
each_more Q ds d es all one is x i = elim (from_append x ds (d ∷ []) (subst (IsIn x) is i)) [
  | inl before ↦ all x before
  | inr last ↦ elim last [ inl same ↦ subst Q (sym same) one | inr never ↦ absurd never ]
]

abbrev number_in : Option Account → ℕ
number_in None = 0
number_in (Some a) = a.number

-- where each worker's hands have its number, the numbers are below the number of workers
pub numbers_below : (team : List Account)
    → ((n : ℕ) → n < length team → (h : Account) × (slice_get team n ≡ Some h) × (h.number ≡ n))
    → (h : Account) → IsIn h team → h.number < length team
numbers_below team each h i =
    let at = place_of_member team h i in
    let within = slice_get_within team at.0 h at.1 in
    let own = each at.0 within in
    let same : h.number ≡ own.0.number = ap number_in (sym at.1 ∙ own.1) in
    let number : own.0.number ≡ at.0 = own.2 in
    omega (arith, within, same, number)
