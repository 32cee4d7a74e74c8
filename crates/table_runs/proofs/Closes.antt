-- The passes that a table is closed with are all its passes.
use Rattle.std.proofs.Common.{◌≡◌, List, [], ◌∷◌, ◌++◌, length, map, ap, sym, ◌∙◌, subst, refl, inl, inr}
use Rattle.table_rule.specs.Seats.{TableId}
use Rattle.work_board.specs.declared.record.PassRecord.{PassRecord}
use Rattle.table_rule.specs.Changes.{after_split, first_pass, split_off}
use Rattle.table_rule.specs.Names.{AreAll}
use Rattle.dep_table.specs.Closing.{AreAllPasses}
use Rattle.dep_table.specs.Passes.{IsPassOf}
use Rattle.dep_table.specs.Views.{PassView, shown}
use Rattle.table_runs.specs.Watching.{split_as}

-- all passes stay all after one is split, and as long as the names stay
abbrev Splits : Type 0
Splits = (v : PassRecord) (vs : List PassRecord) → length v.names ≡ 1 → AreAll (v ∷ vs) → AreAll (after_split v ∷ split_off v ∷ vs)

abbrev KeepsNames : Type 0
KeepsNames = (vs ws : List PassRecord) → map (λ (w : PassRecord). w.names) ws ≡ map (λ (v : PassRecord). v.names) vs → AreAll vs → AreAll ws

-- the first pass alone
pub all_of_one : KeepsNames → AreAll (first_pass ∷ []) → (T : TableId) (p : PassView) (ps : List PassView) → ps ≡ p ∷ []
    → IsPassOf T p → (shown p).names ≡ first_pass.names → AreAllPasses T ps
all_of_one names one T p ps is of named = subst (AreAllPasses T) (sym is) (record {
  each = λ q i. elim i [ inl same ↦ subst (IsPassOf T) (sym same) of | inr never ↦ absurd never ];
  all = names (first_pass ∷ []) (shown p ∷ []) (ap (λ x. x ∷ []) named) one;
})

-- the first pass and the two that were split off it
pub all_of_three : Splits → KeepsNames → AreAll (first_pass ∷ [])
    → (T : TableId) (mine second first : PassView) (ps : List PassView) → ps ≡ mine ∷ second ∷ first ∷ []
    → IsPassOf T mine → IsPassOf T second → IsPassOf T first → (shown mine).names ≡ ([], 2) ∷ []
    → (shown second).names ≡ split_as 1 → (shown first).names ≡ split_as 0 → AreAllPasses T ps
all_of_three split names one T mine second first ps is m s f mn sn fn = subst (AreAllPasses T) (sym is) (record {
  each = λ q i. elim i [
    | inl same ↦ subst (IsPassOf T) (sym same) m
    | inr later ↦ elim later [
      | inl same ↦ subst (IsPassOf T) (sym same) s
      | inr last ↦ elim last [ inl same ↦ subst (IsPassOf T) (sym same) f | inr never ↦ absurd never ]
    ]
  ];
  all =
      names (after_split (after_split first_pass) ∷ split_off (after_split first_pass) ∷ split_off first_pass ∷ [])
      (shown mine ∷ shown second ∷ shown first ∷ [])
      (ap (λ x. x ∷ (shown second).names ∷ (shown first).names ∷ []) mn
      ∙ ap (λ x. (([], 2) ∷ []) ∷ x ∷ (shown first).names ∷ []) sn
      ∙ ap (λ x. (([], 2) ∷ []) ∷ split_as 1 ∷ x ∷ []) fn)
      (split (after_split first_pass) (split_off first_pass ∷ []) refl (split first_pass [] refl one));
})

-- the list that one push makes, or three
pub three_pushed : (a b c : PassView) (k l m n : List PassView) → k ≡ [] → l ≡ k ++ a ∷ [] → m ≡ l ++ b ∷ [] → n ≡ m ++ c ∷ [] → n ≡ a ∷ b ∷ c ∷ []
three_pushed a b c k l m n ek el em en = en ∙ ap (λ x. x ++ c ∷ []) (em ∙ ap (λ x. x ++ b ∷ []) (el ∙ ap (λ x. x ++ a ∷ []) ek))
