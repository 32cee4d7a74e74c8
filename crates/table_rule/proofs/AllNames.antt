-- Lists of all passes: the first pass, after a split, after a join, in another order.
use Rattle.std.proofs.Common.{◌≡◌, ℕ, ◌+◌, List, [], ◌∷◌, ◌++◌, length, map, refl, sym, ap, ◌∙◌, arith}
use Rattle.list_lemmas.specs.Counting.{HasSameMembers, weigh}
use Rattle.list_lemmas.proofs.Counts.{weigh-append}
use Rattle.work_board.specs.declared.record.PassRecord.{PassRecord}
use Rattle.table_rule.specs.Changes.{after_split, both, first_pass, split_off}
use Rattle.table_rule.specs.Names.{AreAll, Name, names_after_split, names_split_off}
use Rattle.table_rule.proofs.Naming.{above-past, all_split, named-here, same_all}

pub first_all : AreAll (first_pass ∷ [])
first_all = record {
  first = omega (arith, named-here [] ([], 0) refl);
  split = λ p k h. absurd (omega (arith, above-past p k ([], 0) (omega arith)));
}

pub split_all : (v : PassRecord) (vs : List PassRecord) → length v.names ≡ 1 → AreAll (v ∷ vs) → AreAll (after_split v ∷ split_off v ∷ vs)
split_all v vs one all = by v.names refl one
  where
    by : (l : List Name) → v.names ≡ l → length l ≡ 1 → AreAll (after_split v ∷ split_off v ∷ vs)
    by [] e h = absurd (omega arith)
    by (x ∷ []) e h = all_split (v ∷ vs) (after_split v ∷ split_off v ∷ vs) x.0 x.1 all
        (λ f. let a : weigh f (names_after_split v.names) ≡ f (x.0, x.1 + 1) + 0 = ap
        (λ (l : List Name). weigh f (names_after_split l)) e in let b : weigh f v.names
        ≡ f x + 0 = ap (weigh f) e in let c : weigh f (names_split_off v.names)
        ≡ f (x.0 ++ x.1 ∷ [], 0) + 0 = ap (λ (l : List Name). weigh f (names_split_off l)) e in omega arith)
    by (x ∷ (y ∷ ys)) e h = absurd (omega arith)

pub join_all : (v w : PassRecord) (vs : List PassRecord) → AreAll (v ∷ w ∷ vs) → AreAll (both v w ∷ vs)
join_all v w vs all = same_all (v ∷ w ∷ vs) (both v w ∷ vs) (λ f. omega (arith, weigh-append f v.names w.names)) all

pub order_all : (vs ws : List PassRecord) → HasSameMembers vs ws → AreAll vs → AreAll ws
order_all vs ws same all = same_all vs ws (λ f. sym (same (λ (v : PassRecord). weigh f v.names))) all

pub names_all : (vs ws : List PassRecord) → map (λ (w : PassRecord). w.names) ws ≡ map (λ (v : PassRecord). v.names) vs → AreAll vs → AreAll ws
names_all vs ws same all = same_all vs ws (λ f. mapped f ws ∙ (ap (weigh (weigh f)) same ∙ sym (mapped f vs))) all
  where
    mapped : (f : Name → ℕ) (us : List PassRecord) → weigh (λ (v : PassRecord). weigh f v.names) us ≡ weigh (weigh f) (map (λ (v : PassRecord). v.names) us)
    mapped f [] = refl
    mapped f (u ∷ us) = omega (arith, mapped f us)
