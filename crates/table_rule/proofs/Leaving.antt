-- The shards of a table that was closed.
use Rattle.std.proofs.Common.{◌≡◌, ℕ, zero, suc, ◌+◌, ◌++◌, List, [], ◌∷◌, take, ap, ◌∙◌, arith, subst, sym}
use mathlib.Core.Option.{some, some-injective, some-ne-none}
use lib.ListN.{get_elem?}
use Rattle.atomic_table.specs.Table.{Final, Seen}
use Rattle.dep_shard.specs.Content.{Content}
use Rattle.work_board.specs.declared.record.PassRecord.{PassRecord}
use Rattle.table_rule.specs.declared.table_job.TableJob.{TableJob}
use Rattle.table_rule.specs.Plays.{WereLeft}
use Rattle.table_rule.specs.Rule.{Rule}

next_taken : {A : Type 0} (xs : List A) (k : ℕ) (y : A) → get_elem? xs k ≡ some y
    → take (suc k) xs ≡ take k xs ++ y ∷ []
next_taken [] k y e = absurd (some-ne-none y (sym e))
next_taken (x ∷ xs) zero y e = ap (λ z. z ∷ []) (some-injective x y e)
next_taken (x ∷ xs) (suc k) y e = ap (λ l. x ∷ l) (next_taken xs k y e)

-- one more of a list's beginning
pub take_next : {A : Type 0} (xs : List A) (k : ℕ) (y : A) → get_elem? xs k ≡ some y
    → take (k + 1) xs ≡ take k xs ++ y ∷ []
take_next xs k y e = let one : k + 1 ≡ suc k = omega arith in ap (λ n. take n xs) one ∙ next_taken xs k y e

-- what the kit says of a closed table, of all its shards
pub left_as : (j : TableJob) (id : ℕ) (v : PassRecord) (words : List ℕ) (xs ys : List Content)
    → Final (Seen (Rule j) id v) words xs → ys ≡ xs → WereLeft j v ys
left_as j id v words xs ys f same =
    subst (WereLeft j v) (sym same) (record {
      table = f.0;
      rule = f.1.0;
      id = id;
      mine = f.1.1;
      count = f.3;
      shards = f.4;
    })
