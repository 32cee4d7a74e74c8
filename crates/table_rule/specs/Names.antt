-- The names of passes, which prove whether a list of passes is complete. The first pass has the empty name. A pass that
-- is split off gets the name that it was split off under, followed by one more number.
-- Carried by: laws of `table_rule`.
use Rattle.std.specs.Prelude.{ℕ, ◌+◌, ◌<◌, ◌≤◌, List, [], ◌∷◌, ◌++◌, nat_eq, nat_lt, ◌&&◌, Bool}
use Rattle.std.specs.Cmp.Lexicographic.{pointwise}
use Rattle.list_lemmas.specs.Counting.{count, weigh}
use Rattle.work_board.specs.declared.record.PassRecord.{PassRecord}

-- a name, and how many passes were split off under it
abbrev pub Name : Type 0
Name = List ℕ × ℕ

-- how many names of these passes meet a test
abbrev pub name_count : (Name → Bool) → List PassRecord → ℕ
name_count test vs = weigh (λ (v : PassRecord). count test v.names) vs

-- whether it is the name p
abbrev pub is_named : List ℕ → Name → Bool
is_named p x = pointwise nat_eq x.0 p

-- whether it is the name p and more than k passes were split off under it
abbrev pub has_split : List ℕ → ℕ → Name → Bool
has_split p k x = is_named p x && nat_lt k x.1

-- each name belongs to at most one pass, and each name but the empty one was split off under another
pub record AreNames (vs : List PassRecord) : Type 0 where
  pub once : (p : List ℕ) → name_count (is_named p) vs ≤ 1
  pub parent : (p : List ℕ) (k : ℕ) → 0 < name_count (is_named (p ++ k ∷ [])) vs → 0 < name_count (has_split p k) vs

-- these are all passes: they have the empty name and, with each name, every name that was split off under it
pub record AreAll (vs : List PassRecord) : Type 0 where
  pub first : 0 < name_count (is_named []) vs
  pub split : (p : List ℕ) (k : ℕ) → 0 < name_count (has_split p k) vs → 0 < name_count (is_named (p ++ k ∷ [])) vs

-- the names of a pass after another was split off under the first of them
abbrev pub names_after_split : List Name → List Name
names_after_split [] = []
names_after_split (x ∷ xs) = (x.0, x.1 + 1) ∷ xs

-- the name of the pass that was split off
abbrev pub names_split_off : List Name → List Name
names_split_off [] = []
names_split_off (x ∷ xs) = (x.0 ++ x.1 ∷ [], 0) ∷ []
