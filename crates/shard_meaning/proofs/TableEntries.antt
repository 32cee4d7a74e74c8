-- What a table of dependences holds of a task, by how often it was claimed, how many edges came and what they
-- delivered.
use Rattle.std.proofs.Common.{◌≡◌, ℕ, ◌<◌, ◌≤◌, false, cond, ◌==◌, ◌&&◌, ◌||◌, List, ap, ◌∙◌, arith, Option, Some, None, nat_lt, eq-eqb, ne_eqb}
use Rattle.std.proofs.lemmas.Bool.{lt-ltb}
use mathlib.Core.Logic.{dite}
use native.Mathlib.Decide.{ℕ_discrete}
use Rattle.ptg_base.specs.Entry.{Entry, FlowTile}
use Rattle.ptg_base.specs.Task.{Task}
use Rattle.plan_core.specs.declared.plan.Plan.{Plan}
use Rattle.dep_iter.specs.Edges.{goal}
use Rattle.dep_iter.specs.Hints.{priority}

module _ (P : Plan) (t : Task) where
  abbrev pub entry_by : ℕ → ℕ → List FlowTile → Option Entry
  entry_by claims came tiles =
      cond (((claims == 0) && (came == goal P t)) || ((claims == 0) && (nat_lt 0 came && nat_lt came (goal P t))))
      (Some (record { goal = goal P t; arrived = came; priority = priority P t; tiles = tiles })) None

  pub by_same : (a a' b b' : ℕ) (c c' : List FlowTile) → a ≡ a' → b ≡ b' → c ≡ c' → entry_by a b c ≡ entry_by a' b' c'
  by_same a a' b b' c c' p q r = λ i. entry_by (p i) (q i) (r i)

  -- a claimed task has no entry
  pub no_entry : (claims came : ℕ) (tiles : List FlowTile) → 0 < claims → entry_by claims came tiles ≡ None
  no_entry claims came tiles h =
      ap (λ b. cond ((b && (came == goal P t)) || (b && (nat_lt 0 came && nat_lt came (goal P t))))
      (Some (record { goal = goal P t; arrived = came; priority = priority P t; tiles = tiles })) None) (ne_eqb claims 0 (λ e. absurd (omega arith)))

  -- one that is not claimed and to which all edges came has one
  pub full_entry : (came : ℕ) (tiles : List FlowTile) → came ≡ goal P t
      → entry_by 0 came tiles ≡ Some (record {
        goal = goal P t;
        arrived = came;
        priority = priority P t;
        tiles = tiles;
      })
  full_entry came tiles e =
      ap (λ b. cond (b || (nat_lt 0 came && nat_lt came (goal P t)))
      (Some (record { goal = goal P t; arrived = came; priority = priority P t; tiles = tiles })) None)
      (eq-eqb came (goal P t) e)

  -- and so has one to which some came
  pub some_entry : (came : ℕ) (tiles : List FlowTile) → 0 < came → came ≤ goal P t
      → entry_by 0 came tiles ≡ Some (record {
        goal = goal P t;
        arrived = came;
        priority = priority P t;
        tiles = tiles;
      })
  some_entry came tiles some most = dite (ℕ_discrete came (goal P t))
      (λ e. full_entry came tiles e)
      (λ ne. ap (λ b. cond (b || (nat_lt 0 came && nat_lt came (goal P t)))
      (Some (record { goal = goal P t; arrived = came; priority = priority P t; tiles = tiles })) None)
      (ne_eqb came (goal P t) ne)
      ∙ (ap (λ b. cond (b && nat_lt came (goal P t)) (Some (record
      { goal = goal P t; arrived = came; priority = priority P t; tiles = tiles })) None) (lt-ltb 0 came some)
      ∙ ap (λ b. cond b (Some (record { goal = goal P t; arrived = came; priority = priority P t; tiles = tiles }))
      None) (lt-ltb came (goal P t) (omega arith))))

  -- one that waits for edges has none until one came
  pub none_came : (tiles : List FlowTile) → 0 < goal P t → entry_by 0 0 tiles ≡ None
  none_came tiles some = ap (λ b. cond (b || false) (Some (record
      { goal = goal P t; arrived = 0; priority = priority P t; tiles = tiles })) None)
      (ne_eqb 0 (goal P t) (λ e. absurd (omega arith)))
