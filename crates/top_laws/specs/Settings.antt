-- What the numbers of workers and of shards, and the seed of `ranks`, change.
-- Carried by: law `settings_change_nothing_else`.
-- Tested by: `ranks.txt`, every row of `run`, at three settings if it sets neither workers nor shards.
use Rattle.std.specs.Prelude.{ℕ, Bool, false, List}
use Rattle.ptg_words.specs.declared.order.Order.TheVariants.{Ranks, Run}
use Rattle.ptg_words.specs.Words.{Orders}
use Rattle.ptg_top.specs.Denotation.{Denotation}
use Rattle.ptg_top.specs.Operands.{Operands}
use Rattle.ptg_top.specs.Meaning.{Denotes}

-- two runs with the same operands denote the same if they differ in their shards alone
abbrev pub ShardsChangeNothing : Type 0
ShardsChangeNothing =
    (one other : List (List ℕ)) (jdf data_name : List ℕ) (workers shards others : ℕ) (preload : Bool)
    (operands : Operands) (v : Denotation)
    → Orders one (Run jdf data_name workers shards preload) → Orders other (Run jdf data_name workers others preload)
    → Denotes one operands v → Denotes other operands v

-- two runs without a preload with the same operands denote the same if they differ in their workers and shards alone
abbrev pub WorkersChangeNothing : Type 0
WorkersChangeNothing =
    (one other : List (List ℕ)) (jdf data_name : List ℕ) (workers more shards others : ℕ)
    (operands : Operands) (v : Denotation)
    → Orders one (Run jdf data_name workers shards false) → Orders other (Run jdf data_name more others false)
    → Denotes one operands v → Denotes other operands v

-- two runs by ranks with the same operands denote the same if they differ in the seed alone
abbrev pub SeedsChangeNothing : Type 0
SeedsChangeNothing =
    (one other : List (List ℕ)) (jdf data_name : List ℕ) (ranks seed another : ℕ) (operands : Operands) (v : Denotation)
    → Orders one (Ranks jdf data_name ranks seed) → Orders other (Ranks jdf data_name ranks another)
    → Denotes one operands v → Denotes other operands v
