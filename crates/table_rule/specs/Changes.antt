-- How each kind of step changes the record of the pass that makes it.
-- Carried by: laws of `table_rule`.
use Rattle.std.specs.Prelude.{ℕ, ◌+◌, ◌-◌, true, false, ◌||◌, List, [], ◌∷◌, ◌++◌}
use Rattle.atomic_table.specs.Table.{rest}
use Rattle.ptg_base.specs.Entry.{FlowTile}
use Rattle.ptg_base.specs.Task.{Task}
use Rattle.dep_shard.specs.Content.{Content}
use Rattle.flow_meaning.specs.Machine.{SentItem}
use Rattle.work_board.specs.Word.{Halt, Turn, Word}
use Rattle.work_board.specs.declared.record.PassRecord.{PassRecord}
use Rattle.table_rule.specs.Names.{Name, names_after_split, names_split_off}

-- a pass with these names that has done nothing
abbrev pub new_pass : List Name → PassRecord
new_pass names =
    record {
      names = names;
      claims = [];
      sends = [];
      running = [];
      turns = [];
      last = [];
      quiet = false;
      halts = false;
      look = (Halt, 0);
      looks = 0;
      credit = 0;
      stamps = [];
      handed = [];
    }

-- the first pass of a table
abbrev pub first_pass : PassRecord
first_pass = new_pass (([], 0) ∷ [])

-- a pass that looked at a word and found this number
abbrev pub with_look : PassRecord → Word → ℕ → PassRecord
with_look v word found = record v { look = (word, found); looks = v.looks + 1 }

-- a pass that found a turn free and took it: the shard k had the content y
abbrev pub with_turn : PassRecord → ℕ → Content → PassRecord
with_turn v k y = record v { look = (Turn k, 0); looks = v.looks + 1; turns = (k, y) ∷ v.turns; last = (k, y) ∷ [] }

-- a pass that gave back the turn that it took last
abbrev pub turn_left : PassRecord → PassRecord
turn_left v = record v { turns = rest v.turns }

-- a pass that claimed a task, which it runs, and was handed these tiles with it
abbrev pub with_own_claim : PassRecord → Task → List FlowTile → PassRecord
with_own_claim v t tiles =
    record v {
      claims = v.claims ++ t ∷ [];
      running = v.running ++ t ∷ [];
      handed = v.handed ++ (t, tiles) ∷ [];
    }

-- a pass that sent an item and has no credit left: if the send fired its target, that ready task has taken the credit's
-- place in the live word
abbrev pub with_own_send : PassRecord → SentItem → PassRecord
with_own_send v x = record v { sends = v.sends ++ x ∷ []; credit = 0 }

-- a pass that ended its task: it runs nothing, and has one more credit in place of the task
abbrev pub with_own_end : PassRecord → PassRecord
with_own_end v = record v { running = []; credit = v.credit + 1 }

-- a pass that has seen quiet
abbrev pub with_quiet : PassRecord → PassRecord
with_quiet v = record v { quiet = true }

-- a pass that raised the halt word
abbrev pub with_halt : PassRecord → PassRecord
with_halt v = record v { halts = true }

-- a pass that raised the live word: it has one credit more
abbrev pub with_credit : PassRecord → PassRecord
with_credit v = record v { credit = v.credit + 1 }

-- a pass that lowered the live word: it has one credit less
abbrev pub without_credit : PassRecord → PassRecord
without_credit v = record v { credit = v.credit - 1 }

-- a pass that drew a stamp for a task
abbrev pub with_stamp : PassRecord → Task → ℕ → PassRecord
with_stamp v t s = record v { stamps = v.stamps ++ (t, s) ∷ [] }

-- a pass after another was split off it
abbrev pub after_split : PassRecord → PassRecord
after_split v = record v { names = names_after_split v.names }

-- the pass that was split off it
abbrev pub split_off : PassRecord → PassRecord
split_off v = new_pass (names_split_off v.names)

-- a pass that has taken over what another one did and holds
abbrev pub both : PassRecord → PassRecord → PassRecord
both v w =
    record v {
      names = v.names ++ w.names;
      claims = v.claims ++ w.claims;
      sends = v.sends ++ w.sends;
      running = v.running ++ w.running;
      turns = v.turns ++ w.turns;
      quiet = v.quiet || w.quiet;
      halts = v.halts || w.halts;
      credit = v.credit + w.credit;
      stamps = v.stamps ++ w.stamps;
      handed = v.handed ++ w.handed;
    }

-- a pass that was joined to another: it has no name and nothing else
abbrev pub joined_away : PassRecord
joined_away = new_pass []
