use Rattle.std.proofs.Common.{◌≡◌, ◌+◌, ◌<◌, [], ◌∷◌, length, map}
use Rattle.ptg_base.specs.Lists.{IsIn}
use Rattle.table_rule.specs.Names.{AreAll}
use Rattle.dep_table.specs.Passes.{IsPassOf}
use Rattle.dep_table.specs.Tables.{id_of, job_of}
use Rattle.dep_table.specs.Views.{shown}
use Rattle.run_pool.specs.Desks.{AreReady}
use Rattle.ready_deques.specs.Hands.{Account}
use Rattle.run_pool.specs.Seated.{IsFresh, IsNumbered, PaddedDesk, record_on}
use Rattle.run_pool.proofs.seating.seat_workers.Given as goal

abbrev pub invariant-loop-hands : goal.invariant-loop-hands
invariant-loop-hands l = record {
  can_next : (goal.iterator-loop-hands).can_next l.hands-iterator;
  is_finite : (goal.iterator-loop-hands).is_finite l.hands-iterator;
  pass : IsPassOf (id_of l.table) l.first;
  idle : (shown l.first).running ≡ [];
  ready : AreReady (IsPassOf (id_of l.table)) shown (job_of l.table).matched l.desks.items;
  unclaimed : (shown l.first).claims ≡ [];
  unused : (shown l.first).stamps ≡ [];
  fresh : (d : PaddedDesk) → IsIn d l.desks.items → IsFresh d;
  numbered : (d : PaddedDesk) → IsIn d l.desks.items → IsNumbered (length l.fn.hands.items) d;
  below : (h : Account) → IsIn h l.hands-iterator.rest.items → h.number < length l.fn.hands.items;
  all : AreAll (shown l.first ∷ map record_on l.desks.items);
  count : length l.desks.items + length l.hands-iterator.rest.items + 1 ≡ length l.fn.hands.items;
}
