use Rattle.std.proofs.Common.{◌≡◌, ◌≤◌, ℕ, List, length, drop, sym, ap, ◌∙◌}
use Rattle.std.proofs.lemmas.List.{drop_all}
use Rattle.name_table.specs.Index.{mixed, mixed_from}
use Rattle.name_table.proofs.mix.mixed.Goals as goal

done : (m k : ℕ) (name : List ℕ) → length name ≤ k → mixed_from m (drop k name) ≡ mixed_from 0 name → m ≡ mixed_from 0 name
done m k name h e = sym (ap (mixed_from m) (drop_all k name h)) ∙ e

pub returns : goal.returns
unfolding mixed
returns c = done c.loop-byte.number c.loop-byte.byte-index c.args.name.now c.loop-byte-test.false c.loop-byte.invariant
