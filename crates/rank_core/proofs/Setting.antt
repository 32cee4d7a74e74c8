-- One rank of a list of ranks is changed.
use Rattle.std.proofs.Common.{◌≡◌, ℕ, List, sym, ◌∙◌, subst, Option, Some, slice_get, slice_set}
use Rattle.plan_core.specs.declared.plan.Plan.{Plan}
use Rattle.dep_shard.specs.Content.{Content, IsUnchanged}
use Rattle.rank_core.specs.declared.message.Message.{Message}
use Rattle.rank_core.specs.Changes.{StaysAt, TakesEdgeAt}
use Rattle.shard_calls.specs.Taken.{TakesEdge}
use Rattle.std.proofs.lemmas.List.{length-set}
use Rattle.list_lemmas.proofs.Places.{slice_get-set_other, slice_get-set_same}

one_at : {A : Type 0} (x y : A) (o : Option A) → o ≡ Some x → o ≡ Some y → x ≡ y
one_at x y o a b = let e : Some x ≡ Some y = sym a ∙ b in cc

pub takes_at : (P : Plan) (m : Message) (k : ℕ) (ys : List Content) (y z : Content) → slice_get ys k ≡ Some y
    → TakesEdge P m.edge m.tile y z → TakesEdgeAt P m k ys (slice_set ys k z)
takes_at P m k ys y z at takes = record {
  count = length-set ys k z;
  others = λ i other. slice_get-set_other ys k i z other;
  here = λ a b old new. subst (λ q. TakesEdge P m.edge m.tile a q) (slice_get-set_same ys k z b new)
      (subst (λ q. TakesEdge P m.edge m.tile q z) (one_at y a (slice_get ys k) at old) takes);
}

pub stays_at : (k : ℕ) (ys : List Content) (y z : Content) → slice_get ys k ≡ Some y → IsUnchanged y z
    → StaysAt k ys (slice_set ys k z)
stays_at k ys y z at same = record {
  count = length-set ys k z;
  others = λ i other. slice_get-set_other ys k i z other;
  here = λ a b old new. subst (λ q. IsUnchanged a q) (slice_get-set_same ys k z b new)
      (subst (λ q. IsUnchanged q z) (one_at y a (slice_get ys k) at old) same);
}
