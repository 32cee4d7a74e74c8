-- Steps of the loops over shards and their rows.
use Rattle.std.proofs.Common.{◌≡◌, ℕ, zero, suc, ◌+◌, ◌<◌, ℤ, List, [], ◌∷◌, ◌++◌, map, take, length, slice_get, refl}
use Rattle.std.proofs.Common.{ap, sym, ◌∙◌, subst, append_assoc, inl, arith, Some, None}
use Rattle.std.proofs.lemmas.List.{append-nil}
use Rattle.std.proofs.lemmas.List.Elements.{All-weaker}
use Rattle.std.specs.List.{All}
use Rattle.ptg_base.specs.Lists.{IsIn}
use Rattle.ptg_base.specs.declared.edge.WriteBack.{WriteBack}
use Rattle.list_lemmas.proofs.Members.{IsIn-append_left, IsIn-append_right}
use Rattle.coll_data.specs.Data.{Data}
use Rattle.dep_shard.specs.Content.{Content}
use Rattle.flow_meaning.specs.Final.{replaced_data}
use Rattle.run_answer.specs.Written.{IsWritable}
use Rattle.run_answer.proofs.CallerLemmas.{replaced_twice, replaced_writable, written_to}
use Rattle.shard_answer.specs.Parts.{all_written}

map_next : {A B : Type 0} (f : A → B) (xs : List A) (i : ℕ) (x : A) → slice_get xs i ≡ Some x → map f (take (suc i) xs) ≡ map f (take i xs) ++ f x ∷ []
map_next f [] i x is = absurd cc
map_next f (y ∷ ys) zero x is = let one : y ≡ x = cc in ap (λ v. f v ∷ []) one
map_next f (y ∷ ys) (suc i) x is = ap (λ l. f y ∷ l) (map_next f ys i x is)

-- one more row is pushed
pub pushed_row : {A B : Type 0} (f : A → B) (es : List A) (i : ℕ) (x : A) (base rows new : List B) (r : B)
    → slice_get es i ≡ Some x → r ≡ f x → rows ≡ base ++ map f (take i es) → new ≡ rows ++ r ∷ []
    → new ≡ base ++ map f (take (i + 1) es)
pushed_row f es i x base rows new r at is so_far push =
    let next : suc i ≡ i + 1 = omega arith in
    push ∙ (λ j. so_far j ++ is j ∷ []) ∙ append_assoc base (map f (take i es)) (f x ∷ [])
    ∙ ap (λ l. base ++ l) (sym (map_next f es i x at)) ∙ ap (λ n. base ++ map f (take n es)) next

pub none_past : {A : Type 0} (xs : List A) (i : ℕ) → i < length xs → slice_get xs i ≡ None → ⊥
none_past [] i h none = absurd (omega (arith, h))
none_past (x ∷ xs) zero h none = cc
none_past (x ∷ xs) (suc i) h none = none_past xs i (omega (arith, h)) none

pub in_last : (ys rest : List Content) (y : Content) → ys ≡ rest ++ y ∷ [] → IsIn y ys
in_last ys rest y e = subst (IsIn y) (sym e) (IsIn-append_right y rest (y ∷ []) (inl refl))

pub in_front : (ys rest : List Content) (y z : Content) → ys ≡ rest ++ y ∷ [] → IsIn z rest → IsIn z ys
in_front ys rest y z e i = subst (IsIn z) (sym e) (IsIn-append_left z rest (y ∷ []) i)

written-push : (rest : List Content) (y : Content) → all_written (rest ++ y ∷ []) ≡ all_written rest ++ y.written
written-push [] y = append-nil y.written
written-push (z ∷ zs) y = ap (λ l. z.written ++ l) (written-push zs y) ∙ sym (append_assoc z.written (all_written zs) y.written)

-- the write-backs of the last shard are made first
pub one_shard : (ys rest : List Content) (y : Content) (ws : List (WriteBack × List ℤ)) (d e : Data)
    → ys ≡ rest ++ y ∷ [] → ws ≡ y.written → e ≡ replaced_data (written_to ws) d
    → replaced_data (written_to (all_written rest)) e ≡ replaced_data (written_to (all_written ys)) d
one_shard ys rest y ws d e all is made =
    ap (replaced_data (written_to (all_written rest))) made ∙ ap (λ vs. replaced_data (written_to (all_written rest)) (replaced_data (written_to vs) d)) is
    ∙ sym (replaced_twice (all_written rest) y.written d) ∙ ap (λ vs. replaced_data (written_to vs) d)
    (sym (written-push rest y)) ∙ ap (λ zs. replaced_data (written_to (all_written zs)) d) (sym all)

pub still_writable : (ws vs : List (WriteBack × List ℤ)) (d e : Data) → e ≡ replaced_data (written_to ws) d → All (IsWritable d) vs → All (IsWritable e) vs
still_writable ws vs d e made all =
    subst (λ f. All (IsWritable f) vs) (sym made) (All-weaker (IsWritable d) (IsWritable (replaced_data (written_to ws) d)) (replaced_writable ws d) vs all)
