-- The bytes of a preload if all tiles are of one type.
use Rattle.std.proofs.Common.{zero-add, ◌≡◌, ℕ, ◌+◌, ◌*◌, [], ◌∷◌, length, ap, ◌∙◌, sum, arith}
use Rattle.plan_core.specs.declared.plan.Plan.{Plan}
use Rattle.dep_iter.specs.Consistent.{all_data, all_writes}
use Rattle.run_pool.specs.Bytes.{preload_bytes}
use Rattle.run_pool.proofs.CallerLemmas.{sent_are}

module _ (P : Plan) (elems : ℕ) (one : P.elems ≡ elems ∷ []) where
  pub bytes_are : (workers : ℕ) → preload_bytes P workers ≡ 8 * elems * (length (all_data P) + length (all_writes P) + 8 * workers)
  unfolding preload_bytes
  bytes_are workers =
      let types : sum P.elems ≡ elems = ap sum one ∙ zero-add elems in
      ap (λ n. 8 * (n + 8 * workers * sum P.elems)) (sent_are P elems one)
      ∙ ap (λ n. 8 * (elems * (length (all_data P) + length (all_writes P)) + 8 * workers * n)) types
      ∙ regroup elems (length (all_data P) + length (all_writes P)) workers
    where
      regroup : (e s w : ℕ) → 8 * (e * s + 8 * w * e) ≡ 8 * e * (s + 8 * w)
      regroup e s w = omega arith
