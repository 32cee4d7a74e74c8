-- The elements of a list up to an index.
use Rattle.std.proofs.Common.{◌≡◌, ℕ, ◌+◌, ◌<◌, List, [], ◌∷◌, ◌++◌, length, take, slice_index_or, ap, sym, ◌∙◌}
use Rattle.std.proofs.lemmas.List.{take_more}

-- the element at an index is the last of those up to that index
pub take_next : {A : Type 0} (k : ℕ) (xs : List A) (x : A) → k < length xs → x ≡ slice_index_or xs k x → take (k + 1) xs ≡ take k xs ++ x ∷ []
take_next k xs x h e = take_more xs k x h ∙ ap (λ y. take k xs ++ y ∷ []) (sym e)
