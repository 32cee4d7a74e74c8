-- Lists that grow piece by piece until they are whole.
use Rattle.std.proofs.Common.{◌≡◌, ℕ, ◌+◌, ◌≤◌, List, ◌++◌, length, take, drop, sym, ap, subst, ◌∙◌, arith, append_assoc, length-append}
use Rattle.std.proofs.lemmas.List.{take_all, take-take, length-take}
use Rattle.std.proofs.Math.Seq.{take-add}

-- the first bytes of a file are all of it, if it has no more
pub whole_at_end : (bytes file : List ℕ) → bytes ≡ take (length bytes) file → length file ≤ length bytes → bytes ≡ file
whole_at_end bytes file so_far end = so_far ∙ take_all (length bytes) file end

length_of_take : (n : ℕ) (xs : List ℕ) → n ≤ length xs → length (take n xs) ≡ n
length_of_take n xs h = grind (arith, length-take)

-- the first bytes of a file, and a piece of the rest, are the first bytes of the file
pub more_so_far : (bytes new file piece : List ℕ) (from n : ℕ) → new ≡ bytes ++ take n piece → from ≡ length bytes
    → bytes ≡ take (length bytes) file → n ≤ length piece → take n piece ≡ take n (drop from file)
    → new ≡ take (length new) file
more_so_far bytes new file piece from n grown from_is so_far within piece_is =
    let size : length new ≡ length bytes + n = ap length grown ∙ length-append bytes (take n piece)
    ∙ ap (λ k. length bytes + k) (length_of_take n piece within) in
    let rest : take n piece ≡ take n (drop (length bytes) file) = subst (λ (k : ℕ). take n piece ≡ take n (drop k file)) from_is piece_is in
    let split : take (length bytes + n) file ≡ take (length bytes) file ++ take n (drop (length bytes) file) = take-add (length bytes) n file in
    let both : new ≡ take (length bytes + n) file = grown ∙ ap (λ b. b ++ take n piece) so_far ∙ ap (λ t. take (length bytes) file ++ t) rest ∙ sym split in
    both ∙ ap (λ k. take k file) (sym size)

-- a sink that took the first k bytes, and then n of a piece that follows them, has taken k + n bytes
pub appended_more : (old before now bytes : List ℕ) (k n m : ℕ) → n ≤ m → before ≡ old ++ take k bytes
    → now ≡ before ++ take n (take m (drop k bytes)) → now ≡ old ++ take (k + n) bytes
appended_more old before now bytes k n m within first then =
    then
    ∙ ap (λ b. b ++ take n (take m (drop k bytes))) first
    ∙ append_assoc old (take k bytes) (take n (take m (drop k bytes)))
    ∙ ap (λ t. old ++ (take k bytes ++ t)) (take-take n m (drop k bytes) within)
    ∙ ap (λ t. old ++ t) (sym (take-add k n bytes))
