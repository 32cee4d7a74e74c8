-- What was read determines the loads.
use Rattle.std.proofs.Common.{◌≡◌, ℕ, ◌+◌, ◌<◌, ◌≤◌, List, [], ◌∷◌, ◌++◌, length, sym, ap, subst, ◌∙◌, refl, arith, append_assoc, length-append, inl, inr}
use Rattle.std.specs.Prelude.{◌⊎◌}
use Rattle.std.specs.List.{AllByRecursion, concat}
use Rattle.std.proofs.lemmas.List.{append_cancel_left, append_cancel_right}
use Rattle.ptg_io.specs.Reads.{Gave, IsLoaded, reads_in_turn}
use Rattle.ptg_top.specs.Operands.{Load, Read, load_of}
use Rattle.top_laws.specs.Known.{OneLoading}
use Rattle.top_laws.proofs.Loaded.{added_by, gave_adds, last_read, own_reads}

abbrev some : List ℕ → Type 0
some piece = 0 < length piece

-- the last piece of a load that began at an offset: none, or more than fits
abbrev IsLast : ℕ → List (List ℕ) → List ℕ → Type 0
IsLast from pieces last = (last ≡ []) ⊎ (16777216 < from + length (concat pieces) + length last)

abbrev read_at : List ℕ → ℕ → List ℕ → Read
read_at name from piece = record { name = name; from = from; piece = piece }

-- the reads of a load from an offset on, and those after it
abbrev reads_of : List ℕ → ℕ → List (List ℕ) → List ℕ → List Read → List Read
reads_of name from pieces last rest = reads_in_turn name from pieces ++ read_at name (from + length (concat pieces)) last ∷ rest

-- if two lists of reads are the same, so are the parts of their first reads, and what follows
parts_of : (a b : List ℕ) (i j : ℕ) (p q : List ℕ) (r s : List Read) → read_at a i p ∷ r ≡ read_at b j q ∷ s → (a ≡ b) × (p ≡ q) × (r ≡ s)
parts_of a b i j p q r s e =
    let heads : read_at a i p ≡ read_at b j q = cc in
    let rests : r ≡ s = cc in
    (ap (λ (x : Read). x.name) heads, ap (λ (x : Read). x.piece) heads, rests)

no_end_within : (from : ℕ) (last piece : List ℕ) (pieces : List (List ℕ)) → some piece
    → from + length (piece ++ concat pieces) ≤ 16777216 → last ≡ piece
    → (last ≡ []) ⊎ (16777216 < from + 0 + length last) → ⊥
no_end_within from last piece pieces nonempty within same (inl none) = absurd (omega (arith, nonempty, ap length (sym same ∙ none)))
no_end_within from last piece pieces nonempty within same (inr past) = absurd (omega (arith, within, past, ap length same, length-append piece (concat pieces)))

module _ (a b : List ℕ) where
  once : (from : ℕ) (ps qs : List (List ℕ)) (last other : List ℕ) (r s : List Read) → AllByRecursion some ps
      → AllByRecursion some qs → from + length (concat ps) ≤ 16777216 → from + length (concat qs) ≤ 16777216
      → IsLast from ps last → IsLast from qs other → reads_of a from ps last r ≡ reads_of b from qs other s
      → (a ≡ b) × (concat ps ++ last ≡ concat qs ++ other) × (r ≡ s)
  once from [] [] last other r s all each within inside ends stops e = parts_of a b (from + 0) (from + 0) last other r s e
  once from [] (q ∷ qs) last other r s all each within inside ends stops e =
      let tail : List Read = reads_in_turn b (from + length q) qs ++ read_at b (from + length (q ++ concat qs)) other ∷ s in
      let parts = parts_of a b (from + 0) from last q r tail e in
      absurd (no_end_within from last q qs each.0 inside parts.1 ends)
  once from (p ∷ ps) [] last other r s all each within inside ends stops e =
      let tail : List Read = reads_in_turn a (from + length p) ps ++ read_at a (from + length (p ++ concat ps)) last ∷ r in
      let parts = parts_of a b from (from + 0) p other tail s e in
      absurd (no_end_within from other p ps all.0 within (sym parts.1) stops)
  once from (p ∷ ps) (q ∷ qs) last other r s all each within inside ends stops e =
      let mine : List Read = reads_in_turn a (from + length p) ps ++ read_at a (from + length (p ++ concat ps)) last ∷ r in
      let its : List Read = reads_in_turn b (from + length q) qs ++ read_at b (from + length (q ++ concat qs)) other ∷ s in
      let parts = parts_of a b from from p q mine its e in
      let same : p ≡ q = parts.1 in
      let tails : mine ≡ its = parts.2 in
      let first : from + length (p ++ concat ps) ≡ from + length p + length (concat ps) = omega (arith, length-append p (concat ps)) in
      let second : from + length (q ++ concat qs) ≡ from + length q + length (concat qs) = omega (arith, length-append q (concat qs)) in
      let moved : reads_of a (from + length p) ps last r ≡ reads_of b (from + length q) qs other s =
      ap (λ (k : ℕ). reads_in_turn a (from + length p) ps ++ read_at a k last ∷ r) (sym first) ∙ tails
      ∙ ap (λ (k : ℕ). reads_in_turn b (from + length q) qs ++ read_at b k other ∷ s) second in
      let sizes : length q ≡ length p = ap length (sym same) in
      let alike : reads_of a (from + length p) ps last r ≡ reads_of b (from + length p) qs other s = subst
      (λ (k : ℕ). reads_of a (from + length p) ps last r ≡ reads_of b (from + k) qs other s) sizes moved in
      let then =
      once (from + length p) ps qs last other r s all.1 each.1 (omega (arith, within, first)) (omega (arith, inside, second, sizes))
      (last_of p ps last first ends) (subst (λ (k : ℕ). IsLast (from + k) qs other) sizes (last_of q qs other second stops)) alike in (
        then.0,
        append_assoc p (concat ps) last ∙ ap (λ (t : List ℕ). p ++ t) then.1
            ∙ ap (λ (t : List ℕ). t ++ (concat qs ++ other)) same ∙ sym (append_assoc q (concat qs) other),
        then.2,
      )
    where
      last_of : (piece : List ℕ) (pieces : List (List ℕ)) (end : List ℕ)
          → from + length (piece ++ concat pieces) ≡ from + length piece + length (concat pieces)
          → IsLast from (piece ∷ pieces) end → IsLast (from + length piece) pieces end
      last_of piece pieces end is (inl none) = inl none
      last_of piece pieces end is (inr past) = inr (omega (arith, past, is))

some_added : (old new : List Read) (load : Load) (loads : List Load) → Gave old new (load ∷ loads) → new ≡ old → ⊥
some_added old new load loads (middle, first, rest) same =
    let more = gave_adds middle new loads rest in
    absurd (omega (
      arith,
      ap length more.1,
      length-append middle more.0,
      ap length first.ended,
      length-append
          first.before (last_read load old middle first ∷ []),
      ap length first.reads.reads,
      length-append old
          (own_reads load old middle first),
      ap length same,
    ))

module _ (old : List Read) (a b : Load) (one two : List Read) (first : IsLoaded a old one) (second : IsLoaded b old two) where
  -- two loads that begin the same list are the same, and so is what was read after them
  same_load : (r s : List Read) → one ++ r ≡ two ++ s → (a ≡ b) × (one ≡ two)
  same_load r s e =
      let mine = own_reads a old one first in
      let its = own_reads b old two second in
      let whole : old ++ (mine ++ last_read a old one first ∷ r) ≡ old ++ (its ++ last_read b old two second ∷ s) =
      sym (ap (λ (rs : List Read). rs ++ r) (added_by a old one first)
      ∙ append_assoc old (mine ++ last_read a old one first ∷ []) r
      ∙ ap (λ (rs : List Read). old ++ rs) (append_assoc mine (last_read a old one first ∷ []) r))
      ∙ e
      ∙ (ap (λ (rs : List Read). rs ++ s) (added_by b old two second)
      ∙ append_assoc old (its ++ last_read b old two second ∷ []) s
      ∙ ap (λ (rs : List Read). old ++ rs) (append_assoc its (last_read b old two second ∷ []) s)) in
      let parts = append_cancel_left old (mine ++ last_read a old one first ∷ r) (its ++ last_read b old two second ∷ s) whole in
      let found =
      once a.name b.name 0 first.reads.pieces second.reads.pieces first.last second.last r s first.reads.nonempty second.reads.nonempty
      (within_of a first.earlier first.reads.pieces first.reads.together first.within)
      (within_of b second.earlier second.reads.pieces second.reads.together second.within)
      (last_of a first.earlier first.last first.reads.pieces first.reads.together first.text first.whole)
      (last_of b second.earlier second.last second.reads.pieces second.reads.together second.text second.whole)
      (placed a mine first.last r first.earlier first.reads.pieces first.reads.together ∙ parts
      ∙ sym (placed b its second.last s second.earlier second.reads.pieces second.reads.together)) in
      let texts : a.text ≡ b.text =
      first.text ∙ ap (λ (t : List ℕ). t ++ first.last) (sym first.reads.together) ∙ found.1
      ∙ ap (λ (t : List ℕ). t ++ second.last) second.reads.together ∙ sym second.text in (
        ap (λ (n : List ℕ). load_of n a.text) found.0 ∙ ap (λ (t : List ℕ). load_of b.name t) texts,
        append_cancel_right one two s (subst (λ (rs : List Read). one ++ rs ≡ two ++ s) found.2 e),
      )
    where
      within_of : (load : Load) (earlier : List ℕ) (pieces : List (List ℕ)) → concat pieces ≡ earlier
          → length earlier ≤ 16777216 → 0 + length (concat pieces) ≤ 16777216
      within_of load earlier pieces together within = omega (arith, ap length together, within)

      last_of : (load : Load) (earlier last : List ℕ) (pieces : List (List ℕ)) → concat pieces ≡ earlier
          → load.text ≡ earlier ++ last → (last ≡ []) ⊎ (16777216 < length load.text) → IsLast 0 pieces last
      last_of load earlier last pieces together text (inl none) = inl none
      last_of load earlier last pieces together text (inr past) = inr (omega (arith, past, ap length text, length-append earlier last, ap length together))

      placed : (load : Load) (own : List Read) (last : List ℕ) (rest : List Read) (earlier : List ℕ) (pieces : List (List ℕ)) → concat pieces ≡ earlier
          → own ++ read_at load.name (0 + length (concat pieces)) last ∷ rest ≡ own ++ read_at load.name (length earlier) last ∷ rest
      placed load own last rest earlier pieces together =
          let at : 0 + length (concat pieces) ≡ length earlier = omega (arith, ap length together) in
          ap (λ (k : ℕ). own ++ read_at load.name k last ∷ rest) at

pub one_loading : OneLoading
one_loading old new [] [] gave also = refl
one_loading old new [] (other ∷ others) gave also = absurd (some_added old new other others also gave)
one_loading old new (load ∷ loads) [] gave also = absurd (some_added old new load loads gave also)
one_loading old new (load ∷ loads) (other ∷ others) (one, first, rest) (two, second, more) =
    let r = gave_adds one new loads rest in
    let s = gave_adds two new others more in
    let same = same_load old load other one two first second r.0 s.0 (sym r.1 ∙ s.1) in
    let after : Gave one new others = subst (λ (rs : List Read). Gave rs new others) (sym same.1) more in
    ap (λ (l : Load). l ∷ loads) same.0 ∙ ap (λ (ls : List Load). other ∷ ls) (one_loading one new loads others rest after)
