-- If reads returned pieces of known files, each load is the file with its name, or both have more than 16 MiB.
use Rattle.std.proofs.Common.{◌≡◌, ℕ, ◌+◌, ◌<◌, ◌≤◌, List, [], ◌∷◌, ◌++◌, length, take, drop, sym, ap, subst, ◌∙◌, refl}
use Rattle.std.proofs.Common.{arith, append_assoc, append-nil, length-append, inl, inr}
use Rattle.std.specs.Prelude.{Some, ◌⊎◌}
use Rattle.std.specs.List.{AllByRecursion, concat}
use Rattle.std.proofs.lemmas.List.{append_cancel_left, length-take, take_all, drop-drop}
use Rattle.std.proofs.Math.Seq.{take-add}
use Rattle.ptg_io.specs.Files.{file_of}
use Rattle.ptg_io.specs.Reads.{AddsPieces, Gave, IsLoaded, IsPieceOf, reads_in_turn}
use Rattle.ptg_top.specs.Operands.{Load, NamedFiles, Read}
use Rattle.top_laws.specs.Known.{IsFileOf, IsSameOrLong, LoadsAreFiles}

-- ---- what was added to a list of reads

-- loads only add to the list
pub gave_adds : (old new : List Read) (loads : List Load) → Gave old new loads → (added : List Read) × (new ≡ old ++ added)
gave_adds old new [] same = ([], same ∙ sym (append-nil old))
gave_adds old new (load ∷ loads) (middle, first, rest) =
    let more = gave_adds middle new loads rest in
    let last : List Read = record { name = load.name; from = length first.earlier; piece = first.last } ∷ [] in
    let own : List Read = reads_in_turn load.name 0 first.reads.pieces in (
      (own ++ last) ++ more.0,
      more.1
          ∙ ap (λ (rs : List Read). rs ++ more.0) (first.ended ∙ ap (λ (rs : List Read). rs ++ last) first.reads.reads ∙ append_assoc old own last)
          ∙ append_assoc old (own ++ last) more.0,
    )

all_front : {X : Type 0} (P : X → Type 0) (xs ys : List X) → AllByRecursion P (xs ++ ys) → AllByRecursion P xs
all_front P [] ys all = tt
all_front P (x ∷ xs) ys all = (all.0, all_front P xs ys all.1)

all_back : {X : Type 0} (P : X → Type 0) (xs ys : List X) → AllByRecursion P (xs ++ ys) → AllByRecursion P ys
all_back P [] ys all = all
all_back P (x ∷ xs) ys all = all_back P xs ys all.1

-- ---- the pieces of one file

-- consecutive pieces of a file are its bytes from the offset where they began
turn_is_front : (files : NamedFiles) (name bytes : List ℕ) → file_of files name ≡ Some bytes
    → (from : ℕ) (pieces : List (List ℕ)) → AllByRecursion (IsPieceOf files) (reads_in_turn name from pieces)
    → concat pieces ≡ take (length (concat pieces)) (drop from bytes)
turn_is_front files name bytes there from [] all = refl
turn_is_front files name bytes there from (piece ∷ pieces) ((other, same, is), all) =
    let one : other ≡ bytes = cc in
    let here : take (length piece) piece ≡ take (length piece) (drop from bytes) = subst
    (λ (b : List ℕ). take (length piece) piece ≡ take (length piece) (drop from b)) one is.piece in
    let whole : piece ≡ take (length piece) (drop from bytes) = sym (take_all (length piece) piece (omega arith)) ∙ here in
    let rest = turn_is_front files name bytes there (from + length piece) pieces all in
    let later : drop (from + length piece) bytes ≡ drop (length piece) (drop from bytes) = sym (drop-drop (length piece) from bytes) in
    ap (λ (p : List ℕ). p ++ concat pieces) whole
    ∙ ap (λ (p : List ℕ). take (length piece) (drop from bytes) ++ p) (rest ∙ ap (λ (b : List ℕ). take (length (concat pieces)) b) later)
    ∙ sym (take-add (length piece) (length (concat pieces)) (drop from bytes))
    ∙ ap (λ (k : ℕ). take k (drop from bytes)) (sym (length-append piece (concat pieces)))

module _ (load : Load) (old new : List Read) (first : IsLoaded load old new) where
  abbrev pub last_read : Read
  last_read = record { name = load.name; from = length first.earlier; piece = first.last }

  abbrev pub own_reads : List Read
  own_reads = reads_in_turn load.name 0 first.reads.pieces

  -- what a load adds
  pub added_by : new ≡ old ++ (own_reads ++ last_read ∷ [])
  added_by = first.ended ∙ ap (λ (rs : List Read). rs ++ last_read ∷ []) first.reads.reads ∙ append_assoc old own_reads (last_read ∷ [])

module _ (files : NamedFiles) (load : Load) (old new : List Read) (first : IsLoaded load old new) where
  is_file : AllByRecursion (IsPieceOf files) (own_reads load old new first ++ last_read load old new first ∷ []) → IsFileOf files load
  is_file all =
      let own : List Read = own_reads load old new first in
      let end : List Read = last_read load old new first ∷ [] in
      let last = (all_back (IsPieceOf files) own end all).0 in
      let bytes = last.0 in
      let earlier : first.earlier ≡ take (length first.earlier) bytes =
      subst (λ (b : List ℕ). b ≡ take (length b) bytes) first.reads.together
      (turn_is_front files load.name bytes last.1 0 first.reads.pieces (all_front (IsPieceOf files) own end all)) in
      let piece : first.last ≡ take (length first.last) (drop (length first.earlier) bytes) = sym
      (take_all (length first.last) first.last (omega arith)) ∙ last.2.piece in
      let text : load.text ≡ take (length load.text) bytes =
      first.text
      ∙ ap (λ (b : List ℕ). b ++ first.last) earlier
      ∙ ap (λ (b : List ℕ). take (length first.earlier) bytes ++ b) piece
      ∙ sym (take-add (length first.earlier) (length first.last) bytes)
      ∙ ap (λ (k : ℕ). take k bytes) (sym (length-append first.earlier first.last) ∙ sym (ap length first.text)) in
      (bytes, last.1, whole_or_long bytes text last.2.end first.whole)
    where
      whole_or_long : (bytes : List ℕ) → load.text ≡ take (length load.text) bytes
          → (length first.last ≡ 0 → length bytes ≤ length first.earlier)
          → (first.last ≡ []) ⊎ (16777216 < length load.text) → IsSameOrLong load.text bytes
      whole_or_long bytes text end (inl none) =
          let short : length bytes ≤ length first.earlier = end (ap length none) in
          let size : length load.text ≡ length first.earlier = ap length first.text ∙ length-append first.earlier first.last ∙ omega (arith, ap length none) in
          inl (text ∙ take_all (length load.text) bytes (omega (arith, short, size)))
      whole_or_long bytes text end (inr long) =
          let size : length load.text ≡ length (take (length load.text) bytes) = ap length text in
          inr (long, grind (arith, length-take, size, long))

-- ---- all loads

loads_from : (files : NamedFiles) (old new : List Read) (loads : List Load) → Gave old new loads → (added : List Read)
    → new ≡ old ++ added → AllByRecursion (IsPieceOf files) added → AllByRecursion (IsFileOf files) loads
loads_from files old new [] gave added is all = tt
loads_from files old new (load ∷ loads) (middle, first, rest) added is all =
    let more = gave_adds middle new loads rest in
    let own : List Read = own_reads load old middle first ++ last_read load old middle first ∷ [] in
    let split : old ++ added ≡ old ++ (own ++ more.0) =
    sym is ∙ more.1 ∙ ap (λ (rs : List Read). rs ++ more.0) (added_by load old middle first) ∙ append_assoc old own more.0 in
    let parts : added ≡ own ++ more.0 = append_cancel_left old added (own ++ more.0) split in
    let both : AllByRecursion (IsPieceOf files) (own ++ more.0) = subst (λ (rs : List Read). AllByRecursion (IsPieceOf files) rs) parts all in (
      is_file files load old middle first (all_front (IsPieceOf files) own more.0 both),
      loads_from files middle new loads rest more.0 more.1 (all_back (IsPieceOf files) own more.0 both),
    )

-- loads before further reads
pub loads_before : (files : NamedFiles) (old middle new : List Read) (loads : List Load) (rest : List Read)
    → AddsPieces (Some files) old new → Gave old middle loads → new ≡ middle ++ rest
    → AllByRecursion (IsFileOf files) loads
loads_before files old middle new loads rest pieces gave then =
    let added = pieces files refl in
    let own = gave_adds old middle loads gave in
    let split : old ++ added.0 ≡ old ++ (own.0 ++ rest) = sym added.1 ∙ then ∙ ap (λ (rs : List Read). rs ++ rest) own.1 ∙ append_assoc old own.0 rest in
    let parts : added.0 ≡ own.0 ++ rest = append_cancel_left old added.0 (own.0 ++ rest) split in
    let both : AllByRecursion (IsPieceOf files) (own.0 ++ rest) = subst (λ (rs : List Read). AllByRecursion (IsPieceOf files) rs) parts added.2 in
    loads_from files old middle loads gave own.0 own.1 (all_front (IsPieceOf files) own.0 rest both)

pub loads_are_files : LoadsAreFiles
loads_are_files files old new loads pieces gave = let added = pieces files refl in loads_from files old new loads gave added.0 added.1 added.2
