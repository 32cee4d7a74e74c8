-- Lists of reads that grow by the reads of one file in turn, and by pieces of known files.
use Rattle.std.proofs.Common.{◌≡◌, ℕ, ◌+◌, ◌<◌, ◌≤◌, List, [], ◌∷◌, ◌++◌, length, take, sym, ap, subst, ◌∙◌, refl, arith, append_assoc, append-nil}
use Rattle.std.proofs.Common.{length-append, inl, inr}
use Rattle.std.specs.Prelude.{Option, Some, Result, Ok, Err, OnErr}
use Rattle.std.specs.List.{AllByRecursion, concat}
use Rattle.std.proofs.lemmas.List.{length-take, take_all}
use Rattle.ptg_io.specs.Files.{NamedFiles, IsPiece, ReadsPiece}
use Rattle.ptg_io.specs.Reads.{AddsAtMostOne, AddsPieces, AddsRead, HaveBegun, HaveGiven, IsLoaded, IsPieceOf, Read, reads_in_turn}

-- ---- reads in turn

concat_more : (pieces : List (List ℕ)) (piece : List ℕ) → concat (pieces ++ piece ∷ []) ≡ concat pieces ++ piece
concat_more [] piece = append-nil piece
concat_more (first ∷ pieces) piece = ap (λ t. first ++ t) (concat_more pieces piece) ∙ sym (append_assoc first (concat pieces) piece)

all_more : {X : Type 0} (P : X → Type 0) (xs : List X) (x : X) → AllByRecursion P xs → P x → AllByRecursion P (xs ++ x ∷ [])
all_more P [] x all here = (here, tt)
all_more P (first ∷ xs) x all here = (all.0, all_more P xs x all.1 here)

all_both : {X : Type 0} (P : X → Type 0) (xs ys : List X) → AllByRecursion P xs → AllByRecursion P ys → AllByRecursion P (xs ++ ys)
all_both P [] ys all more = more
all_both P (x ∷ xs) ys all more = (all.0, all_both P xs ys all.1 more)

-- one more read follows the others
turns_more : (name : List ℕ) (from : ℕ) (pieces : List (List ℕ)) (piece : List ℕ)
    → reads_in_turn name from (pieces ++ piece ∷ [])
    ≡ reads_in_turn name from pieces ++ record { name = name; from = from + length (concat pieces); piece = piece }
    ∷ []
turns_more name from [] piece = ap (λ (at : ℕ). record { name = name; from = at; piece = piece } ∷ []) (omega arith)
turns_more name from (first ∷ pieces) piece =
    let at : from + length first + length (concat pieces) ≡ from + length (first ++ concat pieces) = omega (arith, length-append first (concat pieces)) in
    ap (λ (rs : List Read). record { name = name; from = from; piece = first } ∷ rs)
    (turns_more name (from + length first) pieces piece
    ∙ ap (λ (k : ℕ). reads_in_turn name (from + length first) pieces ++
    record { name = name; from = k; piece = piece } ∷ []) at)

module _ (name : List ℕ) (start : List Read) where
  pub none_given : (bytes : List ℕ) → bytes ≡ [] → HaveGiven name bytes start start
  none_given bytes none = record { pieces = []; reads = sym (append-nil start); together = sym none; nonempty = tt }

  pub one_more_given : (bytes more all : List ℕ) (middle new : List Read) → HaveGiven name bytes start middle
      → AddsRead name (length bytes) more middle new → all ≡ bytes ++ more → 0 < length more
      → HaveGiven name all start new
  one_more_given bytes more all middle new given adds is some =
      let here : length bytes ≡ 0 + length (concat given.pieces) = omega (arith, ap length given.together) in
      record {
        pieces = given.pieces ++ more ∷ [];
        reads =
            adds
            ∙ ap (λ (rs : List Read). rs ++ record { name = name; from = length bytes; piece = more } ∷ []) given.reads
            ∙ append_assoc start (reads_in_turn name 0 given.pieces) (record { name = name; from = length bytes; piece = more } ∷ [])
            ∙ ap (λ (k : ℕ). start ++ (reads_in_turn name 0 given.pieces ++ record { name = name; from = k; piece = more } ∷ [])) here
            ∙ ap (λ (rs : List Read). start ++ rs) (sym (turns_more name 0 given.pieces more));
        together = concat_more given.pieces more ∙ ap (λ b. b ++ more) given.together ∙ sym is;
        nonempty = all_more (λ piece. 0 < length piece) given.pieces more given.nonempty some;
      }

  -- a load that met the end of the file
  pub loaded_to_the_end : (bytes all last : List ℕ) (middle new : List Read) → HaveGiven name bytes start middle
      → length bytes ≤ 16777216 → AddsRead name (length bytes) last middle new → all ≡ bytes ++ last → all ≡ bytes
      → IsLoaded (record { name = name; text = all }) start new
  loaded_to_the_end bytes all last middle new given within adds is same =
      let none : length last ≡ 0 = omega (arith, ap length is, ap length same, length-append bytes last) in
      record { earlier = bytes; last = last; before = middle; reads = given; within = within; ended = adds; text = is; whole = inl (nothing last none) }
    where
      nothing : (xs : List ℕ) → length xs ≡ 0 → xs ≡ []
      nothing [] e = refl
      nothing (x ∷ xs) e = absurd (omega arith)

  -- a load that went past 16 MiB
  pub loaded_past : (bytes last : List ℕ) (middle new : List Read) → HaveGiven name bytes start middle
      → length bytes ≤ 16777216 → AddsRead name (length bytes) last middle new
      → 16777216 < length bytes + length last
      → (text : List ℕ) × (16777216 < length text) × IsLoaded (record { name = name; text = text }) start new
  loaded_past bytes last middle new given within adds past =
      let long : 16777216 < length (bytes ++ last) = omega (arith, length-append bytes last, past) in (
        bytes ++ last,
        long,
        record {
          earlier = bytes;
          last = last;
          before = middle;
          reads = given;
          within =
              within;
          ended = adds;
          text = refl;
          whole = inr long;
        },
      )

  -- a load that has begun, with its last read if there is one
  pub begun_or_more : (bytes : List ℕ) (middle new : List Read) → HaveGiven name bytes start middle
      → length bytes ≤ 16777216 → AddsAtMostOne name bytes middle new → HaveBegun name start new
  begun_or_more bytes middle new given within (inl is) =
      record {
        bytes = bytes;
        reads = subst (λ (rs : List Read). HaveGiven name bytes start rs) (sym is) given;
        within = within;
      }
  begun_or_more bytes middle new given within (inr (more, some, adds, fits)) =
      record {
        bytes = bytes ++ more;
        reads =
            one_more_given bytes more (bytes ++ more) middle new given adds refl some;
        within =
            omega (arith, length-append bytes more, fits);
      }

-- what was appended is not empty if the list is longer now
pub added_some : (bytes all more : List ℕ) → all ≡ bytes ++ more → length bytes < length all → 0 < length more
added_some bytes all more is longer = omega (arith, ap length is, length-append bytes more, longer)

-- what holds anyway holds on each error
pub holds_on_err : {T E : Type 0} (result : Result T E) (P : Type 0) → P → OnErr result P
holds_on_err (Ok value) P h = tt
holds_on_err (Err error) P h = h

-- ---- pieces of known files

module _ (contents : Option NamedFiles) where
  pub no_pieces : (old new : List Read) → new ≡ old → AddsPieces contents old new
  no_pieces old new same files known = ([], same ∙ sym (append-nil old), tt)

  pub more_pieces : (old middle new : List Read) → AddsPieces contents old middle → AddsPieces contents middle new → AddsPieces contents old new
  more_pieces old middle new first then files known =
      let a = first files known in
      let b = then files known in
      (a.0 ++ b.0, b.1 ∙ ap (λ (rs : List Read). rs ++ b.0) a.1 ∙ append_assoc old a.0 b.0, all_both (IsPieceOf files) a.0 b.0 a.2 b.2)

  -- a read that gave a piece of a known file
  pub one_piece : (name : List ℕ) (from n : ℕ) (buffer : List ℕ) (old new : List Read)
      → AddsRead name from (take n buffer) old new → n ≤ length buffer
      → ((files : NamedFiles) → contents ≡ Some files → ReadsPiece files name from n buffer)
      → AddsPieces contents old new
  one_piece name from n buffer old new adds within given files known =
      let p = given files known in
      let size : length (take n buffer) ≡ n = grind (arith, length-take) in
      let same : take (length (take n buffer)) (take n buffer) ≡ take n buffer = take_all (length (take n buffer)) (take n buffer) (omega arith) in
      let cut : take n (take n buffer) ≡ take n buffer = subst (λ (k : ℕ). take k (take n buffer) ≡ take n buffer) size same in
      let piece : IsPiece p.0 from n (take n buffer) = record { piece = cut ∙ p.2.piece; end = p.2.end } in (
        record { name = name; from = from; piece = take n buffer } ∷ [],
        adds,
        ((p.0, p.1, subst (λ (k : ℕ). IsPiece p.0 from k (take n buffer)) (sym size) piece), tt),
      )
