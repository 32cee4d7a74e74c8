-- The loop that looks a spelling up in a table.
use Rattle.std.proofs.Common.{◌≡◌, ℕ, suc, ◌+◌, ◌<◌, Bool, true, false, List, length, drop, get_or, map, ap, ◌∙◌, cond, Bor, add-one}
use Rattle.std.proofs.Math.Seq.{drop-cons}
use Rattle.std.specs.Str.{bytes_eq}
use Rattle.jdf_lex.specs.declared.terminal.Terminal.{Terminal}
use Rattle.jdf_lex.specs.Terminals.{spelled}

abbrev entry : Bor (List ℕ) × Terminal → List ℕ × Terminal
entry w = (w.0.now, w.1)

-- the entries from index i on
step : (table : List (Bor (List ℕ) × Terminal)) (text : List ℕ) (other : Terminal) (i : ℕ) (d : Bor (List ℕ) × Terminal) → i < length table
    → spelled (map entry (drop i table)) text other
    ≡ cond (bytes_eq (get_or table i d).0.now text) (get_or table i d).1
    (spelled (map entry (drop (suc i) table)) text other)
step table text other i d h = ap (λ (l : List (Bor (List ℕ) × Terminal)). spelled (map entry l) text other) (drop-cons table i d h)

pub here : (table : List (Bor (List ℕ) × Terminal)) (text : List ℕ) (other : Terminal) (i : ℕ) (d : Bor (List ℕ) × Terminal) → i < length table
    → bytes_eq (get_or table i d).0.now text ≡ true → spelled (map entry (drop i table)) text other ≡ (get_or table i d).1
here table text other i d h e = step table text other i d h
    ∙ ap (λ (b : Bool). cond b (get_or table i d).1 (spelled (map entry (drop (suc i) table)) text other)) e

pub further : (table : List (Bor (List ℕ) × Terminal)) (text : List ℕ) (other : Terminal) (i : ℕ) (d : Bor (List ℕ) × Terminal) → i < length table
    → bytes_eq (get_or table i d).0.now text ≡ false → spelled (map entry (drop i table)) text other ≡ spelled (map entry (drop (i + 1) table)) text other
further table text other i d h e =
    rw add-one (step table text other i d h ∙ ap (λ (b : Bool). cond b (get_or table i d).1 (spelled (map entry (drop (suc i) table)) text other)) e)
