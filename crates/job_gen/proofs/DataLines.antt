-- The lines of the data, joined from the left, are the pieces that are printed, joined from the right.
use Rattle.std.proofs.Common.{◌≡◌, ℕ, List, [], ◌∷◌, ◌++◌, codes, append_assoc, ap}
use Rattle.std.specs.Fmt.{decimal}
use Rattle.job_gen.specs.Job.{text_of, data_text}

of_digits : (d : List ℕ)
    → text_of (codes "elems,3" ∷ (codes "int,NT," ++ d) ∷ (codes "coll,D," ++ d ++ codes "," ++ d) ∷ [])
    ≡ codes "elems,3\nint,NT," ++ (d ++ (codes "\ncoll,D," ++ (d ++ (codes "," ++ (d ++ codes "\n")))))
of_digits d = simp append_assoc (ap (λ rest. codes "elems,3\nint,NT," ++ rest)
    (append_assoc d (codes "\n") (codes "coll,D," ++ (d ++ (codes "," ++ (d ++ codes "\n"))))))

pub data_text-append : (n : ℕ) → data_text n ≡ codes "elems,3\nint,NT," ++
    (decimal n ++ (codes "\ncoll,D," ++ (decimal n ++ (codes "," ++ (decimal n ++ codes "\n")))))
data_text-append n = of_digits (decimal n)
