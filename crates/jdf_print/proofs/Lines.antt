-- Bytes that are appended part by part are the text of all the fragments.
use Rattle.std.proofs.Common.{◌≡◌, ℕ, List, [], ◌∷◌, ◌++◌, append_assoc, codes}
use Rattle.std.proofs.lemmas.Grind.{flat_map-append}
use Rattle.jdf_print.specs.Fragments.{Fragment, token, blank, text, line, newline, space}

class_text : (old : List ℕ) (head defs affinity flows priority body : List Fragment)
    → ((((((((old ++ 10 ∷ []) ++ text head) ++ text defs) ++ text affinity) ++ text flows) ++ text priority) ++ codes "BODY\n") ++ text body) ++ codes "END\n"
    ≡ old ++ text (newline ∷ (head ++ (defs ++
    (affinity ++ (flows ++ (priority ++
    (line (token (codes "BODY") ∷ []) ++ (body ++ line (token (codes "END") ∷ [])))))))))
class_text old head defs affinity flows priority body = simp (flat_map-append, append_assoc)

-- The parts of a class, appended to `old` one after the other.
pub class_written : (old a b c d e f g h : List ℕ) (head defs affinity flows priority body : List Fragment)
    → a ≡ old ++ 10 ∷ [] → b ≡ a ++ text head → c ≡ b ++ text defs → d ≡ c ++ text affinity → e ≡ d ++ text flows → f ≡ e ++ text priority
    → g ≡ f ++ codes "BODY\n" → h ≡ g ++ text body
    → h ++ codes "END\n" ≡ old ++ text (newline ∷
    (head ++ (defs ++ (affinity ++ (flows ++
    (priority ++ (line (token (codes "BODY") ∷ []) ++ (body ++ line (token (codes "END") ∷ [])))))))))
class_written old a b c d e f g h head defs affinity flows priority body ea eb ec ed ee ef eg eh =
    rw (eh, eg, ef, ee, ed, ec, eb, ea) (class_text old head defs affinity flows priority body)

dependence_text : (old arrow : List ℕ) (guard target other datatype : List Fragment)
    → (((((((old ++ codes "  ") ++ arrow) ++ codes " ") ++ text guard) ++ text target) ++ text other) ++ text datatype) ++ codes "\n"
    ≡ old ++ text (line (blank (codes "  ") ∷ token arrow ∷ space ∷ (guard ++ (target ++ (other ++ datatype)))))
dependence_text old arrow guard target other datatype = simp (flat_map-append, append_assoc)

-- The parts of a dependence, appended to `old` one after the other.
pub dependence_written : (old arrow a b c d e f g : List ℕ) (guard target other datatype : List Fragment)
    → a ≡ old ++ codes "  " → b ≡ a ++ arrow → c ≡ b ++ codes " " → d ≡ c ++ text guard → e ≡ d ++ text target → f ≡ e ++ text other → g ≡ f ++ text datatype
    → g ++ codes "\n" ≡ old ++ text (line (blank (codes "  ") ∷ token arrow ∷ space ∷ (guard ++ (target ++ (other ++ datatype)))))
dependence_written old arrow a b c d e f g guard target other datatype ea eb ec ed ee ef eg =
    rw (eg, ef, ee, ed, ec, eb, ea) (dependence_text old arrow guard target other datatype)
