-- A text has at most one list of tokens and at most one first fault. At most one unit is at a position, so two scans of
-- a text agree as far as both go.
use Rattle.std.proofs.Common.{◌≡◌, ℕ, ◌+◌, ◌<◌, ◌≤◌, ◌⊎◌, true, List, [], ◌∷◌, ◌++◌, length, Option, Some, None, refl, sym, ◌∙◌, ap, subst, inl, inr}
use Rattle.std.proofs.Common.{arith, length-append}
use Rattle.std.proofs.lemmas.Bool.{both_ways, cases_lt, false≢true}
use Rattle.std.proofs.lemmas.List.{append_cancel_left, append-nil}
use Rattle.list_lemmas.proofs.Joins.{longer_front}
use Rattle.jdf_lex.specs.declared.fault.JdfFault.{JdfFault}
use Rattle.jdf_lex.specs.declared.lexical_unit.LexicalUnit.{LexicalUnit}
use Rattle.jdf_lex.specs.declared.lexical_unit.LexicalUnit.TheVariants.{TokenOf}
use Rattle.grammar_core.specs.declared.token.Spot.{Spot}
use Rattle.grammar_core.specs.declared.token.Token.{Token}
use Rattle.jdf_lex.specs.declared.kind.TokenKind.{TokenKind}
use Rattle.jdf_lex.specs.Terminals.{number_of, terminal_by}
use Rattle.jdf_lex.specs.Spelling.{unit_at, is_spelling}
use Rattle.jdf_lex.specs.Tokens.{spot_after, IsUnit, IsToken, is_dropped, IsLexedTo, IsLexed, OneListOfTokens, IsUnclosed, HasToken, IsTokenFault}
use Rattle.jdf_lex.specs.Tokens.IsLexedTo.{nothing_more, dropped_then, token_then}

-- ---- one unit at a position

pub one_begins : (p q : LexicalUnit) (rest : List ℕ) → unit_at rest ≡ Some p → unit_at rest ≡ Some q → p ≡ q
one_begins p q rest e f = cc

pub longest_is : (p : LexicalUnit) (w x v y : List ℕ) → IsUnit p w x → is_spelling p v ≡ true → w ++ x ≡ v ++ y → length w ≤ length v → w ≡ v
longest_is p w x v y unit spelled same shorter =
    let found = longer_front w x v y same shorter in
    let none : found.0 ≡ [] = unit.longest found.0 y found.2 (subst (λ z. is_spelling p z ≡ true) found.1 spelled) in
    sym (found.1 ∙ ap (λ z. w ++ z) none ∙ append-nil w)

pub record IsSameUnit (p : LexicalUnit) (w x : List ℕ) (q : LexicalUnit) (v y : List ℕ) : Type 0 where
  pub units : p ≡ q
  pub words : w ≡ v
  pub lefts : x ≡ y

pub same_unit : (p : LexicalUnit) (w x : List ℕ) (q : LexicalUnit) (v y : List ℕ) → IsUnit p w x → IsUnit q v y → w ++ x ≡ v ++ y → IsSameUnit p w x q v y
same_unit p w x q v y one other same =
    let units : p ≡ q = one_begins p q (w ++ x) one.begins (ap unit_at same ∙ other.begins) in
    let there_one : is_spelling q w ≡ true = subst (λ z. is_spelling z w ≡ true) units one.spelled in
    let there_other : is_spelling p v ≡ true = subst (λ z. is_spelling z v ≡ true) (sym units) other.spelled in
    let words : w ≡ v =
    elim (cases_lt (length v) (length w)) [
      | inl shorter ↦ sym (longest_is q v y w x other there_one (sym same) (omega arith))
      | inr longer ↦ longest_is p w x v y one there_other same longer
    ] in
    record {
      units = units;
      words = words;
      lefts = append_cancel_left w x y (same ∙ ap (λ z. z ++ y) (sym words));
    }

no_word : (k : TokenKind) (p : LexicalUnit) → p ≡ TokenOf k → is_dropped p ≡ true → ⊥
no_word k p same dropped = false≢true (sym (ap is_dropped same) ∙ dropped)

-- ---- where a scan stops

-- No unit is at the front.
abbrev pub HasNoUnit : List ℕ → Type 0
HasNoUnit last = (p : LexicalUnit) (w x : List ℕ) → last ≡ w ++ x → IsUnit p w x → ⊥

-- No blank or comment is at the front.
abbrev pub HasNoDropped : List ℕ → Type 0
HasNoDropped last = (p : LexicalUnit) (w x : List ℕ) → last ≡ w ++ x → IsUnit p w x → is_dropped p ≡ true → ⊥

pub end_is_final : HasNoUnit []
end_is_final p w x is unit =
    let never : ◌≡◌ {A = Option LexicalUnit} None (Some p) = ap unit_at is ∙ unit.begins in
    cc

pub unclosed_is_final : (left : List ℕ) → IsUnclosed left → HasNoUnit left
unclosed_is_final left unclosed p w x is unit =
    let same : unclosed.unit ≡ p = one_begins unclosed.unit p left unclosed.begins (ap unit_at is ∙ unit.begins) in
    both_ways (is_spelling unclosed.unit w) (unclosed.unended w x is) (subst (λ z. is_spelling z w ≡ true) (sym same) unit.spelled)

no_unit_no_dropped : (last : List ℕ) → HasNoUnit last → HasNoDropped last
no_unit_no_dropped last final p w x is unit dropped = final p w x is unit

token_is_past : (left : List ℕ) → HasToken left → HasNoDropped left
token_is_past left token p w x is unit dropped =
    no_word token.kind p (one_begins p (TokenOf token.kind) left (ap unit_at is ∙ unit.begins) (ap unit_at token.whole ∙ token.unit.begins)) dropped

-- ---- a step of a scan

-- The rest of a scan after a dropped unit.
after_dropped : (far last before rest : List ℕ) (us : List Token) (p : LexicalUnit) (w x : List ℕ)
    → HasNoDropped last → is_dropped p ≡ true → rest ≡ w ++ x → IsUnit p w x
    → IsLexedTo far last before rest us → IsLexedTo far last (before ++ w) x us
after_dropped far last before rest us p w x past dropped is unit (nothing_more) = absurd (past p w x is unit dropped)
after_dropped far last before rest us p w x past dropped is unit (dropped_then _ _ _ q v y _ whole other on) =
    let same = same_unit q v y p w x other unit (sym whole ∙ is) in
    subst (λ z. IsLexedTo far last (before ++ w) z us) same.lefts (subst (λ z. IsLexedTo far last (before ++ z) y us) same.words on)
after_dropped far last before rest us p w x past dropped is unit (token_then _ _ _ u v y whole token on) =
    let same = same_unit (TokenOf token.kind) v y p w x token.unit unit (sym whole ∙ is) in
    absurd (no_word token.kind p (sym same.units) dropped)

same_token : (before w x : List ℕ) (t u : Token) → IsToken before w x t → IsToken before w x u → t ≡ u
same_token before w x t u one other =
    let words : TokenOf one.kind ≡ TokenOf other.kind = one_begins (TokenOf one.kind) (TokenOf other.kind) (w ++ x) one.unit.begins other.unit.begins in
    let kind : one.kind ≡ other.kind = cc in
    let terminal : t.terminal ≡ u.terminal = one.terminal ∙ ap (λ k. number_of (terminal_by k w)) kind ∙ sym other.terminal in
    let text : t.text ≡ u.text = one.text ∙ sym other.text in
    let start : t.start ≡ u.start = one.start ∙ sym other.start in
    let end : t.end ≡ u.end = one.end ∙ sym other.end in
    let spot : t.spot ≡ u.spot = one.spot ∙ sym other.spot in
    λ i. record { terminal = terminal i; text = text i; start = start i; end = end i; spot = spot i }

-- The rest of a scan after its first token.
after_token : (far last before rest : List ℕ) (us : List Token) (t : Token) (w x : List ℕ) → HasNoDropped last
    → HasNoUnit last ⊎ (0 < length us) → rest ≡ w ++ x → IsToken before w x t
    → IsLexedTo far last before rest us → (vs : List Token) × (us ≡ t ∷ vs) × IsLexedTo far last (before ++ w) x vs
after_token far last before rest us t w x past (inl final) is token (nothing_more) = absurd (final (TokenOf token.kind) w x is token.unit)
after_token far last before rest us t w x past (inr some) is token (nothing_more) = absurd (omega arith)
after_token far last before rest us t w x past stops is token (dropped_then _ _ _ q v y dropped whole other on) =
    let same = same_unit q v y (TokenOf token.kind) w x other token.unit (sym whole ∙ is) in
    absurd (no_word token.kind q same.units dropped)
after_token far last before rest us t w x past stops is token (token_then _ _ vs u v y whole other on) =
    let same = same_unit (TokenOf other.kind) v y (TokenOf token.kind) w x other.unit token.unit (sym whole ∙ is) in
    let moved : IsToken before w x u = subst (λ z. IsToken before w z u) same.lefts (subst (λ z. IsToken before z y u) same.words other) in
    let tokens : u ≡ t = same_token before w x u t moved token in (
      vs,
      (λ i. tokens i ∷ vs),
      subst (λ z. IsLexedTo far last (before ++ w) z vs) same.lefts (subst (λ z. IsLexedTo far last (before ++ z) y vs) same.words on),
    )

-- A scan continues where another one stops that has no more tokens.
pub continues_after : (front left far last before rest : List ℕ) (ts us : List Token) → HasNoDropped last → HasNoUnit last ⊎ (length ts ≤ length us)
    → IsLexedTo front left before rest ts → IsLexedTo far last before rest us → (vs : List Token) × (us ≡ ts ++ vs) × IsLexedTo far last front left vs
continues_after front left far last before rest ts us past stops (nothing_more) second = (us, refl, second)
continues_after front left far last before rest ts us past stops (dropped_then _ _ _ p w x dropped is unit on) second =
    continues_after front left far last (before ++ w) x ts us past stops on (after_dropped far last before rest us p w x past dropped is unit second)
continues_after front left far last before rest ts us past stops (token_then _ _ tail t w x is token on) second =
    let some : HasNoUnit last ⊎ (0 < length us) = elim stops [ inl final ↦ inl final | inr at_most ↦ inr (omega arith) ] in
    let next = after_token far last before rest us t w x past some is token second in
    let later : HasNoUnit last ⊎ (length tail ≤ length next.0) = elim stops [ inl final ↦ inl final | inr at_most ↦ inr (omega (arith, ap length next.1)) ] in
    let found = continues_after front left far last (before ++ w) x tail next.0 past later on next.2 in
    (found.0, next.1 ∙ ap (λ z. t ∷ z) found.1, found.2)

-- ---- where a scan ends

pub record IsEmptyScan (far last front left : List ℕ) (vs : List Token) : Type 0 where
  pub none : vs ≡ []
  pub fronts : front ≡ far
  pub lefts : left ≡ last

no_more_units : (far last front left : List ℕ) (vs : List Token) → HasNoUnit left → IsLexedTo far last front left vs → IsEmptyScan far last front left vs
no_more_units far last front left vs final (nothing_more) = record { none = refl; fronts = refl; lefts = refl }
no_more_units far last front left vs final (dropped_then _ _ _ p w x dropped is unit on) = absurd (final p w x is unit)
no_more_units far last front left vs final (token_then _ _ _ t w x is token on) = absurd (final (TokenOf token.kind) w x is token.unit)

next_token : (far last front left : List ℕ) (vs : List Token) → HasToken left → IsLexedTo far last front left vs
    → IsEmptyScan far last front left vs ⊎ (0 < length vs)
next_token far last front left vs token (nothing_more) = inl (record { none = refl; fronts = refl; lefts = refl })
next_token far last front left vs token (dropped_then _ _ _ p w x dropped is unit on) = absurd (token_is_past left token p w x is unit dropped)
next_token far last front left vs token (token_then _ _ _ t w x is other on) = inr (omega arith)

-- ---- the laws

pub one_list : OneListOfTokens
one_list text tokens others end other_end one other =
    let final : HasNoUnit [] = end_is_final in
    let found = continues_after text [] text [] [] text tokens others (no_unit_no_dropped [] final) (inl final) one.0 other.0 in
    let none = no_more_units text [] text [] found.0 final found.2 in
    (sym (found.1 ∙ ap (λ z. tokens ++ z) none.none ∙ append-nil tokens), one.1 ∙ sym other.1)

final_has_no_token : (left : List ℕ) → HasNoUnit left → HasToken left → ⊥
final_has_no_token left final token = final (TokenOf token.kind) token.word token.after token.whole token.unit

-- If a scan stops before a token, no scan with at most as many tokens reaches the end.
too_many : (far last front left text : List ℕ) (ts us : List Token) → HasNoUnit last → HasToken left → length us ≤ length ts
    → IsLexedTo front left [] text ts → IsLexedTo far last [] text us → ⊥
too_many far last front left text ts us final token at_most one other =
    let found = continues_after front left far last [] text ts us (no_unit_no_dropped last final) (inl final) one other in
    let size : length us ≡ length ts + length found.0 = ap length found.1 ∙ length-append ts found.0 in
    elim (next_token far last front left found.0 token found.2) [
      | inl none ↦ final_has_no_token last final (subst (λ z. HasToken z) none.lefts token)
      | inr some ↦ omega arith
    ]

no_end_unclosed : (text front left : List ℕ) (ts us : List Token) (end : Spot) → IsLexed text ts end → IsUnclosed left → IsLexedTo front left [] text us → ⊥
no_end_unclosed text front left ts us end lexed unclosed scanned =
    let final = unclosed_is_final left unclosed in
    let found = continues_after front left text [] [] text us ts (no_unit_no_dropped [] end_is_final) (inl end_is_final) scanned lexed.0 in
    let none = no_more_units text [] front left found.0 final found.2 in
    let never : ◌≡◌ {A = Option LexicalUnit} None (Some unclosed.unit) = sym (ap unit_at none.lefts) ∙ unclosed.begins in
    cc

-- A text that has tokens has no first fault.
pub no_fault : (text : List ℕ) (ts : List Token) (end : Spot) (f : JdfFault) → IsLexed text ts end → length ts ≤ 1000000 → IsTokenFault text f → ⊥
no_fault text ts end f lexed at_most fault =
    elim fault.wrong [
      | inl unclosed ↦ no_end_unclosed text fault.front fault.left ts fault.tokens end lexed unclosed.1 fault.lexed
      | inr many ↦ too_many text [] fault.front fault.left text fault.tokens ts end_is_final many.1 (omega (arith, many.2)) fault.lexed lexed.0
    ]

same_faults : (f g : JdfFault) (front other : List ℕ) → f.spot ≡ spot_after front → g.spot ≡ spot_after other → front ≡ other → f.code ≡ g.code → f ≡ g
same_faults f g front other spot other_spot fronts code =
    let spots : f.spot ≡ g.spot = spot ∙ ap spot_after fronts ∙ sym other_spot in
    λ i. record { spot = spots i; code = code i }

same_end : (text front left far last : List ℕ) (ts us : List Token) → HasNoUnit left → HasNoUnit last
    → IsLexedTo front left [] text ts → IsLexedTo far last [] text us → front ≡ far
same_end text front left far last ts us final other_final one other =
    let found = continues_after front left far last [] text ts us (no_unit_no_dropped last other_final) (inl other_final) one other in
    (no_more_units far last front left found.0 final found.2).fronts

same_count : (text front left far last : List ℕ) (ts us : List Token) → HasToken left → HasToken last → length ts ≡ length us
    → IsLexedTo front left [] text ts → IsLexedTo far last [] text us → front ≡ far
same_count text front left far last ts us token other_token same one other =
    let found = continues_after front left far last [] text ts us (token_is_past last other_token) (inr (omega arith)) one other in
    let size : length us ≡ length ts + length found.0 = ap length found.1 ∙ length-append ts found.0 in
    elim (next_token far last front left found.0 token found.2) [
      | inl none ↦ none.fronts
      | inr some ↦ absurd (omega arith)
    ]

-- A text has at most one first fault.
pub one_fault : (text : List ℕ) (f g : JdfFault) → IsTokenFault text f → IsTokenFault text g → f ≡ g
one_fault text f g one other =
    elim one.wrong [
      | inl open_one ↦
          elim other.wrong [
            | inl open_other ↦
                same_faults f g one.front other.front one.spot other.spot
                (same_end text one.front one.left other.front other.left one.tokens other.tokens
                (unclosed_is_final one.left open_one.1) (unclosed_is_final other.left open_other.1) one.lexed
                other.lexed)
                (open_one.0 ∙ sym open_other.0)
            | inr many_other ↦
                absurd
                (too_many one.front one.left other.front other.left text other.tokens one.tokens
                (unclosed_is_final one.left open_one.1) many_other.1 (omega (arith, open_one.2, many_other.2))
                other.lexed one.lexed)
          ]
      | inr many_one ↦
          elim other.wrong [
            | inl open_other ↦
                absurd
                (too_many other.front other.left one.front one.left text one.tokens other.tokens
                (unclosed_is_final other.left open_other.1) many_one.1 (omega (arith, open_other.2, many_one.2))
                one.lexed other.lexed)
            | inr many_other ↦
                same_faults f g one.front other.front one.spot other.spot
                (same_count text one.front one.left other.front other.left one.tokens other.tokens many_one.1
                many_other.1 (many_one.2 ∙ sym many_other.2) one.lexed other.lexed)
                (many_one.0 ∙ sym many_other.0)
          ]
    ]
