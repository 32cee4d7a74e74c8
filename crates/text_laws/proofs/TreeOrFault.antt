-- Each text has a tree or a first fault.
use Rattle.std.proofs.Common.{◌≡◌, ℕ, zero, suc, ◌-◌, ◌≤◌, false, List, length, take, Result, Ok, Err, ◌⊎◌, inl, inr, refl, subst, arith}
use Rattle.std.specs.Prelude.{Option, Some, None, slice_get}
use Rattle.std.specs.Str.{IsUtf8, is_utf8}
use Rattle.std.proofs.lemmas.Bool.{both_ways, cases_Bool, cases_lt}
use Rattle.std.proofs.lemmas.List.{take_all}
use Rattle.std.proofs.lemmas.Str.{IsUtf8-nil, IsUtf8-from_is_utf8, is_utf8-from_IsUtf8}
use Rattle.jdf_lex.specs.declared.fault.JdfCode.TheVariants as jdf
use Rattle.jdf_lex.specs.declared.fault.JdfFault.{JdfFault}
use Rattle.grammar_core.specs.declared.fault.ReadFault.{ReadFault}
use Rattle.grammar_core.specs.declared.token.Spot.{Spot}
use Rattle.grammar_core.specs.declared.token.Token.{Token}
use Rattle.jdf_lex.specs.Tokens.{IsLexed, spot_after}
use Rattle.text_laws.proofs.TokensOrFault as lex
use Rattle.grammar_core.specs.declared.code.Code.{Code}
use Rattle.grammar_core.specs.Production.{IsFirstFault}
use Rattle.grammar_core.specs.Reading.{whole}
use Rattle.jdf_tree.specs.declared.tree.Jdf.{Jdf}
use Rattle.jdf_tree.specs.Grammar.{productions, file}
use Rattle.jdf_tree.specs.Jdf.{IsJdf}
use Rattle.jdf_tree.specs.Fault.{first_spot, code_at_token, StopsBeingUtf8, IsGrammarFault, IsJdfFault}
use Rattle.jdf_read.specs.Laws.{TreeOrFault}
use Rattle.jdf_read.proofs.CallerLemmas.{bad_token, faulty, found, too_long}

-- a tree, or a fault
abbrev Either : List ℕ → Type 0
Either bytes = ((jdf : Jdf) × IsJdf bytes jdf) ⊎ ((fault : JdfFault) × IsJdfFault bytes fault)

-- ---- UTF-8

-- the longest front of at most n bytes that is UTF-8
record Longest (bytes : List ℕ) (n : ℕ) : Type 0 where
  at : ℕ
  within : at ≤ n
  utf8 : IsUtf8 (take at bytes)
  longest : (m : ℕ) → m ≤ n → IsUtf8 (take m bytes) → m ≤ at

longest_of : (bytes : List ℕ) (n : ℕ) → Longest bytes n
longest_of bytes zero = record { at = 0; within = omega arith; utf8 = IsUtf8-nil; longest = λ m le u. le }
longest_of bytes (suc n) =
    elim (cases_Bool (is_utf8 (take (suc n) bytes))) [
      | inl t ↦ record { at = suc n; within = omega arith; utf8 = IsUtf8-from_is_utf8 (take (suc n) bytes) t; longest = λ m le u. le }
      | inr f ↦
          let k = longest_of bytes n in
          record {
            at = k.at;
            within = let w = k.within in omega (arith, w);
            utf8 = k.utf8;
            longest = λ m le u. elim (cases_lt m (suc n)) [
              | inl lt ↦ k.longest m (omega (arith, lt)) u
              | inr ge ↦
                  let all : m ≡ suc n = omega (arith, le, ge) in
                  absurd (both_ways (is_utf8 (take (suc n) bytes)) f
                  (is_utf8-from_IsUtf8 (take (suc n) bytes) (subst (λ (l : ℕ). IsUtf8 (take l bytes)) all u)))
            ];
          }
    ]

stops_somewhere : (bytes : List ℕ) → is_utf8 bytes ≡ false → (at : ℕ) × StopsBeingUtf8 bytes at
stops_somewhere bytes bad =
    let k = longest_of bytes (length bytes) in
    let all : (at : ℕ) → length bytes ≤ at → take at bytes ≡ bytes = λ at le. take_all at bytes le in (
      k.at,
      record {
        within = elim (cases_lt k.at (length bytes)) [
          | inl lt ↦ lt
          | inr ge ↦ absurd (both_ways (is_utf8 bytes) bad (is_utf8-from_IsUtf8 bytes (subst (λ (l : List ℕ). IsUtf8 l) (all k.at ge) k.utf8)))
        ];
        before = k.utf8;
        longest = k.longest;
      },
    )

-- ---- the grammar

named_fault : (tokens : List Token) (end : Spot) (i : ℕ) (c : Code) → IsFirstFault productions file tokens i c
    → (fault : JdfFault) × IsGrammarFault tokens end fault
named_fault tokens end i c first = go (slice_get tokens i) refl
  where
    go : (o : Option Token) → slice_get tokens i ≡ o → (fault : JdfFault) × IsGrammarFault tokens end fault
    go (Some token) e =
        (record { spot = token.spot; code = code_at_token c }, record { token_index = i; code = c; first = first; fault_is = inl (token, e, refl) })
    go None e = (record { spot = end; code = jdf.Truncated }, record { token_index = i; code = c; first = first; fault_is = inr (e, refl) })

by_grammar : (bytes : List ℕ) → length bytes ≤ 16777216 → IsUtf8 bytes → (tokens : List Token) (end : Spot)
    → IsLexed bytes tokens end → length tokens ≤ 1000000 → Either bytes
by_grammar bytes size utf8 tokens end lexed number = go (whole productions file tokens) refl
  where
    go : (r : Result Jdf ReadFault) → whole productions file tokens ≡ r → Either bytes
    go (Ok tree) e = inl (
      tree,
      record {
        bytes_at_most = size;
        utf8 = utf8;
        tokens = tokens;
        end = end;
        lexed = lexed;
        tokens_at_most = number;
        text = found tokens tree e;
      },
    )
    go (Err n) e =
        let fault = named_fault tokens end (length tokens - n.left) n.code (faulty tokens n.left n.code e) in
        inr (
          fault.0,
          inr (inr (inr (record {
            bytes_at_most = size;
            utf8 = utf8;
            tokens = tokens;
            end = end;
            lexed = lexed;
            tokens_at_most = number;
            fault_is = fault.1;
          }))),
        )

-- ---- the text

by_tokens : (bytes : List ℕ) → length bytes ≤ 16777216 → IsUtf8 bytes → Either bytes
by_tokens bytes size utf8 =
    elim (lex.either bytes) [
      | inl t ↦ by_grammar bytes size utf8 t.0.tokens t.0.end t.1.0 t.1.1
      | inr f ↦ inr (f.0, bad_token bytes f.0 size utf8 f.1)
    ]

by_encoding : (bytes : List ℕ) → length bytes ≤ 16777216 → Either bytes
by_encoding bytes size =
    elim (cases_Bool (is_utf8 bytes)) [
      | inl t ↦ by_tokens bytes size (IsUtf8-from_is_utf8 bytes t)
      | inr f ↦
          let k = stops_somewhere bytes f in
          inr (
            record { spot = spot_after (take k.0 bytes); code = jdf.NotUtf8 },
            inr
                (inl (record { bytes_at_most = size; at = k.0; stops = k.1; fault_is = refl })),
          )
    ]

pub tree_or_fault : TreeOrFault
tree_or_fault bytes =
    elim (cases_lt 16777216 (length bytes)) [
      | inl long ↦ inr (record { spot = first_spot; code = jdf.TooLong }, too_long bytes _ long refl)
      | inr size ↦ by_encoding bytes size
    ]
