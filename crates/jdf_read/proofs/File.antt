-- Whole texts are read exactly, whatever their length and their encoding.
use Rattle.std.proofs.Common.{◌≡◌, ℕ, ◌<◌, ◌≤◌, ◌-◌, Bool, true, false, List, length, take, Ok, Err, Result, subst, refl, sym, ap, ◌∙◌, inl, inr, arith}
use Rattle.std.specs.Prelude.{Option, Some, None, nat_lt, ◌⊎◌, slice_get, IfOk}
use Rattle.std.specs.Str.{IsUtf8, IsValidUpTo}
use Rattle.std.proofs.lemmas.Bool.Decides.{nat_tests}
use Rattle.jdf_lex.specs.declared.fault.JdfCode.TheVariants as jdf
use Rattle.jdf_lex.specs.declared.fault.JdfFault.{JdfFault}
use Rattle.ptg_base.specs.declared.refusal.Refusal.{Refusal}
use Rattle.ptg_base.specs.declared.refusal.Refusal.TheVariants.{Fault, OutOfMemory}
use Rattle.jdf_lex.specs.declared.token.Lexed.{Lexed}
use Rattle.grammar_core.specs.declared.token.Spot.{Spot}
use Rattle.grammar_core.specs.declared.token.Token.{Token}
use Rattle.jdf_lex.specs.Tokens.{IsLexed, IsTokenFault, spot_after}
use Rattle.grammar_core.specs.declared.code.Code.{Code}
use Rattle.grammar_core.specs.Reading.{whole, fault_from_end}
use Rattle.jdf_tree.specs.declared.tree.Jdf.{Jdf}
use Rattle.jdf_tree.specs.Jdf.{IsJdf}
use Rattle.jdf_tree.specs.Fault.{first_spot, code_at_token, IsJdfFault}
use Rattle.jdf_tree.specs.Grammar.{productions, file}
use Rattle.jdf_read.proofs.Limits.{found, faulty}
use Rattle.jdf_read.proofs.Once.{one_tree, one_fault, not_both}

-- the tree that was read is the tree of the text
pub read_is : (text : List ℕ) (lexed : Lexed) (slice : List Token) (jdf : Jdf) → length text ≤ 16777216 → IsUtf8 text
    → IsLexed text lexed.tokens lexed.end × (length lexed.tokens ≤ 1000000) → slice ≡ lexed.tokens → whole productions file slice ≡ Ok jdf → IsJdf text jdf
read_is text lexed slice jdf at_most_bytes utf8 is slices e =
    record {
      bytes_at_most = at_most_bytes;
      utf8 = utf8;
      tokens = lexed.tokens;
      end = lexed.end;
      lexed = is.0;
      tokens_at_most = is.1;
      text = found lexed.tokens jdf (ap (whole productions file) (sym slices) ∙ e);
    }

-- the fault that reading met is the first one of the text
pub fault_is_named : (text : List ℕ) (lexed : Lexed) (slice : List Token) (left : ℕ) (code : Code) (f : JdfFault) → length text ≤ 16777216 → IsUtf8 text
    → IsLexed text lexed.tokens lexed.end × (length lexed.tokens ≤ 1000000) → slice ≡ lexed.tokens
    → whole productions file slice ≡ Err (fault_from_end left code)
    → ((token : Token) → slice_get lexed.tokens (length lexed.tokens - left) ≡ Some token → f ≡ record { spot = token.spot; code = code_at_token code })
    → (slice_get lexed.tokens (length lexed.tokens - left) ≡ None → f ≡ record { spot = lexed.end; code = jdf.Truncated }) → IsJdfFault text f
fault_is_named text lexed slice left code f at_most_bytes utf8 is slices e at_token at_end =
    inr (inr (inr (record {
      bytes_at_most = at_most_bytes;
      utf8 = utf8;
      tokens = lexed.tokens;
      end = lexed.end;
      lexed = is.0;
      tokens_at_most = is.1;
      fault_is = record {
        token_index = token_index;
        code = code;
        first =
            faulty lexed.tokens left code (ap (whole productions file) (sym slices) ∙ e);
        fault_is =
            go (slice_get lexed.tokens token_index) refl;
      };
    })))
  where
    token_index : ℕ
    token_index = length lexed.tokens - left

    go : (o : Option Token) → slice_get lexed.tokens (length lexed.tokens - left) ≡ o
        → ((token : Token) × (slice_get lexed.tokens (length lexed.tokens - left) ≡ Some token) × (f ≡ record { spot = token.spot; code = code_at_token code }))
        ⊎ ((slice_get lexed.tokens (length lexed.tokens - left) ≡ None) × (f ≡ record { spot = lexed.end; code = jdf.Truncated }))
    go (Some token) h = inl (token, h, at_token token h)
    go None h = inr (h, at_end h)

pub bad_token : (text : List ℕ) (f : JdfFault) → length text ≤ 16777216 → IsUtf8 text → IsTokenFault text f → IsJdfFault text f
bad_token text f at_most_bytes utf8 wrong = inr (inr (inl (record { bytes_at_most = at_most_bytes; utf8 = utf8; fault_is = wrong })))

pub too_long : (bytes : List ℕ) (f : JdfFault) → 16777216 < length bytes → f ≡ record { spot = first_spot; code = jdf.TooLong } → IsJdfFault bytes f
too_long bytes f long e = inl (record { long = long; fault_is = e })

at_most : (n m : ℕ) → (m < n → ⊥) → n ≤ m
at_most n m h = go (nat_lt m n) refl
  where
    go : (b : Bool) → nat_lt m n ≡ b → n ≤ m
    go true e = absurd (h (grind (arith, nat_tests)))
    go false e = grind (arith, nat_tests)

pub no_utf8 : (bytes : List ℕ) (at : ℕ) (f : JdfFault) → length bytes ≤ 16777216 → IsValidUpTo bytes at
    → f ≡ record { spot = spot_after (take at bytes); code = jdf.NotUtf8 } → IsJdfFault bytes f
no_utf8 bytes at f at_most_bytes valid e =
    inr (inl (record {
      bytes_at_most = at_most_bytes;
      at = at;
      stops = record { within = valid.short; before = valid.front; longest = λ n bound u. at_most n at (λ past. valid.longest n past u) };
      fault_is = e;
    }))

pub no_utf8_at : (bytes : List ℕ) (at n : ℕ) (spot : Spot) → length bytes ≤ 16777216 → IsValidUpTo bytes n → at ≡ n
    → spot ≡ spot_after (take at bytes) → IsJdfFault bytes (record { spot = spot; code = jdf.NotUtf8 })
no_utf8_at bytes at n spot at_most_bytes valid same e =
    no_utf8 bytes at (record { spot = spot; code = jdf.NotUtf8 }) at_most_bytes
    (subst (λ (k : ℕ). IsValidUpTo bytes k) (sym same) valid)
    (ap (λ (s : Spot). record { spot = s; code = jdf.NotUtf8 }) e)

-- ---- there is one result

abbrev pub Answer : Type 0
Answer = Result Jdf (Refusal JdfFault)

abbrev read : Jdf → Answer
read jdf = Ok jdf

abbrev refused : Refusal JdfFault → Answer
refused e = Err e

pub same_fault : (f g : JdfFault) → refused (Fault f) ≡ refused (Fault g) → f ≡ g
same_fault f g e = cc

pub only_tree : (bytes : List ℕ) (r : Answer) → IfOk r (λ jdf. IsJdf bytes jdf)
    → ((f : JdfFault) → r ≡ Err (Fault f) → IsJdfFault bytes f) → (jdf : Jdf) → IsJdf bytes jdf
    → (r ≡ Ok jdf) ⊎ (r ≡ Err OutOfMemory)
only_tree bytes (Ok t) is wrong jdf j = inl (ap (λ (x : Jdf). read x) (one_tree bytes t jdf is j))
only_tree bytes (Err (Fault f)) is wrong jdf j = absurd (not_both bytes jdf f j (wrong f refl))
only_tree bytes (Err OutOfMemory) is wrong jdf j = inr refl

pub only_fault : (bytes : List ℕ) (r : Answer) → IfOk r (λ jdf. IsJdf bytes jdf)
    → ((f : JdfFault) → r ≡ Err (Fault f) → IsJdfFault bytes f) → (f : JdfFault) → IsJdfFault bytes f
    → (r ≡ Err (Fault f)) ⊎ (r ≡ Err OutOfMemory)
only_fault bytes (Ok t) is wrong f w = absurd (not_both bytes t f is w)
only_fault bytes (Err (Fault g)) is wrong f w = inl (ap (λ (x : JdfFault). refused (Fault x)) (one_fault bytes g f (wrong g refl) w))
only_fault bytes (Err OutOfMemory) is wrong f w = inr refl
