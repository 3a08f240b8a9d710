-- The number of an integer that is a token.
use Rattle.std.proofs.Common.{◌≡◌, Bool, true, false, cond, ◌==◌, ℕ, List, Option, Some, None, refl}
use Rattle.std.specs.Prelude.{FitsSigned, slice_index}
use Rattle.std.specs.Int.{w64}
use Rattle.idl_token.specs.Words.{is_word, is_keyword, is_truth_word, is_refused, kind_of_word}
use Rattle.idl_token.specs.Numbers.{is_int, is_double, is_big_int, is_big_double, int_of}
use Rattle.idl_token.specs.Literals.{is_literal, bad_escape_in}
use Rattle.idl_token.specs.Wholes.{sound, is_sign, whole_of}
use Rattle.idl_token.specs.declared.TokenKind.{TokenKind}
use Rattle.idl_token.specs.declared.TokenKind.TheVariants.{Keyword, Identifier, Int, Sign, Refused}
use Rattle.idl_token.proofs.PieceLemmas.{chosen}
use Rattle.idl_token.proofs.Values.{small_ints}

-- a word that stands for no number is no integer
no_int : (keyword truth refused : Bool) → truth ≡ false → cond keyword Keyword (cond truth Int (cond refused Refused Identifier)) ≡ Int → ⊥
no_int true truth refused untrue e = cc
no_int false true refused untrue e = cc
no_int false false true untrue e = cc
no_int false false false untrue e = cc

no_int_sign : (refused : Bool) → sound (cond refused Refused Sign) ≡ sound Int → ⊥
no_int_sign true e = cc
no_int_sign false e = cc

-- what is no word, and sound as an integer, isn't too big
not_big : (w i d l s : Bool) (word : TokenKind) (big huge : Bool) (place : Option ℕ) (refused : Bool) → (word ≡ Int → ⊥)
    → chosen w i d l s word big huge place (cond refused Refused Sign) ≡ sound Int → big ≡ false
not_big true i d l s word big huge place refused no_word e = absurd (no_word (let same : word ≡ Int = cc in same))
not_big false true d l s word true huge place refused no_word e = absurd (cc)
not_big false true d l s word false huge place refused no_word e = refl
not_big false false true l s word big true place refused no_word e = absurd (cc)
not_big false false true l s word big false place refused no_word e = absurd (cc)
not_big false false false true s word big huge None refused no_word e = absurd (cc)
not_big false false false true s word big huge (Some at) refused no_word e = absurd (cc)
not_big false false false false true word big huge place refused no_word e = absurd (no_int_sign refused e)
not_big false false false false false word big huge place refused no_word e = absurd (cc)

pub small_token : (token : List ℕ) → whole_of token ≡ sound Int → is_truth_word token ≡ false → FitsSigned w64 (int_of token)
unfolding kind_of_word
small_token token is untrue =
    (small_ints token).0
    (not_big (is_word token) (is_int token) (is_double token) (is_literal token) (is_sign token) (kind_of_word token) (is_big_int token) (is_big_double token)
    (bad_escape_in token) (slice_index token 0 == 38)
    (λ e. no_int (is_keyword token) (is_truth_word token) (is_refused token) untrue e) is)
