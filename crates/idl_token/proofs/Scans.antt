-- Places counted from the front of the whole text, and from the front of what is left.
use Rattle.std.proofs.Common.{◌≡◌, ℕ, ◌+◌, ◌-◌, Bool, true, false, cond, not, ◌&&◌, ◌==◌, List, [], ◌∷◌, Option, Some, None, refl, ap, ◌∙◌, arith}
use Rattle.std.specs.Prelude.{slice_index}
use Rattle.std.specs.Option.{option_map}
use Rattle.idl_token.specs.Classes.{is_escape}
use Rattle.idl_token.specs.Blanks.{comment_end}
use Rattle.idl_token.specs.Literals.{bad_escape_in}
use Rattle.idl_token.specs.Lengths.{comment_from, bad_escape_from}

-- a place moved twice
pub moved : (a b c : ℕ) (o : Option ℕ) → a + b ≡ c → option_map (λ n. c + n) o ≡ option_map (λ n. a + n) (option_map (λ n. b + n) o)
moved a b c None is = refl
moved a b c (Some n) is = ap Some (omega arith)

pub still : (o : Option ℕ) → option_map (λ n. 0 + n) o ≡ o
still None = refl
still (Some n) = ap Some (omega arith)

comment_step : (at : ℕ) (found : Bool) (rest : Option ℕ) → cond found (Some (at + 2)) (option_map (λ n. at + 1 + n) rest) ≡ option_map (λ n. at + n) (cond found (Some 2) (option_map (λ n. 1 + n) rest))
comment_step at true rest = refl
comment_step at false rest = moved at 1 (at + 1) rest refl

comment_moved : (at : ℕ) (text : List ℕ) → comment_from at text ≡ option_map (λ n. at + n) (comment_end text)
comment_moved at [] = refl
comment_moved at (b ∷ text) =
    ap (cond (b == 42 && slice_index text 0 == 47) (Some (at + 2))) (comment_moved (at + 1) text)
    ∙ comment_step at (b == 42 && slice_index text 0 == 47) (comment_end text)

pub comment_from_front : (text : List ℕ) → comment_from 0 text ≡ comment_end text
comment_from_front text = comment_moved 0 text ∙ still (comment_end text)

escape_step : (at : ℕ) (escape slash : Bool) (taken rest : Option ℕ)
    → cond slash (cond (not escape) (Some at) (option_map (λ n. at + 2 + n) taken)) (option_map (λ n. at + 1 + n) rest)
    ≡ option_map (λ n. at + n) (cond slash (cond escape (option_map (λ n. 2 + n) taken) (Some 0)) (option_map (λ n. 1 + n) rest))
escape_step at true true taken rest = moved at 2 (at + 2) taken refl
escape_step at false true taken rest = ap Some (omega arith)
escape_step at escape false taken rest = moved at 1 (at + 1) rest refl

escapes_split : (at : ℕ) (slash : Bool) (b c : ℕ) (text : List ℕ)
    → cond (slash && not (is_escape c)) (Some (at + 1 - 1)) (bad_escape_from (at + 1 + 1) (not slash && c == 92) text)
    ≡ cond slash (cond (not (is_escape c)) (Some at) (bad_escape_from (at + 2) false text)) (bad_escape_from (at + 1) false (c ∷ text))
escapes_split at true b c text =
    let before : at + 1 - 1 ≡ at = omega arith in
    let behind : at + 1 + 1 ≡ at + 2 = omega arith in
    ap (λ n. cond (not (is_escape c)) (Some n) (bad_escape_from (at + 1 + 1) false text)) before
    ∙ ap (λ n. cond (not (is_escape c)) (Some at) (bad_escape_from n false text)) behind
escapes_split at false b c text = refl

bad_escape_moved : (at : ℕ) (text : List ℕ) → bad_escape_from at false text ≡ option_map (λ n. at + n) (bad_escape_in text)
bad_escape_moved at [] = refl
bad_escape_moved at (b ∷ []) = refl
bad_escape_moved at (b ∷ c ∷ text) =
    escapes_split at (b == 92) b c text
    ∙ ap (λ found. cond (b == 92) (cond (not (is_escape c)) (Some at) found) (bad_escape_from (at + 1) false (c ∷ text))) (bad_escape_moved (at + 2) text)
    ∙ ap (λ found. cond (b == 92) (cond (not (is_escape c)) (Some at) (option_map (λ n. at + 2 + n) (bad_escape_in text))) found) (bad_escape_moved (at + 1) (c ∷ text))
    ∙ escape_step at (is_escape c) (b == 92) (bad_escape_in text) (bad_escape_in (c ∷ text))

pub bad_escape_from_front : (text : List ℕ) → bad_escape_from 0 false text ≡ bad_escape_in text
bad_escape_from_front text = bad_escape_moved 0 text ∙ still (bad_escape_in text)
