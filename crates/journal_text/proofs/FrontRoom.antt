-- How many bytes a number takes in front of a method.
use Rattle.std.proofs.Common.{◌≡◌, ℕ, ◌^◌, ◌<◌, ◌≤◌, List, [], ◌∷◌, ◌++◌, length, sym, ap, ◌∙◌, append_assoc, arith}
use Rattle.std.proofs.lemmas.Fmt.{length-decimal-le}
use Rattle.text_out.specs.Decimal.{natural_of}

-- a number of 64 bits has twenty digits at most
pub short : (n : ℕ) → n < 2 ^ 64 → length (natural_of n) ≤ 20
short n fits = length-decimal-le 20 n (omega arith) (omega arith) fits

-- words that were put in front of one another, with a blank behind the last
pub words_put : (word connection number slot : List ℕ) (all one two three last rest : List ℕ) → all ≡ word ++ one → one ≡ connection ++ two → two ≡ number ++ three
    → three ≡ slot ++ last → last ≡ 32 ∷ rest → rest ≡ [] → all ≡ (word ++ (connection ++ (number ++ slot))) ++ 32 ∷ []
words_put word connection number slot all one two three last rest a b c d e f =
    let blank : List ℕ = 32 ∷ [] in
    a ∙ ap (λ t. word ++ t) (b ∙ ap (λ t. connection ++ t) (c ∙ ap (λ t. number ++ t) (d ∙ ap (λ t. slot ++ t) (e ∙ ap (λ t. 32 ∷ t) f))))
    ∙ sym (append_assoc word (connection ++ (number ++ slot)) blank
    ∙ ap (λ t. word ++ t) (append_assoc connection (number ++ slot) blank ∙ ap (λ t. connection ++ t) (append_assoc number slot blank)))
