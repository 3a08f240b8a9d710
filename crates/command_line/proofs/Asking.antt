-- What is asked by words in their places, which are five.
use Rattle.std.proofs.Common.{◌≡◌, ◌∙◌, ℕ, ◌<◌, ◌≤◌, Bool, List, length, [], ◌∷◌, Option, Some, None, refl, sym, ap, ap₂, arith, Bor}
use Rattle.std.specs.Prelude.{option_and_then, option_map}
use Rattle.std.specs.List.{slice_index_or}
use Rattle.envelope.specs.declared.head.Protocol.{Protocol}
use Rattle.command_line.specs.Calls.{PlainAsking, asking_by, asking_with}
use Rattle.command_line.specs.Lent.{lent_words}
use Rattle.command_line.specs.Served.{file_of_word, protocol_of_word}

-- the word at a place
abbrev word_at : List (Bor (List ℕ)) → ℕ → Bor (List ℕ) → List ℕ
word_at words i d = (slice_index_or words i d).now

-- what is asked by the file and the protocol that the first two words are
abbrev asking_of : Option (List ℕ) → Option Protocol → (name method args : List ℕ) → Bool → ℕ → Option PlainAsking
asking_of file protocol name method args multiplexed port =
    option_and_then (λ (idl : List ℕ). option_map (λ (spelling : Protocol).
    record { idl = idl; protocol = spelling; name = name; method = method; args = args; multiplexed = multiplexed; port = port }) protocol) file

module _ (words : List (Bor (List ℕ))) (d : Bor (List ℕ)) (multiplexed : Bool) (port : ℕ) where
  five_words : (words : List (Bor (List ℕ))) → 5 ≤ length words → length words < 6
      → asking_by (lent_words words) multiplexed port
      ≡ asking_with (word_at words 0 d) (word_at words 1 d) (word_at words 2 d) (word_at words 3 d) (word_at words 4 d) multiplexed port
  five_words [] low high = absurd (let f : ⊥ = omega (arith, low) in f)
  five_words (a ∷ []) low high = absurd (let f : ⊥ = omega (arith, low) in f)
  five_words (a ∷ b ∷ []) low high = absurd (let f : ⊥ = omega (arith, low) in f)
  five_words (a ∷ b ∷ c ∷ []) low high = absurd (let f : ⊥ = omega (arith, low) in f)
  five_words (a ∷ b ∷ c ∷ e ∷ []) low high = absurd (let f : ⊥ = omega (arith, low) in f)
  five_words (a ∷ b ∷ c ∷ e ∷ f ∷ []) low high = refl
  five_words (a ∷ b ∷ c ∷ e ∷ f ∷ g ∷ more) low high = absurd (let n : ⊥ = omega (arith, high) in n)

  -- the first word names no file
  pub no_file : 5 ≤ length words → length words < 6 → None ≡ file_of_word (word_at words 0 d) → None ≡ asking_by (lent_words words) multiplexed port
  no_file low high none =
      ap (λ f. asking_of f (protocol_of_word (word_at words 1 d)) (word_at words 2 d) (word_at words 3 d) (word_at words 4 d) multiplexed port) none
      ∙ sym (five_words words low high)

  -- the second word is no protocol
  pub no_protocol : (idl : List ℕ) → 5 ≤ length words → length words < 6 → Some idl ≡ file_of_word (word_at words 0 d) → None ≡ protocol_of_word (word_at words 1 d)
      → None ≡ asking_by (lent_words words) multiplexed port
  no_protocol idl low high file none =
      ap₂ (λ f p. asking_of f p (word_at words 2 d) (word_at words 3 d) (word_at words 4 d) multiplexed port) file none ∙ sym (five_words words low high)

  -- all five are right
  pub asked : (idl : List ℕ) (protocol : Protocol) (name method args : List ℕ) → 5 ≤ length words → length words < 6
      → Some idl ≡ file_of_word (word_at words 0 d) → Some protocol ≡ protocol_of_word (word_at words 1 d)
      → name ≡ word_at words 2 d → method ≡ word_at words 3 d → args ≡ word_at words 4 d
      → Some (record { idl = idl; protocol = protocol; name = name; method = method; args = args; multiplexed = multiplexed; port = port })
      ≡ asking_by (lent_words words) multiplexed port
  asked idl protocol name method args low high file spelling third fourth fifth =
      ap₂ (λ n m. Some (record { idl = idl; protocol = protocol; name = n; method = m; args = args; multiplexed = multiplexed; port = port })) third fourth
      ∙ ap (λ a. asking_of (Some idl) (Some protocol) (word_at words 2 d) (word_at words 3 d) a multiplexed port) fifth
      ∙ ap₂ (λ f p. asking_of f p (word_at words 2 d) (word_at words 3 d) (word_at words 4 d) multiplexed port) file spelling
      ∙ sym (five_words words low high)
