-- What ties a decoder to the encodings that it decodes.
use Rattle.std.specs.Prelude.{◌≡◌, ◌<◌, ◌≤◌, ℕ, List, ◌++◌, length, All, Result, Ok, Err}
use Rattle.wire_num.specs.declared.fault.NumFault.{NumFault}
use Rattle.wire_num.specs.declared.fault.NumFault.TheVariants.{Short}

-- each number is a byte
abbrev pub AreByteSized : List ℕ → Type 0
AreByteSized bytes = All (λ b. b < 256) bytes

-- an encoding stands in front of the bytes, and these bytes behind it
pub record StandsInFront (IsEncoding : List ℕ → Type 0) (bytes behind : List ℕ) : Type 0 where
  pub encoding : List ℕ
  pub whole : bytes ≡ encoding ++ behind
  pub is : IsEncoding encoding

-- A decoder finds in front what is encoded there, whatever follows, and nothing else. Where an encoding is cut off, the bytes
-- are Short, and any other fault stays, whatever follows.
pub record Decodes {A : Type 0} (decoder : List ℕ → Result (A × List ℕ) NumFault) (IsEncoding : A → List ℕ → Type 0) : Type 0 where
  pub found : (bytes behind : List ℕ) (x : A) → AreByteSized bytes → decoder bytes ≡ Ok (x, behind) → StandsInFront (IsEncoding x) bytes behind
  pub only : (x : A) (encoding behind : List ℕ) → IsEncoding x encoding → decoder (encoding ++ behind) ≡ Ok (x, behind)
  pub cut_off : (x : A) (front back : List ℕ) → IsEncoding x (front ++ back) → 1 ≤ length back → decoder front ≡ Err Short
  pub stays : (bytes behind : List ℕ) (fault : NumFault) → decoder bytes ≡ Err fault → (fault ≡ Short → ⊥) → decoder (bytes ++ behind) ≡ Err fault
  pub goes_on : (bytes behind more : List ℕ) (x : A) → decoder bytes ≡ Ok (x, behind) → decoder (bytes ++ more) ≡ Ok (x, behind ++ more)
