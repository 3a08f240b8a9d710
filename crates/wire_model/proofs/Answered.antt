-- From the reading of a struct in front to what calls answer at a place, and read back of what they appended.
use Rattle.std.specs.Prelude.{IfOk, OnOk}
use Rattle.std.proofs.Common.{◌≡◌, ℕ, ◌+◌, ◌-◌, ◌<◌, ◌≤◌, List, ◌++◌, length, drop, Result, Ok, Err, sym, ap, ◌∙◌, append_assoc, arith, Fits, w8, slice_index_or}
use Rattle.std.proofs.lemmas.List.{length-append, length-drop}
use Rattle.std.proofs.lemmas.List.Elements.{All-drop, All-from_get_or}
use Rattle.wire_num.specs.Encoded.{AreByteSized}
use Rattle.thrift_value.specs.declared.tag.Tag.TheVariants.{Struct}
use Rattle.thrift_value.specs.declared.value.Value.{Value}
use Rattle.thrift_value.specs.declared.wire_fault.WireFault.{WireFault}
use Rattle.thrift_value.specs.declared.wire_fault.WireFault.TheVariants.{NoMemory}
use Rattle.thrift_value.specs.Measures.{count_of}
use Rattle.thrift_value.specs.Plain.{plain}
use Rattle.thrift_value.specs.Tree.{Tree}
use Rattle.thrift_value.specs.TreeOf.{tree_of}
use Rattle.wire_model.specs.Answering.{FaultsOrNoMemory, AnswersOrNoMemory}
use Rattle.wire_model.specs.Decoder.{Unread}
use Rattle.wire_model.specs.Format.{Format}
use Rattle.wire_model.specs.Place.{found_struct, most_levels, most_values, placed, struct_at, TakenOff}
use Rattle.wire_model.specs.Reading.{value}
use Rattle.wire_model.specs.Wire.{Wire}

-- what is still to be read at a place
abbrev pub front : List ℕ → ℕ → Unread
front bytes at = record { bytes = drop at bytes; budget = most_values }

-- the reading in front
abbrev pub struct_in_front : Wire → Unread → Result (Tree × Unread) WireFault
struct_in_front wire rest = value wire most_levels Struct rest

pub placed_here : (wire : Wire) (bytes : List ℕ) (at : ℕ) (x : Tree) (after : Unread) → struct_in_front wire (front bytes at) ≡ Ok (x, after)
    → struct_at wire bytes at ≡ Ok (x, length bytes - length after.bytes)
placed_here wire bytes at x after e = ap (placed (length bytes)) e

pub taken_here : (wire : Wire) (format : Format) (bytes : List ℕ) (at : ℕ) (x : Tree) (after : Unread)
    → ((levels : ℕ) (before after : Unread) (x : Tree) → AreByteSized before.bytes → value wire levels Struct before ≡ Ok (x, after) → TakenOff format levels Struct x before after)
    → AreByteSized (drop at bytes) → struct_in_front wire (front bytes at) ≡ Ok (x, after) → length after.bytes ≤ length bytes
taken_here wire format bytes at x after law fits e =
    let t = law most_levels (front bytes at) after x fits e in
    let len : length (drop at bytes) ≡ length t.text + length after.bytes = ap length t.whole ∙ length-append t.text after.bytes in
    omega (arith, length-drop at bytes)

fails_placed : (size : ℕ) (fault : WireFault) (r : Result (Tree × Unread) WireFault) → FaultsOrNoMemory fault r → FaultsOrNoMemory fault (placed size r)
fails_placed size NoMemory r h = tt
fails_placed size fault r h = ap (placed size) h

pub fault_here : (wire : Wire) (bytes : List ℕ) (at : ℕ) (fault : WireFault) → FaultsOrNoMemory fault (struct_in_front wire (front bytes at)) → FaultsOrNoMemory fault (struct_at wire bytes at)
fault_here wire bytes at fault h = fails_placed (length bytes) fault (struct_in_front wire (front bytes at)) h

-- what a slice keeps of its bytes
pub bytes_fit : (bytes : List ℕ) → ((i : ℕ) → Fits w8 (slice_index_or bytes i 0)) → AreByteSized bytes
bytes_fit bytes fits = All-from_get_or (λ b. b < 256) bytes 0 (λ i lt. (fits i).fits)

pub bytes_behind_place : (bytes : List ℕ) (at : ℕ) → ((i : ℕ) → Fits w8 (slice_index_or bytes i 0)) → AreByteSized (drop at bytes)
bytes_behind_place bytes at fits = All-drop (λ b. b < 256) at bytes (bytes_fit bytes fits)

-- what holds of each struct that the reading gives holds of the one that was answered
pub holds_of_read : (P : Tree → ℕ → Type 0) (read : Result (Tree × ℕ) WireFault) → ((x : Tree) (behind : ℕ) → read ≡ Ok (x, behind) → P x behind)
    → (answered : Result (Value × ℕ) WireFault) → AnswersOrNoMemory (λ x. (tree_of x.0, x.1)) answered read → IfOk answered (λ x. P (tree_of x.0) x.1)
holds_of_read P read law (Ok x) h = law (tree_of x.0) x.1 h
holds_of_read P read law (Err fault) h = tt

-- a result that is handed on
pub on_ok_by : {T E P Q : Type 0} (r : Result T E) → (P → Q) → OnOk r P → OnOk r Q
on_ok_by (Ok x) f h = f h
on_ok_by (Err e) f h = tt

pub read_back_by : {T E : Type 0} (wire : Wire) (r : Result T E) (x : Tree) (old new appended : List ℕ) → OnOk r (new ≡ old ++ appended)
    → OnOk r (count_of x ≤ most_values → (more : List ℕ)
    → struct_at wire (old ++ (appended ++ more)) (length old) ≡ found_struct (plain x) (length old + length appended))
    → OnOk r (count_of x ≤ most_values → (more : List ℕ) → struct_at wire (new ++ more) (length old) ≡ found_struct (plain x) (length new))
read_back_by wire (Ok done) x old new appended is law = λ few more.
    ap (λ b. struct_at wire b (length old)) (ap (λ b. b ++ more) is ∙ append_assoc old appended more)
    ∙ law few more
    ∙ ap (found_struct (plain x)) (sym (ap length is ∙ length-append old appended))
read_back_by wire (Err fault) x old new appended is law = tt
