-- Pieces of which some were read, and some have arrived.
use Rattle.std.proofs.Common.{◌≡◌, ◌≢◌, ℕ, zero, suc, ◌+◌, ◌-◌, ◌<◌, ◌≤◌, ◌⊎◌, min, nat_lt, if◌then◌else◌, Bool, true, false, List, [], ◌∷◌, ◌++◌, length, take, drop, refl, sym, ap, ◌∙◌, subst, inl, inr, arith, append_assoc, append-nil, length-append, length-drop, take-append-drop}
use Rattle.std.proofs.lemmas.Bool.{ltb-true, ltb-false, lt-ltb}
use Rattle.std.proofs.lemmas.List.{drop_all}
use Rattle.std.proofs.lemmas.Grind.{flat_map-append}
use Rattle.host_model.proofs.Lists.{append_parts, nil-cons}
use Rattle.script_model.specs.Arrival.{bytes_of_pieces, ends_from}
use Rattle.script_model.specs.Feeding.{piece_end}
use Rattle.script_model.specs.Playing.{most_read, pieces_left}
use Rattle.script_model.proofs.Remaining.{Remains, remains_read}
use Rattle.script_links.specs.ServedScript.{PlainLink}
use Rattle.script_links.specs.Plain.{with_read}
use Rattle.script_links.specs.Shows.{IsNextOfPiece}
use Rattle.script_links.specs.Followed.{LeavesPieces}

-- what is left behind so many
pub drop_some : {X : Type 0} (n : ℕ) (xs : List X) (y : X) (ys : List X) → drop n xs ≡ y ∷ ys → n < length xs
drop_some zero [] y ys e = absurd (nil-cons y ys e)
drop_some zero (x ∷ xs) y ys e = omega arith
drop_some (suc n) [] y ys e = absurd (nil-cons y ys e)
drop_some (suc n) (x ∷ xs) y ys e = let l : n < length xs = drop_some n xs y ys e in omega arith

pub drop_next : {X : Type 0} (n : ℕ) (xs : List X) (y : X) (ys : List X) → drop n xs ≡ y ∷ ys → drop (suc n) xs ≡ ys
drop_next zero [] y ys e = absurd (nil-cons y ys e)
drop_next zero (x ∷ xs) y ys e = ap (drop 1) e
drop_next (suc n) [] y ys e = absurd (nil-cons y ys e)
drop_next (suc n) (x ∷ xs) y ys e = drop_next n xs y ys e

-- what stands in front of the same
same_front : (xs ys zs : List ℕ) → xs ++ zs ≡ ys ++ zs → xs ≡ ys
same_front xs ys zs e =
    let one : length (xs ++ zs) ≡ length xs + length zs = length-append xs zs in
    let two : length (ys ++ zs) ≡ length ys + length zs = length-append ys zs in
    let all : length (xs ++ zs) ≡ length (ys ++ zs) = ap length e in
    (append_parts xs ys zs zs (omega arith) e).0

-- what was read and what has arrived are the pieces that aren't to come
pub read_and_arrived : (all here left pieces : List (List ℕ)) (read : List ℕ) (arrived : ℕ) → all ≡ here ++ left → LeavesPieces all read pieces → drop arrived pieces ≡ left
    → read ++ bytes_of_pieces (take arrived pieces) ≡ bytes_of_pieces here
read_and_arrived all here left pieces read arrived split leaves behind =
    same_front (read ++ bytes_of_pieces (take arrived pieces)) (bytes_of_pieces here) (bytes_of_pieces left)
    (append_assoc read (bytes_of_pieces (take arrived pieces)) (bytes_of_pieces left)
    ∙ ap (λ (xs : List (List ℕ)). read ++ (bytes_of_pieces (take arrived pieces) ++ bytes_of_pieces xs)) (sym behind)
    ∙ ap (λ xs. read ++ xs) (sym (flat_map-append (λ (piece : List ℕ). piece) (take arrived pieces) (drop arrived pieces)))
    ∙ ap (λ (xs : List (List ℕ)). read ++ bytes_of_pieces xs) (take-append-drop arrived pieces) ∙ leaves.bytes ∙ ap bytes_of_pieces split
    ∙ flat_map-append (λ (piece : List ℕ). piece) here left)

-- bytes of the first piece are read
left_is : (count : ℕ) (piece : List ℕ) (pieces : List (List ℕ)) (b : Bool) → nat_lt count (length piece) ≡ b → pieces_left (drop count piece) pieces ≡ (if b then drop count piece ∷ pieces else pieces)
left_is count piece pieces true test = go (drop count piece) (let l : count < length piece = ltb-true count (length piece) test in let d : length (drop count piece) ≡ length piece - count = length-drop count piece in omega arith)
  where
    go : (rest : List ℕ) → 0 < length rest → pieces_left rest pieces ≡ rest ∷ pieces
    go [] some = absurd (let f : ⊥ = omega arith in f)
    go (x ∷ rest) some = refl
left_is count piece pieces false test = ap (λ rest. pieces_left rest pieces) (drop_all count piece (ltb-false count (length piece) test))

read_pieces : (count : ℕ) (piece : List ℕ) (pieces : List (List ℕ)) (link : PlainLink) (b : Bool)
    → (if b then record link { pieces = drop count piece ∷ pieces } else record link { pieces = pieces; arrived = link.arrived - 1 }).pieces ≡ (if b then drop count piece ∷ pieces else pieces)
read_pieces count piece pieces link true = refl
read_pieces count piece pieces link false = refl

pub leaves_read : (all pieces : List (List ℕ)) (read piece : List ℕ) (count : ℕ) (link : PlainLink) → count ≤ length piece → LeavesPieces all read (piece ∷ pieces)
    → LeavesPieces all (read ++ take count piece) (with_read count (piece ∷ pieces) link).pieces
leaves_read all pieces read piece count link within leaves =
    let before : Remains all read (piece ∷ pieces) = record { bytes = leaves.bytes; ends = leaves.ends } in
    let behind : Remains all (read ++ take count piece) (pieces_left (drop count piece) pieces) = remains_read all pieces read piece count within before in
    subst (LeavesPieces all (read ++ take count piece)) (left_is count piece pieces (nat_lt count (length piece)) refl ∙ sym (read_pieces count piece pieces link (nat_lt count (length piece))))
    (record { bytes = behind.bytes; ends = behind.ends })

-- those that are to arrive stay so
pub coming_read : (count : ℕ) (piece : List ℕ) (pieces : List (List ℕ)) (link : PlainLink) → 0 < link.arrived
    → drop (with_read count (piece ∷ pieces) link).arrived (with_read count (piece ∷ pieces) link).pieces ≡ drop link.arrived (piece ∷ pieces)
coming_read count piece pieces link some = go (nat_lt count (length piece)) (link.arrived - 1) (omega arith)
  where
    go : (b : Bool) (k : ℕ) → link.arrived ≡ suc k
        → drop (if b then record link { pieces = drop count piece ∷ pieces } else record link { pieces = pieces; arrived = link.arrived - 1 }).arrived
        (if b then record link { pieces = drop count piece ∷ pieces } else record link { pieces = pieces; arrived = link.arrived - 1 }).pieces ≡ drop link.arrived (piece ∷ pieces)
    go true k is = ap (λ n. drop n (drop count piece ∷ pieces)) is ∙ ap (λ n. drop n (piece ∷ pieces)) (sym is)
    go false k is = let less : link.arrived - 1 ≡ k = omega arith in ap (λ n. drop n pieces) less ∙ ap (λ n. drop n (piece ∷ pieces)) (sym is)

-- they are the next ones of the piece
pub next_of_piece : (all pieces : List (List ℕ)) (read piece : List ℕ) (count lent : ℕ) → LeavesPieces all read (piece ∷ pieces) → 0 < length piece → 0 < lent
    → count ≡ min (min lent most_read) (length piece) → length (take count piece) ≡ count → IsNextOfPiece all read (take count piece) lent
next_of_piece all pieces read piece count lent leaves some room is long =
    let end : piece_end (ends_from 0 all) (length read) ≡ length read + length piece =
    leaves.ends (length read) (omega arith)
    ∙ ap (λ b. if b then length read + length piece else piece_end (ends_from (length read + length piece) pieces) (length read)) (lt-ltb (length read) (length read + length piece) (omega arith)) in
    record { some = omega arith; count = omega arith }
