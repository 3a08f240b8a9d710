-- What arrives over a script, as links tell it.
use Rattle.std.proofs.Common.{◌≡◌, ◌≢◌, ℕ, suc, ◌+◌, ◌<◌, ◌≤◌, Bool, true, false, nat_lt, nat_le, if◌then◌else◌, Option, None, Some, List, [], ◌∷◌, ◌++◌, length, take, drop, refl, sym, ap, ◌∙◌, subst, arith, true≢false, add-one, take-add, ◌⊎◌, inl, inr}
use Rattle.std.proofs.lemmas.Bool.{ltb-true, leb-true, cases_eq}
use Rattle.std.proofs.lemmas.List.{append-nil, take-append-drop, drop_all}
use Rattle.std.proofs.lemmas.Grind.{flat_map-append}
use Rattle.outside.specs.LinksState.{Arrived}
use Rattle.outside.specs.Asking.{IsFrontOf, HasArrivedSince, MoreArrives}
use Rattle.script_model.specs.Arrival.{bytes_of_pieces}
use Rattle.script_model.specs.Playing.{InputFinish, finishes, faults, or_else}
use Rattle.script_links.specs.ServedScript.{PlainLink, ServedScript, link_at, with_link}
use Rattle.script_links.specs.Plain.{shown_finish, with_arrival, with_finish}
use Rattle.script_links.specs.Shown.{arrived_of, is_end_of_input, links_told}
use Rattle.script_links.proofs.Connected.{own_changed, other_same}

-- what has arrived is a front of what is left
pub front_of : (link : PlainLink) → IsFrontOf (bytes_of_pieces link.pieces) (arrived_of link)
front_of link = record {
  later = bytes_of_pieces (drop link.arrived link.pieces);
  split =
      ap bytes_of_pieces (sym (take-append-drop link.arrived link.pieces))
      ∙ flat_map-append (λ (piece : List ℕ). piece) (take link.arrived link.pieces) (drop link.arrived link.pieces);
  ended = none (nat_le (length link.pieces) link.arrived) refl;
}
  where
    none : (b : Bool) → nat_le (length link.pieces) link.arrived ≡ b → is_end_of_input (if b then link.finish else None) ≡ true → bytes_of_pieces (drop link.arrived link.pieces) ≡ []
    none true test e = ap bytes_of_pieces (drop_all link.arrived link.pieces (leb-true (length link.pieces) link.arrived test))
    none false test e = absurd (true≢false (sym e))

-- nothing has arrived since
pub nothing_since : (arrived : Arrived) → HasArrivedSince arrived arrived
nothing_since arrived = record { more = []; bytes = sym (append-nil arrived.bytes); ended = λ e. refl }

-- a piece has
pub piece_since : (link : PlainLink) → HasArrivedSince (arrived_of link) (arrived_of (with_arrival link))
piece_since link = go (nat_lt link.arrived (length link.pieces)) refl
  where
    not_all : (b : Bool) → nat_le (length link.pieces) link.arrived ≡ b → link.arrived < length link.pieces → is_end_of_input (if b then link.finish else None) ≡ true → ⊥
    not_all true test below e = let all : length link.pieces ≤ link.arrived = leb-true (length link.pieces) link.arrived test in omega arith
    not_all false test below e = true≢false (sym e)

    go : (b : Bool) → nat_lt link.arrived (length link.pieces) ≡ b → HasArrivedSince (arrived_of link) (arrived_of (if b then record link { arrived = suc link.arrived } else link))
    go true test =
        let below : link.arrived < length link.pieces = ltb-true link.arrived (length link.pieces) test in
        record {
          more = bytes_of_pieces (take 1 (drop link.arrived link.pieces));
          bytes =
              ap (λ n. bytes_of_pieces (take n link.pieces)) (sym (add-one link.arrived)) ∙ ap bytes_of_pieces (take-add link.arrived 1 link.pieces)
              ∙ flat_map-append (λ (piece : List ℕ). piece) (take link.arrived link.pieces) (take 1 (drop link.arrived link.pieces));
          ended = λ e. absurd (not_all (nat_le (length link.pieces) link.arrived) refl below e);
        }
    go false test = nothing_since (arrived_of link)

-- an end, or a fault, comes after what has arrived, where none was known to
kept_end : (b : Bool) (known : Option InputFinish) (new : InputFinish) → is_end_of_input (if b then known else None) ≡ true
    → is_end_of_input (if b then or_else known (Some new) else None) ≡ is_end_of_input (if b then known else None)
kept_end true None new e = absurd (true≢false (sym e))
kept_end true (Some known) new e = refl
kept_end false known new e = refl

pub finish_since : (finish : InputFinish) (link : PlainLink) → HasArrivedSince (arrived_of link) (arrived_of (with_finish finish link))
finish_since finish link = record {
  more = [];
  bytes = sym (append-nil (arrived_of link).bytes);
  ended = λ e. λ i. record { bytes = (arrived_of link).bytes; ended = kept_end (nat_le (length link.pieces) link.arrived) link.finish finish e i };
}

pub arrival_pieces : (link : PlainLink) → (with_arrival link).pieces ≡ link.pieces
arrival_pieces link = go (nat_lt link.arrived (length link.pieces))
  where
    go : (b : Bool) → (if b then record link { arrived = suc link.arrived } else link).pieces ≡ link.pieces
    go true = refl
    go false = refl

pub arrival_faults : (link : PlainLink) → (with_arrival link).faults ≡ link.faults
arrival_faults link = go (nat_lt link.arrived (length link.pieces))
  where
    go : (b : Bool) → (if b then record link { arrived = suc link.arrived } else link).faults ≡ link.faults
    go true = refl
    go false = refl

pub arrival_stage : (link : PlainLink) → (with_arrival link).stage ≡ link.stage
arrival_stage link = go (nat_lt link.arrived (length link.pieces))
  where
    go : (b : Bool) → (if b then record link { arrived = suc link.arrived } else link).stage ≡ link.stage
    go true = refl
    go false = refl

-- where nothing is changed
pub arrives_same : (links : List PlainLink) (x : ℕ) → MoreArrives (Some (arrived_of (link_at links x))) (Some (arrived_of (link_at links x))) (Some (bytes_of_pieces (link_at links x).pieces))
arrives_same links x = (nothing_since (arrived_of (link_at links x)), front_of (link_at links x))

-- where one connection is changed: what is kept of it, and what arrives
module _ (links : List PlainLink) (c : ℕ) (change : PlainLink → PlainLink) (below : c < length links) where
  pub kept_at : {X : Type 0} (f : PlainLink → X) → ((link : PlainLink) → f (change link) ≡ f link) → (x : ℕ) → f (link_at (with_link c change links) x) ≡ f (link_at links x)
  kept_at f keeps x = go (cases_eq x c)
    where
      go : (x ≡ c) ⊎ (x ≡ c → ⊥) → f (link_at (with_link c change links) x) ≡ f (link_at links x)
      go (inl same) =
          ap (λ n. f (link_at (with_link c change links) n)) same ∙ ap f (own_changed c change links below) ∙ keeps (link_at links c) ∙ ap (λ n. f (link_at links n)) (sym same)
      go (inr other) = ap f (other_same c x change links other)

  pub arrives_at : ((link : PlainLink) → HasArrivedSince (arrived_of link) (arrived_of (change link))) → (x : ℕ)
      → MoreArrives (Some (arrived_of (link_at links x))) (Some (arrived_of (link_at (with_link c change links) x))) (Some (bytes_of_pieces (link_at (with_link c change links) x).pieces))
  arrives_at since x = go (cases_eq x c)
    where
      go : (x ≡ c) ⊎ (x ≡ c → ⊥)
          → HasArrivedSince (arrived_of (link_at links x)) (arrived_of (link_at (with_link c change links) x))
          × IsFrontOf (bytes_of_pieces (link_at (with_link c change links) x).pieces) (arrived_of (link_at (with_link c change links) x))
      go (inl same) = (
        subst (λ n. HasArrivedSince (arrived_of (link_at links n)) (arrived_of (link_at (with_link c change links) n))) (sym same)
            (subst (λ (l : PlainLink). HasArrivedSince (arrived_of (link_at links c)) (arrived_of l)) (sym (own_changed c change links below)) (since (link_at links c))),
        front_of (link_at (with_link c change links) x),
      )
      go (inr other) = (
        subst (λ (l : PlainLink). HasArrivedSince (arrived_of (link_at links x)) (arrived_of l)) (sym (other_same c x change links other))
            (nothing_since (arrived_of (link_at links x))),
        front_of (link_at (with_link c change links) x),
      )
