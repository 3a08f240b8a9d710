-- What a script gives a connection, and what is kept of it: pieces that aren't read, what comes after them, and rules that are left.
use Rattle.std.specs.Prelude.{◌≡◌, ℕ, ◌<◌, Option, None, Some, List, [], ◌∷◌, map, length, slice_get, option_map}
use Rattle.std.specs.List.{AllByRecursion}
use Rattle.std.specs.Borrow.{Bor}
use Rattle.script_model.specs.ScriptLines.{PlanRule, takes_most}
use Rattle.script_model.specs.Playing.{InputFinish, finishes, faults, pieces_left}
use Rattle.script_text.specs.Plans.{plain_rules}
use Rattle.cell_loop.specs.declared.feed.InputEnd.{InputEnd}
use Rattle.cell_loop.specs.declared.feed.InputEnd.TheVariants.{Ends, Fails}
use Rattle.cell_loop.specs.declared.feed.Feed.{Feed}

-- pieces that are lent
abbrev pub lent_pieces : List (Bor (List ℕ)) → List (List ℕ)
lent_pieces pieces = map (λ (piece : Bor (List ℕ)). piece.now) pieces

-- the pieces that have arrived and aren't read: what is left of the first, and those behind it
abbrev pub unread_of : Feed → List (List ℕ)
unread_of feed = pieces_left feed.front.now (lent_pieces feed.later.items)

-- what comes after all pieces
abbrev pub plain_finish : InputEnd → InputFinish
plain_finish Ends = finishes
plain_finish Fails = faults

-- what comes after them, where it is known
abbrev pub finish_of : Feed → Option InputFinish
finish_of feed = option_map plain_finish feed.finish

-- the rules that are left
abbrev pub rules_left : Feed → List PlanRule
rules_left feed = plain_rules feed.rules.now

-- the pieces of connection c that aren't read, of which there are none where nothing is kept of it
abbrev pub unread_in : List Feed → ℕ → List (List ℕ)
unread_in feeds c = elim (slice_get feeds c) [ None ↦ [] | Some feed ↦ unread_of feed ]

-- what comes after them
abbrev pub finish_in : List Feed → ℕ → Option InputFinish
finish_in feeds c = elim (slice_get feeds c) [ None ↦ None | Some feed ↦ finish_of feed ]

-- its rules that are left
abbrev pub rules_in : List Feed → ℕ → List PlanRule
rules_in feeds c = elim (slice_get feeds c) [ None ↦ [] | Some feed ↦ rules_left feed ]

-- what isn't read of its oldest piece
abbrev pub front_in : List Feed → ℕ → List ℕ
front_in feeds c = elim (slice_get feeds c) [ None ↦ [] | Some feed ↦ feed.front.now ]

-- the pieces behind that one
abbrev pub later_in : List Feed → ℕ → List (List ℕ)
later_in feeds c = elim (slice_get feeds c) [ None ↦ [] | Some feed ↦ lent_pieces feed.later.items ]

-- no piece behind the first is empty
abbrev pub HasSomePieces : Feed → Type 0
HasSomePieces feed = AllByRecursion (λ (piece : List ℕ). 0 < length piece) (lent_pieces feed.later.items)

-- this is left of connection c's feed, and each other one is as it was
pub record HasFeed (c : ℕ) (unread : List (List ℕ)) (finish : Option InputFinish) (rules : List PlanRule) (old new : List Feed) : Type 0 where
  pub count : length new ≡ length old
  pub unread_is : unread_in new c ≡ unread
  pub finish_is : finish_in new c ≡ finish
  pub rules_are : rules_in new c ≡ rules
  pub others : (x : ℕ) → (c ≡ x → ⊥) → slice_get new x ≡ slice_get old x
  pub pieces : AllByRecursion HasSomePieces new

-- a rule that bounds a write lets it take a byte
abbrev pub BoundsSome : PlanRule → Type 0
BoundsSome (takes_most count) = 0 < count
BoundsSome _ = Unit {0}

-- feeds to which nothing has come, with these rules
abbrev pub AreFreshFeeds : List (List PlanRule) → List Feed → Type 0
AreFreshFeeds [] [] = Unit {0}
AreFreshFeeds (rules ∷ more) (feed ∷ feeds) = (unread_of feed ≡ []) × (finish_of feed ≡ None) × (rules_left feed ≡ rules) × HasSomePieces feed × AreFreshFeeds more feeds
AreFreshFeeds _ _ = ⊥
