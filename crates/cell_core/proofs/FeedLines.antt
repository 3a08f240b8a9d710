-- What a line leaves of the feeds that changes one, and what its call says.
use Rattle.std.proofs.Common.{◌≡◌, ℕ, ◌<◌, Option, None, Some, List, [], ◌∷◌, ◌++◌, length, set, slice_index_or, sym, ap, ◌∙◌}
use Rattle.std.specs.List.{AllByRecursion}
use Rattle.script_model.specs.Playing.{InputFinish}
use Rattle.cell_loop.specs.declared.feed.Feed.{Feed}
use Rattle.cell_loop.specs.Feeds.{unread_of, finish_of, rules_left, unread_in, finish_in, rules_in, HasSomePieces, HasFeed}
use Rattle.cell_loop.proofs.Refeeding.{feed_at}
use Rattle.cell_core.proofs.Lines.{at_all, feed_put}

module _ (feeds : List Feed) (c : ℕ) (feed : Feed) (there : c < length feeds) (is : feed ≡ slice_index_or feeds c feed) (all : AllByRecursion HasSomePieces feeds) where
  -- what is known of the one at this place
  unread_there : unread_of feed ≡ unread_in feeds c
  unread_there = sym (ap (λ (o : Option Feed). elim o [ None ↦ [] | Some feed ↦ unread_of feed ]) (feed_at feeds c feed there is))

  finish_there : finish_of feed ≡ finish_in feeds c
  finish_there = sym (ap (λ (o : Option Feed). elim o [ None ↦ None | Some feed ↦ finish_of feed ]) (feed_at feeds c feed there is))

  rules_there : rules_left feed ≡ rules_in feeds c
  rules_there = sym (ap (λ (o : Option Feed). elim o [ None ↦ [] | Some feed ↦ rules_left feed ]) (feed_at feeds c feed there is))

  pub pieces_there : HasSomePieces feed
  pieces_there = at_all HasSomePieces feeds c feed all (feed_at feeds c feed there is)

  -- a piece has arrived
  pub piece_arrived : (next : Feed) (bytes : List ℕ) → HasSomePieces next → unread_of next ≡ unread_of feed ++ bytes ∷ [] → finish_of next ≡ finish_of feed → rules_left next ≡ rules_left feed
      → HasFeed c (unread_in feeds c ++ bytes ∷ []) (finish_in feeds c) (rules_in feeds c) feeds (set feeds c next)
  piece_arrived next bytes some unread finish rules =
      feed_put feeds c next (unread_in feeds c ++ bytes ∷ []) (finish_in feeds c) (rules_in feeds c) there all some
      (unread ∙ ap (λ (u : List (List ℕ)). u ++ bytes ∷ []) unread_there) (finish ∙ finish_there) (rules ∙ rules_there)

  -- none has
  pub piece_refused : (next : Feed) → HasSomePieces next → unread_of next ≡ unread_of feed → finish_of next ≡ finish_of feed → rules_left next ≡ rules_left feed
      → HasFeed c (unread_in feeds c) (finish_in feeds c) (rules_in feeds c) feeds (set feeds c next)
  piece_refused next some unread finish rules =
      feed_put feeds c next (unread_in feeds c) (finish_in feeds c) (rules_in feeds c) there all some (unread ∙ unread_there) (finish ∙ finish_there) (rules ∙ rules_there)

  -- what comes after all pieces is known
  pub finish_known : (next : Feed) (known : InputFinish) → HasSomePieces next → unread_of next ≡ unread_of feed → finish_of next ≡ Some known → rules_left next ≡ rules_left feed
      → HasFeed c (unread_in feeds c) (Some known) (rules_in feeds c) feeds (set feeds c next)
  finish_known next known some unread finish rules =
      feed_put feeds c next (unread_in feeds c) (Some known) (rules_in feeds c) there all some (unread ∙ unread_there) finish (rules ∙ rules_there)
