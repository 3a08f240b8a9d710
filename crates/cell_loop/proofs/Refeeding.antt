-- What is known of a connection's feed, where its place is read.
use Rattle.std.proofs.Common.{◌≡◌, ℕ, ◌<◌, Option, None, Some, List, length, slice_get, slice_index_or, refl, ap}
use Rattle.std.proofs.lemmas.Option.{slice_get_read}
use Rattle.cell_loop.specs.declared.feed.Feed.{Feed}
use Rattle.cell_loop.specs.Feeds.{finish_of, finish_in}

-- it is the one at its place
pub feed_at : (feeds : List Feed) (c : ℕ) (feed : Feed) → c < length feeds → feed ≡ slice_index_or feeds c feed → slice_get feeds c ≡ Some feed
feed_at feeds c feed l is = slice_get_read feeds (length feeds) c feed refl l is

-- what comes after its pieces
pub finish_at : (feeds : List Feed) (c : ℕ) (feed : Feed) → c < length feeds → feed ≡ slice_index_or feeds c feed → finish_in feeds c ≡ finish_of feed
finish_at feeds c feed l is = ap (λ (o : Option Feed). elim o [ None ↦ None | Some feed ↦ finish_of feed ]) (feed_at feeds c feed l is)
