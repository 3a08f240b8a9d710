-- What one loop sees of a newly opened hub is a newly opened hall.
use Rattle.std.proofs.Common.{ℕ, List, map, refl, ap}
use Rattle.host_model.specs.Journal.{JournalEntry}
use Rattle.machine_model.specs.HallState.{IsNewlyOpened, IsNew}
use Rattle.hub_model.specs.HubState.{HubState, IsOpenedHub, IsNewHub}
use Rattle.hub_model.specs.Seen.{own_outcome, own_jobs, own_keys, own_entries, seen_part}

module _ {C A M : Type 0} (n l : ℕ) (final : List (JournalEntry C A)) where
  pub opens : (hub : HubState C A M) → IsOpenedHub hub → IsNewlyOpened (seen_part n l final hub)
  opens hub o = record {
    jobs = ap (own_jobs n l) o.jobs;
    taken = ap (own_keys n l) o.taken;
    outcomes = ap (map (own_outcome n)) (o.lists l);
    closed = o.closed;
    broken = refl;
  }

  pub opens_new : (memories : List M) (hub : HubState C A M) → IsNewHub memories hub → IsNew (seen_part n l final hub).memories (seen_part n l final hub)
  opens_new memories hub new = record { opened = opens hub new.opened; memories = refl; journal = ap (own_entries n l) new.journal }
