use Rattle.std.proofs.Common.{[], length, refl, sym, subst}
use Rattle.call_history.specs.Calls.{AllAllowed}
use Rattle.call_rules.specs.Handling.{handler_rules}
use Rattle.hub_model.specs.HubMay.{HubMay}
use Rattle.hub_core.specs.Hub.{hub_filled}
use Rattle.hub_core.specs.Following.{Filled, filled_all, allowed_asks}
use Rattle.hub_core.proofs.laws.calls_are_a_hubs_history.Goals as goal

pub returns : goal.returns
returns c first log told history allowed =
    let f : Filled (length first.lists) first [] log = filled_all (length first.lists) first [] log refl told history in (
      f.full,
      f.last,
      f.history,
      f.asks,
      subst (AllAllowed (HubMay (length first.lists) handler_rules) (hub_filled first [])) (sym f.asks) (allowed_asks first log allowed),
      f.told,
      f.ends,
    )
