-- Links that came back to a binder.
use Rattle.std.proofs.Common.{◌≡◌, ℕ, Bool, false, List, [], ◌∷◌, ◌++◌, Option, Some, None, IfSome, IsSome, refl, sym, ap, ◌∙◌, subst}
use Rattle.std.proofs.lemmas.Option.{same_Some}
use Rattle.streams.specs.declared.marks.Mark.{Mark}
use Rattle.outside.specs.LinksState.{Listening, LinksState}
use Rattle.outside.specs.Binding.{PastLinks, past_with, told_past, StartListening}
use Rattle.machine_model.specs.SeenHall.{MayHave}
use Rattle.port_serving.specs.Places.{HasLinksBack}

row_so : (past : List PastLinks) (over : Bool) (shown : Option (List Mark)) (listens : Option Listening) (listening : Listening) (tape : List Mark)
    → listens ≡ Some listening → MayHave shown tape → HasLinksBack (Some past) (past_with past over shown listens) listening tape over
row_so past over None listens listening tape l m = tt
row_so past over (Some marks) None listening tape l m = tt
row_so past over (Some marks) (Some at) listening tape l m =
    λ k. Some (past ++ record { tape = sym m k; over = over; listening = sym (same_Some at listening l) k } ∷ [])

-- One row more, where it is told.
pub links_back : (before now : Option (List PastLinks)) (listening : Listening) (links : LinksState) (tape : List Mark) → now ≡ told_past before links
    → links.listens ≡ Some listening → MayHave links.tape tape → HasLinksBack before now listening tape links.over
links_back None now listening links tape is l m = subst (λ o. HasLinksBack None o listening tape links.over) (sym is) tt
links_back (Some past) now listening links tape is l m =
    subst (λ o. HasLinksBack (Some past) o listening tape links.over) (sym is) (row_so past links.over links.tape links.listens listening tape l m)

no_marks : (shown : Option (List Mark)) → IfSome shown (λ marks. marks ≡ []) → MayHave shown []
no_marks None e = tt
no_marks (Some marks) e = e

-- The same of links on which nothing has happened.
pub fresh_back : (before now : Option (List PastLinks)) (listening : Listening) (links : LinksState) → StartListening before listening links → now ≡ told_past before links
    → HasLinksBack before now listening [] false
fresh_back before now listening links starts is =
    subst (HasLinksBack before now listening []) starts.fresh.over
    (links_back before now listening links [] is starts.listens (no_marks links.tape starts.fresh.tape))

-- They listen somewhere.
pub they_listen : (listens : Option Listening) (listening : Listening) → listens ≡ Some listening → IsSome listens
they_listen listens listening is = subst IsSome (sym is) refl
