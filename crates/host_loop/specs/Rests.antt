-- The places of rest that links noted: nothing was owed there, and where a connection was held, the frames under way ask for more than the budget.
use Rattle.std.specs.Prelude.{◌≡◌, ℕ, true, List, ◌++◌, length}
use Rattle.std.specs.List.{AllByRecursion}
use Rattle.streams.specs.declared.marks.Mark.{Mark}
use Rattle.streams.specs.declared.rest_place.RestPlace.{RestPlace}
use Rattle.host_model.specs.Journal.{JournalEntry}
use Rattle.host_model.specs.DeskRules.{DeskRules}
use Rattle.machine_model.specs.Resting.{IsPlaceOfRest}
use Rattle.script_model.specs.RestLines.{IsOverBudget}

module _ {C A : Type 0} (d : DeskRules C A) (budget : ℕ) (tape : List Mark) (journal : List (JournalEntry C A)) where
  -- A place of rest of this run: each open connection was sent all its replies by then, and calls whose frames were whole by then stand in the journal before
  -- those whose frames weren't; where a connection was held there, the whole sizes of the frames under way add up to more than the budget.
  pub record IsNotedRest (noted : RestPlace) : Type 0 where
    pub front : List Mark
    pub back : List Mark
    pub split : tape ≡ front ++ back
    pub place : length front ≡ noted.place
    pub at_rest : IsPlaceOfRest d journal front
    pub over_budget : noted.held ≡ true → IsOverBudget d.max budget front

  -- each of these is one
  abbrev pub AreNotedRests : List RestPlace → Type 0
  AreNotedRests places = AllByRecursion IsNotedRest places
