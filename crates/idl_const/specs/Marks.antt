-- Marks of the given values that aren't under evaluation. Of a chain of mere names its end alone is entered.
use Rattle.std.specs.Prelude.{◌≡◌, ⊤, ℕ, zero, suc, Bool, true, false, List, [], ◌∷◌, slice_get, slice_set, Option, Some, None, MatchOption, Result, Ok, Err}
use Rattle.idl_token.specs.declared.Place.{Place}
use Rattle.thrift_value.specs.Tree.{Tree}
use Rattle.schema.specs.PlainKind.{PlainKind}
use Rattle.idl_include.specs.Spots.{values_of}
use Rattle.check_model.specs.Worths.{Worth, flawed, const_cycle, unknown_name}
use Rattle.check_model.specs.Scalars.{enum_worth}
use Rattle.check_model.specs.Evaluation.{Setting, NamedWorth, single, on_entering, is_free}
use Rattle.idl_const.specs.declared.chains.ChainEnd.{ChainEnd}
use Rattle.idl_const.specs.declared.chains.ChainEnd.TheVariants as ends
use Rattle.idl_const.specs.declared.faults.ConstStop.{ConstStop}
use Rattle.idl_const.specs.ChainEnds.{chain_end_of}
use Rattle.idl_const.specs.Flaws.{flaw_of}

-- how many are free
abbrev pub free_count : List Bool → ℕ
free_count [] = 0
free_count (true ∷ more) = suc (free_count more)
free_count (false ∷ more) = free_count more

-- no place
abbrev pub no_place : Place
no_place = record { line = 0; column = 0 }

-- what a chain is worth that ends somewhere, with what given values that are no names are worth
abbrev pub end_worth : NamedWorth → PlainKind → ℕ → ℕ → Option ChainEnd → Worth Tree
end_worth entered kind levels count None = flawed no_place const_cycle
end_worth entered kind levels count (Some ends.Unknown) = flawed no_place unknown_name
end_worth entered kind levels count (Some (ends.Number which n)) = single no_place count (enum_worth kind which n)
end_worth entered kind levels count (Some (ends.Value which)) = entered which kind levels count

-- what given values are worth by the ends of their chains
abbrev pub worth_by_end : Setting → NamedWorth → NamedWorth
worth_by_end s entered which kind levels count = end_worth entered kind levels count (chain_end_of s.program which)

-- what given values are worth that are entered, where so many are free, at most
unfoldable pub entered_worth : Setting → ℕ → List Bool → NamedWorth
entered_worth s zero free which kind levels count = flawed no_place const_cycle
entered_worth s (suc left) free which kind levels count =
    on_entering s (worth_by_end s (entered_worth s left (slice_set free which false))) (is_free free which) (slice_get (values_of s.program) which) kind levels count

-- what they are worth where these are free
unfoldable pub entered_where : Setting → List Bool → NamedWorth
entered_where s free = entered_worth s (free_count free) free

-- What given values are worth where these are free, each at the end of its chain.
unfoldable pub worth_where : Setting → List Bool → NamedWorth
worth_where s free = worth_by_end s (entered_where s free)

-- what became of the marks where a value is entered: it was free, and isn't any longer
abbrev pub EntersGiven : ℕ → Place → Result ⊤ ConstStop → List Bool → List Bool → Type 0
EntersGiven which at (Ok done) free after = (is_free free which ≡ true) × (after ≡ slice_set free which false)
EntersGiven which at (Err stop) free after =
    MatchOption (flaw_of stop.fault) ⊤ (λ flaw. (stop.at ≡ at) × (flaw ≡ const_cycle) × (is_free free which ≡ false))
