-- What the readers of the code answer, where a definition says what is read.
use Rattle.std.specs.Prelude.{◌≡◌, ⊤, ℕ, Result, Ok, Err}
use Rattle.value_text.specs.declared.stop.TextStop.{TextStop}
use Rattle.value_text.specs.declared.stop.TextStop.TheVariants as stop
use Rattle.value_text.specs.declared.fault.TextFault.{TextFault}
use Rattle.value_text.specs.declared.fault.TextFault.TheVariants as fault

-- the reading stops with so many bytes left; want of memory tells nothing
abbrev pub LeavesAs : {Y : Type 0} → TextStop → Result Y ℕ → Type 0
LeavesAs stop.NoMemory reading = ⊤
LeavesAs (stop.Left left) reading = reading ≡ Err left

-- what was answered, seen by view, is what is read, with bytes left at a fault
abbrev pub Gives : {X Y : Type 0} → (X → Y) → Result X TextStop → Result Y ℕ → Type 0
Gives view (Ok x) reading = reading ≡ Ok (view x)
Gives view (Err stop) reading = LeavesAs stop reading

-- the reading has its fault there; want of memory tells nothing
abbrev pub FaultsAs : {Y : Type 0} → TextFault → Result Y ℕ → Type 0
FaultsAs fault.NoMemory reading = ⊤
FaultsAs (fault.At place) reading = reading ≡ Err place

-- what was answered, seen by view, is what is read, with the place of a fault; want of memory is free
abbrev pub Answers : {X Y : Type 0} → (X → Y) → Result X TextFault → Result Y ℕ → Type 0
Answers view (Ok x) reading = reading ≡ Ok (view x)
Answers view (Err fault) reading = FaultsAs fault reading
