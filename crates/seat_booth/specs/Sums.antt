-- A running sum: its step, and what calls add to it.
use Rattle.std.specs.Prelude.{◌≡◌, ℕ, ◌+◌, ◌%◌, ◌^◌, List}
use Rattle.call_history.specs.declared.seat_call.SeatCall.{SeatCall}
use Rattle.seat_booth.specs.Weight.{total}

-- a number is added modulo 2^64, and the reply is the new sum
abbrev pub Adds : ℕ → ℕ → ℕ → ℕ → Type 0
Adds before n reply after = (reply ≡ (before + n) % 2 ^ 64) × (after ≡ reply)

-- the sum of the numbers that the calls added
abbrev pub added : List (SeatCall ℕ ℕ ℕ) → ℕ
added log = total (λ e. e.op) log
