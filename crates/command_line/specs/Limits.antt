-- The limits that options set: the longest payload and the read budget.
use Rattle.std.specs.Prelude.{ℕ, nat_le, ◌&&◌, List, [], ◌∷◌, codes, Option, None, Some, option_and_then, if◌then◌else◌}
use Rattle.limits.specs.Limits.{usual_payload}
use Rattle.call_rules.specs.Desks.{longest_payload}
use Rattle.conn_table.specs.declared.run_limits.Limits.{Limits}
use Rattle.command_line.specs.Numbers.{number_of_word}
use Rattle.command_line.specs.Options.{Sayings}

-- the number of an option that may be left out, by its value and what it is without one
abbrev pub number_given : ℕ → List (List ℕ) → Option ℕ
number_given usual [] = Some usual
number_given usual (value ∷ []) = number_of_word value
number_given usual _ = None

-- the longest payload, and the read budget, which is no less
abbrev pub limits_of_numbers : ℕ → ℕ → Option Limits
limits_of_numbers most budget =
    if nat_le 1 most && (nat_le most budget && nat_le budget longest_payload) then Some (record { max_frame = most; read_budget = budget }) else None

-- the limits by the values of the options: usually 16,384,000 and 268,435,456
abbrev pub limits_given : List (List ℕ) → List (List ℕ) → Option Limits
limits_given max_frames read_budgets =
    option_and_then (λ most. option_and_then (λ budget. limits_of_numbers most budget) (number_given longest_payload read_budgets))
    (number_given usual_payload max_frames)

-- the limits that are said
abbrev pub limits_said : Sayings → Option Limits
limits_said said = limits_given (said (codes "max-frame")) (said (codes "read-budget"))
