use Rattle.std.proofs.Common.{◌≡◌, ◌<◌, ◌^◌, true, drop}
use Rattle.std.specs.List.{list_all}
use Rattle.command_line.specs.Numbers.{digits_behind, is_decimal_digit}
use Rattle.command_line.proofs.numbers.digits_number.Given as goal

-- the number so far, with the digits that are left behind it, is the number of all; and it has no more digits than were read
abbrev pub invariant-loop-digit : goal.invariant-loop-digit
invariant-loop-digit l =
    (digits_behind l.number (drop l.digit-index l.digits) ≡ digits_behind 0 l.digits)
    × (l.number < 10 ^ l.digit-index)
    × (list_all is_decimal_digit (drop l.digit-index l.digits) ≡ true)
