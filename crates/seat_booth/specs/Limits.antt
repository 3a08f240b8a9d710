-- The words of a booth's table, and how many seats and calls a booth may have.
use Rattle.std.specs.Prelude.{ℕ, ◌^◌}

-- the word that has the next ticket
abbrev pub ticket_word : ℕ
ticket_word = 0

-- the word that has the ticket whose turn it is
abbrev pub serving_word : ℕ
serving_word = 16

-- the first of the words that waiting threads sleep on, which are the last ones
abbrev pub first_sleeper : ℕ
first_sleeper = 32

-- how many words there are
abbrev pub word_count : ℕ
word_count = 96

-- the most seats of a booth
abbrev pub most_seats : ℕ
most_seats = 64

-- the most calls of a booth
abbrev pub most_calls : ℕ
most_calls = 2 ^ 62
