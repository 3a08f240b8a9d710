-- What evaluating comes to: something, with how many values were evaluated by then, or the first fault.
use Rattle.std.specs.Prelude.{ℕ, zero, suc, Bool, true, false, nat_le}
use Rattle.idl_token.specs.declared.Place.{Place}
use Rattle.limits.specs.Limits.{most_values, most_levels}

-- why a constant value can't be evaluated
pub data ConstFlaw : Type 0 where
  wrong_kind : ConstFlaw
  out_of_range : ConstFlaw
  unknown_name : ConstFlaw
  double_constant : ConstFlaw
  bad_uuid : ConstFlaw
  const_cycle : ConstFlaw
  unknown_field : ConstFlaw
  missing_field : ConstFlaw
  too_large : ConstFlaw

-- what was made, and how many values were evaluated by then; or a place and what is wrong there
pub data Worth (A : Type 0) : Type 0 where
  valued : A → ℕ → Worth A
  flawed : Place → ConstFlaw → Worth A

-- one part and then the next
abbrev pub and_next : {A B : Type 0} → Worth A → (A → ℕ → Worth B) → Worth B
and_next (valued x count) next = next x count
and_next (flawed at flaw) next = flawed at flaw

-- a fault in what a name stands for, or in a default, is at the name, or at the `{` that takes the default
abbrev pub seen_at : {A : Type 0} → Place → Worth A → Worth A
seen_at at (valued x count) = valued x count
seen_at at (flawed inside flaw) = flawed at flaw

-- only where something holds, else a fault
abbrev pub only_if : {A : Type 0} → Bool → Place → ConstFlaw → Worth A → Worth A
only_if true at flaw worth = worth
only_if false at flaw worth = flawed at flaw

-- how many values a constant has at most, itself included
unfoldable pub most_const_values : ℕ
most_const_values = most_values

-- how many levels of structs and containers a constant has at most
unfoldable pub most_const_levels : ℕ
most_const_levels = most_levels

-- one value more behind so many
abbrev pub one_more : {A : Type 0} → Place → ℕ → (ℕ → Worth A) → Worth A
one_more at count next = only_if (nat_le (suc count) most_const_values) at too_large (next (suc count))

-- one level less than so many, where one is left
abbrev pub one_level : {A : Type 0} → Place → ℕ → (ℕ → Worth A) → Worth A
one_level at zero next = flawed at too_large
one_level at (suc left) next = next left
