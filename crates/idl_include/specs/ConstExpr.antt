-- Constant values as they are written (Thrift IDL, 'Constant Values').
use Rattle.std.specs.Prelude.{ℤ}
use Rattle.idl_token.specs.declared.Place.{Place}
use Rattle.idl_include.specs.Written.{Written}

mutual
  -- a value, with the place of its first byte
  pub data ConstExpr : Type 0 where
    -- an integer; `true` and `false` are 1 and 0
    int_const : ℤ → Place → ConstExpr
    -- a number with a fraction or an exponent, by its bytes
    double_const : Written → ConstExpr
    literal_const : Written → ConstExpr
    name_const : Written → ConstExpr
    -- a list in brackets
    list_const : Place → ConstItems → ConstExpr
    -- keys and values in braces
    map_const : Place → ConstEntries → ConstExpr

  -- the values of a list, in order
  pub data ConstItems : Type 0 where
    no_consts : ConstItems
    const_item : ConstExpr → ConstItems → ConstItems

  -- keys with their values, in order
  pub data ConstEntries : Type 0 where
    no_entries : ConstEntries
    const_entry : ConstExpr → ConstExpr → ConstEntries → ConstEntries

-- the place where a value begins
abbrev pub place_of_const : ConstExpr → Place
place_of_const (int_const _ at) = at
place_of_const (double_const digits) = digits.at
place_of_const (literal_const literal) = literal.at
place_of_const (name_const name) = name.at
place_of_const (list_const at _) = at
place_of_const (map_const at _) = at
