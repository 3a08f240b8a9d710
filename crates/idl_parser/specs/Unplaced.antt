-- A place that stands for none.
use Rattle.idl_token.specs.declared.Place.{Place}

-- a place that no text has
abbrev pub nowhere : Place
nowhere = record { line = 0; column = 0 }
