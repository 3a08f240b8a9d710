-- What the values of a program are worth, or their first fault.
use Rattle.std.specs.Prelude.{◌≡◌, ⊤, List, map, MatchOption, Result, Ok, Err}
use Rattle.std.specs.List.{AllZip}
use Rattle.thrift_value.specs.declared.value.Value.{Value}
use Rattle.thrift_value.specs.Tree.{Tree}
use Rattle.thrift_value.specs.TreeOf.{tree_of}
use Rattle.idl_token.specs.declared.Place.{Place}
use Rattle.idl_include.specs.Program.{Program}
use Rattle.idl_include.specs.Numbering.{Filed}
use Rattle.idl_include.specs.Spots.{GivenValue, value_spot, values_of}
use Rattle.schema.specs.PlainKind.{PlainKind}
use Rattle.schema.specs.PlainSchema.{PlainSchema}
use Rattle.check_model.specs.Resolved.{TypeMeans}
use Rattle.check_model.specs.SchemaParts.{IsPartialSchema}
use Rattle.check_model.specs.ProgramSchema.{HasWorth}
use Rattle.check_model.specs.Passes.{bad_constant, HasConstFlaw}
use Rattle.check_model.specs.FirstFlaw.{ProgramFlaw, IsValueFlaw, FindsNothing}
use Rattle.idl_const.specs.declared.faults.ConstFault.{ConstFault}
use Rattle.idl_const.specs.Flaws.{flaw_of}
use Rattle.idl_names.specs.declared.spot.GivenTree.{GivenTree}
use Rattle.idl_names.specs.SpotsIn.{filed_value}

-- a given value is worth this against its type
pub record HasOwnWorth (program : Program) (v : Filed GivenValue) (value : Tree) : Type 0 where
  pub schema : PlainSchema
  pub made : IsPartialSchema program schema
  pub kind : PlainKind
  pub means : TypeMeans program v.file v.item.type kind
  pub worth : HasWorth (record { program = program; schema = schema }) v kind value

-- What evaluating a given value answers: what it is worth, or the place of its first fault and what is wrong there.
abbrev pub IsGivenWorth : Program → Filed GivenValue → Result Value (Place × ConstFault) → Type 0
IsGivenWorth program v (Ok value) = HasOwnWorth program v (tree_of value)
IsGivenWorth program v (Err e) = MatchOption (flaw_of e.1) ⊤ (HasConstFlaw program v.file v.item e.0)

-- given values of a program in memory
abbrev pub AreGivenValues : Program → List GivenTree → Type 0
AreGivenValues program values = map filed_value values ≡ values_of program

-- the flaw is that of a given value
abbrev pub IsFlawAt : Program → Filed GivenValue → ProgramFlaw → Type 0
IsFlawAt program v flaw = IsValueFlaw program v.file (value_spot v.item) flaw

-- No given value has a fault, and these are what they are worth, in order.
abbrev pub AreWorth : Program → List Value → Type 0
AreWorth program made = FindsNothing program bad_constant × AllZip (HasOwnWorth program) (values_of program) (map tree_of made)
