use Rattle.std.proofs.Common.{sym, subst}
use Rattle.std.specs.Prelude.{◌↔◌, not, IsTrue}
use Rattle.idl_parser.specs.declared.tree.StructKind.{StructKind}
use Rattle.check_model.specs.Passes.{NeedsFiniteValue, HasNoFiniteValue}
use Rattle.check_passes.proofs.Endless.{endless_told}
use Rattle.check_passes.proofs.struct_tests.is_endless.Goals as goal

pub returns-in-Struct : goal.returns-in-Struct
returns-in-Struct c program right =
    let P : StructKind → Type 0 = λ kind. IsTrue (not c.is_marked.result) ↔ (NeedsFiniteValue kind × HasNoFiniteValue program c.args.number) in
    subst P (sym c.in-Struct.is) (endless_told program c.args.finite.now c.args.number c.is_marked.result right c.is_marked.ensures)

pub returns-in-Exception : goal.returns-in-Exception
returns-in-Exception c program right =
    let P : StructKind → Type 0 = λ kind. IsTrue (not c.is_marked-in-Exception.result) ↔ (NeedsFiniteValue kind × HasNoFiniteValue program c.args.number) in
    subst P (sym c.in-Exception.is)
    (endless_told program c.args.finite.now c.args.number c.is_marked-in-Exception.result right c.is_marked-in-Exception.ensures)
