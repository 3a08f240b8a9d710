use Rattle.std.proofs.Common.{sym, subst}
use Rattle.idl_include.specs.TypeExpr.{TypeExpr}
use Rattle.idl_include.specs.DeclaredIn.{name_in, type_in}
use Rattle.check_passes.specs.Exceptions.{IsStructMeant}
use Rattle.check_passes.proofs.Thrown.{nameless_is_none, named_is}
use Rattle.check_passes.proofs.thrown_tests.struct_meant.Goals as goal

pub returns-in_ok-meant-in-Some : goal.returns-in_ok-meant-in-Some
returns-in_ok-meant-in-Some c program files right =
    let P : TypeExpr → Type 0 = λ type. IsStructMeant program c.args.file type c.in_ok-meant-in-Some.meant in
    subst P (sym (named_is (type_in c.args.tree.now) (name_in c.in-Some.name.now) (sym c.in-Some.ensures))) (c.in_ok-meant-in-Some.ensures program files right)

pub returns-in-None : goal.returns-in-None
returns-in-None c program files right = nameless_is_none program c.args.file (type_in c.args.tree.now) (sym c.in-None.ensures)
