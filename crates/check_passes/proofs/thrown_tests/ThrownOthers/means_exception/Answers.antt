use Rattle.std.proofs.Common.{subst}
use Rattle.idl_include.specs.DeclaredIn.{type_in}
use Rattle.check_passes.specs.Exceptions.{IsStructMeant}
use Rattle.check_passes.proofs.Thrown.{none_told, exception_told}
use Rattle.check_passes.proofs.thrown_tests.ThrownOthers.means_exception.Goals as goal

pub returns-in-Some : goal.returns-in-Some
returns-in-Some c program files structs aliases =
    exception_told program c.args.file (type_in c.args.tree.now) c.args.self.now.structs.now c.in-Some.number c.is_exception.result structs c.is_exception.ensures
    (subst (IsStructMeant program c.args.file (type_in c.args.tree.now)) c.in-Some.is (c.in_ok-meant.ensures program files aliases))

pub returns-in-None : goal.returns-in-None
returns-in-None c program files structs aliases =
    none_told program c.args.file (type_in c.args.tree.now)
    (subst (IsStructMeant program c.args.file (type_in c.args.tree.now)) c.in-None.is (c.in_ok-meant.ensures program files aliases))
