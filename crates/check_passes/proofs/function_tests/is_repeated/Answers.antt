use Rattle.std.proofs.Common.{ℕ, List, map, subst}
use Rattle.std.specs.Prelude.{◌↔◌, IsTrue}
use Rattle.idl_include.specs.DeclaredIn.{function_in}
use Rattle.idl_include.specs.Cycles.{Inherits}
use Rattle.check_passes.proofs.Repeated.{own_told, inherited_told}
use Rattle.check_passes.proofs.function_tests.is_repeated.Goals as goal

pub returns-then-shown : goal.returns-then-shown
unfolding function_in
returns-then-shown g c program right =
    own_told program c.args.shown.now.service (map function_in c.args.shown.now.before.now) c.args.shown.now.function.now.name.text c.args.shown.now.repeated
    c.args.shown.now.marked c.if-shown.true

pub returns : goal.returns
unfolding function_in
returns g c program right =
    let P : List ℕ → Type 0 = λ name. IsTrue c.inherits.result ↔ Inherits program c.args.shown.now.service name in
    inherited_told program c.args.shown.now.service (map function_in c.args.shown.now.before.now) c.args.shown.now.function.now.name.text c.args.shown.now.repeated
    c.args.shown.now.marked c.if-shown.false c.inherits.result (subst P c.as_slice.ensures (c.inherits.ensures program right))
