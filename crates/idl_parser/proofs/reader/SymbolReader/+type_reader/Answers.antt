use Rattle.std.proofs.Common.{◌≡◌, ◌-◌, suc, sym, subst, arith}
use Rattle.idl_parser.specs.Types.{inner_type, type_of, bare_type}
use Rattle.idl_parser.specs.Reading.{read}
use Rattle.idl_parser.specs.ReaderCalls.{Parses, StopsAt, most}
use Rattle.idl_parser.specs.Trees.{type_node}
use Rattle.idl_parser.proofs.reader.SymbolReader.+type_reader.Goals as goal

pub inner_type-returns-then-levels-eq0 : goal.inner_type-returns-then-levels-eq0
unfolding inner_type
inner_type-returns-then-levels-eq0 t c =
    subst (λ k. StopsAt c.no_level.result (read most (inner_type k) c.args.self.now) c.args.self.now) (sym c.if-levels-eq0.true) c.no_level.ensures

pub inner_type-returns : goal.inner_type-returns
unfolding inner_type type_of bare_type
inner_type-returns t c =
    let e : c.args.levels ≡ suc (c.args.levels - 1) = omega arith in
    subst (λ k. Parses (inner_type k) type_node c.args.self.now c.container.new.self c.container.result) (sym e) c.container.ensures
