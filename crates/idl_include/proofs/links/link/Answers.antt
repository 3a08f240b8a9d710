use Rattle.std.proofs.Common.{is_ok}
use Rattle.idl_include.proofs.Linked.{keeps_at, links_at}
use Rattle.idl_include.proofs.links.link.Goals as goal

pub returns-clause-keeps : goal.returns-clause-keeps
returns-clause-keeps c =
    keeps_at (is_ok c.add_include.result) c.args.begun.now.items c.args.of c.args.number c.index_mut.result.now c.add_include.new.file c.requires.begun c.requires.of c.requires.number
    c.index_mut.ensures.value c.add_include.ensures

pub returns-clause-linked : goal.returns-clause-linked
returns-clause-linked c =
    links_at c.add_include.result c.args.begun.now.items c.args.of c.args.number c.index_mut.result.now c.add_include.new.file c.index_mut.ensures.value c.add_include.ensures
