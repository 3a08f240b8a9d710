use Rattle.std.proofs.Common.{rules}
use Rattle.idl_names.proofs.MarksAt.{field_mark_at}
use Rattle.idl_names.proofs.fields.mark_at.Goals as goal

pub returns : goal.returns
returns c field =
    field_mark_at c.args.fields.now c.args.marks.now c.args.place c.flag_at.result _ c.flag_at-2.result field c.requires.marks c.requires.place
    (search (rules, c.flag_at.ensures, c.as_slice.ensures.value)) (search (rules, c.number_at.ensures, c.as_slice-2.ensures.value)) (search (rules, c.flag_at-2.ensures, c.as_slice-3.ensures.value))
