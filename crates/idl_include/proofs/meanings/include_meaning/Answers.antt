use Rattle.std.proofs.Common.{refl, ap, sym, ◌∙◌}
use Rattle.idl_include.specs.FileNames.{included_name}
use Rattle.idl_include.specs.Readings.{bad_name}
use Rattle.idl_include.specs.declared.faults.LoadKind.TheVariants as kinds
use Rattle.idl_include.specs.Begun.{written_in, include_meant}
use Rattle.idl_include.proofs.Included.{case_of_bad, not_utf8, meant_is, refused_by, refused_at, refused_meant, new_name}
use Rattle.idl_include.proofs.meanings.include_meaning.Goals as goal

pub returns-in_default : goal.returns-in_default
returns-in_default c =
    let w = written_in c.args.wanted.now in
    let m = include_meant c.args.above.now.items c.args.file.now w c.args.begun.now in
    refused_at c.args.file.now w.at m kinds.BadName c.stop_at.result
    (refused_by m kinds.BadName bad_name refl (case_of_bad w.text c.args.above.now.items c.args.begun.now _ (not_utf8 c.as_slice.result.now w.text c.as_slice.ensures c.in_default.ensures.cases.0)) refl refl)
    c.stop_at.ensures

pub returns-in-Refused : goal.returns-in-Refused
returns-in-Refused c =
    let w = written_in c.args.wanted.now in
    let m = include_meant c.args.above.now.items c.args.file.now w c.args.begun.now in
    let same = meant_is c.args.above.now.items c.args.file.now w c.args.begun.now c.as_bytes.result.now c.in-Ok.literal.now c.as_slice.result.now c.in-Ok.ensures.cases.1 c.as_slice.ensures
    c.in-Ok.ensures.cases.0 (c.as_bytes.ensures.value ∙ c.in_ok-name.ensures) in
    refused_at c.args.file.now w.at m c.in-Refused.kind c.stop_at-in-Refused.result (refused_meant _ m c.in-Refused.kind same c.in-Refused.ensures) c.stop_at-in-Refused.ensures

pub returns-in-Before : goal.returns-in-Before
returns-in-Before c =
    let w = written_in c.args.wanted.now in
    let same = meant_is c.args.above.now.items c.args.file.now w c.args.begun.now c.as_bytes.result.now c.in-Ok.literal.now c.as_slice.result.now c.in-Ok.ensures.cases.1 c.as_slice.ensures
    c.in-Ok.ensures.cases.0 (c.as_bytes.ensures.value ∙ c.in_ok-name.ensures) in
    (sym same ∙ c.in-Before.ensures.0, c.in-Before.ensures.1)

pub returns-in-New : goal.returns-in-New
returns-in-New c =
    let w = written_in c.args.wanted.now in
    let same = meant_is c.args.above.now.items c.args.file.now w c.args.begun.now c.as_bytes.result.now c.in-Ok.literal.now c.as_slice.result.now c.in-Ok.ensures.cases.1 c.as_slice.ensures
    c.in-Ok.ensures.cases.0 (c.as_bytes.ensures.value ∙ c.in_ok-name.ensures) in
    let named = c.in_ok-name.ensures ∙ ap (included_name c.args.file.now) (c.in-Ok.ensures.cases.0 ∙ c.as_slice.ensures) in
    (sym same ∙ c.in-New.ensures.0, named, new_name c.args.begun.now c.args.begun.now c.as_bytes.result.now _ refl (sym (c.as_bytes.ensures.value ∙ named)) c.in-New.ensures.1)
