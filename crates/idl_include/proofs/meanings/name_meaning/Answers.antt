use Rattle.std.proofs.Common.{ℕ, List, refl, ap, sym, ◌∙◌}
use Rattle.std.specs.Str.{bytes_eq}
use Rattle.std.specs.List.{list_any}
use Rattle.idl_include.specs.Readings.{includes_itself, same_base}
use Rattle.idl_include.specs.declared.faults.LoadKind.TheVariants as kinds
use Rattle.idl_include.specs.declared.sources.IdlFile.{IdlFile}
use Rattle.idl_include.proofs.Included.{case_of_cycle, case_of_before, case_of_base, case_of_new, number_within, refused_by, is_none_by}
use Rattle.idl_include.proofs.meanings.name_meaning.Goals as goal

pub returns-then-is_open : goal.returns-then-is_open
returns-then-is_open c = refused_by _ kinds.Cycle includes_itself refl (case_of_cycle _ _ _ (sym c.if-is_open.true ∙ c.is_open.ensures)) refl refl

pub returns-in-Some : goal.returns-in-Some
returns-in-Some c =
    (case_of_before _ _ _ c.in-Some.number (sym c.if-is_open.false ∙ c.is_open.ensures) c.in-Some.ensures, number_within _ _ c.in-Some.number c.in-Some.ensures)

pub returns-then-has_base : goal.returns-then-has_base
returns-then-has_base c =
    let e = ap (λ (b : List ℕ). list_any (λ (f : IdlFile). bytes_eq f.base b) c.args.begun.now) c.base_name.ensures in
    refused_by _ kinds.SameBase same_base refl
    (case_of_base _ _ _ c.requires (sym c.if-is_open.false ∙ c.is_open.ensures) (is_none_by c.number_of.result c.in_default.not-Some ∙ c.number_of.ensures)
    (sym c.if-has_base.true ∙ c.has_base.ensures ∙ e)) refl refl

pub returns : goal.returns
returns c =
    let e = ap (λ (b : List ℕ). list_any (λ (f : IdlFile). bytes_eq f.base b) c.args.begun.now) c.base_name.ensures in
    case_of_new _ _ _ c.requires (sym c.if-is_open.false ∙ c.is_open.ensures) (is_none_by c.number_of.result c.in_default.not-Some ∙ c.number_of.ensures)
    (sym c.if-has_base.false ∙ c.has_base.ensures ∙ e)
