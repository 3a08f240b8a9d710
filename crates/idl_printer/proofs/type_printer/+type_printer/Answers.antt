use Rattle.std.proofs.Common.{◌≡◌, ◌++◌, codes, OnOk, List, ℕ, sym, subst, ap, ◌∙◌}
use Rattle.idl_token.specs.declared.terminal.Terminal.TheVariants as word
use Rattle.idl_token.specs.Words.{keyword_text}
use Rattle.idl_printer.specs.Printed.{type_text}
use Rattle.idl_printer.proofs.TypeTexts.{text_of_map_type, text_of_set_type, text_of_list_type}
use Rattle.idl_printer.proofs.Appends.{put_four, put_six}
use Rattle.idl_printer.proofs.type_printer.+type_printer.Goals as goal

pub returns-in_ok-put_type-in-Map-2 : goal.returns-in_ok-put_type-in-Map-2
returns-in_ok-put_type-in-Map-2 t c =
    subst (λ (text : List ℕ). OnOk c.extend_from_slice-in-Map-3.result (c.extend_from_slice-in-Map-3.new.self.items ≡ c.args.into.now.items ++ text))
    (sym (text_of_map_type c.args.kind.now c.in-Map.field-0 c.in-Map.key c.in-Map.value c.in-Map.is))
    (put_six c.extend_from_slice-in-Map-3.result c.extend_from_slice-in-Map-3.new.self.items c.put_type-in-Map.new.into.items c.extend_from_slice-in-Map-2.new.self.items c.put_type.new.into.items
    c.extend_from_slice-in-Map.new.self.items c.put_word.new.into.items c.args.into.now.items
    (keyword_text word.Map) (codes "<") (type_text c.in-Map.key.value) (codes ", ") (type_text c.in-Map.value.value) (codes ">")
    c.extend_from_slice-in-Map-3.ensures.items (c.in_ok-put_type-in-Map-2.ensures ∙ ap (λ m. c.extend_from_slice-in-Map-2.new.self.items ++ type_text m) c.deref-in-Map.ensures) c.in_ok-extend_from_slice-in-Map-2.ensures.items (c.in_ok-put_type-in-Map.ensures ∙ ap (λ m. c.extend_from_slice-in-Map.new.self.items ++ type_text m) c.deref.ensures)
    c.in_ok-extend_from_slice-in-Map.ensures.items c.in_ok-put_word-in-Map.ensures)

pub returns-in_ok-put_type-in-Set : goal.returns-in_ok-put_type-in-Set
returns-in_ok-put_type-in-Set t c =
    subst (λ (text : List ℕ). OnOk c.extend_from_slice-in-Set-2.result (c.extend_from_slice-in-Set-2.new.self.items ≡ c.args.into.now.items ++ text))
    (sym (text_of_set_type c.args.kind.now c.in-Set.field-0 c.in-Set.member c.in-Set.is))
    (put_four c.extend_from_slice-in-Set-2.result c.extend_from_slice-in-Set-2.new.self.items c.put_type-in-Set.new.into.items c.extend_from_slice-in-Set.new.self.items c.put_word-in-Set.new.into.items
    c.args.into.now.items (keyword_text word.Set) (codes "<") (type_text c.in-Set.member.value) (codes ">")
    c.extend_from_slice-in-Set-2.ensures.items (c.in_ok-put_type-in-Set.ensures ∙ ap (λ m. c.extend_from_slice-in-Set.new.self.items ++ type_text m) c.deref-in-Set.ensures) c.in_ok-extend_from_slice-in-Set.ensures.items c.in_ok-put_word-in-Set.ensures)

pub returns-in_ok-put_type-in-List : goal.returns-in_ok-put_type-in-List
returns-in_ok-put_type-in-List t c =
    subst (λ (text : List ℕ). OnOk c.extend_from_slice-in-List-2.result (c.extend_from_slice-in-List-2.new.self.items ≡ c.args.into.now.items ++ text))
    (sym (text_of_list_type c.args.kind.now c.in-List.field-0 c.in-List.element c.in-List.is))
    (put_four c.extend_from_slice-in-List-2.result c.extend_from_slice-in-List-2.new.self.items c.put_type-in-List.new.into.items c.extend_from_slice-in-List.new.self.items c.put_word-in-List.new.into.items
    c.args.into.now.items (keyword_text word.List) (codes "<") (type_text c.in-List.element.value) (codes ">")
    c.extend_from_slice-in-List-2.ensures.items (c.in_ok-put_type-in-List.ensures ∙ ap (λ m. c.extend_from_slice-in-List.new.self.items ++ type_text m) c.deref-in-List.ensures) c.in_ok-extend_from_slice-in-List.ensures.items c.in_ok-put_word-in-List.ensures)
