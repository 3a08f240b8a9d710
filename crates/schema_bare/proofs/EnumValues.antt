-- The values of an enum of a schema, one more at a time.
use Rattle.std.proofs.Common.{◌≡◌, ◌≤◌, ◌<◌, ◌+◌, ◌++◌, ℕ, ℤ, pos, zero, suc, List, [], ◌∷◌, map, length, get_or, take, drop, refl, ap, sym, ◌∙◌, append_assoc, arith}
use Rattle.std.proofs.lemmas.List.{append-nil, map-append, take_all}
use Rattle.idl_parser.specs.declared.tree.EnumValue.{EnumValue}
use Rattle.idl_parser.specs.declared.tree.Enum.{Enum}
use Rattle.idl_include.specs.DeclaredIn.{enum_value_in}
use Rattle.idl_names.proofs.Marked.{left_more}
use Rattle.idl_names.proofs.Listed.{past_end}
use Rattle.idl_names.specs.declared.filed.InFile.{InFile}
use Rattle.idl_names.specs.FiledIn.{filed_by, filed_enums, enum_declared}
use Rattle.schema.specs.declared.types.EnumDesc.{EnumDesc}
use Rattle.schema.specs.PlainSchema.{PlainEnum}
use Rattle.schema.specs.SchemaOf.{plain_enum}
use Rattle.check_model.specs.SchemaParts.{named_numbers, enum_made}
use Rattle.schema_bare.proofs.Zipped.{mapped_push, taken_push}

-- a name with its number
abbrev pub NamedNumber : Type 0
NamedNumber = List ℕ × ℤ

at_place : (ns : List ℤ) (i : ℕ) (n : ℤ) → i < length ns → n ≡ get_or ns i (pos 0) → n ≡ get_or ns i n
at_place [] i n m is = absurd (omega arith)
at_place (k ∷ ns) zero n m is = is
at_place (k ∷ ns) (suc i) n m is = at_place ns i n (omega arith) is

pub value_next : (values : List EnumValue) (numbers : List ℤ) (i : ℕ) (x : EnumValue) (name : List ℕ) (n : ℤ) (old new all : List NamedNumber)
    → i < length values → x ≡ get_or values i x → i < length numbers → n ≡ get_or numbers i (pos 0) → name ≡ x.name.text → new ≡ old ++ (name, n) ∷ []
    → old ++ named_numbers (map enum_value_in (drop i values)) (drop i numbers) ≡ all
    → new ++ named_numbers (map enum_value_in (drop (i + 1) values)) (drop (i + 1) numbers) ≡ all
value_next values numbers i x name n old new all l here m is named pushed so_far =
    let rest : List NamedNumber = named_numbers (map enum_value_in (drop (i + 1) values)) (drop (i + 1) numbers) in
    let one : List NamedNumber = (x.name.text, n) ∷ [] in
    ap (λ (vs : List NamedNumber). vs ++ rest) pushed
    ∙ ap (λ (t : List ℕ). (old ++ (t, n) ∷ []) ++ rest) named
    ∙ append_assoc old one rest
    ∙ sym (λ j. old ++ named_numbers (map enum_value_in (left_more values i x l here j)) (left_more numbers i n m (at_place numbers i n m is) j))
    ∙ so_far

pub values_end : (values : List EnumValue) (numbers : List ℤ) (i : ℕ) (list all : List NamedNumber) → length values ≤ i
    → list ++ named_numbers (map enum_value_in (drop i values)) (drop i numbers) ≡ all → list ≡ all
values_end values numbers i list all past so_far =
    sym (append-nil list)
    ∙ ap (λ (vs : List NamedNumber). list ++ vs) (sym (none_named (drop i numbers)))
    ∙ sym (ap (λ (vs : List EnumValue). list ++ named_numbers (map enum_value_in vs) (drop i numbers)) (past_end values i past))
    ∙ so_far
  where
    none_named : (ns : List ℤ) → named_numbers [] ns ≡ []
    none_named [] = refl
    none_named (n ∷ ns) = refl

-- ---- enums

pub enum_next : (given : List (InFile Enum)) (i : ℕ) (x : InFile Enum) (one : EnumDesc) (old new : List EnumDesc) → i < length given → x ≡ get_or given i x → new ≡ old ++ one ∷ []
    → plain_enum one ≡ enum_made (filed_by enum_declared x) → map plain_enum old ≡ map enum_made (filed_enums (take i given))
    → map plain_enum new ≡ map enum_made (filed_enums (take (i + 1) given))
enum_next given i x one old new l here pushed own so_far =
    mapped_push plain_enum old new one pushed
    ∙ (λ j. so_far j ++ own j ∷ [])
    ∙ sym (ap (map enum_made) (taken_push (filed_by enum_declared) given i x l here) ∙ map-append enum_made (filed_enums (take i given)) (filed_by enum_declared x ∷ []))

pub enums_end : (given : List (InFile Enum)) (n : ℕ) (ps : List PlainEnum) → length given ≤ n → ps ≡ map enum_made (filed_enums (take n given)) → ps ≡ map enum_made (filed_enums given)
enums_end given n ps past so_far = so_far ∙ ap (λ (es : List (InFile Enum)). map enum_made (filed_enums es)) (take_all n given past)
