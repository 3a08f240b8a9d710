-- The marks at a place of a list.
use Rattle.std.proofs.Common.{◌≡◌, ◌<◌, ◌+◌, ◌++◌, ℕ, ℤ, pos, ◌+ℤ◌, zero, suc, Bool, false, Option, None, Some, List, [], ◌∷◌, map, length, get_or, take, refl, ap, sym, ◌∙◌, arith, append_assoc, add-zero, zero-add}
use Rattle.std.proofs.lemmas.List.{append-nil}
use Rattle.std.specs.Ordering.{int_eq}
use Rattle.std.specs.List.{list_any}
use Rattle.idl_parser.specs.declared.tree.Field.{Field}
use Rattle.idl_parser.specs.declared.tree.Function.{Function}
use Rattle.idl_parser.specs.declared.tree.EnumValue.{EnumValue}
use Rattle.idl_parser.specs.declared.tree.Definition.{Definition}
use Rattle.idl_include.specs.Declarations.{FieldDecl, EnumValueDecl, declared_name}
use Rattle.idl_include.specs.DeclaredIn.{field_in, function_in, enum_value_in, definition_in}
use Rattle.idl_include.specs.EnumNumbers.{number_or, next_number}
use Rattle.idl_include.specs.FieldIds.{id_behind, one_more_unnumbered, unnumbered_in, ids_behind, field_ids}
use Rattle.idl_include.specs.Loading.{is_among}
use Rattle.idl_names.specs.declared.fields.FieldMarks.{FieldMarks}
use Rattle.idl_names.specs.Before.{texts_of, name_marks, id_marks}
use Rattle.idl_names.specs.EnumRange.{has_32_bits, fits_enum, fit_marks}
use Rattle.idl_names.specs.Functions.{function_names}
use Rattle.idl_names.specs.FieldMarks.{field_texts, IsFieldMark, AreFieldMarks}

-- ---- lists

pub map_take : {A B : Type 0} (g : A → B) (xs : List A) (i : ℕ) → map g (take i xs) ≡ take i (map g xs)
map_take g [] zero = refl
map_take g [] (suc i) = refl
map_take g (x ∷ xs) zero = refl
map_take g (x ∷ xs) (suc i) = ap (λ ys. g x ∷ ys) (map_take g xs i)

pub get_map : {A B : Type 0} (g : A → B) (xs : List A) (i : ℕ) (d : A) (e : B) → i < length xs → get_or (map g xs) i e ≡ g (get_or xs i d)
get_map g [] i d e l = absurd (omega arith)
get_map g (x ∷ xs) zero d e l = refl
get_map g (x ∷ xs) (suc i) d e l = get_map g xs i d e (omega arith)

pub map_length : {A B : Type 0} (g : A → B) (xs : List A) → length (map g xs) ≡ length xs
map_length g [] = refl
map_length g (x ∷ xs) = ap suc (map_length g xs)

-- ---- names

pub name_mark_at : (before names : List (List ℕ)) (i : ℕ) (d : List ℕ) → i < length names
    → get_or (name_marks before names) i false ≡ is_among (get_or names i d) (before ++ take i names)
name_mark_at before [] i d l = absurd (omega arith)
name_mark_at before (n ∷ names) zero d l = ap (is_among n) (sym (append-nil before))
name_mark_at before (n ∷ names) (suc i) d l =
    name_mark_at (before ++ n ∷ []) names i d (omega arith)
    ∙ ap (is_among (get_or names i d)) (append_assoc before (n ∷ []) (take i names))

pub texts_in_fields : (fields : List Field) → texts_of (map (λ (f : FieldDecl). f.name) (map field_in fields)) ≡ field_texts fields
unfolding field_in
texts_in_fields [] = refl
texts_in_fields (f ∷ fields) = ap (λ ts. f.name.text ∷ ts) (texts_in_fields fields)

-- ---- ids

pub id_mark_at : (before ids : List ℤ) (i : ℕ) (d : ℤ) → i < length ids → get_or (id_marks before ids) i false ≡ list_any (int_eq (get_or ids i d)) (before ++ take i ids)
id_mark_at before [] i d l = absurd (omega arith)
id_mark_at before (n ∷ ids) zero d l = ap (list_any (int_eq n)) (sym (append-nil before))
id_mark_at before (n ∷ ids) (suc i) d l =
    id_mark_at (before ++ n ∷ []) ids i d (omega arith)
    ∙ ap (list_any (int_eq (get_or ids i d))) (append_assoc before (n ∷ []) (take i ids))

one_more_later : (n u : ℕ) (o : Option ℤ) → n + one_more_unnumbered u o ≡ one_more_unnumbered n o + u
one_more_later n u None = omega arith
one_more_later n u (Some id) = refl

id_at : (u : ℕ) (fields : List FieldDecl) (i : ℕ) (d : FieldDecl) → i < length fields
    → get_or (ids_behind u fields) i (pos 0) ≡ id_behind (unnumbered_in (take i fields) + u) (get_or fields i d).id
id_at u [] i d l = absurd (omega arith)
id_at u (f ∷ fields) zero d l = ap (λ n. id_behind n f.id) (sym (zero-add u))
id_at u (f ∷ fields) (suc i) d l =
    id_at (one_more_unnumbered u f.id) fields i d (omega arith)
    ∙ ap (λ n. id_behind n (get_or fields i d).id) (one_more_later (unnumbered_in (take i fields)) u f.id)

ids_take : (u : ℕ) (fields : List FieldDecl) (i : ℕ) → take i (ids_behind u fields) ≡ ids_behind u (take i fields)
ids_take u [] zero = refl
ids_take u [] (suc i) = refl
ids_take u (f ∷ fields) zero = refl
ids_take u (f ∷ fields) (suc i) = ap (λ ids. id_behind u f.id ∷ ids) (ids_take (one_more_unnumbered u f.id) fields i)

ids_length : (u : ℕ) (fields : List FieldDecl) → length (ids_behind u fields) ≡ length fields
ids_length u [] = refl
ids_length u (f ∷ fields) = ap suc (ids_length (one_more_unnumbered u f.id) fields)

-- ---- fields

pub field_mark_at : (fields : List Field) (marks : FieldMarks) (i : ℕ) (name : Bool) (id : ℤ) (repeated : Bool) (field : Field) → AreFieldMarks fields marks → i < length fields
    → name ≡ get_or marks.names.items i false → id ≡ get_or marks.ids.items i (pos 0) → repeated ≡ get_or marks.repeats.items i false
    → IsFieldMark (take i fields) (get_or fields i field) (record { repeated_name = name; id = id; repeated_id = repeated })
unfolding field_ids
field_mark_at fields marks i name id repeated field are l name_is id_is repeated_is =
    let decls : List FieldDecl = map field_in fields in
    let texts : field_texts (take i fields) ≡ take i (field_texts fields) = map_take (λ (f : Field). f.name.text) fields i in
    let shorter : i < length decls = omega (arith, map_length field_in fields) in
    let ids_are : marks.ids.items ≡ ids_behind 0 decls = are.ids in
    let inside : i < length marks.ids.items = omega (arith, ap length ids_are, ids_length 0 decls, shorter) in
    let in_names : i < length (field_texts fields) = omega (arith, map_length (λ (f : Field). f.name.text) fields) in
    record {
      name =
          name_is
          ∙ ap (λ ms. get_or ms i false) are.names
          ∙ name_mark_at [] (field_texts fields) i field.name.text in_names
          ∙ (λ j. is_among (get_map (λ (f : Field). f.name.text) fields i field field.name.text l j) (sym texts j))
          ∙ ap (is_among (get_or fields i field).name.text) (sym (texts_in_fields (take i fields)));
      id =
          id_is
          ∙ ap (λ ms. get_or ms i (pos 0)) ids_are
          ∙ id_at 0 decls i (field_in field) shorter
          ∙ ap (λ n. id_behind n (get_or decls i (field_in field)).id) (add-zero (unnumbered_in (take i decls)))
          ∙ (λ j. id_behind (unnumbered_in (sym (map_take field_in fields i) j)) (get_map field_in fields i field (field_in field) l j).id);
      repeated =
          repeated_is
          ∙ ap (λ ms. get_or ms i false) are.repeats
          ∙ id_mark_at [] marks.ids.items i (pos 0) inside
          ∙ (λ j. list_any (int_eq (sym id_is j)) ((ap (take i) ids_are ∙ ids_take 0 decls i ∙ ap (ids_behind 0) (sym (map_take field_in fields i))) j));
    }

-- ---- names of other lists

pub marked_at : {D : Type 0} (text : D → List ℕ) (xs before : List D) (texts : List (List ℕ)) (i : ℕ) (x : D) (repeated : Bool) → i < length xs → before ≡ take i xs
    → texts ≡ map text before → repeated ≡ get_or (name_marks [] (map text xs)) i false → repeated ≡ is_among (text (get_or xs i x)) texts
marked_at {D} text xs before texts i x repeated l e f r =
    let inside : i < length (map text xs) = omega (arith, map_length text xs) in
    r ∙ name_mark_at [] (map text xs) i (text x) inside
    ∙ (λ j. is_among (get_map text xs i x (text x) l j) (sym (f ∙ ap (map text) e ∙ map_take text xs i) j))

pub texts_in_values : (values : List EnumValue) → texts_of (map (λ (v : EnumValueDecl). v.name) (map enum_value_in values)) ≡ map (λ (v : EnumValue). v.name.text) values
texts_in_values [] = refl
texts_in_values (v ∷ values) = ap (λ ts. v.name.text ∷ ts) (texts_in_values values)

pub texts_in_functions : (functions : List Function) → function_names (map function_in functions) ≡ map (λ (f : Function). f.name.text) functions
unfolding function_in
texts_in_functions [] = refl
texts_in_functions (f ∷ functions) = ap (λ ts. f.name.text ∷ ts) (texts_in_functions functions)

pub texts_in_definitions : (definitions : List Definition) → texts_of (map (λ d. declared_name (definition_in d)) definitions) ≡ map (λ d. (declared_name (definition_in d)).text) definitions
texts_in_definitions [] = refl
texts_in_definitions (d ∷ definitions) = ap (λ ts. (declared_name (definition_in d)).text ∷ ts) (texts_in_definitions definitions)

-- ---- numbers of enums

fit_at : (next : ℤ) (values : List EnumValueDecl) (i : ℕ) (d : EnumValueDecl) → i < length values
    → get_or (fit_marks next values) i false ≡ has_32_bits (number_or (next_number next (take i values)) (get_or values i d).number)
fit_at next [] i d l = absurd (omega arith)
fit_at next (v ∷ values) zero d l = refl
fit_at next (v ∷ values) (suc i) d l = fit_at (number_or next v.number +ℤ pos 1) values i d (omega arith)

pub fits_at : (values before : List EnumValue) (i : ℕ) (v : EnumValue) (fits : Bool) → i < length values → before ≡ take i values
    → fits ≡ get_or (fit_marks (pos 0) (map enum_value_in values)) i false → fits ≡ fits_enum (map enum_value_in before) (enum_value_in (get_or values i v))
fits_at values before i v fits l e r =
    let inside : i < length (map enum_value_in values) = omega (arith, map_length enum_value_in values) in
    r ∙ fit_at (pos 0) (map enum_value_in values) i (enum_value_in v) inside
    ∙ (λ j. fits_enum (sym (ap (map enum_value_in) e ∙ map_take enum_value_in values i) j) (get_map enum_value_in values i v (enum_value_in v) l j))
