-- The values of enums by name, one more at a time.
use Rattle.std.proofs.Common.{◌≡◌, ◌≤◌, ◌<◌, ◌+◌, ℕ, ℤ, zero, suc, Bool, true, false, cond, List, [], ◌∷◌, ◌++◌, map, length, get_or, take, slice_get, Option, None, Some, refl, ap, sym, subst, ◌∙◌, arith, zero-add}
use Rattle.std.specs.Option.{option_map, option_or, option_and_then}
use Rattle.std.specs.List.{position_from}
use Rattle.std.specs.Str.{bytes_eq}
use Rattle.std.proofs.lemmas.List.{length-take-le}
use Rattle.idl_parser.specs.declared.tree.Enum.{Enum}
use Rattle.idl_parser.specs.declared.tree.EnumValue.{EnumValue}
use Rattle.idl_include.specs.Declarations.{EnumDecl, EnumValueDecl}
use Rattle.idl_include.specs.DeclaredIn.{enum_value_in}
use Rattle.idl_include.specs.Numbering.{Filed}
use Rattle.idl_include.specs.EnumNumbers.{enum_numbers}
use Rattle.idl_include.specs.ConstNames.{number_of_value}
use Rattle.idl_names.specs.declared.filed.InFile.{InFile}
use Rattle.idl_names.specs.FiledIn.{filed_by, enum_declared}
use Rattle.idl_names.specs.NameMaps.{NameMap, number_of_name, number_if, HasOneMore}
use Rattle.idl_names.proofs.Numbered.{position_one_more}
use Rattle.idl_names.proofs.Marked.{taken_more}
use Rattle.idl_names.proofs.Found.{position_map}
use Rattle.idl_names.proofs.Based.{zip_push, take_past}
use Rattle.const_evaluator.specs.declared.enum_tables.EnumTable.{EnumTable}
use Rattle.const_evaluator.specs.EnumTables.{number_in_tables, number_by_name, IsTableOf, IsTableOfEnum, AreTablesOf}

-- ---- the place of a name, and the number that stands there

pub shifted : {A : Type 0} (p : A → Bool) (i : ℕ) (xs : List A) → position_from p (suc i) xs ≡ option_map suc (position_from p i xs)
shifted p i [] = refl
shifted {A} p i (x ∷ xs) = by (p x) (let e : suc i + 1 ≡ suc (i + 1) = omega arith in ap (λ k. position_from p k xs) e ∙ shifted p (i + 1) xs)
  where
    by : (b : Bool) → position_from p (suc i + 1) xs ≡ option_map suc (position_from p (i + 1) xs)
        → cond b (Some (suc i)) (position_from p (suc i + 1) xs) ≡ option_map suc (cond b (Some i) (position_from p (i + 1) xs))
    by true e = refl
    by false e = e

none_there : {A : Type 0} (o : Option ℕ) → option_and_then (slice_get {X = A} []) o ≡ None
none_there None = refl
none_there (Some k) = refl

pub one_on : {A : Type 0} (n : A) (ns : List A) (o : Option ℕ) → option_and_then (slice_get ns) o ≡ option_and_then (slice_get (n ∷ ns)) (option_map suc o)
one_on n ns None = refl
one_on n ns (Some k) = refl

numbered : (name : List ℕ) (vs : List EnumValueDecl) (ns : List ℤ)
    → number_of_value vs ns name ≡ option_and_then (slice_get ns) (position_from (λ (v : EnumValueDecl). bytes_eq v.name.text name) 0 vs)
numbered name [] ns = refl
numbered name (v ∷ vs) [] = sym (none_there (position_from (λ (w : EnumValueDecl). bytes_eq w.name.text name) 0 (v ∷ vs)))
numbered name (v ∷ vs) (n ∷ ns) = by (bytes_eq v.name.text name) (numbered name vs ns)
  where
    by : (b : Bool) → number_of_value vs ns name ≡ option_and_then (slice_get ns) (position_from (λ (w : EnumValueDecl). bytes_eq w.name.text name) 0 vs)
        → cond b (Some n) (number_of_value vs ns name)
        ≡ option_and_then (slice_get (n ∷ ns)) (cond b (Some 0) (position_from (λ (w : EnumValueDecl). bytes_eq w.name.text name) 1 vs))
    by true e = refl
    by false e =
        e
        ∙ one_on n ns (position_from (λ (w : EnumValueDecl). bytes_eq w.name.text name) 0 vs)
        ∙ ap (option_and_then (slice_get (n ∷ ns))) (sym (shifted (λ (w : EnumValueDecl). bytes_eq w.name.text name) 0 vs))

-- places by name are those of the first values
abbrev pub FindsValues : NameMap → List EnumValue → Type 0
FindsValues m values = (name : List ℕ) → number_of_name m name ≡ position_from (λ (v : EnumValue). bytes_eq v.name.text name) 0 values

pub value_found_next : (values : List EnumValue) (n number : ℕ) (x : EnumValue) (text : List ℕ) (old new : NameMap) → n < length values → x ≡ get_or values n x → number ≡ n
    → text ≡ x.name.text → HasOneMore text number old new → FindsValues old (take n values) → FindsValues new (take (n + 1) values)
value_found_next values n number x text old new l here counted named more so_far name =
    let test : EnumValue → Bool = λ v. bytes_eq v.name.text name in
    let place : number ≡ 0 + length (take n values) = counted ∙ sym (zero-add (length (take n values)) ∙ length-take-le n values (omega arith)) in
    more name
    ∙ (λ i. option_or (so_far name i) (number_if (bytes_eq (named i) name) (place i)))
    ∙ sym (position_one_more test 0 (take n values) x)
    ∙ ap (position_from test 0) (sym (taken_more values n x l here))

pub table_is : (values : List EnumValue) (places : NameMap) (numbers : List ℤ) → FindsValues places values → numbers ≡ enum_numbers (map enum_value_in values)
    → (name : List ℕ) → option_and_then (slice_get numbers) (number_of_name places name) ≡ number_by_name name (map enum_value_in values)
table_is values places ns found numbers name =
    (λ i. option_and_then (slice_get (numbers i)) (found name i))
    ∙ ap (option_and_then (slice_get (enum_numbers (map enum_value_in values)))) (sym (position_map enum_value_in (λ (v : EnumValueDecl). bytes_eq v.name.text name) 0 values))
    ∙ sym (numbered name (map enum_value_in values) (enum_numbers (map enum_value_in values)))

-- ---- tables, one after another

pub tables_next : (enums : List (InFile Enum)) (i : ℕ) (x : InFile Enum) (values : List EnumValue) (table : EnumTable) (old new : List EnumTable) → i < length enums → x ≡ get_or enums i x
    → values ≡ x.item.now.values.items → IsTableOf values table → new ≡ old ++ table ∷ [] → AreTablesOf (take i enums) old → AreTablesOf (take (i + 1) enums) new
tables_next enums i x values table old new l here own is pushed so_far =
    let P : List EnumTable → Type 0 = λ ts. AreTablesOf (take (i + 1) enums) ts in
    let Q : List (InFile Enum) → Type 0 = λ es. AreTablesOf es (old ++ table ∷ []) in
    let R : List EnumValue → Type 0 = λ vs. IsTableOf vs table in
    subst P (sym pushed) (subst Q (sym (taken_more enums i x l here)) (zip_push IsTableOfEnum old (take i enums) table x so_far (subst R own is)))

pub tables_end : (enums : List (InFile Enum)) (tables : List EnumTable) (i : ℕ) → length enums ≤ i → AreTablesOf (take i enums) tables → AreTablesOf enums tables
tables_end enums tables i past h = subst (λ (es : List (InFile Enum)). AreTablesOf es tables) (take_past enums i past) h

in_tables : (enums : List (InFile Enum)) (tables : List EnumTable) → AreTablesOf enums tables → (which : ℕ) (name : List ℕ)
    → number_in_tables tables which name ≡ option_and_then (λ (e : Filed EnumDecl). number_by_name name e.item.values) (slice_get (map (filed_by enum_declared) enums) which)
in_tables [] [] h which name = refl
in_tables [] (t ∷ tables) h which name = absurd h
in_tables (e ∷ enums) [] h which name = absurd h
in_tables (e ∷ enums) (t ∷ tables) h zero name = h.0 name
in_tables (e ∷ enums) (t ∷ tables) h (suc which) name = in_tables enums tables h.1 which name

-- the tables of the enums of a program
pub numbers_found : (enums : List (InFile Enum)) (all : List (Filed EnumDecl)) (tables : List EnumTable) → map (filed_by enum_declared) enums ≡ all → AreTablesOf enums tables
    → (which : ℕ) (name : List ℕ) → number_in_tables tables which name ≡ option_and_then (λ (e : Filed EnumDecl). number_by_name name e.item.values) (slice_get all which)
numbers_found enums all tables is h which name =
    in_tables enums tables h which name
    ∙ ap (λ (es : List (Filed EnumDecl)). option_and_then (λ (e : Filed EnumDecl). number_by_name name e.item.values) (slice_get es which)) is
