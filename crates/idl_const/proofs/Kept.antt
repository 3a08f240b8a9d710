-- What is kept of the parts of a value.
use Rattle.std.proofs.Common.{◌≡◌, ℕ, ℤ, Bool, true, false, cond, List, [], ◌∷◌, ◌++◌, map, length, Option, Some, None, ◌⊎◌, inl, inr, refl, sym, ap, ◌∙◌, subst, arith, rules}
use Rattle.std.specs.List.{find}
use Rattle.std.specs.Option.{option_map_or}
use Rattle.std.specs.Str.{bytes_eq}
use Rattle.idl_token.specs.declared.Place.{Place}
use Rattle.thrift_value.specs.declared.value.Value.{Value}
use Rattle.thrift_value.specs.Tree.{FieldTrees, no_fields, field}
use Rattle.thrift_value.specs.TreeOf.{tree_of, field_tree, field_trees}
use Rattle.idl_parser.specs.declared.tree.Literal.{Literal}
use Rattle.idl_parser.specs.declared.tree.ConstTree.{ConstTree}
use Rattle.idl_parser.specs.declared.tree.ConstTree as of
use Rattle.idl_parser.specs.declared.tree.ConstTree.TheFolds.{the_lemmas}
use Rattle.idl_include.specs.Written.{Written}
use Rattle.idl_include.specs.ConstExpr.{ConstExpr, literal_const}
use Rattle.idl_include.specs.DeclaredIn.{value_in, literal_in}
use Rattle.schema.specs.PlainSchema.{PlainField}
use Rattle.check_model.specs.Worths.{valued, flawed, unknown_field}
use Rattle.check_model.specs.Evaluation.{union_worth, field_of_key}
use Rattle.idl_const.specs.FieldEntries.{given_in_memory, HasFieldId, AreGivenFor, fields_in_front}

-- one field more
pub field_kept : (fs new : List (ℤ × Value)) (id : ℤ) (value : Value) → new ≡ fs ++ (id, value) ∷ [] → (more : FieldTrees)
    → fields_in_front new more ≡ fields_in_front fs (field id (tree_of value) more)
field_kept [] new id value is more = ap (λ l. fields_in_front l more) is
field_kept (f ∷ fs) new id value is more =
    ap (λ l. fields_in_front l more) is ∙ ap (field f.0 (tree_of f.1)) (field_kept fs (fs ++ (id, value) ∷ []) id value refl more)

-- all of them
pub fields_kept : (fs : List (ℤ × Value)) → fields_in_front fs no_fields ≡ field_trees (map field_tree fs)
fields_kept [] = refl
fields_kept (f ∷ fs) = ap (field f.0 (tree_of f.1)) (fields_kept fs)

-- the one field of a union
pub one_given : (items : List (ℤ × Value)) → length items ≡ 1 → (at : Place) (count : ℕ)
    → union_worth (map given_in_memory items) at count ≡ valued (field_trees (map field_tree items)) count
one_given [] e at count = absurd (omega arith)
one_given (x ∷ []) e at count = refl
one_given (x ∷ y ∷ more) e at count = absurd (omega arith)

pub key_is : (key : ConstTree) (literal : Literal) → key ≡ of.Literal literal → value_in key ≡ literal_const (literal_in literal)
key_is key literal is = ap value_in is ∙ search (rules, the_lemmas)

-- a key that names a field, and one that doesn't
pub key_found : (items : List PlainField) (count : ℕ) (key : ConstExpr) (name : Written) (f : PlainField) → key ≡ literal_const name
    → Some f ≡ find (λ (f : PlainField). bytes_eq f.name name.text) items → field_of_key items count key ≡ valued f count
key_found items count key name f is found =
    ap (field_of_key items count) is ∙ ap (λ o. option_map_or (λ (f : PlainField). valued f count) o (flawed name.at unknown_field)) (sym found)

pub key_unknown : (items : List PlainField) (count : ℕ) (key : ConstExpr) (name : Written) → key ≡ literal_const name
    → None ≡ find (λ (f : PlainField). bytes_eq f.name name.text) items → field_of_key items count key ≡ flawed name.at unknown_field
key_unknown items count key name is none =
    ap (field_of_key items count) is ∙ ap (λ o. option_map_or (λ (f : PlainField). valued f count) o (flawed name.at unknown_field)) (sym none)

has_id_by : (b : Bool) (f g : PlainField) (more : List PlainField) (rest : Option PlainField) → (Some g ≡ rest → HasFieldId more g.id)
    → Some g ≡ cond b (Some f) rest → (f.id ≡ g.id) ⊎ HasFieldId more g.id
has_id_by true f g more rest on e = inl (let same : g ≡ f = cc in ap (λ (h : PlainField). h.id) (sym same))
has_id_by false f g more rest on e = inr (on e)

-- a field that is found is one of them
pub found_has_id : (p : PlainField → Bool) (items : List PlainField) (f : PlainField) → Some f ≡ find p items → HasFieldId items f.id
found_has_id p [] f e = cc
found_has_id p (g ∷ more) f e = has_id_by (p g) g f more (find p more) (found_has_id p more f) e

-- one value more is given
pub given_more : (items : List PlainField) (xs new : List (ℤ × Value)) (x : ℤ × Value) → AreGivenFor items (map given_in_memory xs) → HasFieldId items x.0 → new ≡ xs ++ x ∷ []
    → AreGivenFor items (map given_in_memory new)
given_more items [] new x h k is = subst (λ l. AreGivenFor items (map given_in_memory l)) (sym is) (k, tt)
given_more items (y ∷ xs) new x h k is =
    subst (λ l. AreGivenFor items (map given_in_memory l)) (sym is) (h.0, given_more items xs (xs ++ x ∷ []) x h.1 k refl)
