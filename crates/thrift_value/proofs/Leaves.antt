-- What holds of the tree of each number, bool and text holds of a value that is one of them.
use Rattle.std.specs.Prelude.{◌⊎◌}
use Rattle.std.proofs.Common.{◌≡◌, ℕ, ℤ, Bool, List, sym, ap, ◌∙◌, subst, inl, inr}
use Rattle.thrift_value.specs.declared.value.Value as value
use Rattle.thrift_value.specs.declared.value.Value.{Value}
use Rattle.thrift_value.specs.Tree.{Tree, of_bool, of_i8, of_i16, of_i32, of_i64, of_double, of_uuid, of_bytes}
use Rattle.thrift_value.specs.TreeOf.{tree_of}
use Rattle.thrift_value.proofs.Trees.{tree_of-Bool, tree_of-I8, tree_of-I16, tree_of-I32, tree_of-I64, tree_of-Double, tree_of-Uuid, tree_of-Bytes}

-- Q holds of each tree without trees below it
pub record IsOfLeaves (Q : Tree → Type 0) : Type 0 where
  pub bool : (b : Bool) → Q (of_bool b)
  pub i8 : (n : ℤ) → Q (of_i8 n)
  pub i16 : (n : ℤ) → Q (of_i16 n)
  pub i32 : (n : ℤ) → Q (of_i32 n)
  pub i64 : (n : ℤ) → Q (of_i64 n)
  pub double : (n : ℕ) → Q (of_double n)
  pub uuid : (n : ℕ) → Q (of_uuid n)

module _ (Q : Tree → Type 0) (is : IsOfLeaves Q) (v : Value) where
  -- of a number, a bool or a uuid
  pub of_number : ((b : Bool) × (v ≡ value.Bool b)) ⊎ (((n : ℤ) × (v ≡ value.I8 n)) ⊎ (((n : ℤ) × (v ≡ value.I16 n)) ⊎ (((n : ℤ) × (v ≡ value.I32 n))
      ⊎ (((n : ℤ) × (v ≡ value.I64 n)) ⊎ (((n : ℕ) × (v ≡ value.Double n)) ⊎ ((n : ℕ) × (v ≡ value.Uuid n))))))) → Q (tree_of v)
  of_number h = elim h [
    | inl a ↦ subst Q (sym (ap tree_of a.1 ∙ tree_of-Bool a.0)) (is.bool a.0)
    | inr h1 ↦ elim h1 [
      | inl a ↦ subst Q (sym (ap tree_of a.1 ∙ tree_of-I8 a.0)) (is.i8 a.0)
      | inr h2 ↦ elim h2 [
        | inl a ↦ subst Q (sym (ap tree_of a.1 ∙ tree_of-I16 a.0)) (is.i16 a.0)
        | inr h3 ↦ elim h3 [
          | inl a ↦ subst Q (sym (ap tree_of a.1 ∙ tree_of-I32 a.0)) (is.i32 a.0)
          | inr h4 ↦ elim h4 [
            | inl a ↦ subst Q (sym (ap tree_of a.1 ∙ tree_of-I64 a.0)) (is.i64 a.0)
            | inr h5 ↦ elim h5 [
              | inl a ↦ subst Q (sym (ap tree_of a.1 ∙ tree_of-Double a.0)) (is.double a.0)
              | inr a ↦ subst Q (sym (ap tree_of a.1 ∙ tree_of-Uuid a.0)) (is.uuid a.0)
            ]
          ]
        ]
      ]
    ]
  ]

  -- of a number, a bool, a uuid or a text
  pub of_leaf : ((text : List ℕ) → Q (of_bytes text)) → ((b : Bool) × (v ≡ value.Bool b)) ⊎ (((n : ℤ) × (v ≡ value.I8 n)) ⊎ (((n : ℤ) × (v ≡ value.I16 n)) ⊎ (((n : ℤ) × (v ≡ value.I32 n))
      ⊎ (((n : ℤ) × (v ≡ value.I64 n)) ⊎ (((n : ℕ) × (v ≡ value.Double n)) ⊎ (((n : ℕ) × (v ≡ value.Uuid n)) ⊎ ((text : List ℕ) × (v ≡ value.Bytes text)))))))) → Q (tree_of v)
  of_leaf bytes h = elim h [
    | inl a ↦ of_number (inl a)
    | inr h1 ↦ elim h1 [
      | inl a ↦ of_number (inr (inl a))
      | inr h2 ↦ elim h2 [
        | inl a ↦ of_number (inr (inr (inl a)))
        | inr h3 ↦ elim h3 [
          | inl a ↦ of_number (inr (inr (inr (inl a))))
          | inr h4 ↦ elim h4 [
            | inl a ↦ of_number (inr (inr (inr (inr (inl a)))))
            | inr h5 ↦ elim h5 [
              | inl a ↦ of_number (inr (inr (inr (inr (inr (inl a))))))
              | inr h6 ↦ elim h6 [
                | inl a ↦ of_number (inr (inr (inr (inr (inr (inr a))))))
                | inr a ↦ subst Q (sym (ap tree_of a.1 ∙ tree_of-Bytes a.0)) (bytes a.0)
              ]
            ]
          ]
        ]
      ]
    ]
  ]
