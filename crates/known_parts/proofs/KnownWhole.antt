-- The known part of the struct at a place.
use Rattle.std.proofs.Common.{◌≡◌, ℕ, ◌-◌, ◌≤◌, List, length, Result, Ok, Err, Some, refl, sym, ap, subst, ◌∙◌, arith}
use Rattle.thrift_value.specs.declared.tag.Tag.TheVariants as tags
use Rattle.thrift_value.specs.declared.wire_fault.WireFault.{WireFault}
use Rattle.thrift_value.specs.Measures.{count_of, depth_of}
use Rattle.thrift_value.specs.Tags.{tag_of}
use Rattle.thrift_value.specs.Tree.{Tree, of_bool, of_i8, of_i16, of_i32, of_i64, of_double, of_bytes, of_struct, of_map, of_set, of_list, of_uuid, FieldTrees}
use Rattle.schema.specs.PlainKind.{PlainKind, kind_struct}
use Rattle.schema.specs.PlainSchema.{PlainSchema}
use Rattle.wire_model.specs.Decoder.{Unread, go_on, give}
use Rattle.wire_model.specs.Place.{placed, IsWithinBounds}
use Rattle.wire_walk.proofs.PassedOver.{Reading}
use Rattle.known_parts.specs.Known.{known, known_fields}
use Rattle.known_parts.specs.KnownAt.{read_seen, known_struct, known_found}

-- what an answer has, else another
abbrev found_or : {A : Type 0} → A → Result A WireFault → A
found_or other (Ok x) = x
found_or other (Err fault) = other

module _ (s : PlainSchema) (which : ℕ) where
  pub whole_seen : (whole : Reading Tree) (r : Reading FieldTrees) → whole ≡ go_on r (λ fields. give (of_struct fields))
      → read_seen (known_struct s which) whole ≡ read_seen of_struct (read_seen (known_fields s which) r)
  whole_seen whole r is = ap (read_seen (known_struct s which)) is ∙ parts r
    where
      parts : (m : Reading FieldTrees) → read_seen (known_struct s which) (go_on m (λ fields. give (of_struct fields))) ≡ read_seen of_struct (read_seen (known_fields s which) m)
      parts (Ok x) = refl
      parts (Err fault) = refl

  pub placed_known : (size : ℕ) (r : Reading Tree) → placed size (read_seen (known_struct s which) r) ≡ known_found s which (placed size r)
  placed_known size (Ok x) = refl
  placed_known size (Err fault) = refl

  -- what was read, where this is known of it
  pub was_read : (r : Reading Tree) (t : Tree) (after : Unread) (P : Unread → Type 0) → read_seen (known_struct s which) r ≡ Ok (t, after)
      → ((x : Tree) (behind : Unread) → r ≡ Ok (x, behind) → P behind) → P after
  was_read (Ok x) t after P e each = subst P (ap (λ (q : Reading Tree). (found_or {A = Tree × Unread} (known_struct s which x.0, x.1) q).1) e) (each x.0 x.1 refl)
  was_read (Err fault) t after P e each = absurd cc

  -- the known part of a struct is within its bounds
  part_bounded : (x : Tree) → ((raw part : Tree) (kind : PlainKind) → known s raw kind ≡ Some part → depth_of part ≤ depth_of raw)
      → ((raw part : Tree) (kind : PlainKind) → known s raw kind ≡ Some part → count_of part ≤ count_of raw) → IsWithinBounds x → IsWithinBounds (known_struct s which x)
  part_bounded (of_struct fields) deep many within =
      let d = deep (of_struct fields) (of_struct (known_fields s which fields)) (kind_struct which) refl in
      let n = many (of_struct fields) (of_struct (known_fields s which fields)) (kind_struct which) refl in
      record { is_struct = refl; depth = omega (arith, d, within.depth); count = omega (arith, n, within.count) }
  part_bounded (of_bool _) deep many within = within
  part_bounded (of_i8 _) deep many within = within
  part_bounded (of_i16 _) deep many within = within
  part_bounded (of_i32 _) deep many within = within
  part_bounded (of_i64 _) deep many within = within
  part_bounded (of_double _) deep many within = within
  part_bounded (of_uuid _) deep many within = within
  part_bounded (of_bytes _) deep many within = within
  part_bounded (of_map _ _ _) deep many within = within
  part_bounded (of_set _ _) deep many within = within
  part_bounded (of_list _ _) deep many within = within

  pub found_bounded : (r : Result (Tree × ℕ) WireFault) (t : Tree) (behind : ℕ) → ((raw part : Tree) (kind : PlainKind) → known s raw kind ≡ Some part → depth_of part ≤ depth_of raw)
      → ((raw part : Tree) (kind : PlainKind) → known s raw kind ≡ Some part → count_of part ≤ count_of raw) → ((x : Tree) (place : ℕ) → r ≡ Ok (x, place) → IsWithinBounds x)
      → known_found s which r ≡ Ok (t, behind) → IsWithinBounds t
  found_bounded (Ok x) t behind deep many law e = subst IsWithinBounds (ap (λ (q : Result (Tree × ℕ) WireFault). (found_or {A = Tree × ℕ} (known_struct s which x.0, x.1) q).0) e) (part_bounded x.0 deep many (law x.0 x.1 refl))
  found_bounded (Err fault) t behind deep many law e = absurd cc
