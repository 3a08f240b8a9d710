-- Two types, of which values of the first are written and read as the second.
use Rattle.std.specs.Prelude.{ℕ, Bool, true, false, ◌&&◌, List, [], ◌∷◌, Option, Some, None}
use Rattle.schema.specs.PlainKind.{PlainKind, kind_struct, kind_map, kind_set, kind_list}
use Rattle.known_parts.specs.Parts.{tag_of_kind, are_same_tags}

-- no struct, union or exception stands in a type, at any depth
abbrev pub has_no_struct : PlainKind → Bool
has_no_struct (kind_struct _) = false
has_no_struct (kind_map key value) = has_no_struct key && has_no_struct value
has_no_struct (kind_set member) = has_no_struct member
has_no_struct (kind_list element) = has_no_struct element
has_no_struct _ = true

-- the tags agree, where an enum is a number of 32 bits and a text is bytes, and the types of elements are alike in turn. A key or a
-- member in which a struct stands is like none, since fields that the reader doesn't know could make two of them one (own choice)
abbrev pub are_like : PlainKind → PlainKind → Bool
are_like (kind_map key value) (kind_map other_key other_value) =
    ((has_no_struct key && has_no_struct other_key) && are_like key other_key) && are_like value other_value
are_like (kind_set member) (kind_set other) = (has_no_struct member && has_no_struct other) && are_like member other
are_like (kind_list element) (kind_list other) = are_like element other
are_like kind other = are_same_tags (tag_of_kind kind) (tag_of_kind other)

-- the structs at like places of two types, from the left
abbrev pub struct_places : PlainKind → PlainKind → List (ℕ × ℕ)
struct_places (kind_struct which) (kind_struct other) = (which, other) ∷ []
struct_places (kind_map _ value) (kind_map _ other) = struct_places value other
struct_places (kind_list element) (kind_list other) = struct_places element other
struct_places _ _ = []

-- two results, each of which may be none
abbrev pub are_like_results : Option PlainKind → Option PlainKind → Bool
are_like_results None None = true
are_like_results (Some kind) (Some other) = are_like kind other
are_like_results _ _ = false

-- the structs at like places of two results
abbrev pub result_places : Option PlainKind → Option PlainKind → List (ℕ × ℕ)
result_places (Some kind) (Some other) = struct_places kind other
result_places _ _ = []
