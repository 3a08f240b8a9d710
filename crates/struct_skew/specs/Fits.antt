-- Which raw values count under a type.
use Rattle.std.specs.Prelude.{Bool, true, ◌&&◌}
use Rattle.thrift_value.specs.Tags.{tag_of}
use Rattle.thrift_value.specs.Tree.{Tree, of_map, of_set, of_list, ItemTrees, no_items, item, PairTrees, no_pairs, pair}
use Rattle.schema.specs.PlainKind.{PlainKind, kind_map, kind_set, kind_list}
use Rattle.known_parts.specs.Parts.{tag_of_kind, are_same_tags}

-- each element passes a test
abbrev pub each_item : (Tree → Bool) → ItemTrees → Bool
each_item test no_items = true
each_item test (item value more) = test value && each_item test more

-- each key passes one test, and each value another
abbrev pub each_pair : (Tree → Bool) → (Tree → Bool) → PairTrees → Bool
each_pair key_test value_test no_pairs = true
each_pair key_test value_test (pair key value more) = (key_test key && value_test value) && each_pair key_test value_test more

-- a raw value fits a type: the tags agree, and each element of a container fits its declared type, deeply; so an empty container
-- fits whatever tags it names, and a struct whatever its fields are (own choice: generated readers look at no element's type)
abbrev pub fits_kind : PlainKind → Tree → Bool
fits_kind (kind_map key value) (of_map _ _ pairs) = each_pair (fits_kind key) (fits_kind value) pairs
fits_kind (kind_set member) (of_set _ items) = each_item (fits_kind member) items
fits_kind (kind_list element) (of_list _ items) = each_item (fits_kind element) items
fits_kind kind value = are_same_tags (tag_of_kind kind) (tag_of value)
