-- What is known of arguments that may go out.
use Rattle.std.proofs.Common.{◌≡◌, ℕ, true, List, refl}
use Rattle.std.specs.Prelude.{nat_le, ◌&&◌, is_ok}
use Rattle.std.proofs.lemmas.Bool.{and_parts, leb-true, false≢true}
use Rattle.limits.specs.Limits.{most_levels, most_values}
use Rattle.schema.specs.PlainKind.{kind_struct}
use Rattle.schema.specs.PlainSchema.{PlainSchema, PlainStruct}
use Rattle.struct_skew.specs.Projection.{projection}
use Rattle.struct_skew.specs.TidyTests.{is_tidy, has_small_sizes}
use Rattle.struct_skew.specs.WrittenTests.{is_written_as, may_be_written}
use Rattle.struct_skew.proofs.Deciding.{decides_sizes, decides_tidy}
use Rattle.thrift_value.specs.declared.tag.Tag.TheVariants.{Struct}
use Rattle.thrift_value.specs.Measures.{count_of, depth_of}
use Rattle.thrift_value.specs.Tags.{tag_of}
use Rattle.thrift_value.specs.Tree.{Tree, of_struct}
use Rattle.client_desk.specs.Asking.{is_small, may_go_out, GoesOut}

-- what is written as a struct is one
pub struct_written : (structs : List PlainStruct) (which : ℕ) (args : Tree) → is_written_as structs (kind_struct which) args ≡ true → tag_of args ≡ Struct
struct_written structs which (of_struct sent) is = refl
struct_written structs which _ is = absurd (false≢true is)

pub goes_out : (s : PlainSchema) (which : ℕ) (args : Tree) → may_go_out s which args ≡ true → GoesOut args
unfolding may_go_out
goes_out s which args is =
    let tidied = and_parts (is_tidy args) (is_small args && (may_be_written s.structs (kind_struct which) args && is_ok (projection s which args))) is in
    let sized = and_parts (is_small args) (may_be_written s.structs (kind_struct which) args && is_ok (projection s which args)) tidied.1 in
    let small = and_parts (nat_le (depth_of args) most_levels) (nat_le (count_of args) most_values) sized.0 in
    let written = and_parts (may_be_written s.structs (kind_struct which) args) (is_ok (projection s which args)) sized.1 in
    let fits = and_parts (is_written_as s.structs (kind_struct which) args) (has_small_sizes args) written.0 in
    record {
      is_struct = struct_written s.structs which args fits.0;
      tidy = (decides_tidy args).0 tidied.0;
      depth = leb-true (depth_of args) most_levels small.0;
      count = leb-true (count_of args) most_values small.1;
      sizes = (decides_sizes args).0 fits.1;
    }
