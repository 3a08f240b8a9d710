use Rattle.binary_codec.specs.Reading.{binary}
use Rattle.binary_codec.specs.Spelling.{binary_format}
use Rattle.binary_codec.specs.Written.{binary_encoder}
use Rattle.compact_codec.specs.Reading.{compact}
use Rattle.compact_codec.specs.Spelling.{compact_format}
use Rattle.compact_codec.specs.Written.{compact_encoder}
use Rattle.client_law.proofs.Each.{each_read, each_written}
use Rattle.client_law.proofs.Heard.{replied_is_heard}
use Rattle.client_law.proofs.Written.{written_or_many}
use Rattle.client_law.proofs.laws.what_is_replied_is_heard.Goals as goal

pub returns : goal.returns
returns c =
    let alike = c.plain_value_is_alike.ensures.measures in
    replied_is_heard c.reply_heads_are_read_back.ensures (each_read c.written_is_read.ensures c.written_is_read-2.ensures)
    (each_written (written_or_many binary binary_format binary_encoder c.parts_agree.ensures c.value_spelled_is_read.ensures c.written_is_spelled.ensures alike)
    (written_or_many compact compact_format compact_encoder c.parts_agree-2.ensures c.value_spelled_is_read-2.ensures c.written_is_spelled-2.ensures alike))
    c.failures_are_read.ensures.whole c.tidy_value_is_well_tagged.ensures c.a_written_value_has_a_meaning.ensures c.heads_are_read_back.ensures
