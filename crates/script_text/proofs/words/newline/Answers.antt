use Rattle.script_text.specs.TextLines.{is_line_end}
use Rattle.script_text.proofs.Finding.{first_is_position}
use Rattle.script_text.proofs.words.newline.Goals as goal

pub returns : goal.returns
returns c = first_is_position is_line_end c.args.text.now c.memchr.result c.memchr.ensures
