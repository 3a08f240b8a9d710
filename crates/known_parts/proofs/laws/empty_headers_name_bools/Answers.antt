use Rattle.std.proofs.Common.{sym}
use Rattle.known_parts.proofs.laws.empty_headers_name_bools.Goals as goal

pub returns : goal.returns
returns g c = record {
  items = λ before after tag sized is.
      let found = c.parts_agree.ensures.items.found before after (tag, 0) sized is in
      sym (c.parts_agree.ensures.items_range tag 0 found.text found.spells).1;
  pairs = λ before after key value sized is.
      let found = c.parts_agree.ensures.pairs.found before after (key, value, 0) sized is in
      let range = c.parts_agree.ensures.pairs_range key value 0 found.text found.spells in
      (sym range.1, sym range.2);
}
