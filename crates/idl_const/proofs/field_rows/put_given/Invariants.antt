use Rattle.std.proofs.Common.{◌≡◌, ◌++◌, map}
use Rattle.std.specs.VecDeque.{deque_len}
use Rattle.idl_const.specs.FieldEntries.{entry_in, given_entry, given_in_memory}
use Rattle.idl_const.proofs.field_rows.put_given.Given as goal

-- what was put, and what is left to put
abbrev pub invariant-loop-id : goal.invariant-loop-id
invariant-loop-id l = map entry_in l.row.items ++ map given_entry (map given_in_memory l.given.items) ≡ map entry_in l.fn.row.items ++ map given_entry (map given_in_memory l.fn.given.items)

abbrev pub decreases-loop-id : goal.decreases-loop-id
decreases-loop-id l = deque_len l.given
