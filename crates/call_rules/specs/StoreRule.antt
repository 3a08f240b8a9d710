-- How the store answers: texts by their keys. And the mirror, which keeps nothing.
use Rattle.std.specs.Prelude.{ℕ, List, codes, Option, None, Some, if◌then◌else◌, pos}
use Rattle.std.specs.Str.{bytes_eq}
use Rattle.thrift_value.specs.declared.tag.Tag.TheVariants.{Bytes}
use Rattle.thrift_value.specs.Tree.{Tree, of_bytes, of_list}
use Rattle.call_rules.specs.PlainCalls.{PlainAnswer, success, empty, broken}
use Rattle.call_rules.specs.Handled.{Handled, keeping, or_broken}
use Rattle.call_rules.specs.Memories.{pairs_in, texts_by, value_at_key, pairs_with, pairs_without, map_keys_of}
use Rattle.call_rules.specs.Arguments.{argument, first_value, fields_in, bytes_passed}

-- a value, where there is one
abbrev pub found_or_empty : Option Tree → PlainAnswer
found_or_empty None = empty
found_or_empty (Some value) = success value

-- the text that is kept under a key
abbrev pub kept_at : Tree → List ℕ → PlainAnswer
kept_at memory key = found_or_empty (value_at_key (of_bytes key) (pairs_in memory))

-- the memory with this text under the key
unfoldable pub memory_with : Tree → List ℕ → List ℕ → Tree
memory_with memory key text = texts_by Bytes (pairs_with (of_bytes key) (of_bytes text) (pairs_in memory))

-- get(key)
unfoldable pub get_answered : Tree → Tree → Handled
get_answered memory args = or_broken memory (bytes_passed (argument (pos 1) args)) (λ key. keeping memory (kept_at memory key))

-- put(key, value)
unfoldable pub put_answered : Tree → Tree → Handled
put_answered memory args =
    or_broken memory (bytes_passed (argument (pos 1) args)) (λ key.
    or_broken memory (bytes_passed (argument (pos 2) args)) (λ text. record { answer = empty; memory = memory_with memory key text }))

-- swap(key, value): sets, and answers as get did before
unfoldable pub swap_answered : Tree → Tree → Handled
swap_answered memory args =
    or_broken memory (bytes_passed (argument (pos 1) args)) (λ key.
    or_broken memory (bytes_passed (argument (pos 2) args)) (λ text.
    record { answer = kept_at memory key; memory = memory_with memory key text }))

-- forget(key)
unfoldable pub forget_answered : Tree → Tree → Handled
forget_answered memory args =
    or_broken memory (bytes_passed (argument (pos 1) args)) (λ key.
    record { answer = empty; memory = texts_by Bytes (pairs_without (of_bytes key) (pairs_in memory)) })

-- the store's answer to a call of this method
abbrev pub store_rule : Tree → List ℕ → Tree → Handled
store_rule memory method args =
    if bytes_eq method (codes "get") then get_answered memory args else if bytes_eq method (codes "put") then put_answered memory args
    else if bytes_eq method (codes "swap") then swap_answered memory args
    else if bytes_eq method (codes "keys") then keeping memory (success (of_list Bytes (map_keys_of (pairs_in memory))))
    else if bytes_eq method (codes "forget") then forget_answered memory args else keeping memory broken

-- the mirror's answer to any method: the first argument that is present
abbrev pub mirror_rule : Tree → List ℕ → Tree → Handled
mirror_rule memory method args = keeping memory (found_or_empty (first_value (fields_in args)))
