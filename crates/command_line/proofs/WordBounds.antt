-- Each command keeps its bounds.
use Rattle.std.proofs.Common.{◌≡◌, ℕ, suc, ◌≤◌, Bool, cond, true, false, List, [], ◌∷◌, length, Option, Some, None, option_map, option_and_then, IfSome, nat_le, ◌&&◌, Result, Ok, Err, IfOk, refl, ap, subst, arith}
use Rattle.std.specs.Prelude.{codes}
use Rattle.std.specs.Str.{bytes_eq}
use Rattle.std.proofs.lemmas.Bool.{leb-true, false≢true}
use Rattle.call_rules.specs.Desks.{longest_payload}
use Rattle.conn_table.specs.declared.run_limits.Limits.{Limits}
use Rattle.envelope.specs.declared.head.Protocol.{Protocol}
use Rattle.service_binding.specs.Pairs.{NamedKind, pair_of_word}
use Rattle.command_line.specs.declared.command.Command.{Command}
use Rattle.command_line.specs.declared.command.WordsFault.{WordsFault}
use Rattle.command_line.specs.declared.command.WordsFault.TheVariants.{Usage, NoMemory}
use Rattle.command_line.specs.Answering.{AnswersWords, plain_command}
use Rattle.command_line.specs.Bounds.{IsFromTo, KeepsBounds, KeepsServedBounds}
use Rattle.command_line.specs.CommandPairs.{pairs_of_words, command_pairs, most_pairs}
use Rattle.command_line.specs.Limits.{limits_given, limits_of_numbers, limits_said, number_given}
use Rattle.command_line.specs.Numbers.{bounded_number, number_of_word, number_within, one_number, seed_of_word}
use Rattle.command_line.specs.Options.{Sayings, said_behind}
use Rattle.command_line.specs.Flags.{said_behind_with}
use Rattle.command_line.specs.Calls.{PlainAsking, asking_by, asking_said, asking_with, is_set}
use Rattle.command_line.specs.Served.{PlainServed, default_name_given, file_of_word, protocol_of_word, served_by, served_said, served_with, workers_of_word}
use Rattle.command_line.specs.Words.{PlainCommand, call_behind, call_flags, call_options, calls, check_behind, check_said, checks, command_named, compares, compat_behind, compat_by, compat_said, compat_with, served_options, no_options, file_alone, records, rehearses, runs, serve_behind, serve_options, serve_said, serve_with, served_behind, serves, words_of, workload_behind, workload_by, workload_said, workload_with}

-- what holds of each answer of a part holds of the whole
and_then_keeps : {A B : Type 0} (f : A → Option B) (x : Option A) (P : A → Type 0) (Q : B → Type 0) → IfSome x P → ((a : A) → P a → IfSome (f a) Q)
    → IfSome (option_and_then f x) Q
and_then_keeps f (Some a) P Q p go = go a p
and_then_keeps f None P Q p go = tt

map_keeps : {A B : Type 0} (f : A → B) (x : Option A) (P : A → Type 0) (Q : B → Type 0) → IfSome x P → ((a : A) → P a → Q (f a)) → IfSome (option_map f x) Q
map_keeps f (Some a) P Q p go = go a p
map_keeps f None P Q p go = tt

-- nothing is known of an answer
any : {A : Type 0} (x : Option A) → IfSome x (λ _. Unit {0})
any (Some a) = tt
any None = tt

-- an answer after a test, and one of two
tested : {A : Type 0} (b : Bool) (x : Option A) (Q : A → Type 0) → (b ≡ true → IfSome x Q) → IfSome (cond b x None) Q
tested true x Q go = go refl
tested false x Q go = tt

either : {A : Type 0} (b : Bool) (x y : Option A) (Q : A → Type 0) → IfSome x Q → IfSome y Q → IfSome (cond b x y) Q
either true x y Q p q = p
either false x y Q p q = q

-- both tests of two
both_hold : (a b : Bool) → (a && b) ≡ true → (a ≡ true) × (b ≡ true)
both_hold true b is = (refl, is)
both_hold false b is = absurd (false≢true is)

-- ---- numbers

number_keeps : (least most : ℕ) (o : Option ℕ) → IfSome (option_and_then (number_within least most) o) (IsFromTo least most)
number_keeps least most o =
    and_then_keeps (number_within least most) o (λ _. Unit {0}) (IsFromTo least most) (any o)
    (λ n _. tested (nat_le least n && nat_le n most) (Some n) (IsFromTo least most)
    (λ both.
    let parts = both_hold (nat_le least n) (nat_le n most) both in
    (leb-true least n parts.0, leb-true n most parts.1)))

one_keeps : (least most : ℕ) (words : List (List ℕ)) → IfSome (one_number least most words) (IsFromTo least most)
one_keeps least most [] = tt
one_keeps least most (word ∷ []) = number_keeps least most (number_of_word word)
one_keeps least most (word ∷ other ∷ words) = tt

-- ---- pairs

pairs_as_words : (words : List (List ℕ)) → IfSome (pairs_of_words words) (λ pairs. length pairs ≡ length words)
pairs_as_words [] = refl
pairs_as_words (word ∷ words) =
    and_then_keeps (λ (pair : NamedKind). option_map (λ (pairs : List NamedKind). pair ∷ pairs) (pairs_of_words words)) (pair_of_word word) (λ _. Unit {0})
    (λ pairs. length pairs ≡ suc (length words)) (any (pair_of_word word))
    (λ pair _. map_keeps (λ (pairs : List NamedKind). pair ∷ pairs) (pairs_of_words words) (λ pairs. length pairs ≡ length words)
    (λ pairs. length pairs ≡ suc (length words)) (pairs_as_words words) (λ pairs is. ap suc is))

-- a number of pairs of a command
abbrev AreFew : List NamedKind → Type 0
AreFew pairs = (1 ≤ length pairs) × (length pairs ≤ 16)

pairs_are_few : (words : List (List ℕ)) → IfSome (command_pairs words) AreFew
pairs_are_few words =
    tested (nat_le 1 (length words) && nat_le (length words) most_pairs) (pairs_of_words words) AreFew
    (λ both. few both (pairs_of_words words) (pairs_as_words words))
  where
    few : (nat_le 1 (length words) && nat_le (length words) most_pairs) ≡ true → (x : Option (List NamedKind))
        → IfSome x (λ pairs. length pairs ≡ length words) → IfSome x AreFew
    few both (Some pairs) is =
        let parts = both_hold (nat_le 1 (length words)) (nat_le (length words) most_pairs) both in
        let least : 1 ≤ length words = leb-true 1 (length words) parts.0 in
        let most : length words ≤ 16 = leb-true (length words) 16 parts.1 in
        (omega (arith, least, is), omega (arith, most, is))
    few both None is = tt

-- ---- limits

abbrev AreLimits : Limits → Type 0
AreLimits limits = (1 ≤ limits.max_frame) × (limits.max_frame ≤ limits.read_budget) × (limits.read_budget ≤ longest_payload)

numbers_are_limits : (most budget : ℕ) → IfSome (limits_of_numbers most budget) AreLimits
numbers_are_limits most budget =
    tested (nat_le 1 most && (nat_le most budget && nat_le budget longest_payload)) (Some (record { max_frame = most; read_budget = budget })) AreLimits
    (λ all.
    let parts = both_hold (nat_le 1 most) (nat_le most budget && nat_le budget longest_payload) all in
    let behind = both_hold (nat_le most budget) (nat_le budget longest_payload) parts.1 in
    (leb-true 1 most parts.0, leb-true most budget behind.0, leb-true budget longest_payload behind.1))

given_are_limits : (most_words budget_words : List (List ℕ)) → IfSome (limits_given most_words budget_words) AreLimits
given_are_limits ms bs =
    and_then_keeps (λ most. option_and_then (λ budget. limits_of_numbers most budget) (number_given longest_payload bs)) (number_given 16384000 ms)
    (λ _. Unit {0}) AreLimits (any (number_given 16384000 ms))
    (λ most _. and_then_keeps (λ budget. limits_of_numbers most budget) (number_given longest_payload bs) (λ _. Unit {0}) AreLimits
    (any (number_given longest_payload bs)) (λ budget _. numbers_are_limits most budget))

-- ---- what is served

with_limits : (idl protocol workers : List ℕ) (pairs : List (List ℕ)) (default_service : Option (List ℕ)) (limits : Limits) → AreLimits limits
    → IfSome (served_with idl protocol workers pairs default_service limits) KeepsServedBounds
with_limits idl protocol workers pairs default_service limits are =
    let made : (name : List ℕ) (spelling : Protocol) (count : ℕ) (bound : List NamedKind) → PlainServed
    = λ name spelling count bound. record { idl = name; protocol = spelling; workers = count; pairs = bound; default_service = default_service; limits = limits } in
    and_then_keeps (λ (name : List ℕ). option_and_then (λ (spelling : Protocol). option_and_then (λ (count : ℕ).
    option_map (made name spelling count) (command_pairs pairs)) (workers_of_word workers)) (protocol_of_word protocol)) (file_of_word idl)
    (λ _. Unit {0}) KeepsServedBounds (any (file_of_word idl))
    (λ name _. and_then_keeps (λ (spelling : Protocol). option_and_then (λ (count : ℕ).
    option_map (made name spelling count) (command_pairs pairs)) (workers_of_word workers)) (protocol_of_word protocol)
    (λ _. Unit {0}) KeepsServedBounds (any (protocol_of_word protocol))
    (λ spelling _. and_then_keeps (λ (count : ℕ). option_map (made name spelling count) (command_pairs pairs)) (workers_of_word workers)
    (IsFromTo 0 8) KeepsServedBounds (number_keeps 0 8 (number_of_word workers))
    (λ count within. map_keeps (made name spelling count) (command_pairs pairs) AreFew KeepsServedBounds (pairs_are_few pairs)
    (λ bound few. record { workers = within.1; some = few.0; few = few.1; least = are.0; fits = are.1; most = are.2 }))))

placed_keep : (words : List (List ℕ)) (default_service : Option (List ℕ)) (limits : Limits) → AreLimits limits
    → IfSome (served_by words default_service limits) KeepsServedBounds
placed_keep (idl ∷ protocol ∷ workers ∷ pairs) default_service limits are = with_limits idl protocol workers pairs default_service limits are
placed_keep (idl ∷ protocol ∷ []) default_service limits are = tt
placed_keep (idl ∷ []) default_service limits are = tt
placed_keep [] default_service limits are = tt

served_keep : (said : Sayings) → IfSome (served_said said) KeepsServedBounds
served_keep said =
    and_then_keeps (λ (limits : Limits). option_and_then (λ (name : Option (List ℕ)). served_by (said []) name limits) (default_name_given (said (codes "default"))))
    (limits_said said) AreLimits KeepsServedBounds (given_are_limits (said (codes "max-frame")) (said (codes "read-budget")))
    (λ limits are. and_then_keeps (λ (name : Option (List ℕ)). served_by (said []) name limits) (default_name_given (said (codes "default")))
    (λ _. Unit {0}) KeepsServedBounds (any (default_name_given (said (codes "default")))) (λ name _. placed_keep (said []) name limits are))

behind_keep : (words : List (List ℕ)) → IfSome (served_behind words) KeepsServedBounds
behind_keep words =
    and_then_keeps served_said (said_behind served_options words) (λ _. Unit {0}) KeepsServedBounds (any (said_behind served_options words)) (λ said _. served_keep said)

-- ---- the other commands

checks_keep : (words : List (List ℕ)) → IfSome (check_behind words) KeepsBounds
checks_keep words =
    and_then_keeps check_said (said_behind no_options words) (λ _. Unit {0}) KeepsBounds (any (said_behind no_options words))
    (λ said _. map_keeps checks (file_alone (said [])) (λ _. Unit {0}) KeepsBounds (any (file_alone (said []))) (λ idl _. tt))

compat_keep : (old new : List ℕ) → IfSome (compat_with old new) KeepsBounds
compat_keep old new =
    and_then_keeps (λ (first : List ℕ). option_map (λ (second : List ℕ). compares first second) (file_of_word new)) (file_of_word old)
    (λ _. Unit {0}) KeepsBounds (any (file_of_word old))
    (λ first _. map_keeps (λ (second : List ℕ). compares first second) (file_of_word new) (λ _. Unit {0}) KeepsBounds (any (file_of_word new)) (λ second _. tt))

compat_words : (words : List (List ℕ)) → IfSome (compat_by words) KeepsBounds
compat_words [] = tt
compat_words (old ∷ []) = tt
compat_words (old ∷ new ∷ []) = compat_keep old new
compat_words (old ∷ new ∷ other ∷ words) = tt

compats_keep : (words : List (List ℕ)) → IfSome (compat_behind words) KeepsBounds
compats_keep words =
    and_then_keeps compat_said (said_behind no_options words) (λ _. Unit {0}) KeepsBounds (any (said_behind no_options words)) (λ said _. compat_words (said []))

serve_keep : (served : PlainServed) (ports accepts journals : List (List ℕ)) → KeepsServedBounds served → IfSome (serve_with served ports accepts journals) KeepsBounds
serve_keep served ports accepts journals keeps =
    and_then_keeps (λ (port : ℕ). option_and_then (λ (accept : ℕ). option_map (λ (journal : List ℕ). serves served port accept journal) (file_alone journals))
    (one_number 1 1000000 accepts)) (one_number 1 65535 ports) (IsFromTo 1 65535) KeepsBounds (one_keeps 1 65535 ports)
    (λ port is. and_then_keeps (λ (accept : ℕ). option_map (λ (journal : List ℕ). serves served port accept journal) (file_alone journals))
    (one_number 1 1000000 accepts) (IsFromTo 1 1000000) KeepsBounds (one_keeps 1 1000000 accepts)
    (λ accept are. map_keeps (λ (journal : List ℕ). serves served port accept journal) (file_alone journals) (λ _. Unit {0}) KeepsBounds (any (file_alone journals))
    (λ journal _. (keeps, is, are))))

serves_keep : (words : List (List ℕ)) → IfSome (serve_behind words) KeepsBounds
serves_keep words =
    and_then_keeps serve_said (said_behind serve_options words) (λ _. Unit {0}) KeepsBounds (any (said_behind serve_options words))
    (λ said _. and_then_keeps (λ (served : PlainServed). serve_with served (said (codes "listen")) (said (codes "accept")) (said (codes "journal"))) (served_said said)
    KeepsServedBounds KeepsBounds (served_keep said)
    (λ served keeps. serve_keep served (said (codes "listen")) (said (codes "accept")) (said (codes "journal")) keeps))

workload_keep : (seed size workers : List ℕ) → IfSome (workload_with seed size workers) KeepsBounds
workload_keep seed size workers =
    and_then_keeps (λ (start : ℕ). option_and_then (λ (frames : ℕ). option_map (λ (count : ℕ). runs start frames count) (workers_of_word workers))
    (bounded_number 1 1000000 size)) (seed_of_word seed) (λ _. Unit {0}) KeepsBounds (any (seed_of_word seed))
    (λ start _. and_then_keeps (λ (frames : ℕ). option_map (λ (count : ℕ). runs start frames count) (workers_of_word workers))
    (bounded_number 1 1000000 size) (IsFromTo 1 1000000) KeepsBounds (number_keeps 1 1000000 (number_of_word size))
    (λ frames is. map_keeps (λ (count : ℕ). runs start frames count) (workers_of_word workers) (IsFromTo 0 8) KeepsBounds (number_keeps 0 8 (number_of_word workers))
    (λ count are. (is, are))))

workload_words : (words : List (List ℕ)) → IfSome (workload_by words) KeepsBounds
workload_words [] = tt
workload_words (seed ∷ []) = tt
workload_words (seed ∷ size ∷ []) = tt
workload_words (seed ∷ size ∷ workers ∷ []) = workload_keep seed size workers
workload_words (seed ∷ size ∷ workers ∷ other ∷ words) = tt

workloads_keep : (words : List (List ℕ)) → IfSome (workload_behind words) KeepsBounds
workloads_keep words =
    and_then_keeps workload_said (said_behind no_options words) (λ _. Unit {0}) KeepsBounds (any (said_behind no_options words)) (λ said _. workload_words (said []))

abbrev CallsAPort : PlainAsking → Type 0
CallsAPort asking = IsFromTo 1 65535 asking.port

asking_keep : (idl protocol name method args : List ℕ) (multiplexed : Bool) (port : ℕ) → IsFromTo 1 65535 port
    → IfSome (asking_with idl protocol name method args multiplexed port) CallsAPort
asking_keep idl protocol name method args multiplexed port is =
    let made : (file : List ℕ) (spelling : Protocol) → PlainAsking
    = λ file spelling. record { idl = file; protocol = spelling; name = name; method = method; args = args; multiplexed = multiplexed; port = port } in
    and_then_keeps (λ (file : List ℕ). option_map (made file) (protocol_of_word protocol)) (file_of_word idl) (λ _. Unit {0}) CallsAPort (any (file_of_word idl))
    (λ file _. map_keeps (made file) (protocol_of_word protocol) (λ _. Unit {0}) CallsAPort (any (protocol_of_word protocol)) (λ spelling _. is))

asking_words : (words : List (List ℕ)) (multiplexed : Bool) (port : ℕ) → IsFromTo 1 65535 port → IfSome (asking_by words multiplexed port) CallsAPort
asking_words [] multiplexed port is = tt
asking_words (idl ∷ []) multiplexed port is = tt
asking_words (idl ∷ protocol ∷ []) multiplexed port is = tt
asking_words (idl ∷ protocol ∷ name ∷ []) multiplexed port is = tt
asking_words (idl ∷ protocol ∷ name ∷ method ∷ []) multiplexed port is = tt
asking_words (idl ∷ protocol ∷ name ∷ method ∷ args ∷ []) multiplexed port is = asking_keep idl protocol name method args multiplexed port is
asking_words (idl ∷ protocol ∷ name ∷ method ∷ args ∷ other ∷ words) multiplexed port is = tt

calls_keep : (words : List (List ℕ)) → IfSome (call_behind words) CallsAPort
calls_keep words =
    and_then_keeps asking_said (said_behind_with call_options call_flags words) (λ _. Unit {0}) CallsAPort (any (said_behind_with call_options call_flags words))
    (λ said _. and_then_keeps (λ (port : ℕ). asking_by (said []) (is_set (said (codes "multiplexed"))) port) (one_number 1 65535 (said (codes "to")))
    (IsFromTo 1 65535) CallsAPort (one_keeps 1 65535 (said (codes "to"))) (λ port is. asking_words (said []) (is_set (said (codes "multiplexed"))) port is))

-- ---- every command

named_keep : (name : List ℕ) (words : List (List ℕ)) → IfSome (command_named name words) KeepsBounds
named_keep name words =
    either (bytes_eq name (codes "check")) _ _ KeepsBounds (checks_keep words)
    (either (bytes_eq name (codes "rehearse")) _ _ KeepsBounds (map_keeps rehearses (served_behind words) KeepsServedBounds KeepsBounds (behind_keep words) (λ served keeps. keeps))
    (either (bytes_eq name (codes "record")) _ _ KeepsBounds (map_keeps records (served_behind words) KeepsServedBounds KeepsBounds (behind_keep words) (λ served keeps. keeps))
    (either (bytes_eq name (codes "serve")) _ _ KeepsBounds (serves_keep words)
    (either (bytes_eq name (codes "workload")) _ _ KeepsBounds (workloads_keep words)
    (either (bytes_eq name (codes "compat")) _ _ KeepsBounds (compats_keep words)
    (tested (bytes_eq name (codes "call")) (option_map calls (call_behind words)) KeepsBounds
    (λ _. map_keeps calls (call_behind words) CallsAPort KeepsBounds (calls_keep words) (λ asking is. is))))))))

pub words_keep : (words : List (List ℕ)) → IfSome (words_of words) KeepsBounds
words_keep [] = tt
words_keep (name ∷ words) = named_keep name words

-- so does what is read
pub read_keeps : (words : List (List ℕ)) (r : Result Command WordsFault) → AnswersWords r (words_of words) → IfOk r (λ command. KeepsBounds (plain_command command))
read_keeps words (Ok command) is = subst (λ (o : Option PlainCommand). IfSome o KeepsBounds) is (words_keep words)
read_keeps words (Err Usage) is = tt
read_keeps words (Err NoMemory) is = tt
