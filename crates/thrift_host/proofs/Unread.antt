-- What it means to end where the words weren't read as a command.
use Rattle.std.proofs.Common.{◌≡◌, List, Option, None, Some, Err, inl, sym, subst}
use Rattle.call_rules.specs.Handling.{ServiceState}
use Rattle.command_line.specs.declared.command.WordsFault.{WordsFault}
use Rattle.command_line.specs.declared.command.WordsFault.TheVariants as words_faults
use Rattle.command_line.specs.Answering.{AnswersWords}
use Rattle.command_line.specs.Words.{PlainCommand, checks, compares, rehearses, records, serves, runs, calls}
use Rattle.port_serving.specs.Places.{PlaceChange}
use Rattle.thrift_host.specs.declared.status.Status.{Status}
use Rattle.thrift_host.specs.declared.status.Status.TheVariants.{Usage, NoMemory}
use Rattle.thrift_host.specs.Errors.{Errors, IsLineSaid}
use Rattle.thrift_host.specs.Serving.{HostChange, IsAllUntouched, IsPlaceKept}
use Rattle.thrift_host.specs.Steps.{EndsWithoutCommand}
use Rattle.thrift_host.specs.Top.{Means, Says, KeepsPlace}

-- want of memory may come whatever the words are
memory_means : (meant : Option PlainCommand) (handlers : List ServiceState) (c : HostChange) → IsAllUntouched c → Means meant handlers NoMemory c
memory_means (Some (checks idl)) handlers c same = same.0
memory_means (Some (compares old new)) handlers c same = same.0
memory_means (Some (rehearses says)) handlers c same = inl same.0.1
memory_means (Some (records says)) handlers c same = inl same.0.1
memory_means (Some (serves says port accept journal)) handlers c same = (same.0.0, inl same)
memory_means (Some (runs seed size workers)) handlers c same = same.0
memory_means (Some (calls asking)) handlers c same = same.0.0
memory_means None handlers c same = same.0

memory_says : (meant : Option PlainCommand) (handlers : List ServiceState) (c : HostChange) (e : Errors) → IsLineSaid NoMemory e → Says meant handlers NoMemory c e
memory_says (Some (checks idl)) handlers c e said = said
memory_says (Some (compares old new)) handlers c e said = said
memory_says (Some (rehearses says)) handlers c e said = said
memory_says (Some (records says)) handlers c e said = said
memory_says (Some (serves says port accept journal)) handlers c e said = said
memory_says (Some (runs seed size workers)) handlers c e said = said
memory_says (Some (calls asking)) handlers c e said = tt
memory_says None handlers c e said = said

pub unread_place : (meant : Option PlainCommand) (p : PlaceChange) → IsPlaceKept p → KeepsPlace meant p
unread_place (Some (checks idl)) p kept = kept
unread_place (Some (compares old new)) p kept = kept
unread_place (Some (rehearses says)) p kept = kept
unread_place (Some (records says)) p kept = kept
unread_place (Some (serves says port accept journal)) p kept = tt
unread_place (Some (runs seed size workers)) p kept = kept
unread_place (Some (calls asking)) p kept = kept
unread_place None p kept = kept

-- a status that has to do with words or memory
abbrev pub IsOfWords : Status → Type 0
IsOfWords Usage = Unit {0}
IsOfWords NoMemory = Unit {0}
IsOfWords _ = ⊥

module _ (fault : WordsFault) (ended : Status) (e : Errors) (ends : EndsWithoutCommand fault ended e) where
  pub unread_means : (meant : Option PlainCommand) (handlers : List ServiceState) (c : HostChange) → AnswersWords (Err fault) meant → IsAllUntouched c
      → Means meant handlers ended c
  unread_means meant handlers c answers same = by fault ends answers
    where
      by : (f : WordsFault) → EndsWithoutCommand f ended e → AnswersWords (Err f) meant → Means meant handlers ended c
      by words_faults.Usage is none = subst (λ st. Means meant handlers st c) (sym is.0) (subst (λ m. Means m handlers Usage c) (sym none) same.0)
      by words_faults.NoMemory is any = subst (λ st. Means meant handlers st c) (sym is.0) (memory_means meant handlers c same)

  pub unread_says : (meant : Option PlainCommand) (handlers : List ServiceState) (c : HostChange) → AnswersWords (Err fault) meant → Says meant handlers ended c e
  unread_says meant handlers c answers = by fault ends answers
    where
      by : (f : WordsFault) → EndsWithoutCommand f ended e → AnswersWords (Err f) meant → Says meant handlers ended c e
      by words_faults.Usage is none = subst (λ st. Says meant handlers st c e) (sym is.0) (subst (λ m. Says m handlers Usage c e) (sym none) is.1)
      by words_faults.NoMemory is any = subst (λ st. Says meant handlers st c e) (sym is.0) (memory_says meant handlers c e is.1)

  pub of_words : IsOfWords ended
  of_words = by fault ends
    where
      by : (f : WordsFault) → EndsWithoutCommand f ended e → IsOfWords ended
      by words_faults.Usage is = subst IsOfWords (sym is.0) tt
      by words_faults.NoMemory is = subst IsOfWords (sym is.0) tt

-- no other status comes of it
pub not_of_words : (ended other : Status) → IsOfWords ended → (IsOfWords other → ⊥) → ended ≡ other → ⊥
not_of_words ended other of_words never is = never (subst IsOfWords is of_words)
