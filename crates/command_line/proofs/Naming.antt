-- The command of a name, by the tests that the name passes.
use Rattle.std.proofs.Common.{◌≡◌, ℕ, List, true, false, Option, None, Result, refl, subst}
use Rattle.std.specs.Prelude.{IfOk, codes, option_map}
use Rattle.std.specs.Str.{bytes_eq}
use Rattle.std.specs.declared.alloc.AllocError.{AllocError}
use Rattle.command_line.specs.Answering.{plain_command}
use Rattle.command_line.specs.declared.command.Command.{Command}
use Rattle.command_line.specs.Words.{PlainCommand, call_behind, calls, check_behind, command_named, compat_behind, rehearses, serve_behind, served_behind, workload_behind}

-- what was read is as well what is equal to its meaning
pub meant_as : (read : Result (Option Command) AllocError) (a b : Option PlainCommand) → a ≡ b
    → IfOk read (λ command. option_map plain_command command ≡ a) → IfOk read (λ command. option_map plain_command command ≡ b)
meant_as read a b same means = subst (λ (o : Option PlainCommand). IfOk read (λ command. option_map plain_command command ≡ o)) same means

module _ (name : List ℕ) (words : List (List ℕ)) where
  pub named_check : bytes_eq name (codes "check") ≡ true
      → check_behind words ≡ command_named name words
  named_check a = rw a refl

  pub named_rehearse : bytes_eq name (codes "check") ≡ false → bytes_eq name (codes "rehearse") ≡ true
      → option_map rehearses (served_behind words) ≡ command_named name words
  named_rehearse a b = rw (a, b) refl

  pub named_serve : bytes_eq name (codes "check") ≡ false → bytes_eq name (codes "rehearse") ≡ false → bytes_eq name (codes "record") ≡ false → bytes_eq name (codes "serve") ≡ true
      → serve_behind words ≡ command_named name words
  named_serve a b c d = rw (a, b, c, d) refl

  pub named_workload : bytes_eq name (codes "check") ≡ false → bytes_eq name (codes "rehearse") ≡ false → bytes_eq name (codes "record") ≡ false → bytes_eq name (codes "serve") ≡ false → bytes_eq name (codes "workload") ≡ true
      → workload_behind words ≡ command_named name words
  named_workload a b c d e = rw (a, b, c, d, e) refl

  pub named_compat : bytes_eq name (codes "check") ≡ false → bytes_eq name (codes "rehearse") ≡ false → bytes_eq name (codes "record") ≡ false → bytes_eq name (codes "serve") ≡ false → bytes_eq name (codes "workload") ≡ false → bytes_eq name (codes "compat") ≡ true
      → compat_behind words ≡ command_named name words
  named_compat a b c d e f = rw (a, b, c, d, e, f) refl

  pub named_call : bytes_eq name (codes "check") ≡ false → bytes_eq name (codes "rehearse") ≡ false → bytes_eq name (codes "record") ≡ false → bytes_eq name (codes "serve") ≡ false → bytes_eq name (codes "workload") ≡ false → bytes_eq name (codes "compat") ≡ false → bytes_eq name (codes "call") ≡ true
      → option_map calls (call_behind words) ≡ command_named name words
  named_call a b c d e f g = rw (a, b, c, d, e, f, g) refl

  pub named_otherwise : bytes_eq name (codes "check") ≡ false → bytes_eq name (codes "rehearse") ≡ false → bytes_eq name (codes "record") ≡ false → bytes_eq name (codes "serve") ≡ false → bytes_eq name (codes "workload") ≡ false → bytes_eq name (codes "compat") ≡ false → bytes_eq name (codes "call") ≡ false
      → None ≡ command_named name words
  named_otherwise a b c d e f g = rw (a, b, c, d, e, f, g) refl
