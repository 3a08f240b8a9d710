-- A pipe in memory reads as pipes do.
use Rattle.std.proofs.Common.{◌≡◌, ℕ, ◌+◌, ◌<◌, ◌≤◌, List, [], ◌++◌, length, take, drop, min, Some, Ok, refl, ap, sym, ◌∙◌, arith, length-append, length-drop}
use Rattle.std.specs.Prelude.{◌||◌}
use Rattle.std.proofs.lemmas.List.{take_at, length-take-le, take-append-drop, nil_from_length}
use Rattle.outside.specs.Pipes.{Receives, is_end}
use Rattle.script_links.specs.Answering.{AnsweringPipe, mem_pipe_told, after_receiving}

pub receives_so : {E : Type 0} (p : AnsweringPipe) (lent into : List ℕ) (count : ℕ) → count ≡ min (length p.left) (length lent) → into ≡ take count p.left ++ drop count lent
    → Receives {E = E} into (mem_pipe_told p) (mem_pipe_told (after_receiving (length lent) count p)) (Ok count)
receives_so p lent into count counts copied =
    let in_left : count ≤ length p.left = omega arith in
    let in_room : count ≤ length lent = omega arith in
    let front_len : length (take count p.left) ≡ count = length-take-le count p.left in_left in
    let same : length into ≡ length lent = ap length copied ∙ omega (arith, length-append (take count p.left) (drop count lent), length-drop count lent, front_len) in
    let front : take count into ≡ take count p.left = ap (take count) copied ∙ take_at (take count p.left) (drop count lent) count front_len in
    record {
      port = refl;
      written = refl;
      write_faults = refl;
      moved = (
        record {
          bound = omega arith;
          given_more = ap (λ (xs : List ℕ). Some (p.given ++ xs)) (sym front);
          taken_off = ap Some (sym (take-append-drop count p.left) ∙ ap (λ (xs : List ℕ). xs ++ drop count p.left) (sym front));
          ended = λ none room. nil_from_length (drop count p.left) (omega (arith, length-drop count p.left));
        },
        ap (λ (n : ℕ). Some (p.ended || is_end n count)) (sym same),
      );
      cause = record { later = omega arith; failed = λ e. absurd (let g : ⊥ = cc in g); kept = refl };
    }
