-- What one more item adds.
use Rattle.std.proofs.Common.{◌≡◌, ℕ, Bool, true, false, ◌||◌, List, [], ◌∷◌, ◌++◌, Option, Some, None, refl, sym, ap, ◌∙◌}
use Rattle.std.specs.Prelude.{map, IsSome}
use Rattle.std.proofs.lemmas.List.{map-append, append-nil}
use Rattle.std.proofs.lemmas.List.Folds.{concat-append}
use Rattle.streams.specs.declared.marks.Mark.{Mark}
use Rattle.outside.specs.LinksState.{Listening, LinksState}
use Rattle.outside.specs.Pipes.{PipeState, is_end}
use Rattle.outside.specs.Binding.{PastLinks, past_with, told_past}
use Rattle.outside.specs.Calling.{PastPipe, told_called}
use Rattle.told_links.specs.Noted.{bytes_noted, end_noted}
use Rattle.told_links.specs.Telling.{told_links, told_pipe, returned_links, hung_up_pipe, place_listened}

-- one more piece is its bytes more
pub bytes_added : (old new : List (List ℕ)) (piece : List ℕ) → new ≡ old ++ piece ∷ []
    → bytes_noted new ≡ bytes_noted old ++ piece
bytes_added old new piece more =
    ap bytes_noted more ∙ concat-append old (piece ∷ []) ∙ ap (λ (t : List ℕ). bytes_noted old ++ t) (append-nil piece)

end_told : (old : List (Unit {0})) → end_noted (old ++ tt ∷ []) ≡ true
end_told [] = refl
end_told (e ∷ old) = refl

or_true : (b : Bool) → b || true ≡ true
or_true false = refl
or_true true = refl

-- a read that answered the end was noted
pub end_added : (old new : List (Unit {0})) (end : Unit {0}) (lent count : ℕ) → new ≡ old ++ end ∷ []
    → is_end lent count ≡ true
    → end_noted new ≡ (end_noted old || is_end lent count)
end_added old new end lent count more is =
    ap end_noted more ∙ end_told old ∙ sym (or_true (end_noted old)) ∙ ap (λ (b : Bool). end_noted old || b) (sym is)

-- these links came back with this tape
past_told : (past : List PastLinks) (over : Bool) (tape : List Mark) (listens : Option Listening) → IsSome listens
    → Some (past ++ record { tape = tape; over = over; listening = place_listened listens } ∷ []) ≡ past_with past over (Some tape) listens
past_told past over tape None h = absurd cc
past_told past over tape (Some listening) h = refl

-- the links came back, which each are seen so
pub past_added : {A : Type 0} (seen : A → PastLinks) (old new : List A) (links : A) (inner : LinksState) (tape : List Mark)
    → new ≡ old ++ links ∷ [] → seen links ≡ returned_links inner tape → IsSome inner.listens
    → Some (map seen new) ≡ told_past (Some (map seen old)) (told_links inner tape)
past_added {A = A} seen old new links inner tape more is there =
    ap (λ (all : List A). Some (map seen all)) more ∙ ap Some (map-append seen old (links ∷ []))
    ∙ ap (λ (one : PastLinks). Some (map seen old ++ one ∷ [])) is
    ∙ past_told (map seen old) inner.over tape inner.listens there

-- the pipe was hung up, which each are seen so
pub call_added : {A : Type 0} (seen : A → PastPipe) (old new : List A) (pipe : A) (inner : PipeState)
    → (written given : List ℕ) (ended : Bool) → new ≡ old ++ pipe ∷ [] → seen pipe ≡ hung_up_pipe inner written given ended
    → Some (map seen new) ≡ told_called (Some (map seen old)) (told_pipe inner written given ended)
call_added {A = A} seen old new pipe inner written given ended more is =
    ap (λ (all : List A). Some (map seen all)) more ∙ ap Some (map-append seen old (pipe ∷ []))
    ∙ ap (λ (one : PastPipe). Some (map seen old ++ one ∷ [])) is
