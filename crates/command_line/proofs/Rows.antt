-- The rows of a parse hold words, each beside a name.
use Rattle.std.proofs.Common.{◌≡◌, ◌∙◌, Bool, cond, true, false, ◌||◌, List, [], ◌∷◌, ◌++◌, Option, Some, None, refl, sym, ap, subst, true≢false}
use Rattle.std.specs.Prelude.{is_some, unwrap_or}
use Rattle.std.specs.Str.{bytes_eq}
use Rattle.std.proofs.lemmas.Slice.Eq.{bytes_eq-Decides}
use Rattle.clap.specs.declared.builder.value_parser.Reading.{Reading}
use Rattle.clap.specs.declared.parser.matches.ValueSource.{ValueSource}
use Rattle.clap.specs.declared.parser.matches.ValueSource.TheVariants.{CommandLine}
use Rattle.clap.specs.Walk.{Row, Text, all_of, has_row, with_values, without}
use Rattle.command_line.specs.Options.{NamedWords, has_value, words_beside}

pub same_text : (a b : Text) → bytes_eq a b ≡ true → a ≡ b
same_text a b e = (bytes_eq-Decides a b).0 e

pub is_itself : (a : Text) → bytes_eq a a ≡ true
is_itself a = (bytes_eq-Decides a a).1 refl

-- ---- what the rows hold

-- the row of an id with more values, or a new one
pub more_held : (id : Text) (how : Reading) (s : ValueSource) (vs : List Text) (rows : List Row)
    → all_of id (with_values id how s vs rows) ≡ Some (unwrap_or (all_of id rows) [] ++ vs)
more_held id how s vs [] = rw (is_itself id) refl
more_held id how s vs (r ∷ rows) = go (bytes_eq r.id id) refl (more_held id how s vs rows)
  where
    go : (b : Bool) → bytes_eq r.id id ≡ b → all_of id (with_values id how s vs rows) ≡ Some (unwrap_or (all_of id rows) [] ++ vs)
        → all_of id (with_values id how s vs (r ∷ rows)) ≡ Some (unwrap_or (all_of id (r ∷ rows)) [] ++ vs)
    go true e later = rw e (rw e refl)
    go false e later = rw e (rw e later)

-- the rows of others stay
pub others_held : (id other : Text) (how : Reading) (s : ValueSource) (vs : List Text) (rows : List Row) → bytes_eq id other ≡ false
    → all_of other (with_values id how s vs rows) ≡ all_of other rows
others_held id other how s vs [] differs = rw differs refl
others_held id other how s vs (r ∷ rows) differs = go (bytes_eq r.id id) refl (others_held id other how s vs rows differs)
  where
    next : (c : Bool) → bytes_eq r.id other ≡ c → all_of other (with_values id how s vs rows) ≡ all_of other rows
        → all_of other (r ∷ with_values id how s vs rows) ≡ all_of other (r ∷ rows)
    next true e later = rw e refl
    next false e later = rw e later

    go : (b : Bool) → bytes_eq r.id id ≡ b → all_of other (with_values id how s vs rows) ≡ all_of other rows
        → all_of other (with_values id how s vs (r ∷ rows)) ≡ all_of other (r ∷ rows)
    go true e later =
        let unlike : bytes_eq r.id other ≡ false = ap (λ t. bytes_eq t other) (same_text r.id id e) ∙ differs in
        rw e (rw unlike refl)
    go false e later = rw e (next (bytes_eq r.id other) refl later)

-- where an id has no row, none goes
pub none_goes : (id : Text) (rows : List Row) → has_row id rows ≡ false → without id rows ≡ rows
none_goes id [] none = refl
none_goes id (r ∷ rows) none = go (bytes_eq r.id id) refl none (none_goes id rows)
  where
    go : (b : Bool) → bytes_eq r.id id ≡ b → has_row id (r ∷ rows) ≡ false → (has_row id rows ≡ false → without id rows ≡ rows) → without id (r ∷ rows) ≡ r ∷ rows
    go true e h later = absurd (true≢false (sym (ap (λ c. c || has_row id rows) e) ∙ h))
    go false e h later = rw e (ap (λ rs. r ∷ rs) (later (sym (ap (λ c. c || has_row id rows) e) ∙ h)))

pub row_is_some : (id : Text) (rows : List Row) → has_row id rows ≡ is_some (all_of id rows)
row_is_some id [] = refl
row_is_some id (r ∷ rows) = go (bytes_eq r.id id) refl (row_is_some id rows)
  where
    go : (b : Bool) → bytes_eq r.id id ≡ b → has_row id rows ≡ is_some (all_of id rows) → has_row id (r ∷ rows) ≡ is_some (all_of id (r ∷ rows))
    go true e later = rw e refl
    go false e later = rw e later

-- ---- the words so far

-- a list, or none
abbrev pub some_words : List Text → Option (List Text)
some_words [] = None
some_words (v ∷ vs) = Some (v ∷ vs)

-- the rows hold the words so far
abbrev pub Holds : NamedWords → List Row → Type 0
Holds pairs rows = (id : Text) → all_of id rows ≡ some_words (words_beside pairs id)

pub nothing_held_yet : Holds [] []
nothing_held_yet id = refl

some_more : (xs : List Text) (v : Text) → Some (xs ++ v ∷ []) ≡ some_words (xs ++ v ∷ [])
some_more [] v = refl
some_more (x ∷ xs) v = refl

some_again : (xs : List Text) → unwrap_or (some_words xs) [] ≡ xs
some_again [] = refl
some_again (x ∷ xs) = refl

-- one more word beside a name
beside_itself : (pairs : NamedWords) (id v : Text) → words_beside (pairs ++ (id, v) ∷ []) id ≡ words_beside pairs id ++ v ∷ []
beside_itself [] id v = rw (is_itself id) refl
beside_itself (p ∷ pairs) id v = go (bytes_eq p.0 id) (beside_itself pairs id v)
  where
    go : (b : Bool) → words_beside (pairs ++ (id, v) ∷ []) id ≡ words_beside pairs id ++ v ∷ []
        → cond b (p.1 ∷ words_beside (pairs ++ (id, v) ∷ []) id) (words_beside (pairs ++ (id, v) ∷ []) id)
        ≡ cond b (p.1 ∷ words_beside pairs id) (words_beside pairs id) ++ v ∷ []
    go true e = ap (λ ws. p.1 ∷ ws) e
    go false e = e

beside_another : (pairs : NamedWords) (id other v : Text) → bytes_eq id other ≡ false → words_beside (pairs ++ (id, v) ∷ []) other ≡ words_beside pairs other
beside_another [] id other v differs = rw differs refl
beside_another (p ∷ pairs) id other v differs =
    ap (λ ws. cond (bytes_eq p.0 other) (p.1 ∷ ws) ws) (beside_another pairs id other v differs)

-- the rows hold one more word
pub one_more_held : (pairs : NamedWords) (rows : List Row) (how : Reading) (id v : Text) → Holds pairs rows
    → Holds (pairs ++ (id, v) ∷ []) (with_values id how CommandLine (v ∷ []) rows)
one_more_held pairs rows how id v holds other = go (bytes_eq id other) refl
  where
    itself : all_of id (with_values id how CommandLine (v ∷ []) rows) ≡ some_words (words_beside (pairs ++ (id, v) ∷ []) id)
    itself =
        more_held id how CommandLine (v ∷ []) rows
        ∙ ap (λ o. Some (unwrap_or o [] ++ v ∷ [])) (holds id)
        ∙ ap (λ xs. Some (xs ++ v ∷ [])) (some_again (words_beside pairs id))
        ∙ some_more (words_beside pairs id) v
        ∙ sym (ap some_words (beside_itself pairs id v))

    go : (b : Bool) → bytes_eq id other ≡ b
        → all_of other (with_values id how CommandLine (v ∷ []) rows) ≡ some_words (words_beside (pairs ++ (id, v) ∷ []) other)
    go true e = subst (λ t. all_of t (with_values id how CommandLine (v ∷ []) rows) ≡ some_words (words_beside (pairs ++ (id, v) ∷ []) t)) (same_text id other e) itself
    go false e = others_held id other how CommandLine (v ∷ []) rows e ∙ holds other ∙ sym (ap some_words (beside_another pairs id other v e))

-- an option has a value exactly where it has a row
value_is_some : (pairs : NamedWords) (id : Text) → has_value pairs id ≡ is_some (some_words (words_beside pairs id))
value_is_some [] id = refl
value_is_some (p ∷ pairs) id = go (bytes_eq p.0 id) (value_is_some pairs id)
  where
    go : (b : Bool) → has_value pairs id ≡ is_some (some_words (words_beside pairs id)) → (b || has_value pairs id) ≡ is_some (some_words (cond b (p.1 ∷ words_beside pairs id) (words_beside pairs id)))
    go true later = refl
    go false later = later

pub row_has_value : (pairs : NamedWords) (rows : List Row) (id : Text) → Holds pairs rows → has_row id rows ≡ has_value pairs id
row_has_value pairs rows id holds = row_is_some id rows ∙ ap (λ o. is_some o) (holds id) ∙ sym (value_is_some pairs id)

-- what the rows say
pub rows_say : (pairs : NamedWords) (rows : List Row) (id : Text) → Holds pairs rows → unwrap_or (all_of id rows) [] ≡ words_beside pairs id
rows_say pairs rows id holds = ap (λ o. unwrap_or o []) (holds id) ∙ some_again (words_beside pairs id)
