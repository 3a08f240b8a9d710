-- What clap makes of the options of a command.
use Rattle.std.proofs.Common.{◌≡◌, ◌∙◌, Bool, cond, true, false, not, ◌||◌, ◌&&◌, List, [], ◌∷◌, ◌++◌, map, codes, Some, None, refl, sym, ap, ap₂, true≢false, append_assoc, append-nil}
use Rattle.std.specs.Prelude.{is_some}
use Rattle.std.specs.List.{count_by, find, fold, list_all, list_any}
use Rattle.std.specs.Option.{option_map_or}
use Rattle.std.specs.Str.{bytes_eq}
use Rattle.clap.specs.Walk.{Held, Row, Rule, Text, arg_by_id, arg_by_long, finished, has_row, is_early_multiple, settled, with_default}
use Rattle.clap.specs.Simple.{App, Shape, built, filled, filled_from, is_ready, is_ready_leaf, is_simple, new_shape, with_index}
use Rattle.clap.specs.Faults.{check_fault, defaults_fault, is_free_app, is_simple_and_free}
use Rattle.clap.specs.Takes.{is_given}
use Rattle.command_line.specs.Clapped.{bare_app, option_rule, plain_words_rule, with_options}
use Rattle.command_line.specs.Options.{has_option}
use Rattle.command_line.proofs.Rows.{same_text}

-- the words that are no options, and an option, as they are filled in
abbrev pub filled_plain : Rule
filled_plain = with_index 1 (filled plain_words_rule)

abbrev pub filled_option : Text → Rule
filled_option name = with_index 2 (filled (option_rule name))

abbrev pub table : List Text → List Rule
table names = filled_plain ∷ map filled_option names

-- the command as it is made, and as it is built
abbrev pub made_shape : List Text → Shape
made_shape names = record (new_shape (codes "thriftd")) {
  rules = plain_words_rule ∷ map option_rule names;
  no_binary_name = true;
  disable_help_flag = true;
  disable_version_flag = true;
}

abbrev pub made : List Text → App
made names = record { top = made_shape names; subs = [] }

abbrev pub built_shape : List Text → Shape
built_shape names = record (made_shape names) { rules = table names; disable_help_subcommand = true; is_built = true }

-- ---- the command that is made

options_behind : (s : Shape) (rules : List Rule) (names : List Text)
    → with_options (record { top = record s { rules = rules }; subs = [] }) names ≡ record { top = record s { rules = rules ++ map option_rule names }; subs = [] }
options_behind s rules [] = ap (λ (rs : List Rule). record { top = record s { rules = rs }; subs = [] }) (sym (append-nil rules))
options_behind s rules (name ∷ names) =
    options_behind s (rules ++ option_rule name ∷ []) names
    ∙ ap (λ (rs : List Rule). record { top = record s { rules = rs }; subs = [] }) (append_assoc rules (option_rule name ∷ []) (map option_rule names))

pub made_is : (names : List Text) → with_options bare_app names ≡ made names
made_is names = options_behind (made_shape []) (plain_words_rule ∷ []) names

-- ---- the command that is built

options_filled : (names : List Text) → filled_from 2 (map option_rule names) ≡ map filled_option names
options_filled [] = refl
options_filled (name ∷ names) = ap (λ rs. filled_option name ∷ rs) (options_filled names)

pub built_is : (names : List Text) → built (made names) ≡ record { top = built_shape names; subs = [] }
built_is names = ap (λ (rs : List Rule). record { top = record (built_shape names) { rules = filled_plain ∷ rs }; subs = [] }) (options_filled names)

-- ---- it is simple

each_made : (p : Rule → Bool) → ((name : Text) → p (option_rule name) ≡ true) → (names : List Text) → list_all p (map option_rule names) ≡ true
each_made p holds [] = refl
each_made p holds (name ∷ names) = ap₂ (λ a b. a && b) (holds name) (each_made p holds names)

each_filled : (p : Rule → Bool) → ((name : Text) → p (filled_option name) ≡ true) → (names : List Text) → list_all p (map filled_option names) ≡ true
each_filled p holds [] = refl
each_filled p holds (name ∷ names) = ap₂ (λ a b. a && b) (holds name) (each_filled p holds names)

no_filled : (p : Rule → Bool) → ((name : Text) → p (filled_option name) ≡ false) → (names : List Text) → list_any p (map filled_option names) ≡ false
no_filled p holds [] = refl
no_filled p holds (name ∷ names) = ap₂ (λ a b. a || b) (holds name) (no_filled p holds names)

-- the words that are no options are the one positional
one_index : (names : List Text) → count_by (λ (a : Rule). is_some a.index) (table names) ≡ 1
one_index [] = refl
one_index (name ∷ names) = one_index names

in_order : (names : List Text) → not (list_any (is_early_multiple (count_by (λ (a : Rule). is_some a.index) (table names))) (table names)) ≡ true
in_order names =
    ap (λ n. not (list_any (is_early_multiple n) (table names))) (one_index names)
    ∙ ap not (no_filled (is_early_multiple 1) (λ name. refl) names)

made_simple : (names : List Text) → list_all (λ (a : Rule). a.is_simple) (map option_rule names) ≡ true
made_simple names = each_made (λ a. a.is_simple) (λ name. refl) names

filled_simple : (names : List Text) → list_all (λ (a : Rule). a.is_simple) (map filled_option names) ≡ true
filled_simple names = each_filled (λ a. a.is_simple) (λ name. refl) names

filled_free : (names : List Text) → list_all (λ (a : Rule). a.is_free) (map filled_option names) ≡ true
filled_free names = each_filled (λ a. a.is_free) (λ name. refl) names

pub made_is_simple : (names : List Text) → is_simple (made names) ≡ true
made_is_simple names =
    let ready : (is_ready (built (made names)).top && list_all is_ready_leaf (built (made names)).subs) ≡ true =
    ap (λ (a : App). is_ready a.top && list_all is_ready_leaf a.subs) (built_is names) ∙ ap₂ (λ x y. (x && y) && true) (filled_simple names) (in_order names) in
    ap₂ (λ x y. (x && true) && y) (made_simple names) ready

pub made_is_free : (names : List Text) → is_simple_and_free (made names) ≡ true
made_is_free names =
    ap₂ (λ x y. x && y) (made_is_simple names) (ap is_free_app (built_is names) ∙ ap (λ b. b && true) (filled_free names))

-- ---- looking options up

find_option : (p : Rule → Bool) (name : Text) → ((other : Text) → p (filled_option other) ≡ bytes_eq other name) → (names : List Text)
    → find p (map filled_option names) ≡ cond (has_option names name) (Some (filled_option name)) None
find_option p name is [] = refl
find_option p name is (other ∷ names) = go (bytes_eq other name) refl (find_option p name is names)
  where
    go : (b : Bool) → bytes_eq other name ≡ b → find p (map filled_option names) ≡ cond (has_option names name) (Some (filled_option name)) None
        → cond (p (filled_option other)) (Some (filled_option other)) (find p (map filled_option names)) ≡ cond (bytes_eq other name || has_option names name) (Some (filled_option name)) None
    go true e later = rw (is other, e) (ap (λ t. Some (filled_option t)) (same_text other name e))
    go false e later = rw (is other, e) later

or_nothing : (b : Bool) → (b || false) ≡ b
or_nothing true = refl
or_nothing false = refl

pub by_long : (names : List Text) (name : Text) → arg_by_long (table names) name ≡ cond (has_option names name) (Some (filled_option name)) None
by_long names name = find_option (λ (a : Rule). not (is_some a.index) && (option_map_or (λ s. bytes_eq s name) a.long false || list_any (λ alias. bytes_eq alias name) a.aliases)) name (λ other. or_nothing (bytes_eq other name)) names

-- an option's name isn't the empty one
pub not_empty : (names : List Text) (name : Text) → has_option names [] ≡ false → has_option names name ≡ true → bytes_eq [] name ≡ false
not_empty names [] none there = absurd (true≢false (sym there ∙ none))
not_empty names (x ∷ xs) none there = refl

pub by_id : (names : List Text) (name : Text) → has_option names [] ≡ false → has_option names name ≡ true → arg_by_id (table names) name ≡ Some (filled_option name)
by_id names name none there =
    ap (λ b. cond b (Some filled_plain) (find (λ (a : Rule). bytes_eq a.id name) (map filled_option names))) (not_empty names name none there)
    ∙ find_option (λ (a : Rule). bytes_eq a.id name) name (λ other. refl) names
    ∙ ap (λ b. cond b (Some (filled_option name)) None) there

-- ---- after the words nothing else is done

same_either : {X : Type 0} (b : Bool) (x : X) → cond b x x ≡ x
same_either true x = refl
same_either false x = refl

no_defaults : (rows : List Row) (names : List Text) → fold with_default rows (map filled_option names) ≡ rows
no_defaults rows [] = refl
no_defaults rows (name ∷ names) = ap (λ rs. fold with_default rs (map filled_option names)) (same_either (has_row name rows) rows) ∙ no_defaults rows names

pub finished_is : (names : List Text) (h : Held) → finished (table names) h ≡ (settled (table names) h).rows
finished_is names h =
    ap (λ rs. fold with_default rs (map filled_option names)) (same_either (has_row [] (settled (table names) h).rows) (settled (table names) h).rows)
    ∙ no_defaults (settled (table names) h).rows names

or_always : (b : Bool) → (b || true) ≡ true
or_always true = refl
or_always false = refl

option_defaults : (rows : List Row) (names : List Text) → defaults_fault rows (map filled_option names) ≡ []
unfolding defaults_fault
option_defaults rows [] = refl
option_defaults rows (name ∷ names) =
    rw (or_always (has_row name rows), same_either (has_row name rows) rows) (option_defaults rows names)

pub no_default_fault : (rows : List Row) (names : List Text) → defaults_fault rows (table names) ≡ []
unfolding defaults_fault
no_default_fault rows names = rw (or_always (has_row [] rows), same_either (has_row [] rows) rows) (option_defaults rows names)

-- nothing is required
pub no_check_fault : (rows : List Row) (names : List Text) → check_fault (built_shape names) rows false ≡ []
no_check_fault rows names =
    rw (no_filled (λ (a : Rule). a.required && not (is_given a.id rows)) (λ name. refl) names) refl
