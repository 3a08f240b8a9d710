-- What a literal of a struct is made of, from given values and owed fields.
use Rattle.std.proofs.Common.{◌≡◌, ℕ, ℤ, ◌<ℤ◌, inl, inr, Bool, true, false, cond, List, [], ◌∷◌, ◌++◌, map, Option, Some, None, Ordering, Less, Equal, Greater, refl, sym, ap, ◌∙◌, subst, arith}
use Rattle.std.specs.Prelude.{⊤, AllPairs}
use Rattle.std.specs.Cmp.{IsTotalOrder}
use Rattle.std.specs.Ordering.{on}
use Rattle.std.proofs.lemmas.Cmp.{int_ranked, int_cmp_total, on_total}
use Rattle.std.specs.Option.{option_or}
use Rattle.std.specs.List.{AllByRecursion}
use Rattle.std.specs.Ordering.{int_eq, int_cmp, match_ordering}
use Rattle.std.specs.Int.RustNames.{int_lt}
use Rattle.std.proofs.lemmas.Bool.Decides.{Decides-int_eq}
use Rattle.std.proofs.lemmas.Int.{ints}
use Rattle.idl_token.specs.declared.Place.{Place}
use Rattle.thrift_value.specs.Tree.{Tree, FieldTrees}
use Rattle.schema.specs.declared.types.FieldNeed.{FieldNeed}
use Rattle.schema.specs.declared.types.FieldNeed.TheVariants.{Required, Default, Optional}
use Rattle.schema.specs.PlainSchema.{PlainField}
use Rattle.check_model.specs.Worths.{Worth, valued, flawed, and_next}
use Rattle.check_model.specs.Evaluation.{NamedWorth, FieldValue, last_given, with_field, missing_worth, default_worth, field_worth, fields_worth}
use Rattle.idl_const.specs.declared.ground.FieldEntry.{FieldEntry}
use Rattle.idl_const.specs.declared.field_rows.OwedField.{OwedField}
use Rattle.thrift_value.specs.declared.value.Value.{Value}
use Rattle.idl_const.specs.FieldEntries.{PlainFieldEntry, given_entry, owed_entry, entry_in, entry_id, entries_worth, given_in_memory, HasFieldId, AreGivenFor}
use Rattle.idl_const.specs.FieldRows.{needed_before, owed_before, entry_before, entries_for, owed_entries, owed_in}
use Rattle.idl_const.specs.Rows.{put_in, put_all_in, tidied}
use Rattle.idl_const.specs.Rows as rows
use Rattle.idl_const.proofs.DeclaredFields.{IsBelowAll, AreRising, rising_from, same_id, not_true, other_id}
use Rattle.idl_const.proofs.RowLaws.{is_less, is_equal, is_greater, rank, put_all-append, above_all, rising_tidied}

-- fields one by one

skipped : {A : Type 0} (w : Worth A) → and_next w (λ x n. valued x n) ≡ w
skipped (valued x n) = refl
skipped (flawed at flaw) = refl

module _ (named : NamedWorth) (at : Place) (levels : ℕ) where
  -- a field, and then others
  abbrev step : ℤ → Worth (Option Tree) → (ℕ → Worth FieldTrees) → Worth FieldTrees
  step id w others = and_next w (λ value n. and_next (others n) (λ rest m. valued (with_field id value rest) m))

  abbrev worth_of : List PlainFieldEntry → ℕ → Worth FieldTrees
  worth_of row count = entries_worth named at levels count row

  needed_is : (f : PlainField) (need : FieldNeed) (count : ℕ) (rest : List PlainFieldEntry) → f.need ≡ need
      → step f.id (missing_worth at count f.need) (worth_of rest) ≡ worth_of (needed_before need f rest) count
  needed_is f Required count rest is = refl
  needed_is f Default count rest is = ap (λ k. step f.id (missing_worth at count k) (worth_of rest)) is ∙ skipped (worth_of rest count)
  needed_is f Optional count rest is = ap (λ k. step f.id (missing_worth at count k) (worth_of rest)) is ∙ skipped (worth_of rest count)

  owed_is : (f : PlainField) (default : Option ℕ) (count : ℕ) (rest : List PlainFieldEntry)
      → step f.id (default_worth named at levels count f default) (worth_of rest) ≡ worth_of (owed_before f default rest) count
  owed_is f None count rest = needed_is f f.need count rest refl
  owed_is f (Some which) count rest = refl

  entry_is : (f : PlainField) (default : Option ℕ) (given : Option Tree) (count : ℕ) (rest : List PlainFieldEntry)
      → step f.id (field_worth named at levels count f default given) (worth_of rest) ≡ worth_of (entry_before f default given rest) count
  entry_is f default None count rest = owed_is f default count rest
  entry_is f default (Some value) count rest = refl

  pub fields_are : (default : ℤ → Option ℕ) (given : List FieldValue) (fs : List PlainField) (count : ℕ)
      → fields_worth named default given at levels count fs ≡ worth_of (entries_for default (λ id. last_given id given) fs) count
  fields_are default given [] count = refl
  fields_are default given (f ∷ more) count =
      (λ i. step f.id (field_worth named at levels count f (default f.id) (last_given f.id given)) (λ n. fields_are default given more n i))
      ∙ entry_is f (default f.id) (last_given f.id given) count (entries_for default (λ id. last_given id given) more)

-- the same is given for the same ids
pub entries_same : (default : ℤ → Option ℕ) (g h : ℤ → Option Tree) (fs : List PlainField) → AllByRecursion (λ (f : PlainField). g f.id ≡ h f.id) fs
    → entries_for default g fs ≡ entries_for default h fs
entries_same default g h [] same = refl
entries_same default g h (f ∷ more) same = λ i. entry_before f (default f.id) (same.0 i) (entries_same default g h more same.1 i)

-- a value that is given for an id
abbrev pub look : ℤ → List FieldValue → Option Tree
look id [] = None
look id (v ∷ more) = cond (int_eq v.id id) (Some v.value) (look id more)

-- an id is below those of given values
abbrev pub IsBelowGiven : ℤ → List FieldValue → Type 0
IsBelowGiven id [] = ⊤
IsBelowGiven id (v ∷ more) = (id <ℤ v.id) × IsBelowGiven id more

-- the ids of given values rise
abbrev pub AreRisingGiven : List FieldValue → Type 0
AreRisingGiven [] = ⊤
AreRisingGiven (v ∷ more) = IsBelowGiven v.id more × AreRisingGiven more

lower : (i j : ℤ) (g : List FieldValue) → i <ℤ j → IsBelowGiven j g → IsBelowGiven i g
lower i j [] low h = tt
lower i j (v ∷ more) low h = (omega (arith, ints, low, h.0), lower i j more low h.1)

other_id_back : (i j : ℤ) → j <ℤ i → int_eq i j ≡ false
other_id_back i j low = not_true (int_eq i j) (λ e. (let same = (Decides-int_eq i j).0 e in omega (arith, ints, same)))

-- nothing is given for a lower id
look_below : (id : ℤ) (g : List FieldValue) → IsBelowGiven id g → look id g ≡ None
look_below id [] h = refl
look_below id (v ∷ more) h = ap (λ b. cond b (Some v.value) (look id more)) (other_id_back v.id id h.0) ∙ look_below id more h.1

-- what is given for higher ids doesn't see a lower one
look_behind : (v : FieldValue) (g : List FieldValue) (fs : List PlainField) → IsBelowAll v.id fs → AllByRecursion (λ (f : PlainField). look f.id (v ∷ g) ≡ look f.id g) fs
look_behind v g [] h = tt
look_behind v g (f ∷ more) h = (ap (λ b. cond b (Some v.value) (look f.id g)) (other_id v.id f.id h.0), look_behind v g more h.1)

-- ids among fields that rise

among_above : (id i : ℤ) (fs : List PlainField) → IsBelowAll id fs → HasFieldId fs i → id <ℤ i
among_above id i [] h m = elim m [ ]
among_above id i (f ∷ more) h (inl e) = subst (λ j. id <ℤ j) e h.0
among_above id i (f ∷ more) h (inr m) = among_above id i more h.1 m

not_first : (i : ℤ) (f : PlainField) (more : List PlainField) → f.id <ℤ i → HasFieldId (f ∷ more) i → HasFieldId more i
not_first i f more low (inl e) = absurd (let same = subst (λ j. j <ℤ i) e low in omega (arith, ints, same))
not_first i f more low (inr m) = m

behind_first : (f : PlainField) (more : List PlainField) (g : List FieldValue) → IsBelowGiven f.id g → AreGivenFor (f ∷ more) g → AreGivenFor more g
behind_first f more [] below h = tt
behind_first f more (v ∷ g) below h = (not_first v.id f more below.0 h.0, behind_first f more g below.1 h.1)

-- the order of entries, and of given values

abbrev pub by_id : PlainFieldEntry → PlainFieldEntry → Ordering
by_id d e = int_cmp (entry_id d) (entry_id e)

abbrev pub by_given : FieldValue → FieldValue → Ordering
by_given v w = int_cmp v.id w.id

pub entries_total : IsTotalOrder by_id
entries_total = on_total entry_id int_cmp_total

given_total : IsTotalOrder by_given
given_total = on_total (λ (v : FieldValue). v.id) int_cmp_total

less_is : (i j : ℤ) → i <ℤ j → int_lt i j ≡ true
less_is i j low = grind (arith, ints)

not_itself : (i : ℤ) → int_lt i i ≡ false
not_itself i = grind (arith, ints)

cmp_less : (i j : ℤ) → i <ℤ j → int_cmp i j ≡ Less
cmp_less i j low = ap (λ b. cond b Less (cond (int_lt j i) Greater Equal)) (less_is i j low)

cmp_same : (i : ℤ) → int_cmp i i ≡ Equal
cmp_same i = λ k. cond (not_itself i k) Less (cond (not_itself i k) Greater Equal)

less_from : (i j : ℤ) → int_cmp i j ≡ Less → i <ℤ j
less_from i j e = int_ranked i j Less (sym e)

equal_from : (i j : ℤ) → int_cmp i j ≡ Equal → i ≡ j
equal_from i j e = int_ranked i j Equal (sym e)

-- putting in order, and a view

map_match : {A B : Type 0} (f : A → B) (o : Ordering) (a b c : List A) → map f (match_ordering o a b c) ≡ match_ordering o (map f a) (map f b) (map f c)
map_match f Less a b c = refl
map_match f Equal a b c = refl
map_match f Greater a b c = refl

module _ {A B : Type 0} (f : A → B) (R : B → B → Ordering) where
  -- the order of what is seen
  abbrev seen : A → A → Ordering
  seen x y = R (f x) (f y)

  map_put : (x : A) (ys : List A) → map f (put_in seen x ys) ≡ put_in R (f x) (map f ys)
  map_put x [] = refl
  map_put x (y ∷ ys) =
      map_match f (R (f x) (f y)) (x ∷ y ∷ ys) (y ∷ ys) (y ∷ put_in seen x ys)
      ∙ ap (λ l. match_ordering (R (f x) (f y)) (f x ∷ f y ∷ map f ys) (f y ∷ map f ys) (f y ∷ l)) (map_put x ys)

  pub map_tidied : (xs : List A) → map f (tidied seen xs) ≡ tidied R (map f xs)
  map_tidied [] = refl
  map_tidied (x ∷ xs) = map_put x (tidied seen xs) ∙ ap (put_in R (f x)) (map_tidied xs)

-- what is given last, in order

below_given : (v : FieldValue) (g : List FieldValue) → rows.IsBelowAll by_given v g → IsBelowGiven v.id g
below_given v [] h = tt
below_given v (w ∷ more) h = (less_from v.id w.id h.0, below_given v more h.1)

rising_given : (g : List FieldValue) → rows.AreRising by_given g → AreRisingGiven g
rising_given [] h = tt
rising_given (v ∷ more) h = (below_given v more h.0, rising_given more h.1)

or_none : (o : Option Tree) → option_or o None ≡ o
or_none None = refl
or_none (Some x) = refl

-- one value, if it is for an id
abbrev if_for : ℤ → FieldValue → Option Tree
if_for id v = cond (int_eq v.id id) (Some v.value) None

less_look : (b : Bool) (v : FieldValue) (id : ℤ) (g : List FieldValue) → int_eq v.id id ≡ b → IsBelowGiven v.id g → cond b (Some v.value) (look id g) ≡ option_or (look id g) (cond b (Some v.value) None)
less_look true v id g is below =
    let same : v.id ≡ id = (Decides-int_eq v.id id).0 is in
    let none : look id g ≡ None = look_below id g (subst (λ i. IsBelowGiven i g) same below) in
    sym (ap (λ o. option_or o (Some v.value)) none)
less_look false v id g is below = sym (or_none (look id g))

same_look : (b : Bool) (v w : FieldValue) (id : ℤ) (g : List FieldValue) → int_eq v.id id ≡ b → v.id ≡ w.id → look id (w ∷ g) ≡ option_or (look id (w ∷ g)) (cond b (Some v.value) None)
same_look true v w id g is same =
    let there : look id (w ∷ g) ≡ Some w.value = ap (λ c. cond c (Some w.value) (look id g)) (ap (λ i. int_eq i id) (sym same) ∙ is) in
    there ∙ sym (ap (λ o. option_or o (Some v.value)) there)
same_look false v w id g is same = sym (or_none (look id (w ∷ g)))

greater_look : (b : Bool) (x : Tree) (rest other z : Option Tree) → rest ≡ option_or other z → cond b (Some x) rest ≡ option_or (cond b (Some x) other) z
greater_look true x rest other z is = refl
greater_look false x rest other z is = is

put_look : (v : FieldValue) (g : List FieldValue) (id : ℤ) → AreRisingGiven g → look id (put_in by_given v g) ≡ option_or (look id g) (if_for id v)
put_look v [] id h = refl
put_look v (w ∷ g) id h =
    elim (rank (by_given v w)) [
      | is_less l ↦ ap (λ o. look id (match_ordering o (v ∷ w ∷ g) (w ∷ g) (w ∷ put_in by_given v g))) l
          ∙ less_look (int_eq v.id id) v id (w ∷ g) refl (less_from v.id w.id l, lower v.id w.id g (less_from v.id w.id l) h.0)
      | is_equal q ↦ ap (λ o. look id (match_ordering o (v ∷ w ∷ g) (w ∷ g) (w ∷ put_in by_given v g))) q
          ∙ same_look (int_eq v.id id) v w id g refl (equal_from v.id w.id q)
      | is_greater r ↦ ap (λ o. look id (match_ordering o (v ∷ w ∷ g) (w ∷ g) (w ∷ put_in by_given v g))) r
          ∙ greater_look (int_eq w.id id) w.value (look id (put_in by_given v g)) (look id g) (if_for id v) (put_look v g id h.1)
    ]

look_last : (given : List FieldValue) (id : ℤ) → look id (tidied by_given given) ≡ last_given id given
look_last [] id = refl
look_last (v ∷ more) id =
    put_look v (tidied by_given more) id (rising_given (tidied by_given more) (rising_tidied by_given given_total more))
    ∙ ap (λ o. option_or o (if_for id v)) (look_last more id)

-- values put in order are given for the same fields

for_match : (fs : List PlainField) (o : Ordering) (v w : FieldValue) (g put : List FieldValue) → HasFieldId fs v.id → AreGivenFor fs (w ∷ g) → AreGivenFor fs put
    → AreGivenFor fs (match_ordering o (v ∷ w ∷ g) (w ∷ g) (w ∷ put))
for_match fs Less v w g put has h k = (has, h)
for_match fs Equal v w g put has h k = h
for_match fs Greater v w g put has h k = (h.0, k)

for_put : (fs : List PlainField) (v : FieldValue) (g : List FieldValue) → HasFieldId fs v.id → AreGivenFor fs g → AreGivenFor fs (put_in by_given v g)
for_put fs v [] has h = (has, tt)
for_put fs v (w ∷ g) has h = for_match fs (by_given v w) v w g (put_in by_given v g) has h (for_put fs v g has h.1)

for_tidied : (fs : List PlainField) (given : List FieldValue) → AreGivenFor fs given → AreGivenFor fs (tidied by_given given)
for_tidied fs [] h = tt
for_tidied fs (v ∷ more) h = for_put fs v (tidied by_given more) h.0 (for_tidied fs more h.1)

-- owed fields put among given values

-- the first of some entries has a higher id
abbrev IsBelowFirst : ℤ → List PlainFieldEntry → Type 0
IsBelowFirst id [] = ⊤
IsBelowFirst id (e ∷ more) = id <ℤ entry_id e

first_needed : (id : ℤ) (need : FieldNeed) (f : PlainField) (rest : List PlainFieldEntry) → id <ℤ f.id → IsBelowFirst id rest → IsBelowFirst id (needed_before need f rest)
first_needed id Required f rest low h = low
first_needed id Default f rest low h = h
first_needed id Optional f rest low h = h

first_owed : (id : ℤ) (o : Option ℕ) (f : PlainField) (rest : List PlainFieldEntry) → id <ℤ f.id → IsBelowFirst id rest → IsBelowFirst id (owed_before f o rest)
first_owed id None f rest low h = first_needed id f.need f rest low h
first_owed id (Some which) f rest low h = low

first_entry : (id : ℤ) (o : Option ℕ) (v : Option Tree) (f : PlainField) (rest : List PlainFieldEntry) → id <ℤ f.id → IsBelowFirst id rest → IsBelowFirst id (entry_before f o v rest)
first_entry id o None f rest low h = first_owed id o f rest low h
first_entry id o (Some value) f rest low h = low

first_above : (default : ℤ → Option ℕ) (given : ℤ → Option Tree) (id : ℤ) (fs : List PlainField) → IsBelowAll id fs → IsBelowFirst id (entries_for default given fs)
first_above default given id [] h = tt
first_above default given id (f ∷ more) h = first_entry id (default f.id) (given f.id) f (entries_for default given more) h.0 (first_above default given id more h.1)

put_first : (e : PlainFieldEntry) (row : List PlainFieldEntry) → IsBelowFirst (entry_id e) row → put_in by_id e row ≡ e ∷ row
put_first e [] h = refl
put_first e (d ∷ more) h = ap (λ o. match_ordering o (e ∷ d ∷ more) (d ∷ more) (d ∷ put_in by_id e more)) (cmp_less (entry_id e) (entry_id d) h)

put_same : (e d : PlainFieldEntry) (row : List PlainFieldEntry) → entry_id e ≡ entry_id d → put_in by_id e (d ∷ row) ≡ d ∷ row
put_same e d row same = ap (λ o. match_ordering o (e ∷ d ∷ row) (d ∷ row) (d ∷ put_in by_id e row)) (ap (λ i. int_cmp (entry_id e) i) (sym same) ∙ cmp_same (entry_id e))

-- a field that is owed or not, in front of a row that has a value for it, or higher ids alone
same_needed : (need : FieldNeed) (f : PlainField) (v : FieldValue) (owed row rest : List PlainFieldEntry) → f.id ≡ v.id → put_all_in by_id owed row ≡ given_entry v ∷ rest
    → put_all_in by_id (needed_before need f owed) row ≡ given_entry v ∷ rest
same_needed Required f v owed row rest same is = ap (put_in by_id (owed_entry f None)) is ∙ put_same (owed_entry f None) (given_entry v) rest same
same_needed Default f v owed row rest same is = is
same_needed Optional f v owed row rest same is = is

same_owed : (o : Option ℕ) (f : PlainField) (v : FieldValue) (owed row rest : List PlainFieldEntry) → f.id ≡ v.id → put_all_in by_id owed row ≡ given_entry v ∷ rest
    → put_all_in by_id (owed_before f o owed) row ≡ given_entry v ∷ rest
same_owed None f v owed row rest same is = same_needed f.need f v owed row rest same is
same_owed (Some which) f v owed row rest same is = ap (put_in by_id (owed_entry f (Some which))) is ∙ put_same (owed_entry f (Some which)) (given_entry v) rest same

new_needed : (need : FieldNeed) (f : PlainField) (owed row rest : List PlainFieldEntry) → IsBelowFirst f.id rest → put_all_in by_id owed row ≡ rest
    → put_all_in by_id (needed_before need f owed) row ≡ needed_before need f rest
new_needed Required f owed row rest low is = ap (put_in by_id (owed_entry f None)) is ∙ put_first (owed_entry f None) rest low
new_needed Default f owed row rest low is = is
new_needed Optional f owed row rest low is = is

new_owed : (o : Option ℕ) (f : PlainField) (owed row rest : List PlainFieldEntry) → IsBelowFirst f.id rest → put_all_in by_id owed row ≡ rest
    → put_all_in by_id (owed_before f o owed) row ≡ owed_before f o rest
new_owed None f owed row rest low is = new_needed f.need f owed row rest low is
new_owed (Some which) f owed row rest low is = ap (put_in by_id (owed_entry f (Some which))) is ∙ put_first (owed_entry f (Some which)) rest low

-- owed entries come behind an id that is below all of the fields
all_needed : (e : PlainFieldEntry) (need : FieldNeed) (f : PlainField) (rest : List PlainFieldEntry) → entry_id e <ℤ f.id → rows.IsBelowAll by_id e rest → rows.IsBelowAll by_id e (needed_before need f rest)
all_needed e Required f rest low h = (cmp_less (entry_id e) f.id low, h)
all_needed e Default f rest low h = h
all_needed e Optional f rest low h = h

all_owed : (e : PlainFieldEntry) (o : Option ℕ) (f : PlainField) (rest : List PlainFieldEntry) → entry_id e <ℤ f.id → rows.IsBelowAll by_id e rest → rows.IsBelowAll by_id e (owed_before f o rest)
all_owed e None f rest low h = all_needed e f.need f rest low h
all_owed e (Some which) f rest low h = (cmp_less (entry_id e) f.id low, h)

all_above : (default : ℤ → Option ℕ) (e : PlainFieldEntry) (fs : List PlainField) → IsBelowAll (entry_id e) fs → rows.IsBelowAll by_id e (owed_entries default fs)
all_above default e [] h = tt
all_above default e (f ∷ more) h = all_owed e (default f.id) f (owed_entries default more) h.0 (all_above default e more h.1)

module _ (default : ℤ → Option ℕ) where
  -- the first value is the first field's
  with_first : (f : PlainField) (more : List PlainField) (v : FieldValue) (g : List FieldValue) → AreRising (f ∷ more) → f.id ≡ v.id
      → put_all_in by_id (owed_entries default more) (map given_entry g) ≡ entries_for default (λ id. look id g) more
      → put_all_in by_id (owed_entries default (f ∷ more)) (map given_entry (v ∷ g)) ≡ entries_for default (λ id. look id (v ∷ g)) (f ∷ more)
  with_first f more v g rising same rest =
      let above : IsBelowAll v.id more = subst (λ i. IsBelowAll i more) same rising.0 in
      let row = entries_for default (λ id. look id (v ∷ g)) more in
      let behind : put_all_in by_id (owed_entries default more) (map given_entry (v ∷ g)) ≡ given_entry v ∷ row =
      above_all by_id entries_total (given_entry v) (owed_entries default more) (map given_entry g) (all_above default (given_entry v) more above)
      ∙ (λ i. given_entry v ∷ rest i)
      ∙ (λ i. given_entry v ∷ sym (entries_same default (λ id. look id (v ∷ g)) (λ id. look id g) more (look_behind v g more above)) i) in
      let found : look f.id (v ∷ g) ≡ Some v.value = ap (λ b. cond b (Some v.value) (look f.id g)) (ap (λ i. int_eq v.id i) same ∙ same_id v.id) in
      same_owed (default f.id) f v (owed_entries default more) (map given_entry (v ∷ g)) row same behind
      ∙ sym (ap (λ o. entry_before f (default f.id) o row) found ∙ (λ i. given_entry (record { id = same i; value = v.value }) ∷ row))

  without_first : (f : PlainField) (more : List PlainField) (g : List FieldValue) → AreRising (f ∷ more) → IsBelowGiven f.id g
      → put_all_in by_id (owed_entries default more) (map given_entry g) ≡ entries_for default (λ id. look id g) more
      → put_all_in by_id (owed_entries default (f ∷ more)) (map given_entry g) ≡ entries_for default (λ id. look id g) (f ∷ more)
  without_first f more g rising low rest =
      let row = entries_for default (λ id. look id g) more in
      new_owed (default f.id) f (owed_entries default more) (map given_entry g) row (first_above default (λ id. look id g) f.id more rising.0) rest
      ∙ sym (ap (λ o. entry_before f (default f.id) o row) (look_below f.id g low))

  by_first : (f : PlainField) (more : List PlainField) (v : FieldValue) (g : List FieldValue) → AreRising (f ∷ more) → AreRisingGiven (v ∷ g) → HasFieldId (f ∷ more) v.id → AreGivenFor (f ∷ more) g
      → ((h : List FieldValue) → AreRisingGiven h → AreGivenFor more h → put_all_in by_id (owed_entries default more) (map given_entry h) ≡ entries_for default (λ id. look id h) more)
      → put_all_in by_id (owed_entries default (f ∷ more)) (map given_entry (v ∷ g)) ≡ entries_for default (λ id. look id (v ∷ g)) (f ∷ more)
  by_first f more v g rising given (inl same) for on =
      with_first f more v g rising same (on g given.1 (behind_first f more g (subst (λ i. IsBelowGiven i g) (sym same) given.0) for))
  by_first f more v g rising given (inr m) for on =
      let low = among_above f.id v.id more rising.0 m in
      let below : IsBelowGiven f.id g = lower f.id v.id g low given.0 in
      without_first f more (v ∷ g) rising (low, below) (on (v ∷ g) given (m, behind_first f more g below for))

  put_all_is : (fs : List PlainField) (g : List FieldValue) → AreRising fs → AreRisingGiven g → AreGivenFor fs g
      → put_all_in by_id (owed_entries default fs) (map given_entry g) ≡ entries_for default (λ id. look id g) fs
  put_all_is [] [] rising given for = refl
  put_all_is [] (v ∷ g) rising given for = absurd for.0
  put_all_is (f ∷ more) [] rising given for = without_first f more [] rising tt (put_all_is more [] rising.1 tt tt)
  put_all_is (f ∷ more) (v ∷ g) rising given for = by_first f more v g rising given for.0 for.1 (λ h rises for. put_all_is more h rising.1 rises for)

  looks_alike : (given : List FieldValue) (fs : List PlainField) → AllByRecursion (λ (f : PlainField). look f.id (tidied by_given given) ≡ last_given f.id given) fs
  looks_alike given [] = tt
  looks_alike given (f ∷ more) = (look_last given f.id, looks_alike given more)

  -- owed fields and given ones in one row
  pub row_is : (fs : List PlainField) (given : List FieldValue) → AreRising fs → AreGivenFor fs given
      → tidied by_id (owed_entries default fs ++ map given_entry given) ≡ entries_for default (λ id. last_given id given) fs
  row_is fs given rising for =
      let g = tidied by_given given in
      put_all-append by_id entries_total (owed_entries default fs) (map given_entry given) []
      ∙ ap (put_all_in by_id (owed_entries default fs)) (sym (map_tidied given_entry by_id given))
      ∙ put_all_is fs g rising (rising_given g (rising_tidied by_given given_total given)) (for_tidied fs given for)
      ∙ entries_same default (λ id. look id g) (λ id. last_given id given) fs (looks_alike given fs)

  -- the worth of a struct's fields, from the row in memory
  pub row_worth : (named : NamedWorth) (at : Place) (levels count : ℕ) (fs : List PlainField) (given : List FieldValue) (row : List PlainFieldEntry) → AllPairs (λ (f g : PlainField). f.id <ℤ g.id) fs
      → AreGivenFor fs given → row ≡ tidied by_id (owed_entries default fs ++ map given_entry given)
      → fields_worth named default given at levels count fs ≡ entries_worth named at levels count row
  row_worth named at levels count fs given row rising for is =
      fields_are named at levels default given fs count ∙ ap (λ r. entries_worth named at levels count r) (sym (is ∙ row_is fs given (rising_from fs rising) for))

-- the same of the row that was made
pub row_meets : (items row : List FieldEntry) (owed : List OwedField) (given : List (ℤ × Value)) → map entry_in items ≡ map owed_in owed ++ map given_entry (map given_in_memory given)
    → row ≡ tidied (λ x y. by_id (entry_in x) (entry_in y)) items
    → (default : ℤ → Option ℕ) (fs : List PlainField) → AllPairs (λ (f g : PlainField). f.id <ℤ g.id) fs → map owed_in owed ≡ owed_entries default fs → AreGivenFor fs (map given_in_memory given)
    → (named : NamedWorth) (at : Place) (levels count : ℕ) → fields_worth named default (map given_in_memory given) at levels count fs ≡ entries_worth named at levels count (map entry_in row)
row_meets items row owed given items_are row_are default fs rising owed_are for named at levels count =
    row_worth default named at levels count fs (map given_in_memory given) (map entry_in row) rising for
    (ap (map entry_in) row_are ∙ map_tidied entry_in by_id items ∙ ap (tidied by_id) (items_are ∙ (λ i. owed_are i ++ map given_entry (map given_in_memory given))))
