-- What is known of what was read, and which faults stay.
use Rattle.std.proofs.Common.{◌≡◌, ℕ, Bool, true, false, true≢false, cond, List, Some, None, Result, Ok, Err, refl, sym, ap, subst, ◌∙◌}
use Rattle.std.specs.Option.{option_map}
use Rattle.std.specs.Prelude.{◌==◌}
use Rattle.std.proofs.lemmas.Bool.{eqb-true}
use Rattle.thrift_value.specs.declared.tag.Tag.{Tag}
use Rattle.thrift_value.specs.declared.tag.Tag.TheVariants as tags
use Rattle.thrift_value.specs.declared.wire_fault.WireFault.{WireFault}
use Rattle.thrift_value.specs.declared.wire_fault.WireFault.TheVariants.{Short, BadType, BadSize, LongVarint, FieldRange, TooDeep, TooMany, NoMemory}
use Rattle.thrift_value.specs.Tags.{tag_of, rank}
use Rattle.thrift_value.specs.Tree.{Tree, of_bool, of_i8, of_i16, of_i32, of_i64, of_double, of_bytes, of_struct, of_map, of_set, of_list, of_uuid, FieldTrees, ItemTrees, PairTrees}
use Rattle.schema.specs.PlainKind.{PlainKind, kind_struct, kind_map, kind_set, kind_list}
use Rattle.schema.specs.PlainSchema.{PlainSchema}
use Rattle.wire_model.specs.Answering.{FaultsOrNoMemory, FaultsExactly, AnswersOrNoMemory}
use Rattle.wire_model.specs.AtPlace.{passed_over}
use Rattle.wire_model.specs.Decoder.{Unread, go_on, give}
use Rattle.wire_model.specs.Place.{placed}
use Rattle.wire_model.specs.Wire.{IsScalar}
use Rattle.wire_walk.proofs.Faults.{fails_same, fails_told, fails_on}
use Rattle.wire_walk.proofs.PassedOver.{Reading, faults_by}
use Rattle.known_parts.specs.Known.{known, known_fields, known_items, known_pairs}
use Rattle.known_parts.specs.KnownAt.{read_seen}
use Rattle.known_parts.specs.Parts.{tag_of_kind, are_same_tags}

-- the same fault of another reading, where a fault of the one is one of the other
pub fails_alike : {X Y : Type 0} (fault : WireFault) (r : Result X WireFault) (s : Result Y WireFault)
    → ((f : WireFault) → r ≡ Err f → s ≡ Err f) → FaultsOrNoMemory fault r → FaultsOrNoMemory fault s
fails_alike Short r s on h = on Short h
fails_alike (BadType n) r s on h = on (BadType n) h
fails_alike BadSize r s on h = on BadSize h
fails_alike LongVarint r s on h = on LongVarint h
fails_alike FieldRange r s on h = on FieldRange h
fails_alike TooDeep r s on h = on TooDeep h
fails_alike TooMany r s on h = on TooMany h
fails_alike NoMemory r s on h = tt

-- what is seen of what was read doesn't matter
pub seen_fails : {A B : Type 0} (see : A → B) (fault : WireFault) (r : Reading A) → FaultsOrNoMemory fault r → FaultsOrNoMemory fault (read_seen see r)
seen_fails see fault r h = fails_alike fault r (read_seen see r) (λ f e. ap (read_seen see) e) h

-- a step that is at fault, in what is seen of the whole
pub step_fails : {A B C : Type 0} (see : B → C) (fault : WireFault) (whole : Reading B) (r : Reading A) (k : A → Unread → Reading B)
    → whole ≡ go_on r k → FaultsOrNoMemory fault r → FaultsOrNoMemory fault (read_seen see whole)
step_fails see fault whole r k is h = seen_fails see fault whole (fails_same fault _ _ (sym is) (fails_on fault r k h))

pub is_too_deep : {A B : Type 0} (see : A → B) (fault : WireFault) (r : Reading A) → fault ≡ TooDeep → r ≡ Err TooDeep → FaultsOrNoMemory fault (read_seen see r)
is_too_deep see fault r is e = subst (λ f. FaultsOrNoMemory f (read_seen see r)) (sym is) (ap (read_seen see) e)

-- a fault of what is passed over
pub fault_of_passed : {A : Type 0} (r : Reading A) (fault : WireFault) → passed_over r ≡ Err fault → r ≡ Err fault
fault_of_passed (Ok x) fault e = absurd cc
fault_of_passed (Err f) fault e = let same : f ≡ fault = cc in ap (λ (y : WireFault). Err y) same

pub passed_fails : {A Y : Type 0} (fault : WireFault) (r : Reading A) (s : Result Y WireFault) → ((f : WireFault) → r ≡ Err f → s ≡ Err f)
    → FaultsExactly fault (passed_over r) → FaultsOrNoMemory fault s
passed_fails fault r s on h = fails_told fault s (faults_by fault (passed_over r) s (λ f e. on f (fault_of_passed r f e)) h)

-- two ways to see what was read that agree on it
pub seen_alike : {A B : Type 0} (one other : A → B) (r : Reading A) → ((x : A) (after : Unread) → r ≡ Ok (x, after) → one x ≡ other x) → read_seen one r ≡ read_seen other r
seen_alike one other (Ok x) same = ap (λ y. Ok (y, x.1)) (same x.0 x.1 refl)
seen_alike one other (Err fault) same = refl

pub answers_alike : {X Y : Type 0} (view : X → Y) (result : Result X WireFault) (r s : Result Y WireFault) → r ≡ s → AnswersOrNoMemory view result r → AnswersOrNoMemory view result s
answers_alike view result r s e h = subst (λ x. AnswersOrNoMemory view result x) e h

-- what is known of what a struct and a container hold
module _ (s : PlainSchema) where
  pub struct_seen : (which : ℕ) (whole : Reading Tree) (r : Reading FieldTrees) → go_on r (λ fields. give (of_struct fields)) ≡ whole
      → read_seen (λ fields. Some (of_struct fields)) (read_seen (known_fields s which) r) ≡ read_seen (λ x. known s x (kind_struct which)) whole
  struct_seen which whole r opened = parts r ∙ ap (read_seen (λ x. known s x (kind_struct which))) opened
    where
      parts : (m : Reading FieldTrees) → read_seen (λ fields. Some (of_struct fields)) (read_seen (known_fields s which) m)
          ≡ read_seen (λ x. known s x (kind_struct which)) (go_on m (λ fields. give (of_struct fields)))
      parts (Ok x) = refl
      parts (Err fault) = refl

  pub map_seen : (key value : PlainKind) (k v : Tag) (whole : Reading Tree) (r : Reading PairTrees) → go_on r (λ pairs. give (of_map k v pairs)) ≡ whole
      → read_seen (option_map (of_map (tag_of_kind key) (tag_of_kind value))) (read_seen (λ all. known_pairs s all key value) r) ≡ read_seen (λ x. known s x (kind_map key value)) whole
  map_seen key value k v whole r opened = parts r ∙ ap (read_seen (λ x. known s x (kind_map key value))) opened
    where
      parts : (m : Reading PairTrees) → read_seen (option_map (of_map (tag_of_kind key) (tag_of_kind value))) (read_seen (λ all. known_pairs s all key value) m)
          ≡ read_seen (λ x. known s x (kind_map key value)) (go_on m (λ pairs. give (of_map k v pairs)))
      parts (Ok x) = refl
      parts (Err fault) = refl

  pub elements_seen : (kind : PlainKind) (t : Tag) (whole : Reading (Tag × ItemTrees)) (r : Reading ItemTrees) → go_on r (λ items. give (t, items)) ≡ whole
      → read_seen (λ all. known_items s all kind) r ≡ read_seen (λ (e : Tag × ItemTrees). known_items s e.1 kind) whole
  elements_seen kind t whole r opened = parts r ∙ ap (read_seen (λ (e : Tag × ItemTrees). known_items s e.1 kind)) opened
    where
      parts : (m : Reading ItemTrees) → read_seen (λ all. known_items s all kind) m ≡ read_seen (λ (e : Tag × ItemTrees). known_items s e.1 kind) (go_on m (λ items. give (t, items)))
      parts (Ok x) = refl
      parts (Err fault) = refl

  pub set_seen : (kind member : PlainKind) (whole : Reading Tree) (r : Reading (Tag × ItemTrees)) → kind ≡ kind_set member
      → go_on r (λ (e : Tag × ItemTrees). give (of_set e.0 e.1)) ≡ whole
      → read_seen (option_map (of_set (tag_of_kind member))) (read_seen (λ (e : Tag × ItemTrees). known_items s e.1 member) r) ≡ read_seen (λ x. known s x kind) whole
  set_seen kind member whole r is opened = parts r ∙ (λ i. read_seen (λ x. known s x (sym is i)) (opened i))
    where
      parts : (m : Reading (Tag × ItemTrees)) → read_seen (option_map (of_set (tag_of_kind member))) (read_seen (λ (e : Tag × ItemTrees). known_items s e.1 member) m)
          ≡ read_seen (λ x. known s x (kind_set member)) (go_on m (λ (e : Tag × ItemTrees). give (of_set e.0 e.1)))
      parts (Ok x) = refl
      parts (Err fault) = refl

  pub list_seen : (kind element : PlainKind) (whole : Reading Tree) (r : Reading (Tag × ItemTrees)) → kind ≡ kind_list element
      → go_on r (λ (e : Tag × ItemTrees). give (of_list e.0 e.1)) ≡ whole
      → read_seen (option_map (of_list (tag_of_kind element))) (read_seen (λ (e : Tag × ItemTrees). known_items s e.1 element) r) ≡ read_seen (λ x. known s x kind) whole
  list_seen kind element whole r is opened = parts r ∙ (λ i. read_seen (λ x. known s x (sym is i)) (opened i))
    where
      parts : (m : Reading (Tag × ItemTrees)) → read_seen (option_map (of_list (tag_of_kind element))) (read_seen (λ (e : Tag × ItemTrees). known_items s e.1 element) m)
          ≡ read_seen (λ x. known s x (kind_list element)) (go_on m (λ (e : Tag × ItemTrees). give (of_list e.0 e.1)))
      parts (Ok x) = refl
      parts (Err fault) = refl

  -- what is known of a value, by its type and what was read of it
  pub kind_seen : (kind known_kind : PlainKind) (r whole : Reading Tree) → kind ≡ known_kind → r ≡ whole
      → read_seen (λ x. known s x known_kind) r ≡ read_seen (λ x. known s x kind) whole
  kind_seen kind known_kind r whole is e = λ i. read_seen (λ x. known s x (sym is i)) (e i)

  -- nothing is known of a value of another tag
  other_tag : (x : Tree) (kind : PlainKind) → are_same_tags (tag_of_kind kind) (tag_of x) ≡ false → known s x kind ≡ None
  other_tag (of_struct f) (kind_struct which) e = absurd (true≢false e)
  other_tag (of_struct f) kind e = ap (λ b. cond b (Some (of_struct f)) None) e
  other_tag (of_map k v f) (kind_map key value) e = absurd (true≢false e)
  other_tag (of_map k v f) kind e = ap (λ b. cond b (Some (of_map k v f)) None) e
  other_tag (of_set t f) (kind_set member) e = absurd (true≢false e)
  other_tag (of_set t f) kind e = ap (λ b. cond b (Some (of_set t f)) None) e
  other_tag (of_list t f) (kind_list element) e = absurd (true≢false e)
  other_tag (of_list t f) kind e = ap (λ b. cond b (Some (of_list t f)) None) e
  other_tag (of_bool b) kind e = ap (λ c. cond c (Some (of_bool b)) None) e
  other_tag (of_i8 n) kind e = ap (λ c. cond c (Some (of_i8 n)) None) e
  other_tag (of_i16 n) kind e = ap (λ c. cond c (Some (of_i16 n)) None) e
  other_tag (of_i32 n) kind e = ap (λ c. cond c (Some (of_i32 n)) None) e
  other_tag (of_i64 n) kind e = ap (λ c. cond c (Some (of_i64 n)) None) e
  other_tag (of_double n) kind e = ap (λ c. cond c (Some (of_double n)) None) e
  other_tag (of_uuid n) kind e = ap (λ c. cond c (Some (of_uuid n)) None) e
  other_tag (of_bytes n) kind e = ap (λ c. cond c (Some (of_bytes n)) None) e

  pub tag_unknown : (x : Tree) (kind : PlainKind) (tag : Tag) → tag_of x ≡ tag → false ≡ are_same_tags (tag_of_kind kind) tag → known s x kind ≡ None
  tag_unknown x kind tag is e = other_tag x kind (ap (are_same_tags (tag_of_kind kind)) is ∙ sym e)

  -- a number, a bool or bytes of the type's tag is known
  pub leaf_known : (x : Tree) (kind : PlainKind) (tag : Tag) → tag_of x ≡ tag → true ≡ are_same_tags (tag_of_kind kind) tag
      → (tag ≡ tags.Struct → ⊥) → (tag ≡ tags.Map → ⊥) → (tag ≡ tags.Set → ⊥) → (tag ≡ tags.List → ⊥) → known s x kind ≡ Some x
  leaf_known (of_struct f) kind tag is e a b c d = absurd (a (sym is))
  leaf_known (of_map k v f) kind tag is e a b c d = absurd (b (sym is))
  leaf_known (of_set t f) kind tag is e a b c d = absurd (c (sym is))
  leaf_known (of_list t f) kind tag is e a b c d = absurd (d (sym is))
  leaf_known (of_bool x) kind tag is e a b c d = ap (λ y. cond y (Some (of_bool x)) None) (ap (are_same_tags (tag_of_kind kind)) is ∙ sym e)
  leaf_known (of_i8 x) kind tag is e a b c d = ap (λ y. cond y (Some (of_i8 x)) None) (ap (are_same_tags (tag_of_kind kind)) is ∙ sym e)
  leaf_known (of_i16 x) kind tag is e a b c d = ap (λ y. cond y (Some (of_i16 x)) None) (ap (are_same_tags (tag_of_kind kind)) is ∙ sym e)
  leaf_known (of_i32 x) kind tag is e a b c d = ap (λ y. cond y (Some (of_i32 x)) None) (ap (are_same_tags (tag_of_kind kind)) is ∙ sym e)
  leaf_known (of_i64 x) kind tag is e a b c d = ap (λ y. cond y (Some (of_i64 x)) None) (ap (are_same_tags (tag_of_kind kind)) is ∙ sym e)
  leaf_known (of_double x) kind tag is e a b c d = ap (λ y. cond y (Some (of_double x)) None) (ap (are_same_tags (tag_of_kind kind)) is ∙ sym e)
  leaf_known (of_uuid x) kind tag is e a b c d = ap (λ y. cond y (Some (of_uuid x)) None) (ap (are_same_tags (tag_of_kind kind)) is ∙ sym e)
  leaf_known (of_bytes x) kind tag is e a b c d = ap (λ y. cond y (Some (of_bytes x)) None) (ap (are_same_tags (tag_of_kind kind)) is ∙ sym e)

  pub text_known : (text : List ℕ) (kind : PlainKind) (tag : Tag) → tag ≡ tags.Bytes → true ≡ are_same_tags (tag_of_kind kind) tag → known s (of_bytes text) kind ≡ Some (of_bytes text)
  text_known text kind tag is e = ap (λ y. cond y (Some (of_bytes text)) None) (ap (are_same_tags (tag_of_kind kind)) (sym is) ∙ sym e)

  -- a text that was read is known, as what was read whole
  pub text_seen : (kind : PlainKind) (tag : Tag) (r : Reading (List ℕ)) (whole : Reading Tree) → tag ≡ tags.Bytes → true ≡ are_same_tags (tag_of_kind kind) tag
      → whole ≡ go_on r (λ text. give (of_bytes text)) → read_seen (λ text. Some (of_bytes text)) r ≡ read_seen (λ x. known s x kind) whole
  text_seen kind tag (Ok x) whole is same e = ap (λ o. Ok (o, x.1)) (sym (text_known x.0 kind tag is same)) ∙ ap (read_seen (λ y. known s y kind)) (sym e)
  text_seen kind tag (Err fault) whole is same e = ap (read_seen (λ y. known s y kind)) (sym e)

-- the tag of a rank
tag_at_rank : ℕ → Tag
tag_at_rank n =
    cond (n == 0) tags.Bool (cond (n == 1) tags.I8 (cond (n == 2) tags.I16 (cond (n == 3) tags.I32 (cond (n == 4) tags.I64 (cond (n == 5) tags.Double
    (cond (n == 6) tags.Bytes (cond (n == 7) tags.Struct (cond (n == 8) tags.Map (cond (n == 9) tags.Set (cond (n == 10) tags.List tags.Uuid))))))))))

its_rank : (t : Tag) → tag_at_rank (rank t) ≡ t
unfolding tag_at_rank
its_rank tags.Bool = refl
its_rank tags.I8 = refl
its_rank tags.I16 = refl
its_rank tags.I32 = refl
its_rank tags.I64 = refl
its_rank tags.Double = refl
its_rank tags.Bytes = refl
its_rank tags.Struct = refl
its_rank tags.Map = refl
its_rank tags.Set = refl
its_rank tags.List = refl
its_rank tags.Uuid = refl

pub same_tags : (a b : Tag) → true ≡ are_same_tags a b → a ≡ b
same_tags a b e = sym (its_rank a) ∙ ap tag_at_rank (eqb-true (rank a) (rank b) (sym e)) ∙ its_rank b

-- a fault has no place
pub placed_fails : (size : ℕ) (fault : WireFault) (r : Reading Tree) → FaultsOrNoMemory fault r → FaultsOrNoMemory fault (placed size r)
placed_fails size fault r h = fails_alike fault r (placed size r) (λ f e. ap (placed size) e) h

-- a tag that is none of these is of a value that holds no others
pub is_scalar : (t : Tag) → (t ≡ tags.Bytes → ⊥) → (t ≡ tags.Struct → ⊥) → (t ≡ tags.Map → ⊥) → (t ≡ tags.Set → ⊥) → (t ≡ tags.List → ⊥) → IsScalar t
is_scalar tags.Bytes none _ _ _ _ = absurd (none refl)
is_scalar tags.Struct _ none _ _ _ = absurd (none refl)
is_scalar tags.Map _ _ none _ _ = absurd (none refl)
is_scalar tags.Set _ _ _ none _ = absurd (none refl)
is_scalar tags.List _ _ _ _ none = absurd (none refl)
is_scalar _ _ _ _ _ _ = tt
