-- Each program has a schema or a first fault.
use Rattle.std.proofs.Common.{◌≡◌, ◌⊎◌, inl, inr, ℕ, ◌==◌, ◌&&◌, Bool, true, false, List, [], ◌∷◌, ◌++◌, Option, None, Some, refl, ap, sym, subst, ◌∙◌}
use Rattle.std.specs.List.{AllByRecursion, AllZip, filter_map, position_from}
use Rattle.idl_token.specs.declared.Place.{Place}
use Rattle.thrift_value.specs.Tree.{Tree}
use Rattle.graph_cycles.specs.Walks.{Graph, LeadsTo}
use Rattle.idl_include.specs.ConstExpr.{ConstExpr}
use Rattle.idl_include.specs.Declarations.{FieldDecl, ConstDecl}
use Rattle.idl_include.specs.Program.{Program}
use Rattle.idl_include.specs.Numbering.{Filed, constants_of}
use Rattle.idl_include.specs.Loading.{Loaded, loaded, stopped}
use Rattle.idl_include.specs.ConstNames.{same_place, value_number}
use Rattle.idl_include.specs.Spots.{GivenValue, Spotted, given_name, type_use, parent_use, typedef_spot, field_spot, thrown_spot, enum_value_spot, struct_spot, service_spot, function_spot, value_spot, Spot, spots_of, values_of, value_at, default_spots}
use Rattle.schema.specs.PlainKind.{PlainKind}
use Rattle.schema.specs.PlainSchema.{PlainConstant, PlainSchema}
use Rattle.check_model.specs.Resolved.{TypeMeans}
use Rattle.check_model.specs.Worths.{ConstFlaw, Worth, valued, flawed}
use Rattle.check_model.specs.Evaluation.{Setting, given_worth}
use Rattle.check_model.specs.SchemaParts.{IsPartialSchema}
use Rattle.check_model.specs.Passes.{Pass, dotted_name, duplicate_name, unknown_type, typedef_cycle, field_id, duplicate_id, enum_number, service_cycle, duplicate_function, oneway_not_void, oneway_throws, not_exception, struct_loop, bad_constant, passes, place_shown}
use Rattle.check_model.specs.FirstFlaw.{found_by, of_value, ProgramFlaw, IsValueFlaw, IsClearAt, FindsNothing, IsFirstOf, IsFirstFlaw, HasNoFlaw}
use Rattle.check_model.specs.ProgramSchema.{HasWorth, IsDefault, DefaultIn, IsConstantOf, IsSchemaOf, ProgramVerdict, accepted_as, not_loaded, at_fault, IsVerdictOfLoaded}
use Rattle.check_model.proofs.FirstOnes.{somes, none_some}
use Rattle.check_model.proofs.Meanings.{one_meaning}
use Rattle.check_model.proofs.OneSchema.{one_partial}
use Rattle.check_model.proofs.Shown.{weaker, ConstShown, consts_shown}
use Rattle.check_model.proofs.Resolving.{zip_all}
use Rattle.check_model.proofs.Building.{zip_made}
use Rattle.check_model.proofs.Existing.{Told, found_or_clear, searched, dotted_told, duplicate_told, unknown_told, field_id_told, duplicate_id_told, enum_number_told, oneway_not_void_told, oneway_throws_told, typedef_cycle_told, service_cycle_told, duplicate_function_told}
use Rattle.check_model.proofs.EachProgram.{picked_found, same_itself, Pu, known_of, means, means_told, built, some_partial, not_exception_told, struct_loop_told}

-- whether something was made
abbrev was_made : Worth Tree → Bool
was_made (valued x n) = true
was_made (flawed at flaw) = false

valued_flawed : (x : Tree) (n : ℕ) (at : Place) (flaw : ConstFlaw) → valued x n ≡ flawed at flaw → ⊥
valued_flawed x n at flaw e = let f : true ≡ false = ap was_made e in cc

module _ (program : Program) (leads : (graph : Graph) (a b : ℕ) → Told (LeadsTo graph a b))
    (on : (graph : Graph) (a m b : ℕ) → LeadsTo graph a m → LeadsTo graph m b → LeadsTo graph a b)
    (unknown : FindsNothing program unknown_type) (cycles : FindsNothing program typedef_cycle) where
  partial : (schema : PlainSchema) × IsPartialSchema program schema
  partial = some_partial program leads on unknown cycles

  setting : Setting
  setting = record { program = program; schema = partial.0 }

  -- a given value has a first fault or none
  abbrev ValueJudged : ℕ → Spotted → Type 0
  ValueJudged file x = ((flaw : ProgramFlaw) × IsValueFlaw program file x flaw) ⊎ ((flaw : ProgramFlaw) → IsValueFlaw program file x flaw → ⊥)

  by_worth : (file : ℕ) (v : GivenValue) (w : ℕ) → value_number program file v.owner ≡ Some w → (k : PlainKind) → TypeMeans program file v.type k → (x : Worth Tree)
      → given_worth setting w k (record { file = file; item = v }) ≡ x → ValueJudged file (value_spot v)
  unfolding setting
  by_worth file v w number k m (flawed at flaw) e = inl (
    record { file = file; at = at; kind = of_value flaw },
    (at, flaw, record { schema = partial.0; made = partial.1; kind = k; means = m; which = w; number = number; worth = e }, refl),
  )
  by_worth file v w number k m (valued y n) e = inr (λ flaw h. valued_flawed y n h.0 h.1 (
      sym e
      ∙ (λ i. given_worth (record { program = program; schema = one_partial program partial.0 h.2.schema partial.1 h.2.made i })
      (somes w h.2.which (sym number ∙ h.2.number) i)
      (one_meaning program file v.type k h.2.kind m h.2.means i) (record { file = file; item = v }))
      ∙ h.2.worth))

  by_kind : (file : ℕ) (v : GivenValue) (w : ℕ) → value_number program file v.owner ≡ Some w → Told ((kind : PlainKind) × TypeMeans program file v.type kind) → ValueJudged file (value_spot v)
  by_kind file v w number (inl (k, m)) = by_worth file v w number k m (given_worth setting w k (record { file = file; item = v })) refl
  by_kind file v w number (inr n) = inr (λ flaw h. n (h.2.kind, h.2.means))

  by_number : (file : ℕ) (v : GivenValue) (o : Option ℕ) → value_number program file v.owner ≡ o → ValueJudged file (value_spot v)
  by_number file v (Some w) number = by_kind file v w number (means_told program leads on unknown cycles file v.type)
  by_number file v None number = inr (λ flaw h. none_some h.2.which (sym number ∙ h.2.number))

  value_judged : (file : ℕ) (x : Spotted) → ValueJudged file x
  value_judged file (value_spot v) = by_number file v (value_number program file v.owner) refl
  value_judged file (given_name _ _) = inr (λ flaw h. h)
  value_judged file (type_use _) = inr (λ flaw h. h)
  value_judged file (parent_use _) = inr (λ flaw h. h)
  value_judged file (typedef_spot _ _) = inr (λ flaw h. h)
  value_judged file (field_spot _ _) = inr (λ flaw h. h)
  value_judged file (thrown_spot _) = inr (λ flaw h. h)
  value_judged file (enum_value_spot _ _) = inr (λ flaw h. h)
  value_judged file (struct_spot _ _) = inr (λ flaw h. h)
  value_judged file (service_spot _ _) = inr (λ flaw h. h)
  value_judged file (function_spot _ _ _) = inr (λ flaw h. h)

  -- a given value has a number
  abbrev Pn : ℕ → Spotted → Type 0
  Pn file (value_spot v) = (w : ℕ) × (value_number program file v.owner ≡ Some w)
  Pn file _ = Unit {0}

  number_at : (file : ℕ) (x : Spotted)
      → ((y : Filed GivenValue) (test : Filed GivenValue → Bool) → value_at file x ≡ Some y → test y ≡ true → (i : ℕ)
      → (k : ℕ) × (position_from test i (filter_map (λ (s : Spot). value_at s.file s.shows) (spots_of program)) ≡ Some k))
      → Pn file x
  unfolding value_number values_of
  number_at file (value_spot v) h =
      h (record { file = file; item = v }) (λ (y : Filed GivenValue). (y.file == file) && same_place y.item.owner v.owner) refl (same_itself file v.owner) 0
  number_at file _ h = tt

  numbers : AllByRecursion (λ (s : Spot). Pn s.file s.shows) (spots_of program)
  numbers =
      weaker (λ (s : Spot). (y : Filed GivenValue) (test : Filed GivenValue → Bool) → value_at s.file s.shows ≡ Some y → test y ≡ true → (i : ℕ)
      → (k : ℕ) × (position_from test i (filter_map (λ (s : Spot). value_at s.file s.shows) (spots_of program)) ≡ Some k))
      (λ (s : Spot). Pn s.file s.shows) (λ s h. number_at s.file s.shows h) (spots_of program)
      (picked_found (λ (s : Spot). value_at s.file s.shows) (spots_of program))

  -- where no value is at fault, each has a worth
  module _ (sound : FindsNothing program bad_constant) where
    abbrev Pv : ℕ → Spotted → Type 0
    Pv file x = ((flaw : ProgramFlaw) → IsValueFlaw program file x flaw → ⊥) × Pn file x

    all_sound : AllByRecursion (λ (s : Spot). Pv s.file s.shows) (spots_of program)
    all_sound = zip_all (IsClearAt program bad_constant) (λ (s : Spot). Pn s.file s.shows) (λ (s : Spot). Pv s.file s.shows) (λ s h g. (h, g)) (spots_of program) sound numbers

    worth_by_case : (file : ℕ) (v : GivenValue) (k : PlainKind) → TypeMeans program file v.type k → Pv file (value_spot v) → (w : ℕ) → value_number program file v.owner ≡ Some w → (x : Worth Tree)
        → given_worth setting w k (record { file = file; item = v }) ≡ x → (value : Tree) × HasWorth setting (record { file = file; item = v }) k value
    unfolding setting
    worth_by_case file v k m h w number (valued y n) e = (y, record { which = w; number = number; count = n; worth = e })
    worth_by_case file v k m h w number (flawed at flaw) e =
        absurd (h.0 (record { file = file; at = at; kind = of_value flaw })
        (at, flaw, record { schema = partial.0; made = partial.1; kind = k; means = m; which = w; number = number; worth = e }, refl))

    value_worth : (file : ℕ) (v : GivenValue) (k : PlainKind) → TypeMeans program file v.type k → Pv file (value_spot v) → (value : Tree) × HasWorth setting (record { file = file; item = v }) k value
    value_worth file v k m h = worth_by_case file v k m h h.1.0 h.1.1 (given_worth setting h.1.0 k (record { file = file; item = v })) refl

    default_by : (file : ℕ) (f : FieldDecl) (k : PlainKind) → TypeMeans program file f.type k → (o : Option ConstExpr) → AllByRecursion (Pv file) (default_spots f o)
        → (default : Option Tree) × IsDefault setting file f k o default
    default_by file f k m None h = (None, refl)
    default_by file f k m (Some tree) h =
        let w = value_worth file (record { owner = f.at; type = f.type; tree = tree }) k m h.0 in
        (Some w.0, (w.0, refl, w.1))

    constant_made : (c : Filed ConstDecl) → ConstShown (Pu program leads on unknown cycles) c → ConstShown Pv c → (p : PlainConstant) × IsConstantOf setting c p
    unfolding setting
    constant_made c h g =
        let m = means program leads on unknown cycles c.file c.item.type (known_of program leads on unknown cycles c.file c.item.type h.0) in
        let w = value_worth c.file (record { owner = c.item.name.at; type = c.item.type; tree = c.item.value }) m.0 m.1 g.1 in
        (record { file = c.file; name = c.item.name.text; kind = m.0; value = w.0 }, record { file = refl; name = refl; kind = m.1; value = w.1 })

    whole_schema : HasNoFlaw program → (schema : PlainSchema) × IsSchemaOf program schema
    unfolding setting
    whole_schema faultless =
        let (cs, are) = zip_made (IsConstantOf setting) (constants_of program)
        (zip_all (ConstShown (Pu program leads on unknown cycles)) (ConstShown Pv) (λ c. (p : PlainConstant) × IsConstantOf setting c p) constant_made
        (constants_of program) (consts_shown (Pu program leads on unknown cycles) program unknown) (consts_shown Pv program all_sound)) in
        let b = built program leads on unknown cycles (DefaultIn setting) Pv (λ file f kind m h. default_by file f kind m f.default h) all_sound cs in
        let P : List PlainConstant → Type 0 = λ xs. AllZip (IsConstantOf setting) (constants_of program) xs in
        (b.0, record { faultless = faultless; partial = partial.0; made = partial.1; whole = b.1; constants = subst P (sym b.2) are })

-- a first fault, or what stands where a pass finds none
abbrev Flawed : Program → Type 0
Flawed program = (flaw : ProgramFlaw) × IsFirstFlaw program flaw

abbrev Schemed : Program → Type 0
Schemed program = (schema : PlainSchema) × IsSchemaOf program schema

pass_by : (program : Program) (earlier : List Pass) (pass : Pass) (later : List Pass) → passes ≡ earlier ++ pass ∷ later → AllByRecursion (FindsNothing program) earlier
    → ((flaw : ProgramFlaw) × IsFirstOf program pass flaw) ⊎ FindsNothing program pass → (FindsNothing program pass → Schemed program ⊎ Flawed program) → Schemed program ⊎ Flawed program
pass_by program earlier pass later split clear (inl h) next =
    inr (h.0, record { earlier = earlier; pass = pass; later = later; split = split; clear = clear; first = h.1 })
pass_by program earlier pass later split clear (inr n) next = next n

pub schema_or_flaw : (leads : (graph : Graph) (a b : ℕ) → Told (LeadsTo graph a b))
    (on : (graph : Graph) (a m b : ℕ) → LeadsTo graph a m → LeadsTo graph m b → LeadsTo graph a b)
    (program : Program) → Schemed program ⊎ Flawed program
schema_or_flaw leads on program =
    pass_by program ([]) dotted_name (duplicate_name ∷ unknown_type ∷ typedef_cycle ∷ field_id ∷ duplicate_id ∷ enum_number ∷ service_cycle ∷ duplicate_function ∷ oneway_not_void ∷ oneway_throws ∷ not_exception ∷ struct_loop ∷ bad_constant ∷ []) refl tt (searched program dotted_name (λ s. found_or_clear (record { file = s.file; at = place_shown s.shows; kind = found_by dotted_name }) (dotted_told program s.file s.shows))) (λ n0.
    pass_by program (dotted_name ∷ []) duplicate_name (unknown_type ∷ typedef_cycle ∷ field_id ∷ duplicate_id ∷ enum_number ∷ service_cycle ∷ duplicate_function ∷ oneway_not_void ∷ oneway_throws ∷ not_exception ∷ struct_loop ∷ bad_constant ∷ []) refl (n0, tt) (searched program duplicate_name (λ s. found_or_clear (record { file = s.file; at = place_shown s.shows; kind = found_by duplicate_name }) (duplicate_told program s.file s.shows))) (λ n1.
    pass_by program (dotted_name ∷ duplicate_name ∷ []) unknown_type (typedef_cycle ∷ field_id ∷ duplicate_id ∷ enum_number ∷ service_cycle ∷ duplicate_function ∷ oneway_not_void ∷ oneway_throws ∷ not_exception ∷ struct_loop ∷ bad_constant ∷ []) refl (n0, (n1, tt)) (searched program unknown_type (λ s. found_or_clear (record { file = s.file; at = place_shown s.shows; kind = found_by unknown_type }) (unknown_told program s.file s.shows))) (λ n2.
    pass_by program (dotted_name ∷ duplicate_name ∷ unknown_type ∷ []) typedef_cycle (field_id ∷ duplicate_id ∷ enum_number ∷ service_cycle ∷ duplicate_function ∷ oneway_not_void ∷ oneway_throws ∷ not_exception ∷ struct_loop ∷ bad_constant ∷ []) refl (n0, (n1, (n2, tt))) (searched program typedef_cycle (λ s. found_or_clear (record { file = s.file; at = place_shown s.shows; kind = found_by typedef_cycle }) (typedef_cycle_told program leads s.file s.shows))) (λ n3.
    pass_by program (dotted_name ∷ duplicate_name ∷ unknown_type ∷ typedef_cycle ∷ []) field_id (duplicate_id ∷ enum_number ∷ service_cycle ∷ duplicate_function ∷ oneway_not_void ∷ oneway_throws ∷ not_exception ∷ struct_loop ∷ bad_constant ∷ []) refl (n0, (n1, (n2, (n3, tt)))) (searched program field_id (λ s. found_or_clear (record { file = s.file; at = place_shown s.shows; kind = found_by field_id }) (field_id_told program s.file s.shows))) (λ n4.
    pass_by program (dotted_name ∷ duplicate_name ∷ unknown_type ∷ typedef_cycle ∷ field_id ∷ []) duplicate_id (enum_number ∷ service_cycle ∷ duplicate_function ∷ oneway_not_void ∷ oneway_throws ∷ not_exception ∷ struct_loop ∷ bad_constant ∷ []) refl (n0, (n1, (n2, (n3, (n4, tt))))) (searched program duplicate_id (λ s. found_or_clear (record { file = s.file; at = place_shown s.shows; kind = found_by duplicate_id }) (duplicate_id_told program s.file s.shows))) (λ n5.
    pass_by program (dotted_name ∷ duplicate_name ∷ unknown_type ∷ typedef_cycle ∷ field_id ∷ duplicate_id ∷ []) enum_number (service_cycle ∷ duplicate_function ∷ oneway_not_void ∷ oneway_throws ∷ not_exception ∷ struct_loop ∷ bad_constant ∷ []) refl (n0, (n1, (n2, (n3, (n4, (n5, tt)))))) (searched program enum_number (λ s. found_or_clear (record { file = s.file; at = place_shown s.shows; kind = found_by enum_number }) (enum_number_told program s.file s.shows))) (λ n6.
    pass_by program (dotted_name ∷ duplicate_name ∷ unknown_type ∷ typedef_cycle ∷ field_id ∷ duplicate_id ∷ enum_number ∷ []) service_cycle (duplicate_function ∷ oneway_not_void ∷ oneway_throws ∷ not_exception ∷ struct_loop ∷ bad_constant ∷ []) refl (n0, (n1, (n2, (n3, (n4, (n5, (n6, tt))))))) (searched program service_cycle (λ s. found_or_clear (record { file = s.file; at = place_shown s.shows; kind = found_by service_cycle }) (service_cycle_told program leads s.file s.shows))) (λ n7.
    pass_by program (dotted_name ∷ duplicate_name ∷ unknown_type ∷ typedef_cycle ∷ field_id ∷ duplicate_id ∷ enum_number ∷ service_cycle ∷ []) duplicate_function (oneway_not_void ∷ oneway_throws ∷ not_exception ∷ struct_loop ∷ bad_constant ∷ []) refl (n0, (n1, (n2, (n3, (n4, (n5, (n6, (n7, tt)))))))) (searched program duplicate_function (λ s. found_or_clear (record { file = s.file; at = place_shown s.shows; kind = found_by duplicate_function }) (duplicate_function_told program leads s.file s.shows))) (λ n8.
    pass_by program (dotted_name ∷ duplicate_name ∷ unknown_type ∷ typedef_cycle ∷ field_id ∷ duplicate_id ∷ enum_number ∷ service_cycle ∷ duplicate_function ∷ []) oneway_not_void (oneway_throws ∷ not_exception ∷ struct_loop ∷ bad_constant ∷ []) refl (n0, (n1, (n2, (n3, (n4, (n5, (n6, (n7, (n8, tt))))))))) (searched program oneway_not_void (λ s. found_or_clear (record { file = s.file; at = place_shown s.shows; kind = found_by oneway_not_void }) (oneway_not_void_told program s.file s.shows))) (λ n9.
    pass_by program (dotted_name ∷ duplicate_name ∷ unknown_type ∷ typedef_cycle ∷ field_id ∷ duplicate_id ∷ enum_number ∷ service_cycle ∷ duplicate_function ∷ oneway_not_void ∷ []) oneway_throws (not_exception ∷ struct_loop ∷ bad_constant ∷ []) refl (n0, (n1, (n2, (n3, (n4, (n5, (n6, (n7, (n8, (n9, tt)))))))))) (searched program oneway_throws (λ s. found_or_clear (record { file = s.file; at = place_shown s.shows; kind = found_by oneway_throws }) (oneway_throws_told program s.file s.shows))) (λ n10.
    pass_by program (dotted_name ∷ duplicate_name ∷ unknown_type ∷ typedef_cycle ∷ field_id ∷ duplicate_id ∷ enum_number ∷ service_cycle ∷ duplicate_function ∷ oneway_not_void ∷ oneway_throws ∷ []) not_exception (struct_loop ∷ bad_constant ∷ []) refl (n0, (n1, (n2, (n3, (n4, (n5, (n6, (n7, (n8, (n9, (n10, tt))))))))))) (searched program not_exception (λ s. found_or_clear (record { file = s.file; at = place_shown s.shows; kind = found_by not_exception }) (not_exception_told program leads on n2 n3 s.file s.shows))) (λ n11.
    pass_by program (dotted_name ∷ duplicate_name ∷ unknown_type ∷ typedef_cycle ∷ field_id ∷ duplicate_id ∷ enum_number ∷ service_cycle ∷ duplicate_function ∷ oneway_not_void ∷ oneway_throws ∷ not_exception ∷ []) struct_loop (bad_constant ∷ []) refl (n0, (n1, (n2, (n3, (n4, (n5, (n6, (n7, (n8, (n9, (n10, (n11, tt)))))))))))) (searched program struct_loop (λ s. found_or_clear (record { file = s.file; at = place_shown s.shows; kind = found_by struct_loop }) (struct_loop_told program leads on n2 n3 s.file s.shows))) (λ n12.
    pass_by program (dotted_name ∷ duplicate_name ∷ unknown_type ∷ typedef_cycle ∷ field_id ∷ duplicate_id ∷ enum_number ∷ service_cycle ∷ duplicate_function ∷ oneway_not_void ∷ oneway_throws ∷ not_exception ∷ struct_loop ∷ []) bad_constant ([]) refl (n0, (n1, (n2, (n3, (n4, (n5, (n6, (n7, (n8, (n9, (n10, (n11, (n12, tt))))))))))))) (searched program bad_constant (λ s. value_judged program leads on n2 n3 s.file s.shows)) (λ n13.
    inl (whole_schema program leads on n2 n3 n13 (n0, (n1, (n2, (n3, (n4, (n5, (n6, (n7, (n8, (n9, (n10, (n11, (n12, (n13, tt)))))))))))))))))))))))))))))

verdict_by : (program : Program) → Schemed program ⊎ Flawed program → (v : ProgramVerdict) × IsVerdictOfLoaded (loaded program) v
verdict_by program (inl h) = (accepted_as h.0, h.1)
verdict_by program (inr h) = (at_fault h.0, h.1)

-- what loading comes to has a verdict
pub some_verdict : (leads : (graph : Graph) (a b : ℕ) → Told (LeadsTo graph a b))
    (on : (graph : Graph) (a m b : ℕ) → LeadsTo graph a m → LeadsTo graph m b → LeadsTo graph a b) (l : Loaded) → (v : ProgramVerdict) × IsVerdictOfLoaded l v
some_verdict leads on (loaded program) = verdict_by program (schema_or_flaw leads on program)
some_verdict leads on (stopped flaw) = (not_loaded flaw, refl)
