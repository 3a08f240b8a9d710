-- Steps of loops that gather meanings, and their faults.
use Rattle.std.proofs.Common.{◌≡◌, ℕ, zero, suc, ◌+◌, ◌<◌, ◌≤◌, List, [], ◌∷◌, ◌++◌, length, map, drop, get_or, Option, Some, None, Result, Ok, Err, refl, sym, ap, subst, ◌∙◌, append_assoc, append-nil, arith}
use Rattle.std.specs.Prelude.{⊤, MatchResult, option_to_list}
use Rattle.std.specs.Option.{option_map}
use Rattle.std.proofs.lemmas.List.{drop_more, at_drop_all, map-append}
use Rattle.struct_skew.specs.declared.fault.SkewFault.{SkewFault}
use Rattle.struct_skew.specs.declared.fault.SkewFault.TheVariants.{Missing, UnionFields, TooDeep, TooMany, NoMemory}
use Rattle.struct_skew.specs.Answering.{SkewsOrNoMemory, ProjectsOrNoMemory, PutsSome}
use Rattle.struct_skew.specs.Results.{with_first, with_some}

-- the same fault of another result
pub skews_on : {X Y : Type 0} (e : SkewFault) (one : Result X SkewFault) (other : Result Y SkewFault) → (one ≡ Err e → other ≡ Err e) → SkewsOrNoMemory e one → SkewsOrNoMemory e other
skews_on (Missing w i) one other f held = f held
skews_on (UnionFields w) one other f held = f held
skews_on TooDeep one other f held = f held
skews_on TooMany one other f held = f held
skews_on NoMemory one other f held = tt

pub no_memory_skews : {Y : Type 0} (e : SkewFault) (other : Result Y SkewFault) → e ≡ NoMemory → SkewsOrNoMemory e other
no_memory_skews e other is = subst (λ f. SkewsOrNoMemory f other) (sym is) tt

-- values that were gathered, and those of what is left
abbrev pub behind : {B : Type 0} → List B → Result (List B) SkewFault → Result (List B) SkewFault
behind xs (Ok ys) = Ok (xs ++ ys)
behind xs (Err fault) = Err fault

pub behind_first : {B : Type 0} (xs : List B) (y : B) (rest : Result (List B) SkewFault) → behind xs (with_first (Ok y) rest) ≡ behind (xs ++ y ∷ []) rest
behind_first xs y (Ok ys) = ap Ok (sym (append_assoc xs (y ∷ []) ys))
behind_first xs y (Err e) = refl

module _ {X B : Type 0} (view : X → B) (W : Result (List B) SkewFault) where
  -- one value more was gathered, or none
  pub gathered_some : (value : Result (Option X) SkewFault) (out : Result (⊤) SkewFault) (u : ⊤) (old new : List X) (meant : Result (Option B) SkewFault) (rest : Result (List B) SkewFault)
      → out ≡ Ok u → ProjectsOrNoMemory (option_map view) value meant → PutsSome value out old new → behind (map view old) (with_some meant rest) ≡ W → behind (map view new) rest ≡ W
  gathered_some (Ok (Some x)) out u old new meant rest went means put kept =
      let made : new ≡ old ++ x ∷ [] = subst (λ r. MatchResult r (λ _. new ≡ old ++ x ∷ []) (λ e. e ≡ NoMemory)) went put in
      ap (λ n. behind n rest) (ap (map view) made ∙ map-append view old (x ∷ [])) ∙ sym (behind_first (map view old) (view x) rest)
      ∙ ap (λ m. behind (map view old) (with_some m rest)) (sym means) ∙ kept
  gathered_some (Ok None) out u old new meant rest went means put kept =
      let made : new ≡ old ++ [] = subst (λ r. MatchResult r (λ _. new ≡ old ++ []) (λ e. e ≡ NoMemory)) went put in
      ap (λ n. behind (map view n) rest) (made ∙ append-nil old) ∙ ap (λ m. behind (map view old) (with_some m rest)) (sym means) ∙ kept
  gathered_some (Err e) out u old new meant rest went means put kept = absurd cc

  -- its fault is that of all
  pub not_gathered_some : (value : Result (Option X) SkewFault) (out : Result (⊤) SkewFault) (e : SkewFault) (old new : List X) (meant : Result (Option B) SkewFault) (rest : Result (List B) SkewFault)
      → out ≡ Err e → ProjectsOrNoMemory (option_map view) value meant → PutsSome value out old new → behind (map view old) (with_some meant rest) ≡ W → SkewsOrNoMemory e W
  not_gathered_some (Ok x) out e old new meant rest went means put kept =
      no_memory_skews e W (subst (λ r. MatchResult r (λ _. new ≡ old ++ option_to_list x) (λ f. f ≡ NoMemory)) went put)
  not_gathered_some (Err f) out e old new meant rest went means put kept =
      let same : f ≡ e = cc in
      subst (λ g. SkewsOrNoMemory g W) same (skews_on f meant W (λ is. sym kept ∙ ap (λ m. behind (map view old) (with_some m rest)) is) means)

  -- at the end the values are all
  pub all_gathered : {A : Type 0} (F : List A → Result (List B) SkewFault) (xs : List A) (i : ℕ) (made : List X) → F [] ≡ Ok [] → length xs ≤ i
      → behind (map view made) (F (drop i xs)) ≡ W → W ≡ Ok (map view made)
  all_gathered F xs i made none end kept =
      sym kept ∙ ap (behind (map view made)) (at_drop_all F xs i end ∙ none) ∙ ap Ok (append-nil (map view made))

-- at the front of what is left stands the item at the place
pub in_front : {A : Type 0} (xs : List A) (i : ℕ) (x : A) → i < length xs → x ≡ get_or xs i x → drop i xs ≡ x ∷ drop (i + 1) xs
in_front xs i x low here = drop_more xs i x low ∙ ap (λ y. y ∷ drop (i + 1) xs) (sym here)

-- within a list an item doesn't depend on what stands for none
pub get_or_same : {A : Type 0} (xs : List A) (i : ℕ) (d e : A) → i < length xs → get_or xs i d ≡ get_or xs i e
get_or_same [] i d e low = absurd (omega arith)
get_or_same (x ∷ xs) zero d e low = refl
get_or_same (x ∷ xs) (suc i) d e low = get_or_same xs i d e (omega arith)
