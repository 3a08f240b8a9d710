-- A value that was changed, where that could be, as its definition sees it.
use Rattle.std.proofs.Common.{◌≡◌, Bool, true, false, Option, None, Some, IfSome, Result, Ok, Err, option_map, sym, subst}
use Rattle.std.specs.Result.{IfOk}
use Rattle.machine_model.specs.Plain.{when}
use Rattle.plain_machine.specs.Changed.{where_it_can}

by_test : {X Y : Type 0} (view : X → Y) (x : X) (meant : Option Y) (can : Bool) → when can (Some (view x)) ≡ meant → option_map view (when can (Some x)) ≡ meant
by_test view x meant true h = h
by_test view x meant false h = h

by_result : {X Y E : Type 0} (view : X → Y) (x : X) (meant : Option Y) (can : Result Bool E) → IfOk can (λ can. when can (Some (view x)) ≡ meant)
    → IfOk (where_it_can x can) (λ next. option_map view next ≡ meant)
by_result view x meant (Ok can) h = by_test view x meant can h
by_result view x meant (Err e) h = tt

-- it is what the change means
pub picked : {X Y E : Type 0} (view : X → Y) (x : X) (can : Result Bool E) (result : Result (Option X) E) (meant : Option Y)
    → IfOk can (λ can. when can (Some (view x)) ≡ meant) → result ≡ where_it_can x can → IfOk result (λ next. option_map view next ≡ meant)
picked view x can result meant h e = subst (λ out. IfOk out (λ next. option_map view next ≡ meant)) (sym e) (by_result view x meant can h)

-- and has each property of what that is
pub picked_has : {X Y E : Type 0} (view : X → Y) (result : Result (Option X) E) (meant : Option Y) (P : Y → Type 0) → ((y : Y) → meant ≡ Some y → P y)
    → IfOk result (λ next. option_map view next ≡ meant) → IfOk result (λ next. IfSome next (λ last. P (view last)))
picked_has view (Ok None) meant P each h = tt
picked_has view (Ok (Some x)) meant P each h = each (view x) (sym h)
picked_has view (Err e) meant P each h = tt
