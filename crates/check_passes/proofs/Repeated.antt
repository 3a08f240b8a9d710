-- Functions with the name of another one.
use Rattle.std.proofs.Common.{◌≡◌, ℕ, Bool, true, false, inl, inr, List, [], ◌∷◌, refl, ap, sym, ◌∙◌, true≢false}
use Rattle.std.specs.Prelude.{◌↔◌, ◌||◌, IsTrue}
use Rattle.std.specs.Str.{bytes_eq}
use Rattle.std.specs.List.{list_any}
use Rattle.idl_include.specs.Declarations.{FunctionDecl}
use Rattle.idl_include.specs.Loading.{is_among}
use Rattle.idl_include.specs.Program.{Program}
use Rattle.idl_include.specs.Cycles.{HasFunction, Inherits}
use Rattle.idl_names.specs.Functions.{function_names}
use Rattle.check_model.specs.Passes.{IsRepeatedFunction}

among_names : (functions : List FunctionDecl) (name : List ℕ)
    → is_among name (function_names functions) ≡ list_any (λ (f : FunctionDecl). bytes_eq f.name.text name) functions
among_names [] name = refl
among_names (f ∷ functions) name = ap (λ b. bytes_eq f.name.text name || b) (among_names functions name)

module _ (program : Program) (service : ℕ) (before : List FunctionDecl) (name : List ℕ) (b : Bool) (marked : b ≡ is_among name (function_names before)) where
  pub own_told : b ≡ true → IsTrue true ↔ IsRepeatedFunction program service before name
  own_told e = (λ t. inl (sym (among_names before name) ∙ sym marked ∙ e), λ h. refl)

  no_own : b ≡ false → HasFunction before name → ⊥
  no_own e h = true≢false (sym h ∙ sym (among_names before name) ∙ sym marked ∙ e)

  pub inherited_told : b ≡ false → (found : Bool) → (IsTrue found ↔ Inherits program service name) → IsTrue found ↔ IsRepeatedFunction program service before name
  inherited_told e found tells = (λ t. inr (tells.0 t), back)
    where
      back : IsRepeatedFunction program service before name → IsTrue found
      back (inl h) = absurd (no_own e h)
      back (inr h) = tells.1 h
