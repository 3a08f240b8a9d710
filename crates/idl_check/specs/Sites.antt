-- Lists of fields with the number of their file, and lists that are told place by place, three at once.
use Rattle.std.specs.Prelude.{⊤, ℕ, List, [], ◌∷◌, map}
use Rattle.idl_include.specs.Declarations.{FieldDecl}
use Rattle.idl_include.specs.DeclaredIn.{field_in}
use Rattle.check_model.specs.FieldLists.{FieldsDecl}
use Rattle.idl_check.specs.declared.sites.FieldSite.{FieldSite}

-- fields that stand in a file
pub record SitedFields : Type 0 where
  pub file : ℕ
  pub fields : List FieldDecl

-- a list of fields without its name and kind
abbrev pub sited : FieldsDecl → SitedFields
sited d = record { file = d.file; fields = d.fields }

-- fields in memory
abbrev pub sited_in : FieldSite → SitedFields
sited_in s = record { file = s.file; fields = map field_in s.fields.now }

-- of three lists of one length, place by place
abbrev pub AllZipped : {A B C : Type 0} → (A → B → C → Type 0) → List A → List B → List C → Type 0
AllZipped F [] [] [] = ⊤
AllZipped F (a ∷ ws) (b ∷ bs) (c ∷ cs) = F a b c × AllZipped F ws bs cs
AllZipped F _ _ _ = ⊥
