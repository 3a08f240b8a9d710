use Rattle.std.proofs.Common.{ap}
use Rattle.idl_include.specs.Declarations.{ConstDecl, TypedefDecl, EnumDecl, StructDecl, ServiceDecl}
use Rattle.idl_names.specs.FiledIn.{const_declared, typedef_declared, enum_declared, struct_declared, service_declared}
use Rattle.idl_names.specs.Listing.{Listing}
use Rattle.idl_names.proofs.Found.{numbers_of}
use Rattle.idl_names.proofs.tables.name_tables.Goals as goal

pub invariant_of-result : goal.invariant_of-result
invariant_of-result c = record {
  included = c.in_ok-bases.ensures;
  consts =
      numbers_of const_declared (λ (t : ConstDecl). t.name) c.args.definitions.now.constants.items c.as_slice.result.now _ c.in_ok-constants.constants.items
      (ap (λ (l : Listing). l.constants) c.requires.definitions) c.as_slice.ensures.value c.in_ok-constants.ensures;
  aliases =
      numbers_of typedef_declared (λ (t : TypedefDecl). t.name) c.args.definitions.now.typedefs.items c.as_slice-2.result.now _ c.in_ok-typedefs.typedefs.items
      (ap (λ (l : Listing). l.aliases) c.requires.definitions) c.as_slice-2.ensures.value c.in_ok-typedefs.ensures;
  enumerations =
      numbers_of enum_declared (λ (e : EnumDecl). e.name) c.args.definitions.now.enums.items c.as_slice-3.result.now _ c.in_ok-enums.enums.items
      (ap (λ (l : Listing). l.enums) c.requires.definitions) c.as_slice-3.ensures.value c.in_ok-enums.ensures;
  structures =
      numbers_of struct_declared (λ (s : StructDecl). s.name) c.args.definitions.now.structs.items c.as_slice-4.result.now _ c.in_ok-structs.structs.items
      (ap (λ (l : Listing). l.structs) c.requires.definitions) c.as_slice-4.ensures.value c.in_ok-structs.ensures;
  offers =
      numbers_of service_declared (λ (s : ServiceDecl). s.name) c.args.definitions.now.services.items c.as_slice-5.result.now _ c.in_ok-services.services.items
      (ap (λ (l : Listing). l.services) c.requires.definitions) c.as_slice-5.ensures.value c.in_ok-services.ensures;
}
