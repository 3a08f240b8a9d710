-- The files that loading gives are a program of texts.
use Rattle.std.proofs.Common.{◌≡◌, ◌≢◌, ℕ, suc, false, List, [], ◌∷◌, map, length, All, AllPairs, refl, sym, ap, subst, arith}
use Rattle.std.specs.List.{AllByRecursion}
use Rattle.std.proofs.lemmas.Bool.{or_parts, both_ways}
use Rattle.std.proofs.lemmas.List.Elements.{All-from_recursion, recursion_from_All}
use Rattle.std.proofs.lemmas.List.Kept.{AllPairs-cons}
use Rattle.std.proofs.lemmas.Slice.Eq.{bytes_eq-Decides}
use Rattle.std.specs.Str.{bytes_eq}
use Rattle.idl_token.specs.Tokens.{AreTokensOf, IsOfItsKind, StandBetween}
use Rattle.idl_token.specs.declared.Token.{Token}
use Rattle.idl_parser.specs.Documents.{deepest, document}
use Rattle.idl_parser.specs.Symbols.{lexemes}
use Rattle.idl_parser.specs.Trees.{document_node}
use Rattle.idl_parser.specs.declared.tree.Document.{Document}
use Rattle.idl_include.specs.DeclaredIn.{definitions_in}
use Rattle.idl_include.specs.Loading.{is_among}
use Rattle.idl_include.specs.Program.{base_of_file}
use Rattle.idl_include.specs.SourcesOf.{file_in, program_in, IsOfSomeText, IsFile, HaveOwnBases, AreFiles}
use Rattle.idl_include.specs.declared.sources.IdlFile.{IdlFile}
use Rattle.check_model.proofs.Shown.{weaker, mapped}
use Rattle.idl_check.specs.DeclaredTexts.{AreOfText, IsFileOfText, IsProgramOfTexts}
use Rattle.idl_check.proofs.Leaves.{Kept, kept}
use Rattle.idl_check.proofs.Grammar.{keeps_document}
use Rattle.idl_check.proofs.TokenNames.{symbols_are_texts, few_tokens, few_symbols}
use Rattle.idl_check.proofs.DocumentNames.{document_named, document_leaves}
use Rattle.idl_check.proofs.DocumentValues.{document_short}

-- the laws of tokens
pub record TokenLaws : Type 0 where
  pub kinds : (text : List ℕ) (ts : List Token) → AreTokensOf ts text → All (IsOfItsKind text) ts
  pub order : (text : List ℕ) (ts : List Token) → AreTokensOf ts text → StandBetween 0 (length text) ts

module _ (laws : TokenLaws) where
  pub document_of_text : (d : Document) → IsOfSomeText d → AreOfText (definitions_in d)
  document_of_text d of_text =
      let text = of_text.text in
      let tokens = of_text.tree.tokens in
      let names = symbols_are_texts text of_text.short tokens (recursion_from_All (IsOfItsKind text) tokens (laws.kinds text tokens of_text.tree.cut)) in
      let tree : Kept (lexemes text tokens) (document_node d) [] = kept (document deepest) (keeps_document deepest) (lexemes text tokens) (document_node d) [] of_text.tree.document names in
      let few = few_tokens 0 (length text) tokens (laws.order text tokens of_text.tree.cut) in
      record { names = document_named d tree.names; values = document_short d tree.names; few = omega (arith, document_leaves d, tree.few, few, few_symbols text tokens, of_text.short) }

  file_of_text : (count : ℕ) (f : IdlFile) → IsFile count f → IsFileOfText count (file_in f)
  file_of_text count f is = record { text = document_of_text f.document is.document; includes = is.includes }

  files_of_texts : (count : ℕ) (fs : List IdlFile) → AllByRecursion (IsFile count) fs → AllByRecursion (IsFileOfText count) (program_in fs)
  files_of_texts count [] h = tt
  files_of_texts count (f ∷ fs) h = (file_of_text count f h.0, files_of_texts count fs h.1)

  -- names that aren't among others differ from them
  same_name_among : (name : List ℕ) (names : List (List ℕ)) → is_among name names ≡ false → AllByRecursion (λ other. other ≡ name → ⊥) names
  same_name_among name [] none = tt
  same_name_among name (other ∷ names) none =
      let parts = or_parts (bytes_eq other name) (is_among name names) none in
      (λ same. both_ways (bytes_eq other name) parts.0 ((bytes_eq-Decides other name).1 same), same_name_among name names parts.1)

  -- each base name differs from those before it
  apart_from : (before : List (List ℕ)) (fs : List IdlFile) → HaveOwnBases before fs → AllByRecursion (λ (f : IdlFile). AllByRecursion (λ other. other ≡ f.base → ⊥) before) fs
  apart_from before [] h = tt
  apart_from before (f ∷ fs) h = (
    same_name_among f.base before h.0,
    weaker (λ (g : IdlFile). AllByRecursion (λ other. other ≡ g.base → ⊥) (f.base ∷ before)) (λ (g : IdlFile). AllByRecursion (λ other. other ≡ g.base → ⊥) before)
        (λ g apart. apart.1) fs (apart_from (f.base ∷ before) fs h.1),
  )

  bases_differ : (before : List (List ℕ)) (fs : List IdlFile) → HaveOwnBases before fs → AllPairs (λ a b. a ≢ b) (map (λ (f : IdlFile). f.base) fs)
  bases_differ before [] h = λ i j d low within. absurd (omega arith)
  bases_differ before (f ∷ fs) h =
      AllPairs-cons (λ a b. a ≢ b) f.base (map (λ (g : IdlFile). g.base) fs)
      (All-from_recursion (λ b. f.base ≢ b) (map (λ (g : IdlFile). g.base) fs)
      (mapped (λ b. f.base ≢ b) (λ (g : IdlFile). g.base) fs
      (weaker (λ (g : IdlFile). AllByRecursion (λ other. other ≡ g.base → ⊥) (f.base ∷ before)) (λ (g : IdlFile). f.base ≢ g.base)
      (λ g apart. apart.0) fs (apart_from (f.base ∷ before) fs h.1))))
      (bases_differ (f.base ∷ before) fs h.1)

  bases_are : (count : ℕ) (fs : List IdlFile) → AllByRecursion (IsFile count) fs → map (λ (f : IdlFile). f.base) fs ≡ map base_of_file (program_in fs)
  bases_are count [] h = refl
  bases_are count (f ∷ fs) h = λ i. h.0.base i ∷ bases_are count fs h.1 i

  as_many : (fs : List IdlFile) → length (program_in fs) ≡ length fs
  as_many [] = refl
  as_many (f ∷ fs) = ap suc (as_many fs)

  pub program_of_texts : (fs : List IdlFile) → AreFiles fs → IsProgramOfTexts (program_in fs)
  program_of_texts fs are =
      let each = recursion_from_All (IsFile (length fs)) fs are.begun.each in
      record {
        most = omega (arith, as_many fs, are.begun.most);
        bases = subst (AllPairs (λ a b. a ≢ b)) (bases_are (length fs) fs each) (bases_differ [] fs are.begun.bases);
        files = subst (λ count. AllByRecursion (IsFileOfText count) (program_in fs)) (sym (as_many fs)) (files_of_texts (length fs) fs each);
      }
