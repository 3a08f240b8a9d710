-- Pieces that were read whole, and rules that are used up, are passed over by their number.
use Rattle.std.proofs.Common.{◌≡◌, ℕ, zero, suc, ◌+◌, ◌-◌, ◌<◌, ◌≤◌, List, [], ◌∷◌, length, drop, refl, sym, ap, ◌∙◌, arith, length-drop}
use Rattle.std.proofs.lemmas.List.{drop-map, drop-drop}
use Rattle.script_model.specs.ScriptLines.{PlanRule}
use Rattle.script_text.specs.Plans.{plain_rule, plain_rules}
use Rattle.script_text.specs.declared.lines.WriteRule.{WriteRule}
use Rattle.script_links.specs.Kept.{cut_pieces}

cut_long : (offset : ℕ) (pieces : List (List ℕ)) → length (cut_pieces offset pieces) ≡ length pieces
cut_long offset [] = refl
cut_long offset (piece ∷ pieces) = refl

pub pieces_left : (offset passed : ℕ) (pieces : List (List ℕ)) → length pieces - passed ≡ length (cut_pieces offset (drop passed pieces))
pieces_left offset passed pieces = sym (cut_long offset (drop passed pieces) ∙ length-drop passed pieces)

cut_next : (offset : ℕ) (pieces : List (List ℕ)) → cut_pieces 0 (drop 1 pieces) ≡ drop 1 (cut_pieces offset pieces)
cut_next offset [] = refl
cut_next offset (piece ∷ pieces) = uncut pieces
  where
    uncut : (pieces : List (List ℕ)) → cut_pieces 0 pieces ≡ pieces
    uncut [] = refl
    uncut (piece ∷ pieces) = refl

pub piece_passed : (offset passed : ℕ) (pieces : List (List ℕ)) → cut_pieces 0 (drop (passed + 1) pieces) ≡ drop 1 (cut_pieces offset (drop passed pieces))
piece_passed offset passed pieces = ap (cut_pieces 0) (sym (drop-drop 1 passed pieces)) ∙ cut_next offset (drop passed pieces)

pub rule_passed : (used : ℕ) (rules : List WriteRule) → plain_rules (drop (used + 1) rules) ≡ drop 1 (plain_rules (drop used rules))
rule_passed used rules = ap plain_rules (sym (drop-drop 1 used rules)) ∙ sym (drop-map plain_rule 1 (drop used rules))
