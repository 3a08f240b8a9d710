-- The line that tells a break.
use Rattle.std.specs.Prelude.{ℕ, List, ◌∷◌, ◌++◌, codes}
use Rattle.text_out.specs.Decimal.{decimal_of}
use Rattle.text_out.specs.Line.{line_of}
use Rattle.compat_model.specs.declared.break_kind.BreakKind.{BreakKind}
use Rattle.compat_model.specs.declared.break_kind.BreakKind.TheVariants as breaks
use Rattle.compat_model.specs.Breaks.{PlainBreak}

-- the word of a kind
abbrev pub break_word : BreakKind → List ℕ
break_word breaks.Gone = codes "Gone"
break_word breaks.Kind = codes "Kind"
break_word breaks.UnionField = codes "UnionField"
break_word breaks.Unlike = codes "Unlike"
break_word breaks.NewRequired = codes "NewRequired"
break_word breaks.Oneway = codes "Oneway"
break_word breaks.Result = codes "Result"
break_word breaks.Throws = codes "Throws"
break_word breaks.NoMemory = codes "NoMemory"

-- whose it is, the id and the kind, with blanks (32) between
abbrev pub break_text : PlainBreak → List ℕ
break_text b = line_of (codes "break " ++ b.name ++ 32 ∷ decimal_of b.id ++ 32 ∷ break_word b.kind)
