use Rattle.std.proofs.Common.{map, string_bytes, ap, sym, ◌∙◌}
use Rattle.std.specs.Prelude.{option_map}
use Rattle.command_line.specs.Words.{calls, rehearses}
use Rattle.command_line.proofs.Ends.{none_made}
use Rattle.command_line.proofs.Naming.{meant_as, named_check, named_rehearse, named_serve, named_workload, named_compat, named_call, named_otherwise}
use Rattle.command_line.proofs.command.command_named.Goals as goal

pub returns-then-eq : goal.returns-then-eq
returns-then-eq c =
    meant_as c.check_behind.result _ _ (named_check c.args.name.now (map string_bytes c.args.words.now)
    (sym c.eq.ensures ∙ c.if-eq.true))
    c.check_behind.ensures

pub returns-in_err-served_behind : goal.returns-in_err-served_behind
returns-in_err-served_behind c = none_made _ _ c.from_residual.ensures.0

pub returns-then-eq-2 : goal.returns-then-eq-2
returns-then-eq-2 c =
    c.rehearsed.ensures ∙ ap (option_map rehearses) c.in_ok-served_behind.ensures ∙ named_rehearse c.args.name.now (map string_bytes c.args.words.now)
    (sym c.eq.ensures ∙ c.if-eq.false) (sym c.eq-2.ensures ∙ c.if-eq-2.true)

pub returns-in_err-served_behind-2 : goal.returns-in_err-served_behind-2
returns-in_err-served_behind-2 c = none_made _ _ c.from_residual-in_err-served_behind-2.ensures.0

pub returns-then-eq-4 : goal.returns-then-eq-4
returns-then-eq-4 c =
    meant_as c.serve_behind.result _ _ (named_serve c.args.name.now (map string_bytes c.args.words.now)
    (sym c.eq.ensures ∙ c.if-eq.false) (sym c.eq-2.ensures ∙ c.if-eq-2.false) (sym c.eq-3.ensures ∙ c.if-eq-3.false) (sym c.eq-4.ensures ∙ c.if-eq-4.true))
    c.serve_behind.ensures

pub returns-then-eq-5 : goal.returns-then-eq-5
returns-then-eq-5 c =
    meant_as c.workload_behind.result _ _ (named_workload c.args.name.now (map string_bytes c.args.words.now)
    (sym c.eq.ensures ∙ c.if-eq.false) (sym c.eq-2.ensures ∙ c.if-eq-2.false) (sym c.eq-3.ensures ∙ c.if-eq-3.false) (sym c.eq-4.ensures ∙ c.if-eq-4.false) (sym c.eq-5.ensures ∙ c.if-eq-5.true))
    c.workload_behind.ensures

pub returns-then-eq-6 : goal.returns-then-eq-6
returns-then-eq-6 c =
    meant_as c.compat_behind.result _ _ (named_compat c.args.name.now (map string_bytes c.args.words.now)
    (sym c.eq.ensures ∙ c.if-eq.false) (sym c.eq-2.ensures ∙ c.if-eq-2.false) (sym c.eq-3.ensures ∙ c.if-eq-3.false) (sym c.eq-4.ensures ∙ c.if-eq-4.false) (sym c.eq-5.ensures ∙ c.if-eq-5.false) (sym c.eq-6.ensures ∙ c.if-eq-6.true))
    c.compat_behind.ensures

pub returns-in_err-call_behind : goal.returns-in_err-call_behind
returns-in_err-call_behind c = none_made _ _ c.from_residual-in_err-call_behind.ensures.0

pub returns-then-eq-7 : goal.returns-then-eq-7
returns-then-eq-7 c =
    c.called.ensures ∙ ap (option_map calls) c.in_ok-call_behind.ensures ∙ named_call c.args.name.now (map string_bytes c.args.words.now)
    (sym c.eq.ensures ∙ c.if-eq.false) (sym c.eq-2.ensures ∙ c.if-eq-2.false) (sym c.eq-3.ensures ∙ c.if-eq-3.false) (sym c.eq-4.ensures ∙ c.if-eq-4.false) (sym c.eq-5.ensures ∙ c.if-eq-5.false) (sym c.eq-6.ensures ∙ c.if-eq-6.false) (sym c.eq-7.ensures ∙ c.if-eq-7.true)

pub returns : goal.returns
returns c =
    named_otherwise c.args.name.now (map string_bytes c.args.words.now)
    (sym c.eq.ensures ∙ c.if-eq.false) (sym c.eq-2.ensures ∙ c.if-eq-2.false) (sym c.eq-3.ensures ∙ c.if-eq-3.false) (sym c.eq-4.ensures ∙ c.if-eq-4.false) (sym c.eq-5.ensures ∙ c.if-eq-5.false) (sym c.eq-6.ensures ∙ c.if-eq-6.false) (sym c.eq-7.ensures ∙ c.if-eq-7.false)
