use Rattle.std.proofs.Common.{◌≡◌, ◌++◌, ◌∷◌, [], ap, ◌∙◌}
use Rattle.std.specs.Box.{with_value}
use Rattle.script_links.specs.declared.called.CalledChain.{Behind}
use Rattle.script_links.specs.Answering.{AnsweringPipe}
use Rattle.script_links.specs.Called.{called_in_chain}
use Rattle.script_links.proofs.CalledRows.{called_behind}
use Rattle.script_links.proofs.mem_pipe.hung_up.Goals as goal

pub returns : goal.returns
returns c =
    let port = ap (λ (p : AnsweringPipe). p.port) c.pipe.view_is in
    let written = ap (λ (p : AnsweringPipe). p.written) c.pipe.view_is in
    let read = c.truncate.ensures.items ∙ ap (λ (p : AnsweringPipe). p.given) c.pipe.view_is in
    let ended = ap (λ (p : AnsweringPipe). p.ended) c.pipe.view_is in
    called_behind (with_value c.pipe.inside.room c.args.before) (record { port = c.pipe.inside.port; written = c.pipe.inside.written; read = c.truncate.new.self; ended = c.pipe.inside.ended })
    ∙ (λ i. called_in_chain c.args.before ++ record { port = port i; written = written i; read = read i; ended = ended i } ∷ [])
