use Rattle.std.proofs.Common.{◌≡◌, ◌+◌, ◌++◌, List, ℕ, length, take, drop, min, Ok, sym, ap, ◌∙◌, subst}
use Rattle.std.specs.Prelude.{◌||◌}
use Rattle.std.proofs.Math.Seq.{take-add}
use Rattle.std.proofs.lemmas.List.{drop-drop}
use Rattle.outside.specs.Pipes.{Receives, is_end}
use Rattle.streams.specs.declared.streams.Failed.{Failed}
use Rattle.script_links.specs.Failing.{after_counting}
use Rattle.script_links.specs.Answering.{AnsweringPipe, mem_pipe_told, after_receiving}
use Rattle.script_links.proofs.Piping.{receives_so}
use Rattle.script_links.proofs.mem_pipe.MemPipePipe.receive.Goals as goal

pub returns-clause-after : goal.returns-clause-after
returns-clause-after c =
    let at = c.self.inside.at in
    let all = c.self.inside.reply.items in
    let count = c.fill-count.result in
    let lent = length c.args.into.now in
    let calls = c.count.ensures.after in
    let ended = c.is_ended-self-inside.ensures in
    let own : record {
      port = c.self.inside.port;
      written = c.self.inside.written.items;
      given = take (at + count) all;
      left = drop (at + count) all;
      ended = c.is_ended-self-inside.result;
      calls = c.count.new.self;
      read_faults = c.self.inside.read_faults;
      write_faults = c.self.inside.write_faults;
      wants = c.self.inside.wants;
    } ≡ after_receiving lent count (record {
      port = c.self.inside.port;
      written = c.self.inside.written.items;
      given = take at all;
      left = drop at all;
      ended = c.self.inside.ended;
      calls = c.self.inside.calls;
      read_faults = c.self.inside.read_faults;
      write_faults = c.self.inside.write_faults;
      wants = c.self.inside.wants;
    }) = λ i. record {
      port = c.self.inside.port;
      written = c.self.inside.written.items;
      given = take-add at count all i;
      left = sym (drop-drop count at all) i;
      ended = ended i;
      calls = calls i;
      read_faults = c.self.inside.read_faults;
      write_faults = c.self.inside.write_faults;
      wants = c.self.inside.wants;
    } in
    own ∙ ap (after_receiving lent count) c.self.view_is

pub returns-clause-receives : goal.returns-clause-receives
returns-clause-receives c =
    let left = c.split_at.ensures.back ∙ ap (λ (xs : List ℕ). drop c.self.inside.at xs) c.as_slice.ensures.value ∙ ap (λ (p : AnsweringPipe). p.left) c.self.view_is in
    let count = c.fill-count.ensures.count ∙ ap (λ (xs : List ℕ). min (length xs) (length c.args.into.now)) left in
    let copied = c.fill-count.ensures.copied ∙ ap (λ (xs : List ℕ). take c.fill-count.result xs ++ drop c.fill-count.result c.args.into.now) left in
    subst (λ (p : AnsweringPipe). Receives {E = Failed} c.fill-count.new.into (mem_pipe_told c.args.self.now) (mem_pipe_told p) (Ok c.fill-count.result)) (sym (returns-clause-after c))
    (receives_so c.args.self.now c.args.into.now c.fill-count.new.into c.fill-count.result count copied)
