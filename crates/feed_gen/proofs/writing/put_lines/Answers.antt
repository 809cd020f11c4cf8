use Rattle.std.proofs.Common.{ℕ, List, ◌++◌, ◌∙◌, ap}
use Rattle.std.specs.Prelude.{Err}
use Rattle.desk_io.specs.declared.faults.WriteFailed.{WriteFailed}
use Rattle.text_out.specs.Written.{Gathered}
use Rattle.text_out.proofs.Writes.{and_then, cut, nothing, same_text}
use Rattle.feed_gen.proofs.SoFar.{none_so_far, one_more, of_the_whole, all_so_far}
use Rattle.feed_gen.proofs.writing.put_lines.Goals as goal

pub loop-init : goal.loop-init
loop-init g c = none_so_far c.args.matches c.args.count c.args.first _ _ c.none_stands-standing.ensures (nothing _ _ _ tt)

pub returns-in_err-gather : goal.returns-in_err-gather
returns-in_err-gather g c =
    let K = g.K.Sink in
    of_the_whole (λ text. Gathered {E = WriteFailed} (K.written c.args.sink.now) (K.written c.gather.new.sink) (K.faults c.args.sink.now) (K.faults c.gather.new.sink) c.args.held.now c.gather.new.self text c.from_residual.result) (one_more (λ text. Gathered {E = WriteFailed} (K.written c.args.sink.now) (K.written c.gather.new.sink) (K.faults c.args.sink.now) (K.faults c.gather.new.sink) c.args.held.now c.gather.new.self text (Err c.in_err-gather.field-0.0)) c.mark.new.standing c.next_line-next.result.0 c.next_line-next.result.1 c.loop.invariant c.loop-test.true c.next_line-next.ensures.line c.next_line-next.ensures.state c.mark.ensures (λ text w. same_text (and_then w c.in_err-gather.ensures) _ (ap (λ (t : List ℕ). text ++ t) (c.bytes.ensures.value ∙ c.made_line.ensures)))) (λ text rest w. cut w rest _ c.from_residual.ensures.0)

pub loop-preserved : goal.loop-preserved
loop-preserved g c =
    one_more _ c.mark.new.standing c.next_line-next.result.0 c.next_line-next.result.1 c.loop.invariant c.loop-test.true c.next_line-next.ensures.line c.next_line-next.ensures.state c.mark.ensures (λ text w. same_text (and_then w c.in_ok-gather.ensures) _ (ap (λ (t : List ℕ). text ++ t) (c.bytes.ensures.value ∙ c.made_line.ensures)))

pub returns : goal.returns
returns g c = all_so_far c.loop.invariant c.loop-test.false
