use Rattle.std.specs.Prelude.{Ok}
use Rattle.desk_io.specs.declared.faults.WriteFailed.{WriteFailed}
use Rattle.text_out.specs.Written.{Gathered}
use Rattle.feed_gen.proofs.SoFar.{IsSoFar}
use Rattle.feed_gen.proofs.writing.put_lines.Given as goal

-- the lines so far were gathered
abbrev pub invariant-loop : goal.invariant-loop
invariant-loop g l =
    let K = g.K.Sink in
    IsSoFar l.fn.matches l.fn.count l.fn.first (λ text. Gathered {E = WriteFailed} (K.written l.fn.sink) (K.written l.sink) (K.faults l.fn.sink) (K.faults l.sink) l.fn.held l.held text (Ok tt)) l.counter l.state l.standing
