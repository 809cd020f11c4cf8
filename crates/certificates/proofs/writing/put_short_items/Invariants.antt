use Rattle.std.proofs.Common.{◌∷◌, take, decimal}
use Rattle.std.specs.Prelude.{Ok}
use Rattle.std.specs.List.{flat_map}
use Rattle.desk_io.specs.declared.faults.WriteFailed.{WriteFailed}
use Rattle.text_out.specs.Written.{Gathered}
use Rattle.certificates.proofs.writing.put_short_items.Given as goal

-- the items so far were gathered
abbrev pub invariant-loop-item : goal.invariant-loop-item
invariant-loop-item g l =
    let K = g.K.Sink in
    Gathered {E = WriteFailed} (K.written l.fn.sink) (K.written l.sink) (K.faults l.fn.sink) (K.faults l.sink) l.fn.held l.held (flat_map (λ item. 32 ∷ decimal item) (take l.item-index l.items)) (Ok tt)
