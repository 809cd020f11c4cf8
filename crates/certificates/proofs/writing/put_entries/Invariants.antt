use Rattle.std.proofs.Common.{take}
use Rattle.std.specs.Prelude.{Ok}
use Rattle.std.specs.List.{flat_map}
use Rattle.desk_io.specs.declared.faults.WriteFailed.{WriteFailed}
use Rattle.finding_definitions.specs.Text.{entry_fields}
use Rattle.text_out.specs.Written.{Gathered, spaced}
use Rattle.certificates.proofs.writing.put_entries.Given as goal

-- the entries so far were gathered
abbrev pub invariant-loop-entry : goal.invariant-loop-entry
invariant-loop-entry g l =
    let K = g.K.Sink in
    Gathered {E = WriteFailed} (K.written l.fn.sink) (K.written l.sink) (K.faults l.fn.sink) (K.faults l.sink) l.fn.held l.held (flat_map (λ entry. spaced (entry_fields entry)) (take l.entry-index l.entries)) (Ok tt)
