use Rattle.std.proofs.Common.{take, subst}
use Rattle.std.proofs.Math.Nat.{le_refl}
use Rattle.desk_io.specs.Edge.{ReadsFurther, FileView}
use Rattle.desk_io.proofs.edge.FileSourceSource.read.Goals as goal

-- what the read gave is what std says that it took
pub returns-in-Ok-clause-is_later : goal.returns-in-Ok-clause-is_later
returns-in-Ok-clause-is_later g c =
    let after : FileView _ = record { file = c.read.new.self; faults = c.self.inside.faults } in
    subst (λ view. ReadsFurther g.F.Read.remaining view after) c.self.view_is
    (record { given = take c.in-Ok.count c.read.new.buf; consumed = c.in-Ok.ensures.bytes.0; faults = le_refl c.self.inside.faults })
