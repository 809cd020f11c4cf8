use Rattle.std.proofs.Common.{refl, true}
use Rattle.snapshot_pins.proofs.Views.{cells_kept, holds_still, offers_still, keeps_few}
use Rattle.snapshot_pins.proofs.cells.Cells.keep_from.Goals as goal

pub invariant_of-self : goal.invariant_of-self
invariant_of-self c = cells_kept c.self.inside.matches c.keep_all.new.matches c.self.inside.newest c.args.live.now (λ m f n. true) c.keep_all.ensures c.self.invariant

pub returns-clause-reads : goal.returns-clause-reads
returns-clause-reads c = rw (← c.self.view_is) (offers_still c.self.inside.matches c.keep_all.new.matches c.self.inside.newest c.args.live.now (λ m f n. true) c.keep_all.ensures c.self.invariant)

pub returns-clause-cells : goal.returns-clause-cells
returns-clause-cells c = rw (← c.self.view_is) (holds_still c.self.inside.matches c.keep_all.new.matches c.self.inside.newest c.args.live.now (λ m f n. true) c.keep_all.ensures c.self.invariant)

pub returns-clause-few : goal.returns-clause-few
returns-clause-few c = λ m feed number. keeps_few c.self.inside.matches c.keep_all.new.matches c.self.inside.newest c.args.live.now (λ m f n. true) c.keep_all.ensures c.self.invariant m feed number refl
