use Rattle.std.proofs.Common.{refl}
use Rattle.std.specs.Str.{bytes_eq}
use Rattle.std.proofs.lemmas.Slice.Eq.{bytes_eq-Decides}
use Rattle.snapshot_pins.proofs.Views.{cells_kept, holds_still, offers_still, keeps_few, others_stay}
use Rattle.snapshot_pins.proofs.cells.Cells.keep_match_from.Goals as goal

pub invariant_of-self : goal.invariant_of-self
invariant_of-self c =
    cells_kept c.self.inside.matches c.keep_on.new.matches c.self.inside.newest c.args.live.now (λ m f n. bytes_eq c.args.match_name.now m) c.keep_on.ensures c.self.invariant

pub returns-clause-reads : goal.returns-clause-reads
returns-clause-reads c = rw (← c.self.view_is)
    (offers_still c.self.inside.matches c.keep_on.new.matches c.self.inside.newest c.args.live.now (λ m f n. bytes_eq c.args.match_name.now m) c.keep_on.ensures c.self.invariant c.args.match_name.now)

pub returns-clause-cells : goal.returns-clause-cells
returns-clause-cells c = rw (← c.self.view_is)
    (holds_still c.self.inside.matches c.keep_on.new.matches c.self.inside.newest c.args.live.now (λ m f n. bytes_eq c.args.match_name.now m) c.keep_on.ensures c.self.invariant c.args.match_name.now)

pub returns-clause-few : goal.returns-clause-few
returns-clause-few c = λ feed number.
    keeps_few c.self.inside.matches c.keep_on.new.matches c.self.inside.newest c.args.live.now (λ m f n. bytes_eq c.args.match_name.now m) c.keep_on.ensures c.self.invariant
    c.args.match_name.now feed number ((bytes_eq-Decides c.args.match_name.now c.args.match_name.now).1 refl)

pub returns-clause-others : goal.returns-clause-others
returns-clause-others c = rw (← c.self.view_is) (λ m feed number.
    others_stay c.self.inside.matches c.keep_on.new.matches c.self.inside.newest c.args.live.now (λ m f n. bytes_eq c.args.match_name.now m) c.keep_on.ensures m feed number)
