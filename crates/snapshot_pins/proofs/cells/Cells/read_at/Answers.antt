use Rattle.std.proofs.Common.{List, ◌∙◌, subst}
use Rattle.scan_types.specs.declared.offer.Offer.{Offer}
use Rattle.snapshot_pins.specs.Copies.{IsCopied}
use Rattle.snapshot_pins.proofs.Offers.{match_offers}
use Rattle.snapshot_pins.proofs.Views.{seen_offers}
use Rattle.snapshot_pins.proofs.cells.Cells.read_at.Goals as goal

pub returns : goal.returns
returns c =
    let m = c.args.match_name.now in
    let P : List Offer → Type 0 = λ offers. IsCopied offers c.args.from c.args.out.now c.copy_on.new.out c.copy_on.result in
    rw (← c.self.view_is) (subst P
    (match_offers c.self.inside.matches c.self.inside.newest m c.args.version c.self.invariant c.copy_on.ensures.ordered
    ∙ seen_offers c.self.inside.matches c.self.inside.newest m c.args.version)
    c.copy_on.ensures.copied)
