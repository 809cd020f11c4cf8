use Rattle.scan_types.proofs.SheetLemmas.{IsSheet-push}
use Rattle.scan_types.proofs.sheet.Sheet.push.Goals as goal

pub invariant_of-self-2 : goal.invariant_of-self-2
invariant_of-self-2 c =
    rw c.in_ok-push.ensures.items (IsSheet-push _ _ c.self.invariant (rw c.self.view_is c.requires))
