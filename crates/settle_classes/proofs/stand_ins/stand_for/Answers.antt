use Rattle.std.proofs.Common.{◌∙◌, ap, sym}
use Rattle.scan_types.specs.declared.outcome.Outcome.TheVariants.{Full, Abandoned}
use Rattle.settlement_definitions.specs.Gain.{gain}
use Rattle.settlement_laws.proofs.Cover.{gain-stand_for}
use Rattle.settle_classes.proofs.stand_ins.stand_for.Goals as goal

pub returns-in-Full-clause-gains : goal.returns-in-Full-clause-gains
returns-in-Full-clause-gains c offer =
    ap (λ s. gain offer (Full s.0 s.1)) c.stand_score-home.ensures ∙ gain-stand_for offer (Full c.in-Full.h c.in-Full.a) ∙ sym (ap (gain offer) c.in-Full.is)

pub returns-in-Abandoned-clause-gains : goal.returns-in-Abandoned-clause-gains
returns-in-Abandoned-clause-gains c offer =
    ap (λ s. gain offer (Abandoned s.0 s.1)) c.stand_score-home-in-Abandoned.ensures ∙ gain-stand_for offer (Abandoned c.in-Abandoned.h c.in-Abandoned.a) ∙ sym (ap (gain offer) c.in-Abandoned.is)
