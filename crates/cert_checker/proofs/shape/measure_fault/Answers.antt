use Rattle.cert_checker.proofs.Measures.{price_measure, few_entries}
use Rattle.cert_checker.proofs.shape.measure_fault.Goals as goal

pub returns-in-None-clause-fault : goal.returns-in-None-clause-fault
returns-in-None-clause-fault c =
    price_measure c.args.entries.now c.in-None.ensures.first (c.has_final.ensures.0 c.if-has_final.true)

pub returns-in-None-2-clause-few : goal.returns-in-None-2-clause-few
returns-in-None-2-clause-few c = few_entries c.args.entries.now c.in-None.ensures.first
