use Rattle.std.proofs.Common.{rules, refl, sym}
use Rattle.scan_types.specs.Names.{IsNameText}
use Rattle.scan_types.proofs.NameLemmas.{IsPadded-from_text, Decides-is_name_text}
use Rattle.scan_types.proofs.name.Name.read.Goals as goal

pub invariant_of-result : goal.invariant_of-result
invariant_of-result c =
    let form : IsNameText c.args.text.now = search rules in
    rw c.copy_from_slice.ensures.after (IsPadded-from_text c.args.text.now _ form refl)

pub returns-clause-test : goal.returns-clause-test
returns-clause-test c =
    let form : IsNameText c.args.text.now = search rules in
    sym ((Decides-is_name_text c.args.text.now).1 form)
