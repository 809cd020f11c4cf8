-- Flags that all say no.
use Rattle.std.proofs.Common.{ℕ, ◌≡◌, ◌+◌, ◌*◌, ◌<◌, Bool, false, List, [], length, ap, subst, ◌∙◌, arith}
use Rattle.std.specs.Prelude.{Some, slice_get}
use Rattle.std.proofs.Math.ListN.{replicate}
use Rattle.std.proofs.lemmas.List.{get_or-replicate, length-replicate}
use Rattle.std.proofs.lemmas.Option.{slice_get-get_or}
use Rattle.feed_gen.specs.declared.limits.TheConstants.{CHOICES, FLAGS}
use Rattle.feed_gen.specs.Standing.{IsStanding}

no_flag : (count place : ℕ) → place < count → slice_get (replicate count false) place ≡ Some false
no_flag count place within =
    let long : place < length (replicate count false) = subst (λ n. place < n) (Rattle.std.proofs.Common.sym (length-replicate count false)) within in
    slice_get-get_or (replicate count false) place false long ∙ ap Some (get_or-replicate count place false false within)

pub none_stand : (count : ℕ) → count ≡ FLAGS → IsStanding (replicate count false) []
none_stand count is = record {
  each = length-replicate count false ∙ is;
  told = λ match_number choice known offered. no_flag count (CHOICES * match_number + choice) (omega (arith, is));
}
