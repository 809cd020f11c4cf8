use Rattle.std.proofs.Common.{◌≡◌, ◌≤◌, length}
use Rattle.certificates.specs.Reading.{digits_on}
use Rattle.certificates.proofs.words.digits.Given as goal

-- what is left goes on with the number as all of the text does with the first
abbrev pub invariant-loop-rest : goal.invariant-loop-rest
invariant-loop-rest l = record {
  same : digits_on l.most l.number l.rest ≡ digits_on l.most l.fn.number l.fn.text;
  within : l.number ≤ l.most;
}

abbrev pub decreases-loop-rest : goal.decreases-loop-rest
decreases-loop-rest l = length l.rest
