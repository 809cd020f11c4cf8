use Rattle.std.proofs.Common.{◌≡◌, true, take}
use Rattle.std.specs.Str.{all_ascii_digits}
use Rattle.std.specs.Str.Parse.{digits_value}
use Rattle.odds_fixed.proofs.number.read_number.Given as goal

-- the number of the digits so far
abbrev pub invariant-loop-byte : goal.invariant-loop-byte
invariant-loop-byte l = record {
  number : l.number ≡ digits_value 10 (take l.byte-index l.text);
  digits : all_ascii_digits (take l.byte-index l.text) ≡ true;
}
