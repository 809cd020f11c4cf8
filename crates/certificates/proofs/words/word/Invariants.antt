use Rattle.std.proofs.Common.{◌≡◌, drop}
use Rattle.certificates.specs.Reading.{word_at}
use Rattle.certificates.proofs.words.word.Given as goal

-- what is left of the word is read from what is left of the text
abbrev pub invariant-loop-byte : goal.invariant-loop-byte
invariant-loop-byte l = word_at (drop l.byte-index l.word) l.rest ≡ word_at l.word l.fn.text
