use Rattle.std.proofs.Common.{◌≡◌, take}
use Rattle.std.specs.List.{list_all}
use Rattle.feed_definitions.specs.Forms.{is_text_byte}
use Rattle.feed_fields.proofs.line.is_text.Given as goal

abbrev pub invariant-loop-byte : goal.invariant-loop-byte
invariant-loop-byte l = l.is_text ≡ list_all is_text_byte (take l.byte-index l.text)
