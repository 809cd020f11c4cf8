-- When a reading gives no value.
use Rattle.std.specs.Prelude.{Result, Ok, Err}
use Rattle.finding_definitions.specs.declared.finding.WideAt.{WideAt}
use Rattle.coherence_lp.specs.declared.fault.ReadingFault.{ReadingFault}
use Rattle.coherence_lp.specs.declared.fault.ReadingFault.TheVariants.{Wide, WantOfMemory}

-- a fact of the place, if a reading met a number that is too wide
abbrev pub IfWide : {A : Type 0} → Result A ReadingFault → (WideAt → Type 0) → Type 0
IfWide (Ok value) fact = Unit {0}
IfWide (Err (Wide place)) fact = fact place
IfWide (Err WantOfMemory) fact = Unit {0}
