-- A source in memory, as contracts see it.
use Rattle.std.specs.Prelude.{◌≡◌, ◌≤◌, List, [], ◌++◌, ℕ, refl}
use Rattle.std.proofs.Common.{sym, ◌∙◌, ap, append_assoc}
use Rattle.std.proofs.Math.Nat.{le_refl, le_trans}

-- the bytes left, how many of them a read gives at most, the numbers of the reads that fail, and the counts of reads and of faults
pub record SourceState : Type 0 where
  pub left : List ℕ
  pub piece : ℕ
  pub failing : List ℕ
  pub reads : ℕ
  pub faults : ℕ

-- reads lead from the one to the other: its bytes are a suffix of those before
pub record ReadsOnTo (before after : SourceState) : Type 0 where
  pub given : List ℕ
  pub left : before.left ≡ given ++ after.left
  pub faults : before.faults ≤ after.faults
  pub piece : after.piece ≡ before.piece
  pub failing : after.failing ≡ before.failing

pub reads_on_to_itself : (state : SourceState) → ReadsOnTo state state
reads_on_to_itself state = record { given = []; left = refl; faults = le_refl state.faults; piece = refl; failing = refl }

pub reads_on_further : (first second third : SourceState) → ReadsOnTo first second → ReadsOnTo second third → ReadsOnTo first third
reads_on_further first second third to_second to_third = record {
  given = to_second.given ++ to_third.given;
  left = to_second.left ∙ ap (λ bytes. to_second.given ++ bytes) to_third.left ∙ sym (append_assoc to_second.given to_third.given third.left);
  faults = le_trans to_second.faults to_third.faults;
  piece = to_third.piece ∙ to_second.piece;
  failing = to_third.failing ∙ to_second.failing;
}
