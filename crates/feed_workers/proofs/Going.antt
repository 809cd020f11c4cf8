-- A reader goes on with its source, one step behind the other.
use Rattle.std.proofs.Common.{ℕ, List, arith}
use Rattle.std.specs.Prelude.{Option}
use Rattle.feed_lines.specs.Reader.{ReaderView}
use Rattle.feed_lines.proofs.Takings.{takes_on}
use Rattle.feed_bodies.specs.Bodies.{ReadsOn}

module _ {S : Type 0} (left : S → Option (List ℕ)) (faults : S → ℕ) (Later : S → S → Type 0) (NeverFails : S → Type 0) where
  pub goes_further : ((x y z : S) → Later x y → Later y z → Later x z) → (a b c : ReaderView S) → ReadsOn left faults Later NeverFails a b → ReadsOn left faults Later NeverFails b c →
      ReadsOn left faults Later NeverFails a c
  goes_further trans a b c one other =
      let faults_one = one.faults_kept in
      let faults_other = other.faults_kept in
      record {
        takes = takes_on (left a.source) (left b.source) (left c.source) a.taken b.taken c.taken one.takes other.takes;
        faults_kept = omega (arith, faults_one, faults_other);
        is_later = trans a.source b.source c.source one.is_later other.is_later;
        promise_kept = λ p. other.promise_kept (one.promise_kept p);
      }
