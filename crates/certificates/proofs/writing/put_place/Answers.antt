use Rattle.std.proofs.Common.{◌∷◌, ◌++◌, decimal}
use Rattle.std.specs.Prelude.{codes}
use Rattle.text_out.proofs.Writes.{and_then, cut, same_text, pair_shape, one_shape}
use Rattle.certificates.proofs.writing.put_place.Goals as goal

pub returns-in_err-gather-in-Entry : goal.returns-in_err-gather-in-Entry
returns-in_err-gather-in-Entry g c =
    rw c.in-Entry.is (same_text (cut c.in_err-gather-in-Entry.ensures ((32 ∷ decimal c.in-Entry.row) ++ (32 ∷ decimal c.in-Entry.column)) _ c.from_residual.ensures.0) _ (pair_shape (codes "entry") c.in-Entry.row c.in-Entry.column))

pub returns-in_ok-gather-in-Entry : goal.returns-in_ok-gather-in-Entry
returns-in_ok-gather-in-Entry g c =
    rw c.in-Entry.is (same_text (and_then c.in_ok-gather-in-Entry.ensures c.put_pair.ensures) _ (pair_shape (codes "entry") c.in-Entry.row c.in-Entry.column))

pub returns-in_err-gather-in-Weight : goal.returns-in_err-gather-in-Weight
returns-in_err-gather-in-Weight g c =
    rw c.in-Weight.is (same_text (cut c.in_err-gather-in-Weight.ensures (32 ∷ decimal c.in-Weight.entry) _ c.from_residual-in_err-gather-in-Weight.ensures.0) _ (one_shape (codes "weight") c.in-Weight.entry))

pub returns-in_ok-gather-in-Weight : goal.returns-in_ok-gather-in-Weight
returns-in_ok-gather-in-Weight g c =
    rw c.in-Weight.is (same_text (and_then c.in_ok-gather-in-Weight.ensures c.put_number.ensures) _ (one_shape (codes "weight") c.in-Weight.entry))

pub returns-in_err-gather-in-Stake : goal.returns-in_err-gather-in-Stake
returns-in_err-gather-in-Stake g c =
    rw c.in-Stake.is (same_text (cut c.in_err-gather-in-Stake.ensures (32 ∷ decimal c.in-Stake.offer) _ c.from_residual-in_err-gather-in-Stake.ensures.0) _ (one_shape (codes "stake") c.in-Stake.offer))

pub returns-in_ok-gather-in-Stake : goal.returns-in_ok-gather-in-Stake
returns-in_ok-gather-in-Stake g c =
    rw c.in-Stake.is (same_text (and_then c.in_ok-gather-in-Stake.ensures c.put_number-in-Stake.ensures) _ (one_shape (codes "stake") c.in-Stake.offer))
