use Rattle.std.proofs.Common.{◌∷◌, ◌++◌, decimal}
use Rattle.std.specs.Prelude.{codes}
use Rattle.text_out.proofs.Writes.{and_then, cut, same_text, pair_shape}
use Rattle.certificates.proofs.writing.put_outcome.Goals as goal

pub returns-in_err-gather-in-Full : goal.returns-in_err-gather-in-Full
returns-in_err-gather-in-Full g c =
    rw c.in-Full.is (same_text (cut c.in_err-gather-in-Full.ensures ((32 ∷ decimal c.in-Full.home) ++ (32 ∷ decimal c.in-Full.away)) _ c.from_residual.ensures.0) _ (pair_shape (codes "full") c.in-Full.home c.in-Full.away))

pub returns-in_ok-gather-in-Full : goal.returns-in_ok-gather-in-Full
returns-in_ok-gather-in-Full g c =
    rw c.in-Full.is (same_text (and_then c.in_ok-gather-in-Full.ensures c.put_pair.ensures) _ (pair_shape (codes "full") c.in-Full.home c.in-Full.away))

pub returns-in_err-gather-in-Abandoned : goal.returns-in_err-gather-in-Abandoned
returns-in_err-gather-in-Abandoned g c =
    rw c.in-Abandoned.is (same_text (cut c.in_err-gather-in-Abandoned.ensures ((32 ∷ decimal c.in-Abandoned.home) ++ (32 ∷ decimal c.in-Abandoned.away)) _ c.from_residual-in_err-gather-in-Abandoned.ensures.0) _ (pair_shape (codes "abandoned") c.in-Abandoned.home c.in-Abandoned.away))

pub returns-in_ok-gather-in-Abandoned : goal.returns-in_ok-gather-in-Abandoned
returns-in_ok-gather-in-Abandoned g c =
    rw c.in-Abandoned.is (same_text (and_then c.in_ok-gather-in-Abandoned.ensures c.put_pair-in-Abandoned.ensures) _ (pair_shape (codes "abandoned") c.in-Abandoned.home c.in-Abandoned.away))
