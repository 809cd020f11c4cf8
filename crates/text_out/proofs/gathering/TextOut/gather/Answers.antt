use Rattle.std.proofs.Common.{List, ℕ, ◌≡◌, ◌++◌, take, drop, ap, ◌∙◌}
use Rattle.std.proofs.lemmas.List.{take-append-drop}
use Rattle.text_out.proofs.Writes.{and_then, all_out, same_text}
use Rattle.text_out.proofs.gathering.TextOut.gather.Goals as goal

-- the two parts of a text
whole : (text front rest : List ℕ) (n : ℕ) → front ≡ take n text → rest ≡ drop n text → front ++ rest ≡ text
whole text front rest n front_is rest_is =
    ap (λ (r : List ℕ). r ++ rest) front_is ∙ ap (λ (r : List ℕ). take n text ++ r) rest_is ∙ take-append-drop n text

pub returns : goal.returns
returns g c =
    same_text (and_then (all_out c.in_ok-hand_on.ensures.written c.push-2.ensures) c.begin.ensures) _
    (whole c.args.piece.now c.split_at.result.0.now c.split_at.result.1.now c.room-room.result c.split_at.ensures.front c.split_at.ensures.back)
