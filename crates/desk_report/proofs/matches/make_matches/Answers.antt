use Rattle.std.proofs.Common.{ℕ, ◌≡◌, List, length, subst}
use Rattle.board_definitions.specs.declared.event.Entry.{Entry}
use Rattle.desk_report.specs.Marks.{mark_in, mark_at}
use Rattle.desk_report.proofs.Parts.{has_finding, are_matches}
use Rattle.desk_report.proofs.matches.make_matches.Goals as goal

pub parts_of-requires : goal.parts_of-requires
parts_of-requires g c =
    let board = c.args.board.now in
    let marks : (q : List ℕ) → mark_in c.in_ok-marks.marks q ≡ mark_at board.history (length board.history) q =
    subst (λ (h : List Entry). (q : List ℕ) → mark_in c.in_ok-marks.marks q ≡ mark_at h (length h) q) c.history.ensures.value c.in_ok-marks.ensures.marks in
    λ q. has_finding board.fixed.rules (g.W.Law.allows board.fixed.law) board.history c.history.ensures.legal c.requires q (mark_in c.in_ok-marks.marks q) (marks q)

pub returns : goal.returns
returns g c =
    let board = c.args.board.now in
    let marks : (q : List ℕ) → mark_in c.in_ok-marks.marks q ≡ mark_at board.history (length board.history) q =
    subst (λ (h : List Entry). (q : List ℕ) → mark_in c.in_ok-marks.marks q ≡ mark_at h (length h) q) c.history.ensures.value c.in_ok-marks.ensures.marks in
    λ budget findings feeds holds.
    are_matches board.fixed.rules (g.W.Law.allows board.fixed.law) board.history c.history.ensures.legal c.in_ok-marks.marks c.in_ok-marks.ensures.rising c.in_ok-parts_of.ensures.unique marks c.of.result
    (rw c.of.ensures c.in_ok-parts_of.ensures.parts) budget findings feeds holds
