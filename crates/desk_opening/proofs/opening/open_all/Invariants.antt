use Rattle.std.proofs.Common.{◌≡◌, ◌≤◌, map, take, string_bytes, All, length}
use Rattle.std.specs.VecDeque.{deque_len}
use Rattle.desk_definitions.specs.Opening.{told_bytes, HasSources, AreOpened}
use Rattle.outside_definitions.specs.Opener.{OpenedUnder}
use Rattle.desk_io.proofs.Openings.{StaysUntold}
use Rattle.desk_opening.proofs.opening.open_all.Given as goal

-- the sources so far are those of the first names, and what is told now is what is left of what was told
abbrev pub invariant-loop-number : goal.invariant-loop-number
invariant-loop-number g l =
    let names = map string_bytes l.names in
    let told_first = g.O.Opener.told l.fn.opener in
    record {
      count : deque_len l.sources ≡ l.number;
      faults : g.O.Opener.faults l.opener ≡ g.O.Opener.faults l.fn.opener;
      few : l.number ≤ length l.names;
      promise : g.O.Opener.opens_told l.fn.opener → g.O.Opener.opens_told l.opener;
      promises_kept : g.O.Opener.promises l.fn.opener → g.O.Opener.promises l.opener;
      never : g.O.Opener.promises l.fn.opener → All g.O.S.Source.never_fails l.sources.items;
      untold : StaysUntold told_first (g.O.Opener.told l.opener);
      told : OpenedUnder (take l.number names) told_first (g.O.Opener.told l.opener);
      enough : HasSources told_first (take l.number names);
      opened : AreOpened g.O.S.Source.left g.O.S.Source.faults (told_bytes told_first names) 0 l.sources.items;
    }
