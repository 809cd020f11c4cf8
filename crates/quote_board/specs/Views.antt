-- What contracts see of a board.
use Rattle.std.specs.Prelude.{ℕ, List, [], ◌∷◌, ◌++◌}
use Rattle.board_definitions.specs.declared.event.Event.{Event}
use Rattle.board_definitions.specs.declared.event.Entry.{Entry}
use Rattle.quote_board.specs.declared.part.BoardPart.{BoardPart}

-- a board: its history, and what never changes of it
pub record BoardView (W : Type 0) : Type 0 where
  pub history : List Entry
  pub fixed : BoardPart W

-- the board with one more entry
abbrev pub with_entry : {W : Type 0} → BoardView W → ℕ → Event → BoardView W
with_entry board caller event = record { history = board.history ++ record { caller = caller; event = event } ∷ []; fixed = board.fixed }
