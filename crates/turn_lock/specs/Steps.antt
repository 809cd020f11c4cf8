-- What each step tells the pass that makes it, and what a pass knows afterwards.
use Rattle.std.specs.Prelude.{◌≡◌, ℕ, ◌+◌, ◌%◌, ◌^◌, ◌==◌, List, [], ◌∷◌, ◌++◌, Option, Some, None, MatchBool}
use mathlib.Core.List.{IsPrefix}
use Rattle.atomic_table.specs.Table.{Me, Step}
use Rattle.turn_lock.specs.declared.rule.Stage.TheVariants.{Spent, Away, Waiting, Inside}
use Rattle.turn_lock.specs.declared.rule.View.{View}
use Rattle.turn_lock.specs.Calls.{calls_of, longer}

module _ {E F : Type 0} where
  -- the root has given one number more
  abbrev pub after_split : View E F → View E F
  after_split v = record v { given = v.given + 1 }

  -- the pass that the root splits off has the next number, has seen what the root has, and has done nothing
  abbrev pub newcomer : View E F → View E F
  newcomer v = record { stage = Away; number = v.given; seen = v.seen; own = []; fixed = v.fixed; given = 0; joined = []; told = [] }

  -- the root keeps the number and the entries of the pass that is joined
  abbrev pub after_join : View E F → View E F → View E F
  after_join v w = record v { joined = v.joined ++ (w.number, w.own) ∷ []; told = w.seen }

  -- what is left of a pass that was joined
  abbrev pub spent : View E F
  spent = record { stage = Spent; number = 0; seen = []; own = []; fixed = None; given = 0; joined = []; told = [] }

  -- the pass has seen the longer of the two lists
  abbrev pub after_compare : View E F → View E F
  after_compare v = record v { seen = longer v.seen v.told; told = [] }

  -- the entries were added, and are the pass's own
  abbrev pub with_entries : View E F → List E → View E F
  with_entries v xs = record v { seen = v.seen ++ xs; own = v.own ++ xs }

module _ {S E F : Type 0} where
  -- the pass has the ticket that was found
  abbrev pub drew : Step (Option S) → Me (Option S) (View E F) → ℕ → Me (Option S) (View E F) → Type 0
  drew st m n m' = (t : ℕ) × (n ≡ t % 2 ^ 64) × (m' ≡ (record m.0 { stage = Waiting t }, m.1))

  -- the state was put home, and the pass has neither ticket nor turn
  abbrev pub passed_on : Step (Option S) → Me (Option S) (View E F) → ℕ → Me (Option S) (View E F) → Type 0
  passed_on st m n m' = m' ≡ (record m.0 { stage = Away }, [])

  -- these entries were added
  abbrev pub committed : List E → Step (Option S) → Me (Option S) (View E F) → ℕ → Me (Option S) (View E F) → Type 0
  committed xs st m n m' = m' ≡ (with_entries m.0 xs, m.1)

  -- both lists were beginnings of the longer one
  abbrev pub compared : Step (Option S) → Me (Option S) (View E F) → ℕ → Me (Option S) (View E F) → Type 0
  compared st m n m' =
      (m' ≡ (after_compare m.0, m.1)) × IsPrefix m.0.seen (longer m.0.seen m.0.told) × IsPrefix m.0.told (longer m.0.seen m.0.told)

module _ {S E F : Type 0} (entries : S → List E) (fixed : S → F) (caller : E → ℕ) where
  -- the pass has the turn and the state, whose list begins with what it had seen and has just its own entries under its number
  abbrev pub Enters : Me (Option S) (View E F) → ℕ → Me (Option S) (View E F) → Type 0
  Enters m t m' =
      (x : S) × (m' ≡ (record m.0 { stage = Inside t; seen = entries x }, (0, Some x) ∷ m.1))
      × IsPrefix m.0.seen (entries x) × (calls_of caller m.0.number (entries x) ≡ m.0.own) × (m.0.fixed ≡ Some (fixed x))

  -- where the ticket is served that the pass has, it enters
  abbrev pub looked : Step (Option S) → Me (Option S) (View E F) → ℕ → Me (Option S) (View E F) → Type 0
  looked st m n m' = (t : ℕ) → m.0.stage ≡ Waiting t → MatchBool (n == t % 2 ^ 64) (Enters m t m') (m' ≡ m)
