-- What clauses say of a lock and of its passes.
use Rattle.std.specs.Prelude.{◌≡◌, ℕ, ◌+◌, List, [], ◌∷◌, ◌++◌, map, Some}
use Rattle.atomic_table.specs.Seated.{TableId}
use Rattle.turn_lock.specs.declared.rule.Stage.TheVariants.{Away}
use Rattle.turn_lock.specs.declared.rule.View.{View}
use Rattle.turn_lock.specs.Calls.{longer}
use Rattle.turn_lock.specs.Rule.{has_turn}
use Rattle.turn_lock.specs.declared.lock.TurnLock.{TurnLock}
use Rattle.turn_lock.specs.declared.pass.Pass.{Pass}
use Rattle.turn_lock.specs.declared.kept.Kept.{Ghosts}

-- what a pass knows: its number, the list as far as it has seen it, and its own entries; the root also how many numbers were given, and the entries of each pass that was joined, with its number
pub record Known (E : Type 0) : Type 0 where
  pub number : ℕ
  pub seen : List E
  pub own : List E
  pub given : ℕ
  pub joined : List (ℕ × List E)

abbrev pub known_of : {E F : Type 0} → View E F → Known E
known_of v = record { number = v.number; seen = v.seen; own = v.own; given = v.given; joined = v.joined }

-- a pass with this number, which has seen this list and done nothing
abbrev pub fresh : {E : Type 0} → ℕ → ℕ → List E → Known E
fresh number given seen = record { number = number; seen = seen; own = []; given = given; joined = [] }

-- the fixed part of the state that the lock was made with
abbrev pub fixed_part : {S E F : Type 0} → (S → F) → TurnLock S E F → F
fixed_part fixed lock = fixed lock.table.shared.key.value

-- the entry was added, and is the pass's own
abbrev pub with_entry : {E : Type 0} → Known E → E → Known E
with_entry k e = record k { seen = k.seen ++ e ∷ []; own = k.own ++ e ∷ [] }

-- the root has given one number more
abbrev pub after_split : {E : Type 0} → Known E → Known E
after_split k = record k { given = k.given + 1 }

-- the root keeps the other's number and entries, and has seen the longer of the two lists
abbrev pub after_join : {E : Type 0} → Known E → Known E → Known E
after_join k other = record k { seen = longer k.seen other.seen; joined = k.joined ++ (other.number, other.own) ∷ [] }

-- which lock it is
abbrev pub lock_id : {S E F : Type 0} → TurnLock S E F → TableId
lock_id lock = lock.table.shared.table_id

module _ {S E F : Type 0} {kept : Ghosts S E F} where
  abbrev pub known : Pass S E F kept → Known E
  known p = known_of p.seat.me.0

  -- it is a pass of this lock, and it has no turn
  pub record IsPassOf (lock : TurnLock S E F) (p : Pass S E F kept) : Type 0 where
    pub same_lock : p.seat.table_id ≡ lock_id lock
    pub same_part : p.seat.me.0.fixed ≡ Some (fixed_part kept.fixed lock)
    pub away : p.seat.me.0.stage ≡ Away
    pub bare : p.seat.me.1 ≡ []

  -- it is a pass of this lock, and it has the turn: the slot is out with it
  pub record IsHeldBy (lock : TurnLock S E F) (p : Pass S E F kept) : Type 0 where
    pub same_lock : p.seat.table_id ≡ lock_id lock
    pub same_part : p.seat.me.0.fixed ≡ Some (fixed_part kept.fixed lock)
    pub inside : has_turn p.seat.me.0.stage ≡ 1
    pub slot : map (λ x. x.0) p.seat.me.1 ≡ 0 ∷ []
