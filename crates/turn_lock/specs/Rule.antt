-- What is true of the lock at every moment, over its words, its slot and what each pass knows.
use Rattle.std.specs.Prelude.{◌≡◌, ◌⊎◌, ℕ, ◌+◌, ◌%◌, ◌^◌, ◌<◌, ◌≤◌, ◌==◌, ◌&&◌, if◌then◌else◌, nat_lt, nat_le, List, [], ◌∷◌, length, Some, Option}
use mathlib.Core.Option.{some, none}
use mathlib.Core.Option as maybe
use mathlib.Core.List.{IsPrefix}
use lib.ListN.{get_elem?}
use Rattle.atomic_table.specs.Table.{State}
use Rattle.turn_lock.specs.declared.rule.TheConstants.{MOST_PASSES}
use Rattle.turn_lock.specs.declared.rule.Stage.{Stage}
use Rattle.turn_lock.specs.declared.rule.Stage.TheVariants.{Spent, Away, Waiting, Inside}
use Rattle.turn_lock.specs.declared.rule.View.{View}
use Rattle.turn_lock.specs.Calls.{calls_of, kept_of}

-- f of each, added up
abbrev pub total : {V : Type 0} → (V → ℕ) → List V → ℕ
total f [] = 0
total f (v ∷ vs) = f v + total f vs

-- 1 for the number itself, and 0 for any other
abbrev pub is_it : ℕ → ℕ → ℕ
is_it k n = if n == k then 1 else 0

-- 1 for each number from a on and below b, and 0 for the others
abbrev pub once_between : ℕ → ℕ → ℕ → ℕ
once_between a b k = if nat_le a k && nat_lt k b then 1 else 0

-- 1 for a pass that was not joined
abbrev pub lives : Stage → ℕ
lives Spent = 0
lives Away = 1
lives (Waiting t) = 1
lives (Inside t) = 1

-- 1 for a pass that has a ticket
abbrev pub waits : Stage → ℕ
waits Spent = 0
waits Away = 0
waits (Waiting t) = 1
waits (Inside t) = 1

-- 1 for a pass that has this ticket
abbrev pub has_ticket : ℕ → Stage → ℕ
has_ticket k Spent = 0
has_ticket k Away = 0
has_ticket k (Waiting t) = is_it k t
has_ticket k (Inside t) = is_it k t

-- 1 for a pass that has the turn
abbrev pub has_turn : Stage → ℕ
has_turn Spent = 0
has_turn Away = 0
has_turn (Waiting t) = 0
has_turn (Inside t) = 1

-- the number counts where the pass was not joined
abbrev pub counts : Stage → ℕ → ℕ
counts Spent n = 0
counts Away n = n
counts (Waiting t) n = n
counts (Inside t) n = n

-- how often a pass with this number was joined
abbrev pub times_joined : {E : Type 0} → ℕ → List (ℕ × List E) → ℕ
times_joined n joined = total (λ p. is_it n p.0) joined

module _ {E F : Type 0} where
  -- 1 for a pass with this number that was not joined
  abbrev pub bears : ℕ → View E F → ℕ
  bears n v = counts v.stage (is_it n v.number)

  -- the root, before any step
  abbrev pub root_view : F → View E F
  root_view part = record { stage = Away; number = 0; seen = []; own = []; fixed = Some part; given = 1; joined = []; told = [] }

module _ {S E F : Type 0} (entries : S → List E) (fixed : S → F) (caller : E → ℕ) (part : F) where
  -- what is true of one pass that was not joined, where the history is `log`, this ticket is served, and the root has given so many numbers and keeps these calls
  pub record Fits (log : List E) (serving given : ℕ) (joined : List (ℕ × List E)) (v : View E F) : Type 0 where
    pub seen : IsPrefix v.seen log
    pub told : IsPrefix v.told log
    pub own : calls_of caller v.number log ≡ v.own
    pub part_is : v.fixed ≡ Some part
    pub root : v.number ≡ 0 → (v.given ≡ given) × (v.joined ≡ joined)
    pub turn : has_turn v.stage ≡ 1 → (v.stage ≡ Inside serving) × (v.seen ≡ log)

  -- the state is at home and no pass has the turn, or it is out with the one pass that has the turn
  abbrev pub Housed : List E → List (maybe.Option (Option S)) → ℕ → Type 0
  Housed log homes turns =
      ((x : S) × (homes ≡ some (Some x) ∷ []) × (entries x ≡ log) × (fixed x ≡ part) × (turns ≡ 0))
      ⊎ ((homes ≡ none ∷ []) × (turns ≡ 1))

  -- The tickets out are the numbers from `serving` on and below `ticket`, each with one pass. The numbers below `given` are those of the passes, each with one pass or joined once.
  pub record Ruled (s : State (Option S) (View E F)) : Type 0 where
    pub log : List E
    pub ticket : ℕ
    pub serving : ℕ
    pub given : ℕ
    pub joined : List (ℕ × List E)
    pub words : s.words ≡ ticket % 2 ^ 64 ∷ serving % 2 ^ 64 ∷ length log ∷ []
    pub home : Housed log s.homes (total (λ (v : View E F). has_turn v.stage) s.views)
    pub tickets : (k : ℕ) → total (λ (v : View E F). has_ticket k v.stage) s.views ≡ once_between serving ticket k
    pub queue : total (λ (v : View E F). waits v.stage) s.views + serving ≡ ticket
    pub numbers : (n : ℕ) → total (bears n) s.views + times_joined n joined ≡ once_between 0 given n
    pub passes : total (λ (v : View E F). lives v.stage) s.views + length joined ≡ given
    pub few : given ≤ MOST_PASSES
    pub each_pass : (j : ℕ) (v : View E F) → get_elem? s.views j ≡ some v → lives v.stage ≡ 1 → Fits log serving given joined v
    pub calls_kept : (n : ℕ) → 0 < times_joined n joined → calls_of caller n log ≡ kept_of n joined
    pub no_others : (n : ℕ) → given ≤ n → calls_of caller n log ≡ []
