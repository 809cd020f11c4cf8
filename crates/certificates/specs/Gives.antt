-- What a reading function returns: what reading gives, unless there is no memory left.
use Rattle.std.specs.Prelude.{ℕ, ◌≡◌, Result, Ok, Err}
use Rattle.certificates.specs.declared.stop.Stop.{Stop}
use Rattle.certificates.specs.declared.stop.Stop.TheVariants.{Left, WantOfMemory}

abbrev pub Fails : {Y : Type 0} → Stop → Result Y ℕ → Type 0
Fails WantOfMemory read = Unit {0}
Fails (Left left) read = read ≡ Err left

-- the result, seen by view, is what reading gives
abbrev pub Gives : {X Y : Type 0} → (X → Y) → Result X Stop → Result Y ℕ → Type 0
Gives view (Ok x) read = read ≡ Ok (view x)
Gives view (Err stop) read = Fails stop read
