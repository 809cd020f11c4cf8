-- What is left of a list of bytes while it is passed on in parts, from the first byte on.
use Rattle.std.proofs.Common.{◌≡◌, ◌≤◌, ◌<◌, ◌+◌, ◌-◌, ℕ, List, ◌++◌, length, take, drop, sym, ◌∙◌, ap, arith, length-drop}
use Rattle.std.proofs.Math.Seq.{take-add}
use Rattle.std.proofs.lemmas.List.{take_rest, drop-drop, take_at, length-take-le, take-append-drop}

-- the rest after the next `count` of its bytes
abbrev pub after : ℕ → List ℕ → List ℕ
after count rest = take (length rest - count) (drop count rest)

-- rest is what is left of bytes, and count of its bytes are passed on
module _ (bytes rest : List ℕ) (count : ℕ) (is_rest : rest ≡ drop (length bytes - length rest) bytes) (fits : count ≤ length rest) (within : length rest ≤ length bytes) where
  length-after : length (after count rest) ≡ length rest - count
  length-after = ap length (take_rest rest count) ∙ length-drop count rest

  done_more : length bytes - length (after count rest) ≡ length bytes - length rest + count
  done_more = omega (arith, length-after)

  pub after_within : length (after count rest) ≤ length bytes
  after_within = omega (arith, length-after)

  pub after_is_rest : after count rest ≡ drop (length bytes - length (after count rest)) bytes
  after_is_rest =
      take_rest rest count
      ∙ ap (drop count) is_rest
      ∙ drop-drop count (length bytes - length rest) bytes
      ∙ sym (ap (λ k. drop k bytes) done_more)

  pub done_grows : take (length bytes - length rest) bytes ++ take count rest ≡ take (length bytes - length (after count rest)) bytes
  done_grows =
      ap (λ l. take (length bytes - length rest) bytes ++ take count l) is_rest
      ∙ sym (take-add (length bytes - length rest) count bytes)
      ∙ sym (ap (λ k. take k bytes) done_more)

  pub after_shorter : 0 < count → length (after count rest) ≡ length bytes → ⊥
  after_shorter some whole = omega (arith, length-after, some, whole)

-- a read copies the next bytes to the front of a buffer, and leaves those behind them
pub copied_and_left : (bytes copied tail : List ℕ) (at count : ℕ) → copied ≡ take count (drop at bytes) → count ≤ length (drop at bytes)
    → drop at bytes ≡ take count (copied ++ tail) ++ drop (at + count) bytes
copied_and_left bytes copied tail at count is_copy fits =
    let front : take count (copied ++ tail) ≡ take count (drop at bytes) = take_at copied tail count (ap length is_copy ∙ length-take-le count (drop at bytes) fits) ∙ is_copy in
    sym (ap (λ l. l ++ drop (at + count) bytes) front
    ∙ ap (λ l. take count (drop at bytes) ++ l) (sym (drop-drop count at bytes))
    ∙ take-append-drop count (drop at bytes))
