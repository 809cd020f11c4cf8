use Rattle.std.proofs.Common.{◌≡◌, ◌≤◌, ◌-◌, ◌∙◌, length, take, drop, sym, ap, arith}
use Rattle.std.proofs.lemmas.List.{take_rest}
use Rattle.desk_io.proofs.Rests.{copied_and_left}
use Rattle.desk_io.proofs.mem_source.MemSourceSource.read.Goals as goal

-- what was left is what the buffer was given and what is left now
pub returns-clause-given : goal.returns-clause-given
returns-clause-given c =
    let at = c.self.inside.at in
    let bytes = c.self.inside.bytes.items in
    let count = c.min-count.result in
    let rest : take (length c.deref.result.now - at) (drop at c.deref.result.now) ≡ drop at bytes = take_rest c.deref.result.now at ∙ ap (drop at) c.deref.ensures.value in
    let fits : count ≤ length (drop at bytes) = omega (arith, c.min-count.ensures, c.min.ensures, ap length rest) in
    sym (ap (λ s. s.left) c.self.view_is)
    ∙ copied_and_left bytes c.copy_from_slice.new.self (drop count c.args.buf.now) at count (c.copy_from_slice.ensures.after ∙ ap (take count) rest) fits

pub returns-clause-is_later : goal.returns-clause-is_later
returns-clause-is_later c = record {
  given = _;
  left = returns-clause-given c;
  faults = omega (arith, ap (λ s. s.faults) c.self.view_is, c.next_fails.ensures.faults);
  piece = ap (λ s. s.piece) c.self.view_is;
  failing = ap (λ v. v.items) c.next_fails.ensures.failing ∙ ap (λ s. s.failing) c.self.view_is;
}
