use Rattle.std.proofs.Common.{ℕ, List, [], ◌-◌, ◌++◌, ◌∙◌, ap}
use Rattle.std.specs.List.{flat_map}
use Rattle.text_out.proofs.Writes.{and_then, cut, same_text}
use Rattle.feed_gen.specs.Generated.{first_state, generated_text, line_text, lines_from}
use Rattle.feed_gen.proofs.writing.gather_feed.Goals as goal

pub returns-in_err-gather : goal.returns-in_err-gather
unfolding generated_text
returns-in_err-gather g c =
    let rest : List ℕ = flat_map line_text (lines_from c.args.matches (c.args.lines - 1) (first_state c.args.seed c.args.feed) []) in
    same_text (cut c.in_err-gather.ensures rest _ c.from_residual.ensures.0) _ (ap (λ (t : List ℕ). t ++ rest) (c.bytes.ensures.value ∙ c.header_line.ensures))

pub returns : goal.returns
unfolding generated_text
returns g c =
    let rest : List ℕ = flat_map line_text (lines_from c.args.matches (c.args.lines - 1) (first_state c.args.seed c.args.feed) []) in
    let lines = same_text c.put_lines.ensures rest (ap (λ (state : ℕ). flat_map line_text (lines_from c.args.matches (c.args.lines - 1) state [])) c.first_state.ensures) in
    same_text (and_then c.in_ok-gather.ensures lines) _ (ap (λ (t : List ℕ). t ++ rest) (c.bytes.ensures.value ∙ c.header_line.ensures))
