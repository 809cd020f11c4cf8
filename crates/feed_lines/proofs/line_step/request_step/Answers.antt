use Rattle.std.proofs.Common.{◌≡◌, ◌<◌, ℕ, List, Bool, cond, set, Some, sym, ap, ◌∙◌, subst, append-nil, length}
use Rattle.std.specs.Map.{lookup}
use Rattle.std.specs.Str.{bytes_eq}
use Rattle.indexmap.specs.IndexMap.{get as row_at, index_map_len}
use Rattle.scan_types.specs.declared.limits.TheConstants.{MOST_SELECTIONS}
use Rattle.scan_types.specs.Selections.{selection_number}
use Rattle.feed_definitions.specs.declared.accepted.Accepted.{Accepted}
use Rattle.feed_definitions.specs.declared.step.Step.TheVariants as step
use Rattle.feed_definitions.specs.Feed.{request_step}
use Rattle.feed_definitions.specs.Standing.{is_quote}
use Rattle.feed_lines.specs.Rows.{refused_by, row_or_empty, IsStanding}
use Rattle.feed_lines.proofs.Rows.{refused_is, standing_more, at_none, at_some}
use Rattle.feed_lines.proofs.line_step.request_step.Goals as goal

low_is : (a b : ℕ) → a ≡ b → a < MOST_SELECTIONS → b < MOST_SELECTIONS
low_is a b e h = subst (λ n. n < MOST_SELECTIONS) e h

pub returns-in-Some-clause-step : goal.returns-in-Some-clause-step
returns-in-Some-clause-step c = λ before is.
    let number_is = c.number-selection.ensures.value in
    let row_of = row_at bytes_eq c.args.standing.now.rows in
    let rows = index_map_len c.args.standing.now.rows in
    let name = c.args.request.match_name in
    let low = low_is c.number-selection.result (selection_number c.args.request.selection) number_is c.number-selection.ensures.bound in
    ap step.Refused c.refusal.ensures
    ∙ sym (ap (request_step c.args.number c.args.request)
    (sym (refused_is row_of rows before is name (selection_number c.args.request.selection) c.args.request.change low)
    ∙ ap (λ (n : ℕ). refused_by (row_of name) rows n c.args.request.change) (sym number_is) ∙ sym c.change.ensures.refused ∙ c.in-Some.is))

pub returns-in-Some-clause-standing : goal.returns-in-Some-clause-standing
returns-in-Some-clause-standing c = λ before is.
    subst (λ (lines : List Accepted). IsStanding (row_at bytes_eq c.change.new.self.rows) (index_map_len c.change.new.self.rows) lines) (sym (append-nil before))
    (subst (λ (es : List (List ℕ × List Bool)). IsStanding (λ q. lookup (bytes_eq q) es) (length es) before)
    (sym (at_some c.change.result c.in-Some.is c.change.ensures.kept)) is)

pub returns-in-None-clause-step : goal.returns-in-None-clause-step
returns-in-None-clause-step c = λ before is.
    let number_is = c.number-selection.ensures.value in
    let row_of = row_at bytes_eq c.args.standing.now.rows in
    let rows = index_map_len c.args.standing.now.rows in
    let name = c.args.request.match_name in
    let low = low_is c.number-selection.result (selection_number c.args.request.selection) number_is c.number-selection.ensures.bound in
    sym (ap (request_step c.args.number c.args.request)
    (sym (refused_is row_of rows before is name (selection_number c.args.request.selection) c.args.request.change low)
    ∙ ap (λ (n : ℕ). refused_by (row_of name) rows n c.args.request.change) (sym number_is) ∙ sym c.change.ensures.refused ∙ c.in-None.is))

pub returns-in-None-clause-standing : goal.returns-in-None-clause-standing
returns-in-None-clause-standing c = λ before is.
    let number_is = c.number-selection.ensures.value in
    let row_of = row_at bytes_eq c.args.standing.now.rows in
    let rows = index_map_len c.args.standing.now.rows in
    let name = c.args.request.match_name in
    let low = low_is c.number-selection.result (selection_number c.args.request.selection) number_is c.number-selection.ensures.bound in
    standing_more row_of (row_at bytes_eq c.change.new.self.rows) rows (index_map_len c.change.new.self.rows) before
    (record { line = c.args.number; match_name = name; selection = c.args.request.selection; change = c.args.request.change }) is low
    (ap (λ (n : ℕ). refused_by (row_of name) rows n c.args.request.change) (sym number_is) ∙ sym c.change.ensures.refused ∙ c.in-None.is)
    (λ q. at_none c.change.result c.in-None.is c.change.ensures.row q
    ∙ ap (λ (n : ℕ). cond (bytes_eq name q) (Some (set (row_or_empty (row_of name)) n (is_quote c.args.request.change))) (row_of q)) number_is)
    (at_none c.change.result c.in-None.is c.change.ensures.len)
