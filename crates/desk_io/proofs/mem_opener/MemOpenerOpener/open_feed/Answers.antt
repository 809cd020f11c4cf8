use Rattle.std.proofs.Common.{◌≡◌, ◌∙◌, [], inl, inr, refl, sym, subst}
use Rattle.std.specs.Str.{bytes_eq}
use Rattle.std.specs.List.{Contains}
use Rattle.desk_io.specs.MemOpener.{files_under}
use Rattle.desk_io.proofs.FirstPassing.{filter_nil}
use Rattle.desk_io.proofs.Files.{TakesFirst, takes_first}
use Rattle.desk_io.proofs.mem_opener.MemOpenerOpener.open_feed.Goals as goal
use Rattle.desk_io.proofs.mem_opener.MemOpenerOpener.open_feed.Goals.{in_default-via-in-Some+else-not-fails, in_default-via-in_default}

-- the first file of this name is taken
taken : (c : goal.After-into_source) → TakesFirst c.args.name.now c.args.self.now.files c.remove.new.self.items c.into_source.result
taken c =
    subst (λ s. TakesFirst c.args.name.now s.files c.remove.new.self.items c.into_source.result) c.self.view_is
    (takes_first c.args.name.now c.self.inside.files.items c.in-Some.place c.remove.result (sym c.in-Some.ensures) c.remove.ensures.value
    c.remove.new.self.items c.into_source.result c.remove.ensures.items c.into_source.ensures)

pub returns-in-Some-clause-promised : goal.returns-in-Some-clause-promised
returns-in-Some-clause-promised c = (taken c).promised

pub returns-in-Some-clause-promise_kept : goal.returns-in-Some-clause-promise_kept
returns-in-Some-clause-promise_kept c = (taken c).promise_kept

pub returns-in-Some-clause-first_file : goal.returns-in-Some-clause-first_file
returns-in-Some-clause-first_file c = (taken c).first

pub returns-in-Some-clause-other_files : goal.returns-in-Some-clause-other_files
returns-in-Some-clause-other_files c = (taken c).others

pub returns-in-Some-clause-fails : goal.returns-in-Some-clause-fails
returns-in-Some-clause-fails c =
    let some = (taken c).first.first in
    let listed = c.next_fails-fails.ensures.fails in
    let not_listed = c.if-not-fails.true in (
      λ contrary. absurd (cc contrary),
      elim [
        | inl contained ↦ absurd (cc (not_listed, listed.1 (subst (λ s. Contains s.failing c.next_fails-fails.new.self.made) (sym c.self.view_is) contained)))
        | inr none ↦ absurd (cc (sym none ∙ some))
      ],
    )

pub returns-in_default-clause-fails : goal.returns-in_default-clause-fails
returns-in_default-clause-fails c =
    let name = c.args.name.now in
    let made = c.next_fails-fails.new.self.made in (
      λ _. elim c.in_default.branch [
        | in_default-via-in-Some+else-not-fails w ↦
            let listed = subst (λ s. Contains s.failing made) c.self.view_is (c.next_fails-fails.ensures.fails.0 w.if-not-fails.false) in
            inl (subst (λ m. Contains c.args.self.now.failing m) (sym c.add_fault.ensures.made) listed)
        | in_default-via-in_default w ↦
            let none = filter_nil (λ f. bytes_eq f.name name) c.self.inside.files.items (sym c.first_under.ensures ∙ w.in_default.is) in
            inr (subst (λ s. files_under name s.files ≡ []) c.self.view_is none)
      ],
      λ _. refl,
    )
