-- Files of one name, and what is left of them when the first is opened.
use Rattle.std.proofs.Common.{◌≡◌, ◌≢◌, ◌<◌, ◌+◌, ℕ, Some, List, [], ◌∷◌, length, get_or, refl, sym, ◌∙◌, ap, subst, inl, inr, arith}
use Rattle.std.specs.Str.{bytes_eq}
use Rattle.std.specs.List.{position, remove}
use Rattle.std.proofs.lemmas.Slice.Eq.{bytes_eq-Decides}
use Rattle.std.proofs.lemmas.Bool.{false_from_ne_true, cases_lt}
use Rattle.std.proofs.lemmas.List.Quantifiers.{position-Some}
use Rattle.std.proofs.lemmas.List.Edits.{get_or-remove_below, get_or-remove_above, length-remove}
use Rattle.desk_io.specs.MemSource.{SourceState}
use Rattle.desk_io.specs.MemOpener.{FileState, files_under, unread, AllNeverFail, OpensFirstFile}
use Rattle.desk_io.proofs.FirstPassing.{filter_first, filter-remove_other}

-- all that an opening which succeeds does to the files
pub record TakesFirst (name : List ℕ) (before after : List FileState) (source : SourceState) : Type 0 where
  pub first : OpensFirstFile name before after source
  pub others : (other : List ℕ) → other ≢ name → files_under other after ≡ files_under other before
  pub promised : AllNeverFail before → source.failing ≡ []
  pub promise_kept : AllNeverFail before → AllNeverFail after

-- file k is the first of this name
module _ (name : List ℕ) (files : List FileState) (k : ℕ) (file : FileState) (found : position (λ f. bytes_eq f.name name) files ≡ Some k) (is : file ≡ get_or files k file) where
  under_name : files_under name files ≡ file ∷ files_under name (remove files k)
  under_name = filter_first (λ f. bytes_eq f.name name) files k file found is

  within : k < length files
  within = (position-Some (λ f. bytes_eq f.name name) files k file found).0

  named : file.name ≡ name
  named = (bytes_eq-Decides file.name name).0 (ap (λ f. bytes_eq f.name name) is ∙ (position-Some (λ f. bytes_eq f.name name) files k file found).1)

  under_other : (other : List ℕ) → other ≢ name → files_under other (remove files k) ≡ files_under other files
  under_other other differs =
      filter-remove_other (λ f. bytes_eq f.name other) files k file within is
      (false_from_ne_true (bytes_eq file.name other) (λ same. differs (sym ((bytes_eq-Decides file.name other).0 same) ∙ named)))

  others_never_fail : AllNeverFail files → AllNeverFail (remove files k)
  others_never_fail all j d below = elim (cases_lt j k) [
    | inl before ↦ ap (λ f. f.failing) (get_or-remove_below files k d j before within) ∙ all j d (omega (arith, before, within))
    | inr behind ↦ ap (λ f. f.failing) (get_or-remove_above files k d j behind within) ∙ all (j + 1) d (omega (arith, below, length-remove files k within))
  ]

  takes_first_file : TakesFirst name files (remove files k) (unread file)
  takes_first_file = record {
    first = record { file = file; first = under_name; unread_yet = refl };
    others = under_other;
    promised = λ all. ap (λ f. f.failing) is ∙ all k file within;
    promise_kept = others_never_fail;
  }

  pub takes_first : (after : List FileState) (source : SourceState) → after ≡ remove files k → source ≡ unread file → TakesFirst name files after source
  takes_first after source left opened =
      subst (λ l. TakesFirst name files l source) (sym left)
      (subst (λ s. TakesFirst name files (remove files k) s) (sym opened) takes_first_file)
