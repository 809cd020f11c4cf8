use Rattle.std.proofs.Common.{◌∙◌, map, string_bytes}
use Rattle.clap.specs.Words.{app_of}
use Rattle.desk_words.proofs.Parsed.{parsed_rows, parsed_taken, refused_words}
use Rattle.desk_words.proofs.reading.found_in.Goals as goal

pub returns-in-Ok-try_get_matches_from : goal.returns-in-Ok-try_get_matches_from
returns-in-Ok-try_get_matches_from c =
    let is = c.in-Ok.ensures in
    let found = c.in-Ok-try_get_matches_from in (
      parsed_taken (app_of c.in-Ok.command) (map string_bytes c.args.words.now) is found.ensures.kinds,
      parsed_rows (app_of c.in-Ok.command) (map string_bytes c.args.words.now) found.matches is found.ensures.matches,
    )

pub returns : goal.returns
returns c = refused_words (app_of c.in-Ok.command) (map string_bytes c.args.words.now) c.kind.result c.in-Ok.ensures
    (λ takes. c.kind.ensures ∙ c.in-Err-try_get_matches_from.ensures.passes takes) c.in_default.not-OutOfMemory
