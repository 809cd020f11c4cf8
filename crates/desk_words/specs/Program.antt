-- The program and its commands in `clap`'s own words: what a parse reads of them.
use Rattle.std.specs.Prelude.{Some, true, codes}
use Rattle.clap.specs.Lexer.{usize_max}
use Rattle.clap.specs.Words.{App, Rule, Shape, new_app, new_rule, with_rule, with_subcommand}
use Rattle.clap.specs.Simple.{on_top}

-- `--pivots N`: an option with one value, which need not be given
abbrev pub pivots_option : Rule
pivots_option = record (new_rule (codes "pivots")) { long = Some (codes "pivots") }

-- `FEED...`: one positional word or more
abbrev pub feed_words : Rule
feed_words = record (new_rule (codes "FEED")) {
  range = Some (record {
    start_inclusive = 1;
    end_inclusive = usize_max;
  });
  required = true;
}

-- `once [--pivots N] FEED...`
abbrev pub once_command : Shape
once_command = (with_rule (with_rule (new_app (codes "once")) pivots_option) feed_words).top

-- a subcommand is required, there is no help, and the words begin behind the program's name
abbrev pub bare_program : App
bare_program = on_top (λ s. record s {
  no_binary_name = true;
  disable_help_flag = true;
  disable_help_subcommand = true;
  subcommand_required = true;
}) (new_app (codes "arbscan"))

abbrev pub program : App
program = with_subcommand bare_program once_command
