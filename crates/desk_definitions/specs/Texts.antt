-- The error lines, each the whole text of its status, and what help and the version say.
use Rattle.std.specs.Prelude.{ℕ, List, ◌++◌, codes, decimal}
use Rattle.feed_definitions.specs.declared.cause.Cause.{Cause}
use Rattle.report_definitions.specs.Words.{cause_text}

abbrev pub no_command : List ℕ
no_command = codes "error: the words are no command\n"

abbrev pub about_feed : ℕ → List ℕ
about_feed feed = codes "error: feed " ++ decimal feed

abbrev pub cannot_be_opened : ℕ → List ℕ
cannot_be_opened feed = about_feed feed ++ codes " cannot be opened\n"

abbrev pub cannot_be_read : ℕ → List ℕ
cannot_be_read feed = about_feed feed ++ codes " cannot be read\n"

-- where the first line of the feed ceases to be a header, and why
abbrev pub is_no_header : ℕ → ℕ → Cause → List ℕ
is_no_header feed column cause = about_feed feed ++ codes " header column " ++ decimal column ++ codes " " ++ cause_text cause ++ codes "\n"

-- the later of the two feeds is the first one whose book name stands earlier, and the earlier one the first with that name
abbrev pub have_one_name : ℕ → ℕ → List ℕ
have_one_name earlier later = codes "error: feeds " ++ decimal earlier ++ codes " and " ++ decimal later ++ codes " have one book name\n"

-- what `--help` says: the commands, their options, and the statuses
abbrev pub usage : List ℕ
usage =
    codes "arbscan finds out whether the football odds of several books admit arbitrage.\n"
    ++ codes "\n"
    ++ codes "  arbscan once [--pivots N] FEED...\n"
    ++ codes "  arbscan --help | -h\n"
    ++ codes "  arbscan --version | -V\n"
    ++ codes "\n"
    ++ codes "once           reads the feeds, judges each match and writes the report\n"
    ++ codes "  --pivots N   pivots that each run of a program may take: 1 to 65536,\n"
    ++ codes "               4096 if it is left out\n"
    ++ codes "  FEED...      the files of one to eight feeds, each of another book\n"
    ++ codes "--help, -h     writes this text\n"
    ++ codes "--version, -V  writes the version of the program and of its report\n"
    ++ codes "\n"
    ++ codes "status 0       each feed was read to its end\n"
    ++ codes "       2       the words are no command\n"
    ++ codes "       3       a feed cannot be opened\n"
    ++ codes "       4       a read of a feed failed\n"
    ++ codes "       5       a write failed\n"
    ++ codes "       6       line 1 of a feed is no header, or two feeds are of one book\n"
    ++ codes "       7       no memory is left, and nothing was written\n"
    ++ codes "       8       a feed has more lines or bytes than are read\n"

-- what `--version` says: the version of the program, and that of its report
abbrev pub version : List ℕ
version = codes "arbscan 0.1.0\nreport 1\n"
