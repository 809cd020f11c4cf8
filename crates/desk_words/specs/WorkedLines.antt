-- Lines of words, each with the command that it gives, worked out by hand. Words stand between blanks, so that an empty word stands
-- where two blanks meet or a blank ends the line.
use Rattle.std.specs.Prelude.{◌≡◌, ◌==◌, List, [], ◌∷◌, ◌++◌, Option, Some, None, codes}
use Prim.Native.String.{String}
use Rattle.std.specs.List.{slice_split}
use Rattle.clap.specs.Words.{Text}
use Rattle.desk_words.specs.Commands.{command_of}
use Rattle.desk_words.specs.declared.command.Command.{Command}
use Rattle.desk_words.specs.declared.command.Command.TheVariants.{Once, Help, Version}

abbrev pub words_of : String → List Text
words_of line = slice_split (λ byte. byte == 32) (codes line)

-- a line with what it gives
abbrev pub WorkedLine : Type 0
WorkedLine = List Text × Option Command

-- each line gives what stands beside it
abbrev pub AreRead : List WorkedLine → Type 0
AreRead [] = Unit {0}
AreRead (line ∷ lines) = (command_of line.0 ≡ line.1) × AreRead lines

-- which words are a command
abbrev pub command_lines : List WorkedLine
command_lines =
    ([], None)
    ∷ (words_of "", None)
    ∷ (words_of "once", None)
    ∷ (words_of "once a.feed", Some (Once 4096 (words_of "a.feed")))
    ∷ (words_of "once a.feed b.feed", Some (Once 4096 (words_of "a.feed b.feed")))
    ∷ (words_of "once b.feed a.feed", Some (Once 4096 (words_of "b.feed a.feed")))
    ∷ (words_of "twice a.feed", None)
    ∷ (words_of "Once a.feed", None)
    ∷ (words_of "onc a.feed", None)
    ∷ (words_of "a.feed once", None)
    ∷ []

-- which numbers of pivots are taken, and how they are given
abbrev pub number_lines : List WorkedLine
number_lines =
    (words_of "once --pivots=5 a.feed", Some (Once 5 (words_of "a.feed")))
    ∷ (words_of "once --pivots 5 a.feed", Some (Once 5 (words_of "a.feed")))
    ∷ (words_of "once --pivots=1 a.feed", Some (Once 1 (words_of "a.feed")))
    ∷ (words_of "once --pivots 65536 a.feed", Some (Once 65536 (words_of "a.feed")))
    ∷ (words_of "once --pivots 65537 a.feed", None)
    ∷ (words_of "once --pivots=65537 a.feed", None)
    ∷ (words_of "once --pivots=0 a.feed", None)
    ∷ (words_of "once --pivots 0 a.feed", None)
    ∷ (words_of "once --pivots=00000000000000000005 a.feed", Some (Once 5 (words_of "a.feed")))
    ∷ (words_of "once --pivots=000000000000000000005 a.feed", None)
    ∷ (words_of "once --pivots 07 a.feed", Some (Once 7 (words_of "a.feed")))
    ∷ (words_of "once --pivots=18446744073709551616 a.feed", None)
    ∷ (words_of "once --pivots=18446744073709551617 a.feed", None)
    ∷ (words_of "once --pivots=99999999999999999999 a.feed", None)
    ∷ (words_of "once --pivots=4294967297 a.feed", None)
    ∷ (words_of "once --pivots=+5 a.feed", None)
    ∷ (words_of "once --pivots +5 a.feed", None)
    ∷ (words_of "once --pivots=-5 a.feed", None)
    ∷ (words_of "once --pivots -5 a.feed", None)
    ∷ (words_of "once --pivots - a.feed", None)
    ∷ (words_of "once --pivots=5x a.feed", None)
    ∷ (words_of "once --pivots=0x10 a.feed", None)
    ∷ (words_of "once --pivots=5.0 a.feed", None)
    ∷ (words_of "once --pivots=1_000 a.feed", None)
    ∷ (words_of "once --pivots= a.feed", None)
    ∷ (words_of "once --pivots  a.feed", None)
    ∷ (words_of "once --pivots==5 a.feed", None)
    ∷ []

-- where options stand, and which there are
abbrev pub option_lines : List WorkedLine
option_lines =
    (words_of "once --pivots", None)
    ∷ (words_of "once --pivots a.feed", None)
    ∷ (words_of "once --pivots a.feed b.feed", None)
    ∷ (words_of "once --pivots --pivots=5 a.feed", None)
    ∷ (words_of "once --pivots 5", None)
    ∷ (words_of "once --pivots=5 --pivots=5 a.feed", None)
    ∷ (words_of "once --pivots 5 a.feed --pivots 6", None)
    ∷ (words_of "--pivots=5 once a.feed", None)
    ∷ (words_of "once --PIVOTS=5 a.feed", None)
    ∷ (words_of "once --pivot=5 a.feed", None)
    ∷ (words_of "once -pivots=5 a.feed", None)
    ∷ (words_of "once -p 5 a.feed", None)
    ∷ (words_of "once --workers 4 a.feed", None)
    ∷ (words_of "once --journal a.feed", None)
    ∷ (words_of "once --seq a.feed", None)
    ∷ (words_of "once --=5 a.feed", None)
    ∷ (words_of "once a.feed --pivots=5", Some (Once 5 (words_of "a.feed")))
    ∷ (words_of "once a.feed --pivots 5 b.feed", Some (Once 5 (words_of "a.feed b.feed")))
    ∷ []

-- two hyphens end the options
abbrev pub hyphen_lines : List WorkedLine
hyphen_lines =
    (words_of "once -- a.feed", Some (Once 4096 (words_of "a.feed")))
    ∷ (words_of "once a.feed -- b.feed", Some (Once 4096 (words_of "a.feed b.feed")))
    ∷ (words_of "once a.feed --", Some (Once 4096 (words_of "a.feed")))
    ∷ (words_of "once --", None)
    ∷ (words_of "-- once a.feed", None)
    ∷ (words_of "once -- --pivots=5", Some (Once 4096 (words_of "--pivots=5")))
    ∷ (words_of "once -- --", Some (Once 4096 (words_of "--")))
    ∷ (words_of "once --pivots=5 -- -a", Some (Once 5 (words_of "-a")))
    ∷ (words_of "once --pivots -- 5 a.feed", None)
    ∷ []

-- what may be named as a feed
abbrev pub name_lines : List WorkedLine
name_lines =
    (words_of "once ", Some (Once 4096 (words_of "")))
    ∷ (words_of "once a.feed ", Some (Once 4096 (words_of "a.feed ")))
    ∷ (words_of "once -", Some (Once 4096 (words_of "-")))
    ∷ (words_of "once a.feed - b.feed", Some (Once 4096 (words_of "a.feed - b.feed")))
    ∷ (words_of "once -a.feed", None)
    ∷ (words_of "once -5", None)
    ∷ (words_of "once 5", Some (Once 4096 (words_of "5")))
    ∷ (words_of "once =", Some (Once 4096 (words_of "=")))
    ∷ (words_of "once once", Some (Once 4096 (words_of "once")))
    ∷ (words_of "once help", Some (Once 4096 (words_of "help")))
    ∷ (words_of "once a.feed a.feed", Some (Once 4096 (words_of "a.feed a.feed")))
    ∷ []

-- how many feeds may be named
abbrev pub count_lines : List WorkedLine
count_lines =
    (words_of "once f0 f1 f2 f3 f4 f5 f6 f7", Some (Once 4096 (words_of "f0 f1 f2 f3 f4 f5 f6 f7")))
    ∷ (words_of "once f0 f1 f2 f3 f4 f5 f6 f7 f8", None)
    ∷ (words_of "once --pivots=5 f0 f1 f2 f3 f4 f5 f6 f7 f8", None)
    ∷ (words_of "once -- f0 f1 f2 f3 f4 f5 f6 f7 f8", None)
    ∷ []

-- help and the version are asked for by one word alone
abbrev pub help_lines : List WorkedLine
help_lines =
    (words_of "help", None)
    ∷ (words_of "help once", None)
    ∷ (words_of "--help", Some Help)
    ∷ (words_of "-h", Some Help)
    ∷ (words_of "once --help", None)
    ∷ (words_of "once a.feed -h", None)
    ∷ (words_of "--version", Some Version)
    ∷ (words_of "-V", Some Version)
    ∷ (words_of "once --version a.feed", None)
    ∷ (words_of "once -V a.feed", None)
    ∷ (words_of "--help once", None)
    ∷ (words_of "--help --help", None)
    ∷ (words_of "-h ", None)
    ∷ (words_of "-H", None)
    ∷ (words_of "-v", None)
    ∷ (words_of "--help=", None)
    ∷ (words_of "-- --help", None)
    ∷ (words_of "once -- --help", Some (Once 4096 (words_of "--help")))
    ∷ []

abbrev pub worked_lines : List WorkedLine
worked_lines = command_lines ++ number_lines ++ option_lines ++ hyphen_lines ++ name_lines ++ count_lines ++ help_lines
