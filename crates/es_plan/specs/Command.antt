-- The command line as a simple command of `clap`.
use Rattle.std.specs.Prelude.{ℕ, Some, codes, true, []}
use Rattle.clap.specs.Lexer.{usize_max}
use Rattle.clap.specs.Simple.{App, new_app, new_rule, with_rule}
use Rattle.clap.specs.Walk.{Rule, Text}
use Rattle.clap.specs.declared.builder.ArgAction.TheVariants.{Append, Set, SetTrue}

-- `--name VALUE`
abbrev pub option_named : Text → Rule
option_named name = record (new_rule name) { long = Some name; action = Some Set }

-- `--name`
abbrev pub flag_named : Text → Rule
flag_named name = record (new_rule name) { long = Some name; action = Some SetTrue }

-- the letter `c`
abbrev pub letter_c : ℕ
letter_c = 99

-- the letter `f`
abbrev pub letter_f : ℕ
letter_f = 102

-- the same with a letter, as `-n`
abbrev pub with_letter : ℕ → Rule → Rule
with_letter letter rule = record rule { short = Some letter }

-- the words that are no options, any number of them
abbrev pub files_rule : Rule
files_rule = record (new_rule (codes "file")) {
  action = Some Append;
  range = Some (record { start_inclusive = 0; end_inclusive = usize_max });
}

-- the command without its options
abbrev pub bare : App
bare = record { top = record (new_app (codes "esl")).top { no_binary_name = true }; subs = [] }

unfoldable pub command : App
command = with_rule (with_rule (with_rule (with_rule (with_rule (with_rule (with_rule (with_rule bare
    (with_letter letter_c (option_named (codes "config"))))
    (with_letter letter_f (option_named (codes "format"))))
    (flag_named (codes "fix")))
    (flag_named (codes "quiet")))
    (option_named (codes "max-warnings")))
    (flag_named (codes "no-inline-config")))
    (option_named (codes "generate")))
    files_rule
