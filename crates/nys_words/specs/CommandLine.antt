-- The command line as clap sees it: one required word, then any number of values.
use Rattle.std.specs.Prelude.{ℕ, true, List, [], ◌∷◌, Option, Some, None, codes}
use Rattle.clap.specs.Lexer.{usize_max}
use Rattle.clap.specs.Walk.{Rule}
use Rattle.clap.specs.Simple.{App, new_app, new_rule, on_top, with_rule}
use Rattle.clap.specs.declared.builder.action.ArgAction.TheVariants.{Set, Append}

-- the word that names the command
abbrev pub command_rule : Rule
command_rule = record (new_rule (codes "command")) {
  required = true;
  action = Some Set;
}

-- the words after it
abbrev pub values_rule : Rule
values_rule = record (new_rule (codes "values")) {
  action = Some Append;
  range = Some (record { start_inclusive = 0; end_inclusive = usize_max });
}

-- the whole line, with no program's name before it and no flag of its own
abbrev pub line : App
line = with_rule (with_rule (on_top (λ s. record s {
  no_binary_name = true;
  disable_help_flag = true;
}) (new_app (codes "nysiad"))) command_rule) values_rule

-- the values that stand after the first word, where there are any
abbrev pub values_after : List (List ℕ) → Option (List (List ℕ))
values_after [] = None
values_after (word ∷ []) = None
values_after (word ∷ value ∷ values) = Some (value ∷ values)
